use Rattle.stream_loop.proofs.Writing.{after_flush}
use Rattle.session_generator.proofs.summary.put_summary.Goals as goal

pub returns-clause-puts : goal.returns-clause-puts
returns-clause-puts g c = after_flush c.flush.result c.in_ok-put_measured.ensures
    c.flush.ensures.puts
