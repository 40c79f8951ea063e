use Rattle.client.proofs.Opening.{starved_out}
use Rattle.client.proofs.sending.send_opening.Goals as goal

pub returns-clause-written : goal.returns-clause-written
returns-clause-written g c =
    starved_out c.run_out.result _
    (g.K.Sink.view c.args.sink.now) (g.K.Sink.view c.run_out.new.sink) (c.run_out.ensures.cut _)
