use Rattle.session_pool.proofs.lines.put_counts.Goals as goal

pub returns : goal.returns
returns g c = rw (
  c.from.ensures,
  c.counts_of-messages.ensures.messages,
  c.counts_of-messages.ensures.answers,
  c.as_slice-outcomes.ensures,
) at c.put_joined.ensures
