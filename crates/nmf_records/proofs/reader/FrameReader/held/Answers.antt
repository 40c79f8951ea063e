use Rattle.std.proofs.Common.{arith}
use Rattle.multibyte_ints.specs.TextReader.{held_of as text_held_of}
use Rattle.nmf_records.specs.Reader.{limits_of, held_of}
use Rattle.nmf_records.proofs.reader.FrameReader.held.Goals as goal

pub overflow_add-result : goal.overflow_add-result
unfolding text_held_of
overflow_add-result c =
    let text = c.args.self.now.text.bytes in
    let type = c.args.self.now.content_type.bytes in
    omega (
      arith,
      c.held.ensures.held,
      c.held-2.ensures.held,
      text.ok,
      text.small,
      type.ok,
      type.small,
    )

pub returns-clause-counted : goal.returns-clause-counted
unfolding held_of
returns-clause-counted c = omega (arith, c.held.ensures.held, c.held-2.ensures.held)

pub returns-clause-within : goal.returns-clause-within
unfolding limits_of
returns-clause-within c = omega (arith, c.held.ensures.within, c.held-2.ensures.within)
