use Rattle.std.proofs.Common.{◌≡◌, ◌++◌, take, arith}
use Rattle.{std.proofs.lemmas.Grind.common_steps, multibyte_ints.proofs.WritingSteps.both_appended}
use Rattle.multibyte_ints.proofs.writing.put_string.Goals as goal

pub returns-clause-written : goal.returns-clause-written
returns-clause-written c =
    let reserved = c.in_ok-reserve.ensures.items in
    let first : c.extend_from_slice.new.self.items ≡ c.args.out.now.items
    ++ take c.put_int-used.result c.put_int-used.new.out =
    grind (arith, common_steps, c.extend_from_slice.ensures.items, c.unwrap.ensures) in
    let second : c.extend_from_slice-2.new.self.items ≡ c.extend_from_slice.new.self.items
    ++ c.args.text.now =
    grind (
      arith,
      common_steps,
      c.extend_from_slice-2.ensures.items,
      c.unwrap-2.ensures,
      c.as_bytes.ensures.value,
    ) in
    both_appended c.args.out.now.items c.put_int-used.new.out _ c.args.text.now _ _
    c.put_int-used.result
    c.put_int-used.ensures.len c.put_int-used.ensures.written first second
