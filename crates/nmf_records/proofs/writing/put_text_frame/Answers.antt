use Rattle.std.proofs.Common.{◌≡◌, ◌++◌, take, arith}
use Rattle.{std.proofs.lemmas.Grind.common_steps, nmf_records.proofs.Written.text_appended}
use Rattle.nmf_records.proofs.writing.put_text_frame.Goals as goal

pub returns-clause-written : goal.returns-clause-written
returns-clause-written c =
    let reserved = c.in_ok-reserve.ensures.items in
    let first : c.extend_from_slice.new.self.items ≡ c.args.out.now.items
    ++ take c.put_typed_size-used.result c.put_typed_size-used.new.out =
    grind (arith, common_steps, c.extend_from_slice.ensures.items, c.unwrap.ensures) in
    let second : c.extend_from_slice-2.new.self.items ≡ c.extend_from_slice.new.self.items
    ++ c.args.text.now =
    grind (
      arith,
      common_steps,
      c.extend_from_slice-2.ensures.items,
      c.unwrap-2.ensures,
      c.as_bytes.ensures.value,
    ) in
    text_appended c.args.out.now.items c.put_typed_size-used.new.out _ c.args.text.now _ _
    c.args.kind c.put_typed_size-used.result
    c.put_typed_size-used.ensures.len c.put_typed_size-used.ensures.written first second
