use Rattle.std.proofs.{Common.length, Common.ap, Common.arith, lemmas.Grind.common_steps}
use Rattle.nbfx_encoder.proofs.Openings.{few_bytes, short_head}
use Rattle.nbfx_encoder.proofs.encoder.Encoder.put_opening.Goals as goal

pub overflow_cast-len : goal.overflow_cast-len
overflow_cast-len c =
    let few = few_bytes c.args.self.now.speller.table.strings c.args.mark.count
    c.clear-2.new.self.items c.put_strings.new.out.items c.requires.few c.clear-2.ensures.items
    c.in_ok-put_strings.ensures.written in
    omega (arith, few, c.len.ensures)

pub put_int-len-requires : goal.put_int-len-requires
put_int-len-requires c =
    let few = few_bytes c.args.self.now.speller.table.strings c.args.mark.count
    c.clear-2.new.self.items c.put_strings.new.out.items c.requires.few c.clear-2.ensures.items
    c.in_ok-put_strings.ensures.written in
    omega (arith, few, c.len.ensures)

pub returns-clause-short : goal.returns-clause-short
returns-clause-short c =
    let few = few_bytes c.args.self.now.speller.table.strings c.args.mark.count
    c.clear-2.new.self.items c.put_strings.new.out.items c.requires.few c.clear-2.ensures.items
    c.in_ok-put_strings.ensures.written in
    let five = short_head c.len.result (omega (arith, few, c.len.ensures)) in
    let head = ap length c.in_ok-extend_from_slice.ensures.items in
    grind (arith, common_steps, few, five, head, c.put_int-len.ensures.len, c.clear.ensures.items)
