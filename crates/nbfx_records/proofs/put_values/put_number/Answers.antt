use Rattle.std.proofs.Common.{◌≡◌, ◌∷◌, unsigned_abs, sym, ap, ◌∙◌, subst, w16, w32, w64}
use Rattle.std.specs.Int.{to_le_bytes}
use Rattle.nbfx_records.specs.{Chosen.record_bytes, Putting.Puts, TypeBytes.byte_of}
use Rattle.nbfx_records.proofs.NumberFacts.{chosen_16, chosen_32, chosen_64, chosen_unsigned}
use Rattle.nbfx_records.proofs.NumberFacts.{number_put, same}
use Rattle.nbfx_records.specs.declared.kinds.TextKind.TheVariants as texts
use Rattle.nbfx_records.specs.declared.kinds.RecordKind.TheVariants as records
use Rattle.nbfx_records.proofs.put_values.put_number.Goals as goal

pub returns-in-Ok-try_from : goal.returns-in-Ok-try_from
returns-in-Ok-try_from c =
    let n = c.args.number in
    let fits = c.ranges.number in
    let tried = c.in-Ok-try_from.ensures in
    number_put n fits w16 texts.Int16 c.args.ends c.in-Ok-try_from.number
    (chosen_16 n fits c.if-number-eq0.false c.if-number-eq1.false c.in_default.ensures tried.0)
    tried.0
    tried.1 c.to_le_bytes-in-Ok-try_from.ensures c.put_text-in-Ok-try_from.ensures

pub returns-in-Ok-try_from-2 : goal.returns-in-Ok-try_from-2
returns-in-Ok-try_from-2 c =
    let n = c.args.number in
    let fits = c.ranges.number in
    let tried = c.in-Ok-try_from-2.ensures in
    number_put n fits w32 texts.Int32 c.args.ends c.in-Ok-try_from-2.number
    (chosen_32 n fits c.if-number-eq0.false c.if-number-eq1.false c.in_default.ensures
    c.in_default-try_from.ensures tried.0) tried.0
    tried.1 c.to_le_bytes-in-Ok-try_from-2.ensures c.put_text-in-Ok-try_from-2.ensures

pub returns-in-Ok-try_from-3 : goal.returns-in-Ok-try_from-3
returns-in-Ok-try_from-3 c =
    let n = c.args.number in
    let fits = c.ranges.number in
    let tried = c.in-Ok-try_from-3.ensures in
    number_put n fits w64 texts.Int64 c.args.ends c.in-Ok-try_from-3.number
    (chosen_64 n fits c.if-number-eq0.false c.if-number-eq1.false c.in_default.ensures
    c.in_default-try_from.ensures c.in_default-try_from-2.ensures tried.0) tried.0
    tried.1 c.to_le_bytes-in-Ok-try_from-3.ensures c.put_text-in-Ok-try_from-3.ensures

pub returns : goal.returns
returns c =
    let n = c.args.number in
    let fits = c.ranges.number in
    let chosen = chosen_unsigned n fits c.if-number-eq0.false c.if-number-eq1.false
    c.in_default.ensures c.in_default-try_from.ensures c.in_default-try_from-2.ensures
    c.in_default-try_from-3.ensures in
    let spelled : c.to_le_bytes-2.result ≡ to_le_bytes w64 (unsigned_abs n) =
    c.to_le_bytes-2.ensures ∙ ap (to_le_bytes w64)
    (c.unsigned_abs.ensures.value ∙ ap unsigned_abs (same n fits)) in
    subst (Puts c.put_text-2.result c.args.out.now.items c.put_text-2.new.out.items)
    (ap (λ b. byte_of (records.Text texts.UInt64 c.args.ends) ∷ b) spelled ∙ sym
    (ap (record_bytes c.args.ends) chosen)) c.put_text-2.ensures
