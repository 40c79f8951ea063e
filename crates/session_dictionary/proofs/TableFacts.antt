-- Facts about the fields of a table.
use Rattle.std.proofs.Common.{◌≡◌, ℕ, zero, suc, ◌+◌, ◌*◌, ◌^◌, ◌<◌, ◌≤◌, true, false, ◌≢◌, List}
use Rattle.std.proofs.Common.{[], ◌∷◌, length, Some, None, bytes_eq, refl, ap, arith}
use Rattle.std.{proofs.lemmas.Bool.false_from_ne_true, specs.Cmp.Lexicographic.bytes_decides}
use Rattle.string_tables.proofs.SessionFacts.{length-le-used_cost}
use Rattle.string_tables.specs.SessionStrings.{least_session_id}
use Rattle.session_dictionary.specs.{declared.table.SessionTable.TheInside.Inside, Inside.IsTable}
use Rattle.session_dictionary.specs.Order.{IsFirst, text_of}

-- a table holds few enough strings for their identifiers to stay below 2^31
pub texts_few : (t : Inside) → IsTable t → length t.texts ≤ 2 ^ 30
texts_few t is = omega (arith, is.cost_kept, is.within, is.small, length-le-used_cost t.texts)

-- the least identifier of a text is that of the first position that has it
pub least_at : (strings : List (List ℕ)) (text : List ℕ) (position : ℕ)
    → IsFirst strings text position → Some (2 * position + 1) ≡ least_session_id strings text
least_at [] text position first = absurd (omega (arith, first.there))
least_at (string ∷ strings) text zero first =
    let here : bytes_eq string text ≡ true = (bytes_decides string text).1 first.has in
    rw here (ap Some (omega arith))
least_at (string ∷ strings) text (suc position) first =
    let other : bytes_eq string text ≡ false =
    false_from_ne_true (bytes_eq string text)
    (λ here. first.first 0 (omega arith) ((bytes_decides string text).0 here)) in
    let rest = least_at strings text position (record {
      there = omega (arith, first.there);
      has = first.has;
      first = λ before h. first.first (suc before) (omega (arith, h));
    }) in
    rw (other, ← rest) (ap Some (omega arith))

pub least_none : (strings : List (List ℕ)) (text : List ℕ)
    → ((other : ℕ) → other < length strings → text_of strings other ≢ text)
    → None ≡ least_session_id strings text
least_none [] text none = refl
least_none (string ∷ strings) text none =
    let other : bytes_eq string text ≡ false =
    false_from_ne_true (bytes_eq string text)
    (λ here. none 0 (omega arith) ((bytes_decides string text).0 here)) in
    rw (other, ← least_none strings text (λ before h. none (suc before) (omega (arith, h)))) refl
