-- What follows from the definitions of a session's strings alone.
use Rattle.std.proofs.Common.{◌≡◌, ℕ, zero, suc, ◌+◌, ◌*◌, ◌/◌, ◌%◌, ◌⊎◌, List, [], ◌∷◌, ◌++◌}
use Rattle.std.proofs.Common.{length, ◌==◌, slice_get, Some, None, Option, option_map, bytes_eq}
use Rattle.std.proofs.Common.{sym, refl, ap, ◌∙◌, inl, inr, arith, eqb-true}
use Rattle.std.proofs.lemmas.{Bool.cases_Bool, List.Sums.sum_by-append, List.Sums.sum_by-cons}
use Rattle.std.specs.Cmp.Lexicographic.{bytes_decides}
use Rattle.string_tables.specs.Laws.{AddsCosts, CountsWithin, FindsLeastSession, FindsStrings}
use Rattle.string_tables.specs.Laws.{KeepsLeast, NamesFirst}
use Rattle.string_tables.specs.SessionStrings.{cost, least_session_id, session_text}
use Rattle.string_tables.proofs.LeastFacts.{FindsAtMost, gives_least}

-- an identifier that has a text is odd, and the text is the string at its place
pub session_text-odd : (strings : List (List ℕ)) (id : ℕ) (text : List ℕ) → session_text strings id
    ≡ Some text → (id % 2 ≡ 1) × (slice_get strings (id / 2) ≡ Some text)
session_text-odd strings id text e =
    elim (cases_Bool (id % 2 == 1)) [
      | inl odd ↦ (eqb-true (id % 2) 1 odd, rw odd at e)
      | inr even ↦ cc (rw even at e)
    ]

pub session_text-at : (strings : List (List ℕ)) (place : ℕ) → session_text strings (2 * place + 1)
    ≡ slice_get strings place
session_text-at strings place =
    let odd : (2 * place + 1) % 2 ≡ 1 = omega arith in
    let half : (2 * place + 1) / 2 ≡ place = omega arith in
    rw (odd, half) refl

pub session_text-string : FindsStrings
session_text-string strings id text = (
  λ e. let at = session_text-odd strings id text e in record
      { place = id / 2; odd = omega (arith, at.0); held = at.1 },
  λ names. ap (session_text strings) names.odd ∙ session_text-at strings names.place ∙ names.held,
)

-- the identifiers of the strings behind the first are 2 more than without it
session_text-next : (string : List ℕ) (strings : List (List ℕ)) (id : ℕ)
    → session_text (string ∷ strings) (id + 2) ≡ session_text strings id
session_text-next string strings id =
    let same_side : (id + 2) % 2 ≡ id % 2 = omega arith in
    let one_place : (id + 2) / 2 ≡ suc (id / 2) = omega arith in
    rw (same_side, one_place) refl

-- an identifier that is 2 more than one that was found
two_more : (found : Option ℕ) (id : ℕ) → option_map (λ id. id + 2) found ≡ Some id → (before : ℕ)
    × ((found ≡ Some before) × (id ≡ before + 2))
two_more None id e = cc e
two_more (Some before) id e = (before, (refl, cc e))

-- the least identifier of a text names it
pub least_session_id-named : (strings : List (List ℕ)) (text : List ℕ) (id : ℕ) → least_session_id
    strings text ≡ Some id → session_text strings id ≡ Some text
least_session_id-named [] text id e = cc e
least_session_id-named (string ∷ strings) text id e =
    elim (cases_Bool (bytes_eq string text)) [
      | inl here ↦
          let first : 1 ≡ id = cc (rw here at e) in
          rw (← first) (ap Some ((bytes_decides string text).0 here))
      | inr other ↦
          let (before, (found, more)) = two_more (least_session_id strings text) id (rw other at e)
          in
          rw more (session_text-next string strings before ∙ least_session_id-named strings text
          before found)
    ]

-- a text that an identifier names has a least one
pub least_session_id-lowest : (strings : List (List ℕ)) (text : List ℕ) (other : ℕ)
    → session_text strings other ≡ Some text → FindsAtMost (least_session_id strings text) other
least_session_id-lowest [] text other e = cc (session_text-odd [] other text e).1
least_session_id-lowest (string ∷ strings) text zero e = cc e
least_session_id-lowest (string ∷ strings) text (suc zero) e =
    let same : string ≡ text = cc e in
    record { id = 1; is = rw ((bytes_decides string text).1 same) refl; below = omega arith }
least_session_id-lowest (string ∷ strings) text (suc (suc other)) e =
    let two : other + 2 ≡ suc (suc other) = omega arith in
    let behind : session_text strings other ≡ Some text = sym
    (session_text-next string strings other) ∙ ap (session_text (string ∷ strings)) two ∙ e in
    let later = least_session_id-lowest strings text other behind in
    elim (cases_Bool (bytes_eq string text)) [
      | inl here ↦ record { id = 1; is = rw here refl; below = omega arith }
      | inr differs ↦ record {
        id = later.id + 2;
        is = rw (differs, later.is) refl;
        below = omega
            (arith, later.below);
      }
    ]

pub gives_least_session : FindsLeastSession
gives_least_session strings text =
    gives_least (session_text strings) (least_session_id strings text) text
    (least_session_id-named strings text) (least_session_id-lowest strings text)

-- strings that come later change no string, and the first of them comes next
pub slice_get-append : (strings more : List (List ℕ)) (i : ℕ) (text : List ℕ) → slice_get strings i
    ≡ Some text → slice_get (strings ++ more) i ≡ Some text
slice_get-append [] more i text e = cc e
slice_get-append (string ∷ strings) more zero text e = e
slice_get-append (string ∷ strings) more (suc i) text e = slice_get-append strings more i text e

pub slice_get-pushed : (strings : List (List ℕ)) (string : List ℕ)
    → slice_get (strings ++ string ∷ []) (length strings) ≡ Some string
slice_get-pushed [] string = refl
slice_get-pushed (other ∷ strings) string = slice_get-pushed strings string

pub slice_get-push_cases : (strings : List (List ℕ)) (string : List ℕ) (i : ℕ) (text : List ℕ)
    → slice_get (strings ++ string ∷ []) i ≡ Some text
    → (slice_get strings i ≡ Some text) ⊎ ((i ≡ length strings) × (text ≡ string))
slice_get-push_cases [] string zero text e = inr (refl, cc e)
slice_get-push_cases [] string (suc i) text e = cc e
slice_get-push_cases (other ∷ strings) string zero text e = inl e
slice_get-push_cases (other ∷ strings) string (suc i) text e =
    elim (slice_get-push_cases strings string i text e) [
      | inl before ↦ inl before
      | inr last ↦ inr (ap suc last.0, last.1)
    ]

-- nor its least identifier
pub least_session_id-append : KeepsLeast
least_session_id-append [] more text id e = cc e
least_session_id-append (string ∷ strings) more text id e =
    elim (cases_Bool (bytes_eq string text)) [
      | inl here ↦ rw here (rw here at e)
      | inr other ↦
          let (before, (found, two)) = two_more (least_session_id strings text) id (rw other at e)
          in
          rw (other, least_session_id-append strings more text before found) (ap Some (sym two))
    ]

-- a text that comes anew gets the next identifier
pub least_session_id-push : NamesFirst
least_session_id-push [] text none = rw ((bytes_decides text text).1 refl) refl
least_session_id-push (string ∷ strings) text none =
    elim (cases_Bool (bytes_eq string text)) [
      | inl here ↦ cc (rw here at none)
      | inr other ↦
          rw (
            other,
            least_session_id-push strings text
                (mapped_none (least_session_id strings text) (rw other at none)),
          ) (ap Some (omega arith))
    ]
  where
    mapped_none : (found : Option ℕ) → option_map (λ id. id + 2) found ≡ None → found ≡ None
    mapped_none None e = refl
    mapped_none (Some id) e = cc e

pub used_cost-append : AddsCosts
used_cost-append strings more = sum_by-append cost strings more

-- a string costs at least 1, so there are at most as many strings as they cost
pub length-le-used_cost : CountsWithin
length-le-used_cost [] = omega arith
length-le-used_cost (string ∷ strings) = omega (
  arith,
  length-le-used_cost strings,
  sum_by-cons cost
      string strings,
)
