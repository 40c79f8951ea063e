-- What follows from the definitions of a whole table alone.
use Rattle.std.proofs.Common.{◌≡◌, ℕ, ◌+◌, ◌*◌, ◌%◌, ◌⊎◌, List, [], ◌∷◌, ◌++◌, length, Some, None}
use Rattle.std.proofs.Common.{Option, sym, refl, ap, ◌∙◌, inl, inr, arith, eq-eqb, ne_eqb}
use Rattle.{std.proofs.lemmas.Bool.cases_lt, string_tables.proofs.SessionFacts.slice_get-pushed}
use Rattle.string_tables.specs.Laws.{FindsLeast, FindsNamed, KeepsNames, NamesOneMore, NamesOneText}
use Rattle.string_tables.specs.SessionStrings.{least_session_id, session_text}
use Rattle.string_tables.specs.StaticStrings.{IsStaticMap, least_static_id, least_with, static_text}
use Rattle.string_tables.specs.StringTable.{least_id, lesser_id, named_text, Names, NamesString}
use Rattle.string_tables.specs.StringTable.{StringTable, with_strings}
use Rattle.string_tables.proofs.LeastFacts.{FindsAtMost, gives_least}
use Rattle.string_tables.proofs.SessionFacts.{least_session_id-lowest, least_session_id-named}
use Rattle.string_tables.proofs.SessionFacts.{session_text-odd, session_text-string}
use Rattle.string_tables.proofs.SessionFacts.{slice_get-append, slice_get-push_cases}
use Rattle.string_tables.proofs.StaticFacts.{least_static_id-lowest, least_static_id-named}
use Rattle.string_tables.proofs.StaticFacts.{least_with-le, static_text-stands}

-- the half that an identifier belongs to
named_text-even : (table : StringTable) (id : ℕ) → id % 2 ≡ 0 → named_text table id
    ≡ static_text table.statics id
named_text-even table id even = rw (ne_eqb (id % 2) 1 (λ odd. absurd (omega arith))) refl

named_text-odd : (table : StringTable) (id : ℕ) → id % 2 ≡ 1 → named_text table id
    ≡ session_text table.strings id
named_text-odd table id odd = rw (eq-eqb (id % 2) 1 odd) refl

halves : (id : ℕ) → (id % 2 ≡ 0) ⊎ (id % 2 ≡ 1)
halves id =
    elim (cases_lt (id % 2) 1) [
      | inl none ↦ inl (omega arith)
      | inr some ↦ inr (omega arith)
    ]

string_is_odd : (strings : List (List ℕ)) (id : ℕ) (text : List ℕ) → NamesString strings id text
    → id % 2 ≡ 1
string_is_odd strings id text names = omega (arith, names.odd)

pub named_text-names : FindsNamed
named_text-names table id text = (to, from)
  where
    to : named_text table id ≡ Some text → Names table id text
    to e = elim (halves id) [
      | inl even ↦ inl (record { even = even; held = sym (named_text-even table id even) ∙ e })
      | inr odd ↦ inr
          ((session_text-string table.strings id text).0 (sym (named_text-odd table id odd) ∙ e))
    ]

    from : Names table id text → named_text table id ≡ Some text
    from (inl entry) = named_text-even table id entry.even ∙ entry.held
    from (inr string) = named_text-odd table id (string_is_odd table.strings id text string) ∙
        (session_text-string table.strings id text).1 string

pub names_one_text : NamesOneText
names_one_text table id text other names names_too =
    let is = (named_text-names table id text).1 names in
    let is_too = (named_text-names table id other).1 names_too in
    cc (is, is_too)

-- what the lesser of two is, and that it is no greater than either
lesser_id-cases : (a b : Option ℕ) (id : ℕ) → lesser_id a b ≡ Some id → (a ≡ Some id)
    ⊎ (b ≡ Some id)
lesser_id-cases None b id e = inr e
lesser_id-cases (Some m) None id e = inl e
lesser_id-cases (Some m) (Some n) id e =
    elim (cases_lt m n) [
      | inl below ↦ inl (ap Some (omega (arith, less m n id e)))
      | inr above ↦ inr (ap Some (omega (arith, less m n id e)))
    ]
  where
    less : (m n id : ℕ) → lesser_id (Some m) (Some n) ≡ Some id → least_with m (Some n) ≡ id
    less m n id e = cc e

lesser_id-first : (a b : Option ℕ) (other : ℕ) → FindsAtMost a other → FindsAtMost (lesser_id a b)
    other
lesser_id-first None b other first = cc first.is
lesser_id-first (Some m) b other first =
    let same : m ≡ first.id = cc first.is in
    record {
      id = least_with m b;
      is = refl;
      below = omega
          (arith, same, first.below, least_with-le m b);
    }

lesser_id-second : (a b : Option ℕ) (other : ℕ) → FindsAtMost b other → FindsAtMost (lesser_id a b)
    other
lesser_id-second None b other second = second
lesser_id-second (Some m) None other second = cc second.is
lesser_id-second (Some m) (Some n) other second =
    let same : n ≡ second.id = cc second.is in
    record { id = least_with m (Some n); is = refl; below = omega (arith, same, second.below) }

module _ (table : StringTable) (text : List ℕ) where
  least_id-named : (id : ℕ) → IsStaticMap table.statics → least_id table text ≡ Some id
      → named_text table id ≡ Some text
  least_id-named id rises found =
      elim (lesser_id-cases (least_static_id table.statics text)
      (least_session_id table.strings text) id found) [
        | inl static ↦
            let held = least_static_id-named table.statics text id rises static in
            named_text-even table id (static_text-stands 0 table.statics id text rises
            held).static_id.even ∙ held
        | inr session ↦
            let held = least_session_id-named table.strings text id session in
            named_text-odd table id (session_text-odd table.strings id text held).0 ∙ held
      ]

  least_id-lowest : (other : ℕ) → named_text table other ≡ Some text
      → FindsAtMost (least_id table text) other
  least_id-lowest other names =
      elim (halves other) [
        | inl even ↦
            lesser_id-first (least_static_id table.statics text)
            (least_session_id table.strings text) other
            (least_static_id-lowest table.statics text other
            (sym (named_text-even table other even) ∙ names))
        | inr odd ↦
            lesser_id-second (least_static_id table.statics text)
            (least_session_id table.strings text) other
            (least_session_id-lowest table.strings text other
            (sym (named_text-odd table other odd) ∙ names))
      ]

pub gives_least_id : FindsLeast
gives_least_id table rises text = gives_least (named_text table) (least_id table text) text
    (λ id. least_id-named table text id rises) (least_id-lowest table text)

-- strings that come later change no name
pub names-append : KeepsNames
names-append table more id text (inl entry) = inl entry
names-append table more id text (inr string) = inr (record {
  place = string.place;
  odd = string.odd;
  held = slice_get-append table.strings more string.place text string.held;
})

-- and one more string gets the next odd number
pub names-push : NamesOneMore
names-push table string id text = (to, from)
  where
    pushed : NamesString (table.strings ++ string ∷ []) id text → NamesString table.strings id text
        ⊎ ((id ≡ 2 * length table.strings + 1) × (text ≡ string))
    pushed names = elim (slice_get-push_cases table.strings string names.place text names.held) [
      | inl before ↦ inl (record { place = names.place; odd = names.odd; held = before })
      | inr last ↦ inr (omega (arith, names.odd, last.0), last.1)
    ]

    to : Names (with_strings table (string ∷ [])) id text → Names table id text
        ⊎ ((id ≡ 2 * length table.strings + 1) × (text ≡ string))
    to (inl entry) = inl (inl entry)
    to (inr names) = elim (pushed names) [
      | inl before ↦ inl (inr before)
      | inr last ↦ inr last
    ]

    from : Names table id text ⊎ ((id ≡ 2 * length table.strings + 1) × (text ≡ string))
        → Names (with_strings table (string ∷ [])) id text
    from (inl names) = names-append table (string ∷ []) id text names
    from (inr (odd, same)) = inr (record {
      place = length table.strings;
      odd = odd;
      held = slice_get-pushed table.strings string ∙ ap Some (sym same);
    })
