-- What follows from the definitions of static strings alone.
use Rattle.std.proofs.Common.{◌≡◌, ℕ, zero, suc, ◌+◌, ◌<◌, ◌≤◌, false, List, [], ◌∷◌, length}
use Rattle.std.proofs.Common.{nat_eq, slice_index_or, Some, None, Option, bytes_eq, sym, refl, ap}
use Rattle.std.proofs.Common.{subst, inl, inr, arith, eq-eqb, ne_eqb, eqb-true}
use Rattle.std.proofs.lemmas.{Bool.cases_Bool, Map.Views.Contains-from_lookup}
use Rattle.std.specs.Cmp.Lexicographic.{bytes_decides}
use Rattle.string_tables.specs.Laws.{FindsEntries, FindsLeastStatic}
use Rattle.string_tables.specs.StaticStrings.{Entry, IsStaticId, least_static_id, least_with}
use Rattle.string_tables.specs.StaticStrings.{RisesFrom, static_text}
use Rattle.string_tables.proofs.LeastFacts.{FindsAtMost, gives_least}

-- an identifier that has a text, among entries that rise from another
pub record Stands (least id : ℕ) : Type 0 where
  pub above : least ≤ id
  pub static_id : IsStaticId id

pub static_text-stands : (least : ℕ) (entries : List Entry) (id : ℕ) (text : List ℕ)
    → RisesFrom least entries → static_text entries id ≡ Some text → Stands least id
static_text-stands least [] id text rises e = cc e
static_text-stands least (entry ∷ entries) id text rises e =
    elim (cases_Bool (nat_eq id entry.0)) [
      | inl here ↦ subst (Stands least) (sym (eqb-true id entry.0 here))
          (record { above = rises.0; static_id = rises.1 })
      | inr other ↦
          let later = static_text-stands (entry.0 + 1) entries id text rises.2 (rw other at e) in
          record { above = omega (arith, later.above, rises.0); static_id = later.static_id }
    ]

-- an entry is found under its identifier
static_text-at : (least : ℕ) (entries : List Entry) (id : ℕ) (text : List ℕ) (k : ℕ)
    → RisesFrom least entries → k < length entries
    → slice_index_or entries k (id, text) ≡ (id, text) → static_text entries id ≡ Some text
static_text-at least [] id text k rises within is = absurd (omega arith)
static_text-at least (entry ∷ entries) id text zero rises within is =
    rw (eq-eqb id entry.0 (sym (ap (λ (e : Entry). e.0) is))) (ap (λ (e : Entry). Some e.1) is)
static_text-at least (entry ∷ entries) id text (suc k) rises within is =
    let later = static_text-at (entry.0 + 1) entries id text k rises.2 (omega arith) is in
    let above = (static_text-stands (entry.0 + 1) entries id text rises.2 later).above in
    rw (ne_eqb id entry.0 (λ same. absurd (omega (arith, same, above)))) later

pub static_text-entry : FindsEntries
static_text-entry entries id text rises = (
  Contains-from_lookup {eq = nat_eq} eqb-true id text entries,
  λ held. static_text-at 0 entries
      id text held.0 rises held.1 held.2,
)

-- the least of an identifier and one that is not below it
least_with-first : (id : ℕ) (other : Option ℕ) → ((k : ℕ) → other ≡ Some k → id ≤ k)
    → least_with id other ≡ id
least_with-first id None above = refl
least_with-first id (Some k) above = omega (arith, above k refl)

pub least_with-le : (id : ℕ) (other : Option ℕ) → least_with id other ≤ id
least_with-le id None = omega arith
least_with-le id (Some k) = omega arith

-- the least identifier of a text names it
record NamesFrom (least : ℕ) (entries : List Entry) (text : List ℕ) (id : ℕ) : Type 0 where
  stands : Stands least id
  named : static_text entries id ≡ Some text

least_static_id-names : (least : ℕ) (entries : List Entry) (text : List ℕ) (id : ℕ)
    → RisesFrom least entries → least_static_id entries text ≡ Some id → NamesFrom least entries
    text id
least_static_id-names least [] text id rises e = cc e
least_static_id-names least (entry ∷ entries) text id rises e =
    elim (cases_Bool (bytes_eq entry.1 text)) [
      | inl here ↦
          let is : least_with entry.0 (least_static_id entries text) ≡ id = cc (rw here at e) in
          let first = least_with-first entry.0 (least_static_id entries text)
          (λ k found. omega
          (arith, (least_static_id-names (entry.0 + 1) entries text k rises.2 found).stands.above))
          in
          let same : entry.0 ≡ id = cc (first, is) in
          subst (NamesFrom least (entry ∷ entries) text) same (record {
            stands = record { above = rises.0; static_id = rises.1 };
            named = rw (eq-eqb entry.0 entry.0 refl)
                (ap Some ((bytes_decides entry.1 text).0 here));
          })
      | inr differs ↦
          let later = least_static_id-names (entry.0 + 1) entries text id rises.2 (rw differs at e)
          in
          let other : nat_eq id entry.0 ≡ false = ne_eqb id entry.0
          (λ same. absurd (omega (arith, same, later.stands.above))) in
          record {
            stands = record {
              above = omega (arith, later.stands.above, rises.0);
              static_id =
                  later.stands.static_id;
            };
            named = rw other later.named;
          }
    ]

pub least_static_id-named : (entries : List Entry) (text : List ℕ) (id : ℕ) → RisesFrom 0 entries
    → least_static_id entries text ≡ Some id → static_text entries id ≡ Some text
least_static_id-named entries text id rises found =
    (least_static_id-names 0 entries text id rises found).named

-- a text that an identifier names has a least one
pub least_static_id-lowest : (entries : List Entry) (text : List ℕ) (other : ℕ)
    → static_text entries other ≡ Some text → FindsAtMost (least_static_id entries text) other
least_static_id-lowest [] text other e = cc e
least_static_id-lowest (entry ∷ entries) text other e =
    elim (cases_Bool (nat_eq other entry.0)) [
      | inl here ↦
          let same : entry.1 ≡ text = cc (rw here at e) in
          let at : other ≡ entry.0 = eqb-true other entry.0 here in
          record {
            id = least_with entry.0 (least_static_id entries text);
            is = rw ((bytes_decides entry.1 text).1 same) refl;
            below = omega (arith, at, least_with-le entry.0 (least_static_id entries text));
          }
      | inr differs ↦
          let later = least_static_id-lowest entries text other (rw differs at e) in
          elim (cases_Bool (bytes_eq entry.1 text)) [
            | inl here ↦ record {
              id = least_with entry.0 (Some later.id);
              is = rw (here, later.is)
                  refl;
              below = omega (arith, later.below);
            }
            | inr not_here ↦ record {
              id = later.id;
              is = rw (not_here, later.is) refl;
              below =
                  later.below;
            }
          ]
    ]

pub gives_least_static : FindsLeastStatic
gives_least_static entries rises text =
    gives_least (static_text entries) (least_static_id entries text) text
    (λ id. least_static_id-named entries text id rises) (least_static_id-lowest entries text)
