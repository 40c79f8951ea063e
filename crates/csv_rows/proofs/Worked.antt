-- Worked cases: the rows of literal files.
use Rattle.std.proofs.Common.{◌≡◌, ℕ, List, [], ◌∷◌, Option, Some, None, codes, map, refl}
use Rattle.csv_rows.specs.Rows.{Row, rows_of, text_of, two_of}
use Rattle.csv_rows.proofs.OnLiterals.{rows_on_literals}

abbrev Case : Type 0
Case = List ℕ × List Row

abbrev AllAre : List Case → Type 0
AllAre cases = map (λ (c : Case). rows_of c.0) cases ≡ map (λ (c : Case). c.1) cases

files : AllAre (
    ([], [])
    ∷ (codes "a", (codes "a" ∷ []) ∷ [])
    ∷ (codes "a,b\nc,d\n", (codes "a" ∷ codes "b" ∷ []) ∷ (codes "c" ∷ codes "d" ∷ []) ∷ [])
    ∷ (
      codes "a,b\r\n\r\n\n,\"c\"\"d,\n\"",
      (codes "a" ∷ codes "b" ∷ [])
          ∷ ([] ∷ codes "c\"d,\n" ∷ []) ∷ [],
    )
    ∷ (0xEF ∷ 0xBB ∷ 0xBF ∷ codes "a\n", (codes "a" ∷ []) ∷ [])
    ∷ [])
unfolding rows_on_literals
files = refl

abbrev AllHave : List (Row × Option (List ℕ × List ℕ)) → Type 0
AllHave rows =
    map (λ (r : Row × Option (List ℕ × List ℕ)). two_of r.0) rows
    ≡ map (λ (r : Row × Option (List ℕ × List ℕ)). r.1) rows

fields : AllHave (
    ([], None)
    ∷ (codes "a" ∷ [], None)
    ∷ (codes "a" ∷ codes "b" ∷ [], Some (codes "a", codes "b"))
    ∷ (codes "a" ∷ codes "b" ∷ codes "c" ∷ [], None)
    ∷ [])
fields = refl

a_text : text_of (codes "a") ≡ Some (codes "a")
unfolding rows_on_literals
a_text = refl

no_text : text_of (0xFF ∷ []) ≡ None
unfolding rows_on_literals
no_text = refl
