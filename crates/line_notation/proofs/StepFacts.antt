-- What lines lead to, one after the other.
use Rattle.std.proofs.Common.{◌≡◌, ℕ, ◌+◌, List, [], ◌∷◌, ◌++◌, length, None, Ok, Option, Result}
use Rattle.std.proofs.Common.{sym, refl, ap, ◌∙◌, append_assoc, arith, length-append}
use Rattle.nbfx_values.specs.declared.content.{ArrayItem.ArrayItem, Item.Item}
use Rattle.line_notation.specs.declared.reader.LineKind.{LineKind}
use Rattle.line_notation.specs.LineReaderState.{after, answer, answer_of, document_of}
use Rattle.line_notation.specs.LineReaderState.{documents_from, ends, going, on, outcome, Placed}
use Rattle.line_notation.specs.LineReaderState.{Standing, standing_from, standing_of}

-- behind these lines a reader stands there, and they brought these documents
pub record Leads (z : Standing) (lines : List (List ℕ)) (z' : Standing) (docs : List (List Item)) :
    Type 0 where
  pub stands : standing_from z lines ≡ z'
  pub brings : documents_from z lines ≡ docs

standing-append : (z : Standing) (a b : List (List ℕ)) → standing_from z (a ++ b)
    ≡ standing_from (standing_from z a) b
standing-append z [] b = refl
standing-append z (line ∷ a) b = standing-append (after z line) a b

documents-append : (z : Standing) (a b : List (List ℕ)) → documents_from z (a ++ b)
    ≡ documents_from z a ++ documents_from (standing_from z a) b
documents-append z [] b = refl
documents-append z (line ∷ a) b =
    ap (λ l. document_of (answer z line) ++ l) (documents-append (after z line) a b)
    ∙ sym (append_assoc (document_of (answer z line)) (documents_from (after z line) a)
    (documents_from (standing_from (after z line) a) b))

pub leads-nowhere : (z : Standing) → Leads z [] z []
leads-nowhere z = record { stands = refl; brings = refl }

pub leads-then : (z z1 z2 : Standing) (a b : List (List ℕ)) (docs more : List (List Item))
    → Leads z a z1 docs → Leads z1 b z2 more → Leads z (a ++ b) z2 (docs ++ more)
leads-then z z1 z2 a b docs more h k =
    record {
      stands = standing-append z a b ∙ ap (λ y. standing_from y b) h.stands ∙ k.stands;
      brings = documents-append z a b ∙ ap (λ l. l ++ documents_from (standing_from z a) b) h.brings
          ∙ ap (λ y. docs ++ documents_from y b) h.stands ∙ ap (λ l. docs ++ l) k.brings;
    }

-- one line
pub line-leads : (n : ℕ) (items : List Item) (array : Option ArrayItem) (line : List ℕ)
    (r : Result Placed LineKind) → outcome items array line ≡ r
    → Leads (going n items array) (line ∷ []) (standing_of (n + 1) r)
    (document_of (answer_of (n + 1) r) ++ [])
line-leads n items array line r e =
    record {
      stands = ap (standing_of (n + 1)) e;
      brings =
          ap (λ r. document_of (answer_of (n + 1) r) ++ []) e;
    }

pub line-goes_on : (n : ℕ) (items more : List Item) (array opened : Option ArrayItem)
    (line : List ℕ) → outcome items array line ≡ Ok (on more opened)
    → Leads (going n items array) (line ∷ []) (going (n + 1) more opened) []
line-goes_on n items more array opened line e = line-leads n items array line (Ok (on more opened))
    e

pub line-ends : (n : ℕ) (items doc : List Item) (array : Option ArrayItem) (line : List ℕ)
    → outcome items array line ≡ Ok (ends doc)
    → Leads (going n items array) (line ∷ []) (going (n + 1) [] None) (doc ∷ [])
line-ends n items doc array line e = line-leads n items array line (Ok (ends doc)) e

-- as many lines more
pub counted-then : (n : ℕ) (a b : List (List ℕ)) → n + length a + length b ≡ n + length (a ++ b)
counted-then n a b = omega (arith, length-append a b)
