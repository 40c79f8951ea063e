-- A text with the end of the element that holds it, behind other items.
use Rattle.std.proofs.Common.{◌≡◌, ℕ, zero, suc, true, List, [], ◌∷◌, ◌++◌, Some, refl, ap, ◌∙◌}
use Rattle.std.proofs.Common.{subst, append_assoc}
use Rattle.nbfx_values.specs.declared.content.Item.{Item, TheVariants.Close, TheVariants.Text}
use Rattle.nbfx_values.specs.declared.{measures.Measures.Measures, scalars.Value.Value}
use Rattle.nbfx_values.specs.{declared.position.Position.Position, Measured.AreMeasuresOf}
use Rattle.nbfx_values.specs.declared.position.Position.TheVariants.{After, Before, Within}
use Rattle.nbfx_values.specs.{Measures.opened, Measures.opened_by, Scalars.is_valid_value}
use Rattle.nbfx_values.specs.Positions.{moved, position_from, position_of}
use Rattle.nbfx_values.proofs.Positions.{position_from-append, stepped}

-- a text leads nowhere else than its element's end alone
text_moves : (s : Position) (v : Value) → position_from (moved s (Text v)) (Close ∷ [])
    ≡ moved s Close
text_moves Before v = refl
text_moves (Within zero a) v = refl
text_moves (Within (suc n) a) v = refl
text_moves After v = refl

pub last_text_leads : (items : List Item) (v : Value) (s : Position) → position_of items ≡ Some s
    → is_valid_value v ≡ true → position_of (items ++ Text v ∷ Close ∷ []) ≡ moved s Close
last_text_leads items v s h valid =
    position_from-append (Some Before) items (Text v ∷ Close ∷ []) ∙
    ap (λ o. position_from o (Text v ∷ Close ∷ [])) h
    ∙ stepped s (Text v) (Close ∷ []) valid ∙ text_moves s v

-- a text opens nothing
pub text_opens_none : (n : ℕ) (items : List Item) (v : Value) → opened_by n (items ++ Text v ∷ [])
    ≡ opened_by n items
text_opens_none n [] v = refl
text_opens_none n (x ∷ items) v = text_opens_none (opened n x) items v

-- what is measured with the text and then with the end is measured of both
pub last_text_measured : (items : List Item) (v : Value) (opens : ℕ)
    (m with_text with_both : Measures) → opened_by 0 items ≡ opens → AreMeasuresOf items m
    → ((xs : List Item) → opened_by 0 xs ≡ opens → AreMeasuresOf xs m
    → AreMeasuresOf (xs ++ Text v ∷ []) with_text)
    → ((xs : List Item) → opened_by 0 xs ≡ opens → AreMeasuresOf xs with_text
    → AreMeasuresOf (xs ++ Close ∷ []) with_both)
    → AreMeasuresOf (items ++ Text v ∷ Close ∷ []) with_both
last_text_measured items v opens m with_text with_both counted measured first second =
    let text = first items counted measured in
    let both = second (items ++ Text v ∷ []) (text_opens_none 0 items v ∙ counted) text in
    subst (λ (xs : List Item). AreMeasuresOf xs with_both)
    (append_assoc items (Text v ∷ []) (Close ∷ [])) both
