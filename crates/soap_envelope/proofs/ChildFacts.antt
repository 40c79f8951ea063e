-- What is left behind a child with the declarations that it needs.
use Rattle.std.proofs.Common.{◌≡◌, ℕ, ◌+◌, List, [], ◌∷◌, map, Some, sym, ap, ◌∙◌, add-zero}
use Rattle.std.proofs.lemmas.List.Sums.{sum_by-cons}
use Rattle.nbfx_values.specs.declared.content.ArrayItem.{ArrayItem}
use Rattle.nbfx_values.specs.declared.content.Item.{Item, TheVariants.Array, TheVariants.Start}
use Rattle.soap_envelope.specs.declared.fitting.Measure.{Measure}
use Rattle.soap_envelope.specs.Body.{array_with, child_items, missing, xmlns_of}
use Rattle.soap_envelope.specs.Fitting.{item_measure, left_behind, measure_of}
use Rattle.soap_envelope.specs.Scopes.{declared, declared_on, Declaration}
use Rattle.soap_envelope.proofs.FitFacts.{array_measure, left_both}

-- how much the declarations count that an element needs and hasn't itself
abbrev pub needed_measure : Measure → (needs own : List Declaration) → ℕ
needed_measure m needs own = measure_of m (map xmlns_of (missing needs own))

-- what is left behind an item, and behind the declarations that an element needs, is left behind
-- both
abbrev pub IsLeft : Measure → (left behind : ℕ) → (needs own : List Declaration)
    → (more : List Item) → Item → Type 0
IsLeft m left behind needs own more item =
    Some behind ≡ left_behind left (measure_of m (item ∷ []))
    → left_behind behind (needed_measure m needs own)
    ≡ left_behind left (measure_of m (child_items needs item more))

child_left : (m : Measure) (left behind more : ℕ) (item : Item) (items : List Item)
    → Some behind ≡ left_behind left (measure_of m (item ∷ []))
    → measure_of m items ≡ item_measure m item + more
    → left_behind behind more ≡ left_behind left (measure_of m items)
child_left m left behind more item items h same =
    let counts : measure_of m (item ∷ []) ≡ item_measure m item =
    sum_by-cons (item_measure m) item [] ∙ add-zero (item_measure m item) in
    left_both left (item_measure m item) more behind (ap (left_behind left) (sym counts) ∙ sym h)
    ∙ ap (left_behind left) (sym same)

pub start_left : (m : Measure) (left behind : ℕ) (needs own : List Declaration)
    (more : List Item) (prefix local : List ℕ) → own ≡ declared more
    → IsLeft m left behind needs own more (Start prefix local)
start_left m left behind needs own more prefix local declares h =
    let item = Start prefix local in
    let counts : item_measure m item + needed_measure m needs (declared more)
    ≡ item_measure m item + needed_measure m needs own =
    ap (λ (o : List Declaration). item_measure m item + needed_measure m needs o) (sym declares) in
    child_left m left behind (needed_measure m needs own) item (child_items needs item more) h
    (sum_by-cons (item_measure m) item (map xmlns_of (missing needs (declared more))) ∙ counts)

pub array_left : (m : Measure) (left behind : ℕ) (needs own : List Declaration)
    (more : List Item) (a : ArrayItem) → own ≡ declared_on a.attrs
    → IsLeft m left behind needs own more (Array a)
array_left m left behind needs own more a declares h =
    let item = Array a in
    let with = Array (array_with needs a) in
    let counts : item_measure m item + needed_measure m needs (declared_on a.attrs)
    ≡ item_measure m item + needed_measure m needs own =
    ap (λ (o : List Declaration). item_measure m item + needed_measure m needs o) (sym declares) in
    child_left m left behind (needed_measure m needs own) item (with ∷ []) h
    (sum_by-cons (item_measure m) with [] ∙ add-zero (item_measure m with)
    ∙ array_measure m needs a ∙ counts)
