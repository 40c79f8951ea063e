-- What may fit, and what children count with the declarations that they need.
use Rattle.std.proofs.Common.{◌≡◌, ℕ, ◌+◌, ◌-◌, false, List, [], ◌∷◌, map, IfSome}
use Rattle.std.proofs.Common.{nat_le, Option, Some}
use Rattle.std.proofs.Common.{None, sum_by, sym, refl, ap, ◌∙◌, inl, inr, arith, le-leb, leb-false}
use Rattle.std.proofs.{Common.leb-true, lemmas.Bool.cases_Bool, lemmas.Bool.lt-leb}
use Rattle.std.proofs.lemmas.List.Sums.{sum_by-append, sum_by-cons}
use Rattle.nbfx_values.specs.declared.content.{ArrayItem.ArrayItem, AttrItem.AttrItem}
use Rattle.nbfx_values.specs.declared.content.Item.{Item, TheVariants.Array}
use Rattle.nbfx_values.specs.{Limits.Limits, Measures.attribute_content, Measures.item_content}
use Rattle.least_payloads.specs.Least.{least_of_attribute, least_of_item, may_fit}
use Rattle.soap_envelope.specs.declared.fitting.Measure.{Measure}
use Rattle.soap_envelope.specs.declared.fitting.Measure.TheVariants.{Content, Payload}
use Rattle.soap_envelope.specs.Body.{array_with, attribute_of, missing, self_standing, xmlns_of}
use Rattle.soap_envelope.specs.Fitting.{AreNeeds, fitting, item_measure, left_behind, measure_of}
use Rattle.soap_envelope.specs.Scopes.{Declaration, declared, declared_on}

-- what holds of items holds of them where they fit
pub fitting-all : (P : List Item → Type 0) (limits : Limits) (items : List Item) → P items
    → IfSome (fitting limits items) P
fitting-all P limits items h = elim (cases_Bool (may_fit limits items)) [
  | inl is ↦ rw is h
  | inr other ↦ rw other tt
]

-- what the content of Body needs where it doesn't fit, and where it does
pub needs-none : (limits : Limits) (content standing : List Item) (o : Option (List Item))
    → ((needs : List Item) → o ≡ Some needs → ⊥) → AreNeeds limits content standing o
    → may_fit limits standing ≡ false
needs-none limits content standing None n h = h
needs-none limits content standing (Some needs) n h = absurd (n needs refl)

pub needs-some : (limits : Limits) (content standing : List Item) (o : Option (List Item))
    (needs : List Item) → o ≡ Some needs → AreNeeds limits content standing o
    → self_standing (declared needs) (Some 0) content ≡ standing
needs-some limits content standing None needs e h = absurd (cc e)
needs-some limits content standing (Some found) needs e h =
    let same : found ≡ needs = cc in
    ap (λ l. self_standing (declared l) (Some 0) content) (sym same) ∙ h.0

-- an element that declares nothing lacks all that it needs
pub all-missing : (needs own : List Declaration) → own ≡ [] → missing needs own ≡ needs
all-missing needs own none = ap (missing needs) none ∙ all needs
  where
    all : (ds : List Declaration) → missing ds [] ≡ ds
    all [] = refl
    all (d ∷ more) = ap (λ l. d ∷ l) (all more)

-- a declaration counts the same in an array's element
declared-by : (f : AttrItem → ℕ) (g : Item → ℕ)
    → ((d : Declaration) → f (attribute_of d) ≡ g (xmlns_of d)) → (ds : List Declaration)
    → sum_by f (map attribute_of ds) ≡ sum_by g (map xmlns_of ds)
declared-by f g one [] = refl
declared-by f g one (d ∷ ds) =
    sum_by-cons f (attribute_of d) (map attribute_of ds)
    ∙ ap (λ n. f (attribute_of d) + n) (declared-by f g one ds)
    ∙ ap (λ n. n + sum_by g (map xmlns_of ds)) (one d)
    ∙ sym (sum_by-cons g (xmlns_of d) (map xmlns_of ds))

-- what is left behind two is left behind both
pub left_both : (left own more behind : ℕ) → left_behind left own ≡ Some behind
    → left_behind behind more ≡ left_behind left (own + more)
left_both left own more behind h = elim (cases_Bool (nat_le own left)) [
  | inl is ↦
      let some : Some (left - own) ≡ Some behind = rw is at h in
      let same : left - own ≡ behind = cc in
      let fits = leb-true own left is in
      elim (cases_Bool (nat_le more (left - own))) [
        | inl fit ↦
            let both = le-leb (own + more) left
            (omega (arith, fits, leb-true more (left - own) fit)) in
            rw (← same, fit, both) (ap Some (omega arith))
        | inr over ↦
            let both = lt-leb (own + more) left
            (omega (arith, fits, leb-false more (left - own) over)) in
            rw (← same, over, both) refl
      ]
  | inr other ↦
      let none : None ≡ Some behind = rw other at h in
      absurd (cc none)
]

-- an array counts what it did, and the declarations that it needs
pub array_measure : (m : Measure) (needs : List Declaration) (a : ArrayItem)
    → item_measure m (Array (array_with needs a))
    ≡ item_measure m (Array a) + measure_of m (map xmlns_of (missing needs (declared_on a.attrs)))
array_measure Content needs a =
    let own = missing needs (declared_on a.attrs) in
    omega (
      arith,
      sum_by-append attribute_content (map attribute_of own) a.attrs,
      declared-by attribute_content item_content (λ d. refl) own,
    )
array_measure Payload needs a =
    let own = missing needs (declared_on a.attrs) in
    omega (
      arith,
      sum_by-append least_of_attribute (map attribute_of own) a.attrs,
      declared-by least_of_attribute least_of_item (λ d. refl) own,
    )
