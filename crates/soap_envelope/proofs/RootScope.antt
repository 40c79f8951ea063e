-- At the end of a document only the root is open.
use Rattle.std.proofs.Common.{◌≡◌, ℕ, suc, ◌+◌, ◌-◌, List, [], ◌∷◌, ◌++◌, map, length, drop, None}
use Rattle.std.proofs.Common.{sym, refl, ap, ◌∙◌, append_assoc, arith, length-append, drop_at}
use Rattle.nbfx_values.specs.declared.content.AttrItem.{AttrItem, TheVariants.Attr as AttrOn}
use Rattle.nbfx_values.specs.declared.content.AttrItem.TheVariants.{Xmlns as DeclaresOn}
use Rattle.nbfx_values.specs.declared.content.Item.{Item, TheVariants.Close, TheVariants.Start}
use Rattle.nbfx_values.specs.Documents.{array, Children, comment, element, IsDocument, item_of}
use Rattle.nbfx_values.specs.Documents.{no_more, text, walk}
use Rattle.soap_envelope.specs.{BadNames.first_bad_name, Bindings.scope_to, Parts.root_scope}
use Rattle.soap_envelope.specs.Scopes.{declared, Scope}

-- declarations and attributes leave the scope as it is
attributes-through : (attributes : List AttrItem) (scope : Scope) (k : ℕ) (more : List Item)
    → scope_to scope (length (map item_of attributes) + k) (map item_of attributes ++ more)
    ≡ scope_to scope k more
attributes-through [] scope k more =
    let e : 0 + k ≡ k = omega arith in ap (λ n. scope_to scope n more) e
attributes-through (DeclaresOn p u ∷ xs) scope k more =
    let e : suc (length (map item_of xs)) + k ≡ suc (length (map item_of xs) + k) = omega arith in
    rw e (attributes-through xs scope k more)
attributes-through (AttrOn p l v ∷ xs) scope k more =
    let e : suc (length (map item_of xs)) + k ≡ suc (length (map item_of xs) + k) = omega arith in
    rw e (attributes-through xs scope k more)

-- so do children
children-through : (children : Children) (scope : Scope) (k : ℕ) (more : List Item)
    → scope_to scope (length (walk children) + k) (walk children ++ more) ≡ scope_to scope k more
children-through no_more scope k more =
    let e : 0 + k ≡ k = omega arith in ap (λ n. scope_to scope n more) e
children-through (text v behind) scope k more =
    let e : suc (length (walk behind)) + k ≡ suc (length (walk behind) + k) = omega arith in
    rw e (children-through behind scope k more)
children-through (comment v behind) scope k more =
    let e : suc (length (walk behind)) + k ≡ suc (length (walk behind) + k) = omega arith in
    rw e (children-through behind scope k more)
children-through (array v behind) scope k more =
    let e : suc (length (walk behind)) + k ≡ suc (length (walk behind) + k) = omega arith in
    rw e (children-through behind scope k more)
children-through (element p l attributes children behind) scope k more =
    let heads = map item_of attributes in
    let inner = walk children in
    let outer = walk behind in
    let rest = heads ++ (inner ++ (Close ∷ outer)) in
    let own = declared (rest ++ more) ∷ scope in
    let split : rest ++ more ≡ heads ++ (inner ++ (Close ∷ (outer ++ more))) =
    append_assoc heads (inner ++ (Close ∷ outer)) more
    ∙ ap (λ xs. heads ++ xs) (append_assoc inner (Close ∷ outer) more) in
    let count : suc (length rest) + k
    ≡ suc (length heads + (length inner + suc (length outer + k))) =
    omega (
      arith,
      length-append heads (inner ++ (Close ∷ outer)),
      length-append inner (Close ∷ outer),
    ) in
    rw count
    (ap (scope_to own (length heads + (length inner + suc (length outer + k)))) split
    ∙ attributes-through attributes own (length inner + suc (length outer + k))
    (inner ++ (Close ∷ (outer ++ more)))
    ∙ children-through children own (suc (length outer + k)) (Close ∷ (outer ++ more))
    ∙ children-through behind scope k more)

-- what stands before the last item of a document, and that item
pub record IsEnded (items : List Item) : Type 0 where
  pub scope : scope_to [] (length items - 1) items ≡ root_scope items
  pub last : drop (length items - 1) items ≡ Close ∷ []

pub document-ended : (items : List Item) → IsDocument items → IsEnded items
document-ended items d =
    let heads = map item_of d.attributes in
    let inner = walk d.children in
    let root = Start d.prefix d.local in
    let before = heads ++ inner in
    let own = declared (heads ++ (inner ++ (Close ∷ []))) ∷ [] in
    let same : items ≡ root ∷ (heads ++ (inner ++ (Close ∷ []))) = d.walked in
    let count : length (root ∷ (heads ++ (inner ++ (Close ∷ [])))) - 1
    ≡ suc (length heads + (length inner + 0)) =
    omega (arith, length-append heads (inner ++ (Close ∷ [])), length-append inner (Close ∷ [])) in
    let parts : root ∷ (heads ++ (inner ++ (Close ∷ []))) ≡ (root ∷ before) ++ (Close ∷ []) =
    ap (λ xs. root ∷ xs) (sym (append_assoc heads inner (Close ∷ []))) in
    let front : length (root ∷ before) ≡ suc (length heads + (length inner + 0)) =
    omega (arith, length-append heads inner) in
    rw same (record {
      scope = rw count
          (attributes-through d.attributes own (length inner + 0) (inner ++ (Close ∷ []))
          ∙ children-through d.children own 0 (Close ∷ []));
      last = rw count (ap (drop (suc (length heads + (length inner + 0)))) parts
          ∙ drop_at (root ∷ before) (Close ∷ []) (suc (length heads + (length inner + 0))) front);
    })

-- the last item is good
pub last-good : (scope : Scope) (at : ℕ) (items : List Item) → items ≡ Close ∷ []
    → first_bad_name scope at items ≡ None
last-good scope at items e = rw e refl
