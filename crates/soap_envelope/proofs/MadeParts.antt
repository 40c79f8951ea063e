-- The children of a reply's root and of its Header, by their places.
use Rattle.soap_envelope.specs.declared.versions.Addressing.{Addressing}
use Rattle.std.proofs.Common.{◌≡◌, ℕ, suc, ◌+◌, true, false, not, List, [], ◌∷◌, ◌++◌, length, drop}
use Rattle.std.proofs.Common.{slice_get, Some, Ok, codes, filter, flat_map, sym, refl, ap, ◌∙◌}
use Rattle.std.proofs.Common.{append_assoc, arith, length-append}
use Rattle.std.{proofs.lemmas.Bool.and_parts, specs.List.list_all}
use Rattle.nbfx_values.specs.declared.content.Item.{Item, TheVariants.Close, TheVariants.Text}
use Rattle.nbfx_values.specs.Items.{is_valid_item}
use Rattle.soap_envelope.specs.{Characters.is_passed, Names.soap, Scopes.declared}
use Rattle.soap_envelope.specs.{Children.children_from, Qualified.Name}
use Rattle.soap_envelope.specs.{Faults.not_understood_block, Made.reply_root}
use Rattle.soap_envelope.specs.Making.{action_block, ending, envelope_items, is_valid_text}
use Rattle.soap_envelope.specs.Making.{IsContent, middle, opening, relates_block, soap_start}
use Rattle.soap_envelope.specs.Parts.{is_element, kept_children, parts_among, parts_of, root_scope}
use Rattle.soap_envelope.proofs.{MadeNames.begins-with-content, OnLiterals.envelopes_on_literals}
use Rattle.soap_envelope.proofs.Nesting.{children-inside, leads-nested, nested, nested-append}

-- what stands at a place after a front
pub get-behind : {X : Type 0} (front : List X) (x : X) (rest : List X)
    → slice_get (front ++ x ∷ rest) (length front) ≡ Some x
get-behind [] x rest = refl
get-behind (f ∷ front) x rest = get-behind front x rest

pub drop-behind : {X : Type 0} (front : List X) (x : X) (rest : List X)
    → drop (length front + 1) (front ++ x ∷ rest) ≡ rest
drop-behind [] x rest = refl
drop-behind (f ∷ front) x rest =
    let place : suc (length front) + 1 ≡ suc (length front + 1) = omega arith in
    ap (λ n. drop n (f ∷ (front ++ x ∷ rest))) place ∙ drop-behind front x rest

-- texts are nested, and so are the blocks of Header
pub texts-nested : (texts : List Item) (n : ℕ) → list_all is_valid_text texts ≡ true
    → nested (Some n) texts ≡ Some n
texts-nested [] n h = refl
texts-nested (Text v ∷ texts) n h =
    texts-nested texts n (and_parts (is_valid_item (Text v)) (list_all is_valid_text texts) h).1
texts-nested (x ∷ texts) n h = absurd cc

pub relates-nested : (texts : List Item) → list_all is_valid_text texts ≡ true
    → nested (Some 0) (relates_block texts) ≡ Some 0
relates-nested [] h = refl
relates-nested (Text v ∷ texts) h =
    nested-append (Some 1) (Text v ∷ texts) (Close ∷ [])
    ∙ ap (λ o. nested o (Close ∷ [])) (texts-nested (Text v ∷ texts) 1 h)
relates-nested (x ∷ texts) h = absurd cc

pub blocks-nested : (names : List Name)
    → nested (Some 0) (flat_map not_understood_block names) ≡ Some 0
blocks-nested [] = refl
blocks-nested (name ∷ names) = blocks-nested names

-- a Header and a Body are kept, and are the parts
kept-both : (all : List Item) (at : ℕ) → slice_get all at ≡ Some (soap_start (codes "Body"))
    → is_passed (slice_get all 3) ≡ false
    → filter (λ (child : ℕ). not (is_passed (slice_get all child))) (3 ∷ at ∷ []) ≡ 3 ∷ at ∷ []
kept-both all at got first = rw (first, got) refl

parts-by : (version : Addressing) (all : List Item) (at : ℕ)
    → slice_get all at ≡ Some (soap_start (codes "Body"))
    → declared (drop (at + 1) all) ≡ []
    → is_element all (reply_root version) soap (codes "Header") 3 ≡ true
    → parts_among all (reply_root version) (3 ∷ at ∷ []) ≡ Ok (record {
      header = Some 3;
      body = at;
    })
unfolding envelopes_on_literals
parts-by version all at got none first = rw (first, got, none) refl

module _ (version : Addressing) (action : List ℕ) (relates : List Item) (names : List Name) (body :
    List Item)
    (texts : list_all is_valid_text relates ≡ true) (content : IsContent body) where
  abbrev pub blocks : List Item
  blocks = relates_block relates ++ flat_map not_understood_block names

  abbrev pub items : List Item
  items = envelope_items version action relates (flat_map not_understood_block names) body

  abbrev pub rest : List Item
  rest = middle ++ (body ++ ending)

  -- up to Body
  abbrev pub front : List Item
  front = opening version ++ (action_block action ++ (blocks ++ Close ∷ []))

  pub fronted : items ≡ front ++ soap_start (codes "Body") ∷ (body ++ ending)
  fronted = simp append_assoc

  pub body-there : slice_get items (length front) ≡ Some (soap_start (codes "Body"))
  body-there =
      ap (λ l. slice_get l (length front)) fronted
      ∙ get-behind front (soap_start (codes "Body")) (body ++ ending)

  pub behind-body : drop (length front + 1) items ≡ body ++ ending
  behind-body =
      ap (λ l. drop (length front + 1) l) fronted
      ∙ drop-behind front (soap_start (codes "Body")) (body ++ ending)

  blocks-inside : nested (Some 0) blocks ≡ Some 0
  blocks-inside =
      nested-append (Some 0) (relates_block relates) (flat_map not_understood_block names)
      ∙ ap (λ o. nested o (flat_map not_understood_block names)) (relates-nested relates texts)
      ∙ blocks-nested names

  place : 8 + length blocks + 1 ≡ length front
  place = omega (arith, length-append blocks (Close ∷ []))

  -- the children of the root
  root-children : children_from (Some 0) 1 (drop 1 items) ≡ 3 ∷ length front ∷ []
  unfolding envelopes_on_literals
  root-children =
      ap (λ l. 3 ∷ children_from (Some 1) 8 l)
      (sym (append_assoc (relates_block relates) (flat_map not_understood_block names) rest))
      ∙ ap (λ l. 3 ∷ l) (children-inside blocks rest 0 0 8 blocks-inside)
      ∙ ap (λ n. 3 ∷ n ∷ children_from (Some 1) (n + 1) (body ++ ending)) place
      ∙ ap (λ l. 3 ∷ length front ∷ l)
      (children-inside body ending 0 0 (length front + 1)
      (leads-nested body 0 0 false false content))

  kept-there : kept_children items 0 ≡ 3 ∷ length front ∷ []
  unfolding envelopes_on_literals
  kept-there =
      ap (filter (λ (child : ℕ). not (is_passed (slice_get items child)))) root-children
      ∙ kept-both items (length front) body-there refl

  pub parts-there : parts_of items ≡ Ok (record { header = Some 3; body = length front })
  unfolding envelopes_on_literals
  parts-there =
      ap (parts_among items (root_scope items)) kept-there
      ∙ parts-by version items (length front) body-there
      (ap declared behind-body ∙ (begins-with-content body (Close ∷ []) content).declares) refl
