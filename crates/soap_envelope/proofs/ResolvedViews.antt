-- Documents that are resolved to the same names, item by item, have the same view but for Body.
use Rattle.std.proofs.Common.{Bool, List, None, Ok, Option, Result, Some, [], ap, codes, drop}
use Rattle.std.proofs.Common.{filter, flat_map, inl, inr, map, not, option_and_then, option_map}
use Rattle.std.proofs.Common.{option_to_list, refl, slice_get, subst, sym, true, ℕ, ◌&&◌, ◌+◌, ◌∙◌}
use Rattle.std.proofs.Common.{◌∷◌, ◌≡◌}
use Rattle.std.proofs.{Math.Path.fun_ext, lemmas.Bool.cases_Bool, lemmas.Option.slice_get-map}
use Rattle.std.specs.{List.list_all, Option.option_or}
use Rattle.nbfx_values.specs.declared.content.Item.{Item}
use Rattle.soap_envelope.proofs.Bare.{all-bare, bare, bare_of, children-bare, closes-bare}
use Rattle.soap_envelope.proofs.ResolvedPlaces.{Each, attribute-known, attribute_in, children-stand}
use Rattle.soap_envelope.proofs.ResolvedPlaces.{each-map, element-known, named, named-starts}
use Rattle.soap_envelope.proofs.{Bare.seen-alike, ResolvedPlaces.root-starts}
use Rattle.soap_envelope.specs.Blocks.{block_of, blocks_among, soap_attribute_of}
use Rattle.soap_envelope.specs.Characters.{characters_of, has_plain_content, is_passed, is_plain}
use Rattle.soap_envelope.specs.Children.{children_of, close_of, is_start}
use Rattle.soap_envelope.specs.Headers.{addresses, bad_child, bad_children, bad_content}
use Rattle.soap_envelope.specs.Headers.{bad_in_block, counted_at, counts_as, earlier, is_address}
use Rattle.soap_envelope.specs.Headers.{is_bad_content, only, repeated}
use Rattle.soap_envelope.specs.Parts.{element_name, is_element, is_some_name, kept_children}
use Rattle.soap_envelope.specs.Parts.{parts_among, parts_behind, parts_of, root_scope, wrong_name}
use Rattle.soap_envelope.specs.View.{View, address_in, blocks_of, fault_among, header_children}
use Rattle.soap_envelope.specs.View.{header_fault, header_scope, reply_address_at, text_item}
use Rattle.soap_envelope.specs.View.{texts_at, texts_of, unless, viewed, viewed_by, viewed_in}
use Rattle.soap_envelope.specs.declared.refusals.SoapFault.TheVariants.{BadHeader, BadNames}
use Rattle.soap_envelope.specs.declared.refusals.SoapFault.TheVariants.{RepeatedHeader}
use Rattle.soap_envelope.specs.{BadNames.bad_name, Bindings.scope_to, Characters.text_of}
use Rattle.soap_envelope.specs.{Laws.NamesAreAll, Names.soap, Parts.wrong_root, Renaming.headed}
use Rattle.soap_envelope.specs.{Renaming.headed_by, Resolved.resolved, Scopes.Scope, Scopes.within}
use Rattle.soap_envelope.specs.{Versions.namespace, Versions.version_of}
use Rattle.soap_envelope.specs.{declared.blocks.Block.Block, declared.parts.Parts.Parts}
use Rattle.soap_envelope.specs.{declared.refusals.SoapFault.SoapFault}
use Rattle.soap_envelope.specs.{declared.versions.Addressing.Addressing}

-- what holds of each of places, by two facts, in a filter, and of filters by tests that agree
each-both : (P Q : ℕ → Type 0) (cs : List ℕ) → Each P cs → Each Q cs → Each (λ c. P c × Q c) cs
each-both P Q [] h k = tt
each-both P Q (c ∷ cs) h k = ((h.0, k.0), each-both P Q cs h.1 k.1)

pub each-filter : (P : ℕ → Type 0) (f : ℕ → Bool) (cs : List ℕ) → Each P cs → Each P (filter f cs)
each-filter P f [] h = tt
each-filter P f (c ∷ cs) h = elim (cases_Bool (f c)) [
  | inl is ↦ rw is (h.0, each-filter P f cs h.1)
  | inr other ↦ rw other (each-filter P f cs h.1)
]

filter-alike : (f g : ℕ → Bool) (cs : List ℕ) → Each (λ c. f c ≡ g c) cs
    → filter f cs ≡ filter g cs
filter-alike f g [] h = refl
filter-alike f g (c ∷ cs) h = elim (cases_Bool (g c)) [
  | inl is ↦ rw (h.0, is) (ap (λ l. c ∷ l) (filter-alike f g cs h.1))
  | inr other ↦ rw (h.0, other) (filter-alike f g cs h.1)
]

headed-unless : (o : Option SoapFault) (a b : Result View SoapFault)
    → headed_by a ≡ headed_by b → headed_by (unless o a) ≡ headed_by (unless o b)
headed-unless None a b h = h
headed-unless (Some fault) a b h = refl

module _ (items other : List Item) (alike : resolved items ≡ resolved other) where
  -- what is seen without names
  bares : map bare items ≡ map bare other
  bares = sym (all-bare [] items) ∙ ap (map bare_of) alike ∙ all-bare [] other

  there : (c : ℕ) → option_map bare (slice_get items c) ≡ option_map bare (slice_get other c)
  there c =
      sym (slice_get-map bare items c) ∙ ap (λ l. slice_get l c) bares
      ∙ slice_get-map bare other c

  seen : {X : Type 0} (f : Option Item → X)
      → ((o : Option Item) → f (option_map bare o) ≡ f o) → (c : ℕ)
      → f (slice_get items c) ≡ f (slice_get other c)
  seen f same c = sym (same (slice_get items c)) ∙ ap f (there c) ∙ same (slice_get other c)

  starts : (c : ℕ) → is_start (slice_get items c) ≡ is_start (slice_get other c)
  starts = seen is_start (λ o. (seen-alike o).start)

  children : (p : ℕ) → children_of items p ≡ children_of other p
  children p = sym (children-bare items p) ∙ ap (λ l. children_of l p) bares
      ∙ children-bare other p

  closes : (p : ℕ) → close_of items p ≡ close_of other p
  closes p = sym (closes-bare items p) ∙ ap (λ l. close_of l p) bares ∙ closes-bare other p

  kept : (p : ℕ) → kept_children items p ≡ kept_children other p
  kept p =
      ap (λ t. filter t (children_of items p))
      (fun_ext (seen (λ o. not (is_passed o)) (λ o. ap not (seen-alike o).passed)))
      ∙ ap (filter (λ (c : ℕ). not (is_passed (slice_get other c)))) (children p)

  plain : (p : ℕ) → has_plain_content items p ≡ has_plain_content other p
  plain p =
      ap (λ t. list_all t (children_of items p))
      (fun_ext (seen is_plain (λ o. (seen-alike o).plain)))
      ∙ ap (list_all (λ (c : ℕ). is_plain (slice_get other c))) (children p)

  characters : (p : ℕ) → text_of items p ≡ text_of other p
  characters p =
      ap (λ t. flat_map t (children_of items p))
      (fun_ext (seen characters_of (λ o. (seen-alike o).characters)))
      ∙ ap (flat_map (λ (c : ℕ). characters_of (slice_get other c))) (children p)

  texts : (p : ℕ) → texts_of items p ≡ texts_of other p
  texts p =
      ap (λ t. flat_map t (children_of items p))
      (fun_ext (seen (λ o. option_to_list (text_item o)) (λ o. ap option_to_list
      (seen-alike o).text)))
      ∙ ap (flat_map (λ (c : ℕ). option_to_list (text_item (slice_get other c)))) (children p)

  texts-at : (o : Option ℕ) → texts_at items o ≡ texts_at other o
  texts-at None = refl
  texts-at (Some p) = texts p

  -- these declarations stand around a place, and an element begins there
  abbrev Stands : (one two : Scope) → ℕ → Type 0
  Stands one two c = (scope_to [] c items ≡ one) × (scope_to [] c other ≡ two)

  abbrev Begun : ℕ → Type 0
  Begun c = is_start (slice_get items c) ≡ true

  names : (one two : Scope) (c : ℕ) → Stands one two c
      → element_name items one c ≡ element_name other two c
  names one two c s =
      element-known items c one s.0 ∙ ap (λ l. named (slice_get l c)) alike
      ∙ sym (element-known other c two s.1)

  elements : (one two : Scope) (u l : List ℕ) (c : ℕ) → Stands one two c
      → is_element items one u l c ≡ is_element other two u l c
  elements one two u l c s = ap (is_some_name u l) (names one two c s)

  attributes : (one two : Scope) (name : List ℕ) (c : ℕ) → Stands one two c → Begun c
      → soap_attribute_of items one name c ≡ soap_attribute_of other two name c
  attributes one two name c s b =
      attribute-known items name c one s.0 b
      ∙ ap (λ l. attribute_in name (c + 1) (drop (c + 1) l)) alike
      ∙ sym (attribute-known other name c two s.1 (sym (starts c) ∙ b))

  within-both : (one two : Scope) (p : ℕ) → Stands one two p → Begun p
      → Each (Stands (within items p one) (within other p two)) (children_of items p)
  within-both one two p s b =
      let theirs = children-stand other p two s.1 (sym (starts p) ∙ b) in
      each-both (λ c. scope_to [] c items ≡ within items p one)
      (λ c. scope_to [] c other ≡ within other p two) (children_of items p)
      (children-stand items p one s.0 b)
      (subst (Each (λ c. scope_to [] c other ≡ within other p two)) (sym (children p)) theirs)

  -- blocks
  blocks : (one two : Scope) (c : ℕ) → Stands one two c → Begun c
      → block_of items one c ≡ block_of other two c
  blocks one two c s b =
      rw (
        names one two c s,
        attributes one two (codes "mustUnderstand") c s b,
        attributes one two (codes "role") c s b,
        closes c,
      ) refl

  addresses-alike : (version : Addressing) (one two : Scope) (p : ℕ) → Stands one two p → Begun p
      → addresses version items one p ≡ addresses version other two p
  addresses-alike version one two p s b =
      let mine = within items p one in
      let its = within other p two in
      filter-alike (is_address version items mine) (is_address version other its) (children_of
      items p)
      (each-map (Stands mine its) (λ c. is_address version items mine c ≡ is_address version other
      its c)
      (λ c t. ap (λ (e : Bool). e && has_plain_content items c)
      (elements mine its (namespace version) (codes "Address") c t)
      ∙ ap (λ (e : Bool). is_element other its (namespace version) (codes "Address") c && e) (plain
      c))
      (children_of items p) (within-both one two p s b))
      ∙ ap (filter (is_address version other its)) (children p)

  contents : (version : Addressing) (one two : Scope) (b : Block) → Stands one two b.from
      → Begun b.from
      → is_bad_content version items one b ≡ is_bad_content version other two b
  contents version one two b s h = rw (plain b.from, addresses-alike version one two b.from s h)
      refl

  bad-blocks : (one two : Scope) (b : Block) → Stands one two b.from → Begun b.from
      → bad_in_block items one b ≡ bad_in_block other two b
  bad-blocks one two b s h =
      rw (
        attributes one two (codes "mustUnderstand") b.from s h,
        attributes one two (codes "role") b.from s h,
      ) refl

  bad-child : (one two : Scope) (c : ℕ) → Stands one two c
      → bad_child items one c ≡ bad_child other two c
  bad-child one two c s = elim (cases_Bool (is_start (slice_get items c))) [
    | inl is ↦ rw (is, sym (starts c) ∙ is)
        (ap (bad_in_block items one) (blocks one two c s is)
        ∙ bad-blocks one two (block_of other two c) s is)
    | inr none ↦ rw (none, sym (starts c) ∙ none) refl
  ]

  bad-children : (one two : Scope) (cs : List ℕ) → Each (Stands one two) cs
      → bad_children items one cs ≡ bad_children other two cs
  bad-children one two [] h = refl
  bad-children one two (c ∷ cs) h =
      rw (bad-child one two c h.0)
      (ap (option_or (bad_child other two c)) (bad-children one two cs h.1))

  bad-contents : (version : Addressing) (one two : Scope) (cs : List ℕ) → Each (Stands one two) cs
      → bad_content version items one (blocks_among items one cs)
      ≡ bad_content version other two (blocks_among items one cs)
  bad-contents version one two [] h = refl
  bad-contents version one two (c ∷ cs) h = elim (cases_Bool (is_start (slice_get items c))) [
    | inl is ↦ rw (is, contents version one two (block_of items one c) h.0 is)
        (elim (cases_Bool (is_bad_content version other two (block_of items one c))) [
          | inl bad ↦ rw bad refl
          | inr good ↦ rw good (bad-contents version one two cs h.1)
        ])
    | inr none ↦ rw none (bad-contents version one two cs h.1)
  ]

  all-blocks : (one two : Scope) (cs : List ℕ) → Each (Stands one two) cs
      → blocks_among items one cs ≡ blocks_among other two cs
  all-blocks one two [] h = refl
  all-blocks one two (c ∷ cs) h = elim (cases_Bool (is_start (slice_get items c))) [
    | inl is ↦ rw (is, sym (starts c) ∙ is)
        (ap (λ b. b ∷ blocks_among items one cs) (blocks one two c h.0 is)
        ∙ ap (λ l. block_of other two c ∷ l) (all-blocks one two cs h.1))
    | inr none ↦ rw (none, sym (starts c) ∙ none) (all-blocks one two cs h.1)
  ]

  -- a block that counts begins an element in Header
  counted-stands : (version : Addressing) (one two : Scope) (local cs : List ℕ)
      → Each (Stands one two) cs → (p : ℕ)
      → counted_at version local (blocks_among items one cs) ≡ Some p → Stands one two p × Begun p
  counted-stands version one two local [] h p k = absurd cc
  counted-stands version one two local (c ∷ cs) h p k =
      elim (cases_Bool (is_start (slice_get items c))) [
        | inl is ↦ elim (cases_Bool (counts_as version local (block_of items one c))) [
          | inl counts ↦
              let found : Some c ≡ Some p = rw (is, counts) at k in
              let same : c ≡ p = cc in
              subst (λ q. Stands one two q × Begun q) same (h.0, is)
          | inr passed ↦ counted-stands version one two local cs h.1 p (rw (is, passed) at k)
        ]
        | inr none ↦ counted-stands version one two local cs h.1 p (rw none at k)
      ]

  reply-to : (version : Addressing) (one two : Scope) (cs : List ℕ) → Each (Stands one two) cs
      → reply_address_at version items one (blocks_among items one cs)
      ≡ reply_address_at version other two (blocks_among other two cs)
  reply-to version one two cs h =
      by (counted_at version (codes "ReplyTo") (blocks_among items one cs)) refl
      ∙ ap (λ l. option_and_then (address_in version other two) (counted_at version (codes
      "ReplyTo") l))
      (all-blocks one two cs h)
    where
      by : (o : Option ℕ) → counted_at version (codes "ReplyTo") (blocks_among items one cs) ≡ o
          → option_and_then (address_in version items one) o ≡ option_and_then (address_in version
          other two) o
      by None k = refl
      by (Some p) k =
          let r = counted-stands version one two (codes "ReplyTo") cs h p k in
          ap only (addresses-alike version one two p r.0 r.1)

  -- Header
  abbrev root : Scope
  root = root_scope items

  abbrev other_root : Scope
  other_root = root_scope other

  abbrev HeaderStands : Option ℕ → Type 0
  HeaderStands None = Unit {0}
  HeaderStands (Some c) = Stands root other_root c × Begun c

  in-header : (header : Option ℕ) → HeaderStands header
      → Each (Stands (header_scope items header) (header_scope other header))
      (header_children items header)
  in-header None s = tt
  in-header (Some c) s =
      each-filter (Stands (within items c root) (within other c other_root))
      (λ child. not (is_passed (slice_get items child))) (children_of items c)
      (within-both root other_root c s.0 s.1)

  header-children : (header : Option ℕ)
      → header_children items header ≡ header_children other header
  header-children None = refl
  header-children (Some c) = kept c

  header-blocks : (header : Option ℕ) → HeaderStands header
      → blocks_of items header ≡ blocks_of other header
  header-blocks header s =
      all-blocks (header_scope items header) (header_scope other header)
      (header_children items header) (in-header header s)
      ∙ ap (blocks_among other (header_scope other header)) (header-children header)

  header-faults : (header : Option ℕ) → HeaderStands header
      → header_fault items header ≡ header_fault other header
  header-faults header s =
      let one = header_scope items header in
      let two = header_scope other header in
      let cs = header_children items header in
      let mine = blocks_of items header in
      let version = version_of mine in
      ap (λ o. fault_among version items one o mine) (bad-children one two cs (in-header header s))
      ∙ ap (λ o. option_or (option_map RepeatedHeader (repeated version mine))
      (option_map BadHeader (earlier (bad_children other two cs) o)))
      (bad-contents version one two cs (in-header header s))
      ∙ ap (λ l. fault_among version other two (bad_children other two l) mine)
      (header-children header)
      ∙ ap (λ bs. fault_among (version_of bs) other two
      (bad_children other two (header_children other header)) bs) (header-blocks header s)

  -- the view, where Header and Body stand at the same places
  views : (parts : Parts) → HeaderStands parts.header
      → headed (viewed items parts) ≡ headed (viewed other parts)
  views parts s =
      let mine = blocks_of items parts.header in
      let its = blocks_of other parts.header in
      let one = header_scope items parts.header in
      let two = header_scope other parts.header in
      let version = version_of its in
      let seen : (action reply : Option (List ℕ)) → List Item → View =
      (λ action reply message. record {
        blocks = its;
        version = version;
        action = action;
        reply_address = reply;
        message_id = message;
        body_at = parts.body;
        body = [];
      }) in
      let acts : option_map (text_of items) (counted_at version (codes "Action") its)
      ≡ option_map (text_of other) (counted_at version (codes "Action") its) =
      ap (λ (t : ℕ → List ℕ). option_map t (counted_at version (codes "Action") its))
      (fun_ext characters) in
      let same : mine ≡ its = header-blocks parts.header s in
      let replies : option_map (text_of items) (reply_address_at version items one its)
      ≡ option_map (text_of other) (reply_address_at version other two its) =
      ap (λ (t : ℕ → List ℕ). option_map t (reply_address_at version items one its))
      (fun_ext characters)
      ∙ ap (option_map (text_of other))
      (ap (reply_address_at version items one) (sym same)
      ∙ reply-to version one two (header_children items parts.header) (in-header parts.header s)
      ∙ ap (λ l. reply_address_at version other two (blocks_among other two l))
      (header-children parts.header)) in
      let messages : texts_at items (counted_at version (codes "MessageID") its)
      ≡ texts_at other (counted_at version (codes "MessageID") its) =
      texts-at (counted_at version (codes "MessageID") its) in
      ap (λ bs. headed (viewed_in (version_of bs) bs items parts)) same
      ∙ ap (λ a. seen a (option_map (text_of items) (reply_address_at version items one its))
      (texts_at items (counted_at version (codes "MessageID") its))) acts
      ∙ ap (λ r. seen (option_map (text_of other) (counted_at version (codes "Action") its)) r
      (texts_at items (counted_at version (codes "MessageID") its))) replies
      ∙ ap (seen (option_map (text_of other) (counted_at version (codes "Action") its))
      (option_map (text_of other) (reply_address_at version other two its))) messages

  by-parts : (parts : Parts) → HeaderStands parts.header
      → headed_by (viewed_by items (Ok parts)) ≡ headed_by (viewed_by other (Ok parts))
  by-parts parts s =
      ap (λ o. headed_by (unless o (Ok (viewed items parts)))) (header-faults parts.header s)
      ∙ headed-unless (header_fault other parts.header) (Ok (viewed items parts))
      (Ok (viewed other parts)) (ap (λ (v : View). Ok v) (views parts s))

  -- the root's children
  behind-header : (header : Option ℕ) → HeaderStands header → (cs : List ℕ)
      → Each (Stands root other_root) cs
      → headed_by (viewed_by items (parts_behind items root header cs))
      ≡ headed_by (viewed_by other (parts_behind other other_root header cs))
  behind-header header s [] h = refl
  behind-header header s (c ∷ []) h =
      let e = elements root other_root soap (codes "Body") c h.0 in
      elim (cases_Bool (is_element items root soap (codes "Body") c)) [
        | inl is ↦ rw (is, sym e ∙ is) (by-parts (record { header = header; body = c }) s)
        | inr none ↦ rw (none, sym e ∙ none) refl
      ]
  behind-header header s (c ∷ next ∷ more) h =
      rw (elements root other_root soap (codes "Body") c h.0)
      (elim (cases_Bool (is_element other other_root soap (codes "Body") c)) [
        | inl is ↦ rw is refl
        | inr none ↦ rw none refl
      ])

  among-children : (cs : List ℕ) → Each (Stands root other_root) cs
      → headed_by (viewed_by items (parts_among items root cs))
      ≡ headed_by (viewed_by other (parts_among other other_root cs))
  among-children [] h = refl
  among-children (c ∷ cs) h =
      let e = elements root other_root soap (codes "Header") c h.0 in
      elim (cases_Bool (is_element items root soap (codes "Header") c)) [
        | inl is ↦
            let begun = named-starts (within items c root) soap (codes "Header")
            (slice_get items c) is in
            rw (is, sym e ∙ is) (behind-header (Some c) (h.0, begun) cs h.1)
        | inr none ↦ rw (none, sym e ∙ none) (behind-header None tt (c ∷ cs) h)
      ]

  of-parts : Begun 0
      → headed_by (viewed_by items (parts_of items)) ≡ headed_by (viewed_by other (parts_of other))
  of-parts b =
      among-children (kept_children items 0)
      (each-filter (Stands root other_root) (λ child. not (is_passed (slice_get items child)))
      (children_of items 0) (within-both [] [] 0 (refl, refl) b))
      ∙ ap (λ l. headed_by (viewed_by other (parts_among other other_root l))) (kept 0)

  of-root : headed_by (unless (wrong_root items) (viewed_by items (parts_of items)))
      ≡ headed_by (unless (wrong_root other) (viewed_by other (parts_of other)))
  of-root =
      by (wrong_root items) refl
      ∙ ap (λ o. headed_by (unless o (viewed_by other (parts_of other))))
      (ap wrong_name (names [] [] 0 (refl, refl)))
    where
      by : (o : Option SoapFault) → wrong_root items ≡ o
          → headed_by (unless o (viewed_by items (parts_of items)))
          ≡ headed_by (unless o (viewed_by other (parts_of other)))
      by None k = of-parts (root-starts (within items 0 []) (slice_get items 0) k)
      by (Some fault) k = refl

pub names_are_all : NamesAreAll
names_are_all items other good alike =
    ap (λ o. headed_by (unless (option_map BadNames o)
    (unless (wrong_root items) (viewed_by items (parts_of items))))) good
    ∙ headed-unless (option_map BadNames (bad_name other))
    (unless (wrong_root items) (viewed_by items (parts_of items)))
    (unless (wrong_root other) (viewed_by other (parts_of other)))
    (of-root items other alike)
