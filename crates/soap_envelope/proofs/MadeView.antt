-- The blocks of a reply's Header, and its view.
use Rattle.std.proofs.Common.{List, None, Ok, Some, [], ap, append-nil, append_assoc, arith}
use Rattle.std.proofs.Common.{bytes_eq, codes, drop, false, filter, flat_map, inl, inr, length}
use Rattle.std.proofs.Common.{length-append, not, option_and_then, option_map, refl, slice_get, sym}
use Rattle.std.proofs.Common.{true, ℕ, ◌++◌, ◌+◌, ◌∙◌, ◌∷◌, ◌≡◌, ◌⊎◌}
use Rattle.std.proofs.lemmas.Slice.Eq.{bytes_eq-Decides}
use Rattle.std.specs.{List.list_all, Option.option_or, Prelude.⊤}
use Rattle.nbfx_values.specs.declared.content.Item.TheVariants.{Attr, Close, Text, Xmlns}
use Rattle.nbfx_values.specs.declared.scalars.Scalar.TheVariants.{Text as TextOf}
use Rattle.nbfx_values.specs.{declared.content.Item.Item, declared.scalars.Value.TheVariants.One}
use Rattle.soap_envelope.proofs.MadeNames.{begins-with-content, made-named}
use Rattle.soap_envelope.proofs.MadeParts.{behind-body, drop-behind, front, get-behind, items}
use Rattle.soap_envelope.proofs.MadeParts.{parts-there, texts-nested}
use Rattle.soap_envelope.proofs.Nesting.{children-inside, close-inside, leads-nested}
use Rattle.soap_envelope.proofs.{Nesting.standing-inside, OnLiterals.envelopes_on_literals}
use Rattle.soap_envelope.specs.Body.{behind_head, body_items, needed, self_standing}
use Rattle.soap_envelope.specs.Children.{children_from, close_from, is_start}
use Rattle.soap_envelope.specs.Headers.{bad_children, bad_content, bad_in_block, counted_at}
use Rattle.soap_envelope.specs.Headers.{first_counted, is_bad_content, repeated, repeated_behind}
use Rattle.soap_envelope.specs.Made.{StandsInReplies, action_seen, behind_names, behind_relates}
use Rattle.soap_envelope.specs.Made.{blocks_seen, made_view, name_seen, names_seen, relates_seen}
use Rattle.soap_envelope.specs.Making.{IsContent, action_block, ending, envelope_items}
use Rattle.soap_envelope.specs.Making.{is_valid_text, middle, opening, relates_block, soap_start}
use Rattle.soap_envelope.specs.Parts.{kept_children, parts_of, root_scope, wrong_root}
use Rattle.soap_envelope.specs.View.{View, address_in, blocks_of, fault_among, header_fault}
use Rattle.soap_envelope.specs.View.{texts_at, unless, view, viewed, viewed_by, viewed_in}
use Rattle.soap_envelope.specs.declared.refusals.SoapFault.TheVariants.{BadHeader, BadNames}
use Rattle.soap_envelope.specs.declared.refusals.SoapFault.TheVariants.{RepeatedHeader}
use Rattle.soap_envelope.specs.declared.versions.Addressing.TheVariants.{V10, V200408}
use Rattle.soap_envelope.specs.{Blocks.block_of, Blocks.blocks_among, Characters.is_passed}
use Rattle.soap_envelope.specs.{Characters.text_of, Faults.not_understood_block, Made.reply_root}
use Rattle.soap_envelope.specs.{Made.reply_scope, Names.qualified_name, Names.soap, Qualified.Name}
use Rattle.soap_envelope.specs.{Scopes.Scope, Scopes.declared, Versions.namespace}
use Rattle.soap_envelope.specs.{Versions.version_of, declared.blocks.Block.Block}
use Rattle.soap_envelope.specs.{declared.versions.Addressing.Addressing}

-- a block begins at a place, and nothing is wrong with it in a version
record IsBlock (version : Addressing) (items : List Item) (scope : Scope) (at : ℕ) (b : Block) :
    Type 0 where
  kept : is_passed (slice_get items at) ≡ false
  start : is_start (slice_get items at) ≡ true
  block : block_of items scope at ≡ b
  good : bad_in_block items scope b ≡ None
  content : is_bad_content version items scope b ≡ false

module _ (version : Addressing) (items : List Item) (scope : Scope) where
  -- and so at each of some places
  abbrev AreBlocks : List ℕ → List Block → Type 0
  AreBlocks [] [] = ⊤
  AreBlocks (at ∷ more) (b ∷ bs) = IsBlock version items scope at b × AreBlocks more bs
  AreBlocks places bs = ⊥

  kept-all : (places : List ℕ) (bs : List Block) → AreBlocks places bs
      → filter (λ child. not (is_passed (slice_get items child))) places ≡ places
  kept-all [] [] h = refl
  kept-all (at ∷ more) (b ∷ bs) (first, others) =
      rw first.kept (ap (λ l. at ∷ l) (kept-all more bs others))
  kept-all places bs h = absurd h

  blocks-all : (places : List ℕ) (bs : List Block) → AreBlocks places bs
      → blocks_among items scope places ≡ bs
  blocks-all [] [] h = refl
  blocks-all (at ∷ more) (b ∷ bs) (first, others) =
      rw (first.start, first.block) (ap (λ l. b ∷ l) (blocks-all more bs others))
  blocks-all places bs h = absurd h

  none-bad : (places : List ℕ) (bs : List Block) → AreBlocks places bs
      → bad_children items scope places ≡ None
  none-bad [] [] h = refl
  none-bad (at ∷ more) (b ∷ bs) (first, others) =
      rw first.start
      (ap (λ o. option_or o (bad_children items scope more))
      (ap (bad_in_block items scope) first.block ∙ first.good)
      ∙ none-bad more bs others)
  none-bad places bs h = absurd h

  none-bad-content : (places : List ℕ) (bs : List Block) → AreBlocks places bs
      → bad_content version items scope bs ≡ None
  none-bad-content [] [] h = refl
  none-bad-content (at ∷ more) (b ∷ bs) (first, others) =
      rw first.content (none-bad-content more bs others)
  none-bad-content places bs h = absurd h

  both-blocks : (places others : List ℕ) (bs cs : List Block) → AreBlocks places bs
      → AreBlocks others cs → AreBlocks (places ++ others) (bs ++ cs)
  both-blocks [] others [] cs h k = k
  both-blocks (at ∷ more) others (b ∷ bs) cs (first, h) k =
      (first, both-blocks more others bs cs h k)
  both-blocks places others bs cs h k = absurd h

-- the places of the blocks after Action
abbrev relates_places : List Item → List ℕ
relates_places [] = []
relates_places texts = 8 ∷ []

abbrev names_places : ℕ → List Name → List ℕ
names_places at [] = []
names_places at (name ∷ more) = at ∷ names_places (at + 4) more

names-children : (names : List Name) (body : List Item) (at : ℕ)
    → children_from (Some 0) at
    (flat_map not_understood_block names ++ (middle ++ (body ++ ending))) ≡ names_places at names
names-children [] body at = refl
names-children (name ∷ names) body at =
    ap (λ l. at ∷ l)
    (names-children names body (at + 1 + 1 + 1 + 1)
    ∙ ap (λ n. names_places n names) (omega arith))

relates-children : (texts tail : List Item) → list_all is_valid_text texts ≡ true
    → children_from (Some 0) 8 (relates_block texts ++ tail)
    ≡ relates_places texts ++ children_from (Some 0) (behind_relates texts) tail
relates-children [] tail h = refl
relates-children (Text v ∷ texts) tail h =
    ap (λ l. 8 ∷ children_from (Some 1) 9 l) (append_assoc (Text v ∷ texts) (Close ∷ []) tail)
    ∙ ap (λ l. 8 ∷ l)
    (children-inside (Text v ∷ texts) (Close ∷ tail) 0 0 9 (texts-nested (Text v ∷ texts) 0 h)
    ∙ ap (λ n. children_from (Some 0) n tail) (omega arith))
relates-children (x ∷ texts) tail h = absurd cc

-- a version's namespace isn't SOAP's
not-soap : (version : Addressing) → bytes_eq soap (namespace version) ≡ false
unfolding envelopes_on_literals
not-soap V10 = refl
not-soap V200408 = refl

own-name : (version : Addressing) → bytes_eq (namespace version) (namespace version) ≡ true
own-name version = (bytes_eq-Decides (namespace version) (namespace version)).1 refl

-- of these blocks none but Action counts, and none is repeated
names-uncounted : (version : Addressing) (local : List ℕ) (names : List Name) (at : ℕ)
    → first_counted version local (names_seen at names) ≡ None
names-uncounted version local [] at = refl
names-uncounted version local (name ∷ names) at =
    rw (not-soap version) (names-uncounted version local names (at + 4))

names-unrepeated : (version : Addressing) (before : List Block) (names : List Name) (at : ℕ)
    → repeated_behind version before (names_seen at names) ≡ None
names-unrepeated version before [] at = refl
names-unrepeated version before (name ∷ names) at =
    rw (not-soap version) (names-unrepeated version (before ++ name_seen at ∷ []) names (at + 4))

unrepeated : (version : Addressing) (relates : List Item) (names : List Name)
    → repeated version (blocks_seen version relates names) ≡ None
unrepeated version [] names =
    rw (own-name version) (names-unrepeated version (action_seen version ∷ []) names 8)
unrepeated version (text ∷ texts) names =
    rw (own-name version)
    (names-unrepeated version (action_seen version ∷ relates_seen version (text ∷ texts)) names
    (behind_relates (text ∷ texts)))

uncounted : (version : Addressing) (local : List ℕ) (relates : List Item) (names : List Name)
    → bytes_eq (codes "Action") local ≡ false → bytes_eq (codes "RelatesTo") local ≡ false
    → first_counted version local (blocks_seen version relates names) ≡ None
uncounted version local [] names action related =
    rw (own-name version, action) (names-uncounted version local names 8)
uncounted version local (text ∷ texts) names action related =
    rw (own-name version, action, related)
    (names-uncounted version local names (behind_relates (text ∷ texts)))

-- the Action has the version, and counts
action-first : (version : Addressing) (more : List Block)
    → (version_of (action_seen version ∷ more) ≡ version)
    × (counted_at version (codes "Action") (action_seen version ∷ more) ≡ Some 4)
unfolding envelopes_on_literals
action-first V10 more = (refl, refl)
action-first V200408 more = (refl, refl)

has-namespace : (version : Addressing) → bytes_eq (namespace version) [] ≡ false
unfolding envelopes_on_literals
has-namespace V10 = refl
has-namespace V200408 = refl

-- the content of other blocks may be any
content-free : (version : Addressing) (items : List Item) (scope : Scope) (b : Block)
    → (b.name ≡ qualified_name soap (codes "NotUnderstood"))
    ⊎ (b.name ≡ qualified_name (namespace version) (codes "RelatesTo")) → b.targeted ≡ true
    → is_bad_content version items scope b ≡ false
content-free version items scope b (inl is) targeted = rw (targeted, is, not-soap version) refl
content-free version items scope b (inr is) targeted = rw (targeted, is, own-name version) refl

-- the block of a name, where it stands after a front
name-block : (version : Addressing) (all before more : List Item) (name : Name)
    → all ≡ before ++ (not_understood_block name ++ more)
    → IsBlock version all (reply_scope version) (length before) (name_seen (length before))
unfolding envelopes_on_literals
name-block version all before more name is =
    let inner : List Item = Xmlns (codes "n") name.uri
    ∷ Attr [] (codes "qname") (One (TextOf (codes "n:" ++ name.local))) ∷ Close ∷ more in
    let got : slice_get all (length before) ≡ Some (soap_start (codes "NotUnderstood")) =
    ap (λ l. slice_get l (length before)) is
    ∙ get-behind before (soap_start (codes "NotUnderstood")) inner in
    let left : drop (length before + 1) all ≡ inner =
    ap (λ l. drop (length before + 1) l) is
    ∙ drop-behind before (soap_start (codes "NotUnderstood")) inner in
    record {
      kept = rw got refl;
      start = rw got refl;
      block = rw (got, left)
          (ap (λ (n : ℕ). record (name_seen (length before)) { to = n }) (omega arith));
      good = rw left refl;
      content = content-free version all (reply_scope version) (name_seen (length before))
          (inl refl) refl;
    }

names-blocks : (version : Addressing) (all before tail : List Item) (names : List Name) (at : ℕ)
    → all ≡ before ++ (flat_map not_understood_block names ++ tail) → at ≡ length before
    → AreBlocks version all (reply_scope version) (names_places at names) (names_seen at names)
names-blocks version all before tail [] at is place = tt
names-blocks version all before tail (name ∷ names) at is place =
    let others = flat_map not_understood_block names ++ tail in
    let one = name-block version all before others name is in (
      rw place one,
      names-blocks version all (before ++ not_understood_block name) tail names (at + 4)
          (is ∙ sym (append_assoc before (not_understood_block name) others))
          (omega (arith, place, length-append before (not_understood_block name))),
    )

-- the content of Body, where this stands after its beginning
abbrev standing_behind : Addressing → List Item → List Item
standing_behind version tail =
    self_standing (needed version (declared tail ∷ reply_root version)) (Some 0) (behind_head tail)

body-stands : (version : Addressing) (body : List Item) → IsContent body
    → standing_behind version (body ++ ending) ≡ body
unfolding envelopes_on_literals
body-stands version body content =
    let begins = begins-with-content body (Close ∷ []) content in
    rw (begins.declares, begins.head, none version)
    (standing-inside body ending 0 0 (leads-nested body 0 0 false false content)
    ∙ append-nil body)
  where
    none : (v : Addressing) → needed v (reply_scope v) ≡ []
    none V10 = refl
    none V200408 = refl

module _ (version : Addressing) (action : List ℕ) (relates : List Item) (names : List Name)
    (body : List Item) (texts : list_all is_valid_text relates ≡ true) (content : IsContent body)
    (named : StandsInReplies version body) where
  abbrev all : List Item
  all = items version action relates names body texts content

  abbrev places : List ℕ
  places = 4 ∷ (relates_places relates ++ names_places (behind_relates relates) names)

  abbrev blocks : List Block
  blocks = blocks_seen version relates names

  action-block : IsBlock version all (reply_scope version) 4 (action_seen version)
  unfolding envelopes_on_literals
  action-block =
      record {
        kept = refl;
        start = refl;
        block = refl;
        good = rw (has-namespace version) refl;
        content = by version;
      }
    where
      by : (v : Addressing) → is_bad_content v (items v action relates names body texts content)
          (reply_scope v) (action_seen v) ≡ false
      by V10 = refl
      by V200408 = refl

  relates-blocks : (ts : List Item) → list_all is_valid_text ts ≡ true → relates ≡ ts
      → AreBlocks version all (reply_scope version) (relates_places ts) (relates_seen version ts)
  unfolding envelopes_on_literals
  relates-blocks [] h is = tt
  relates-blocks (Text v ∷ ts) h is =
      let tail = flat_map not_understood_block names ++ (middle ++ (body ++ ending)) in
      let closed : close_from 0 9 ((Text v ∷ ts ++ Close ∷ []) ++ tail) ≡ 9 + length (Text v ∷ ts) =
      ap (close_from 0 9) (append_assoc (Text v ∷ ts) (Close ∷ []) tail)
      ∙ close-inside (Text v ∷ ts) (Close ∷ tail) 0 0 9 (texts-nested (Text v ∷ ts) 0 h) in (
        rw is (record {
          kept = refl;
          start = refl;
          block = ap (λ (n : ℕ). record (action_seen version) {
            name = qualified_name (namespace version) (codes "RelatesTo");
            must_understand = false;
            from = 8;
            to = n;
          }) closed;
          good = rw (has-namespace version) refl;
          content = content-free version
              (envelope_items version action (Text v ∷ ts) (flat_map not_understood_block names)
              body) (reply_scope version)
              (record (action_seen version) {
                name = qualified_name (namespace version) (codes "RelatesTo");
                must_understand = false;
                from = 8;
                to = 9 + length (Text v ∷ ts);
              }) (inr refl) refl;
        }),
        tt,
      )
  relates-blocks (x ∷ ts) h is = absurd cc

  before-names : all ≡ (opening version ++ (action_block action ++ relates_block relates))
      ++ (flat_map not_understood_block names ++ (middle ++ (body ++ ending)))
  before-names = simp append_assoc

  count-relates : (ts : List Item)
      → behind_relates ts ≡ length (opening version ++ (action_block action ++ relates_block ts))
  count-relates [] = refl
  count-relates (t ∷ ts) = omega (arith, length-append (t ∷ ts) (Close ∷ []))

  count-names : (more : List Name) (at : ℕ)
      → behind_names at more ≡ at + length (flat_map not_understood_block more)
  count-names [] at = omega arith
  count-names (name ∷ more) at =
      count-names more (at + 4)
      ∙ omega (
        arith,
        length-append (not_understood_block name) (flat_map not_understood_block more),
      )

  all-blocks : AreBlocks version all (reply_scope version) places blocks
  all-blocks = (
    action-block,
    both-blocks version all (reply_scope version) (relates_places relates)
        (names_places (behind_relates relates) names) (relates_seen version relates)
        (names_seen (behind_relates relates) names) (relates-blocks relates texts refl)
        (names-blocks version all (opening version ++ (action_block action ++ relates_block
        relates))
        (middle ++ (body ++ ending)) names (behind_relates relates) before-names
        (count-relates relates)),
  )

  in-version : version_of blocks ≡ version
  in-version =
      (action-first version
      (relates_seen version relates ++ names_seen (behind_relates relates) names)).0

  header-places : children_from (Some 0) 4 (drop 4 all) ≡ places
  unfolding envelopes_on_literals
  header-places =
      ap (λ l. 4 ∷ l)
      (relates-children relates
      (flat_map not_understood_block names ++ (middle ++ (body ++ ending))) texts
      ∙ ap (λ l. relates_places relates ++ l)
      (names-children names body (behind_relates relates)))

  kept-places : kept_children all 3 ≡ places
  unfolding envelopes_on_literals
  kept-places =
      ap (filter (λ (child : ℕ). not (is_passed (slice_get all child)))) header-places
      ∙ kept-all version all (reply_scope version) places blocks all-blocks

  blocks-there : blocks_of all (Some 3) ≡ blocks
  unfolding envelopes_on_literals
  blocks-there =
      ap (blocks_among all (reply_scope version)) kept-places
      ∙ blocks-all version all (reply_scope version) places blocks all-blocks

  no-fault : header_fault all (Some 3) ≡ None
  unfolding envelopes_on_literals
  no-fault =
      let scope = reply_scope version in
      ap (λ cs. fault_among (version_of (blocks_of all (Some 3))) all scope
      (bad_children all scope cs) (blocks_of all (Some 3))) kept-places
      ∙ ap (λ o. fault_among (version_of (blocks_of all (Some 3))) all scope o
      (blocks_of all (Some 3))) (none-bad version all scope places blocks all-blocks)
      ∙ ap (λ bs. fault_among (version_of bs) all scope None bs) blocks-there
      ∙ ap (λ v. fault_among v all scope None blocks) in-version
      ∙ ap (λ o. option_or (option_map RepeatedHeader o)
      (option_map BadHeader (bad_content version all scope blocks)))
      (unrepeated version relates names)
      ∙ ap (option_map BadHeader) (none-bad-content version all scope places blocks all-blocks)

  abbrev at_body : ℕ
  at_body = length (front version action relates names body texts content)

  body-again : body_items version all (root_scope all) at_body ≡ body
  unfolding envelopes_on_literals
  body-again =
      ap (standing_behind version) (behind-body version action relates names body texts content)
      ∙ body-stands version body content

  -- what is seen with these blocks
  abbrev seen_with : Addressing → List Block → View
  seen_with v bs = viewed_in v bs all (record { header = Some 3; body = at_body })

  body-placed : at_body ≡ behind_names (behind_relates relates) names + 1
  body-placed =
      omega (
        arith,
        length-append (relates_block relates ++ flat_map not_understood_block names) (Close ∷ []),
        length-append (relates_block relates) (flat_map not_understood_block names),
        count-relates relates,
        count-names names (behind_relates relates),
      )

  view-there : seen_with version blocks ≡ made_view version action relates names body
  unfolding envelopes_on_literals
  view-there =
      ap (λ r. record (seen_with version blocks) {
        reply_address = option_map (text_of all)
            (option_and_then (address_in version all (reply_scope version))
            (option_map (λ (b : Block). b.from) r));
      }) (uncounted version (codes "ReplyTo") relates names refl refl)
      ∙ ap (λ m. record (seen_with version blocks) {
        reply_address = None;
        message_id = texts_at all (option_map (λ (b : Block). b.from) m);
      }) (uncounted version (codes "MessageID") relates names refl refl)
      ∙ ap (λ b. record (seen_with version blocks) {
        reply_address = None;
        message_id = [];
        body = b;
      }) body-again
      ∙ ap (λ (n : ℕ). record (seen_with version blocks) {
        reply_address = None;
        message_id = [];
        body_at = n;
        body = body;
      }) body-placed
      ∙ ap (λ a. record (made_view version action relates names body) {
        action = option_map (text_of all) a;
      })
      (action-first version
      (relates_seen version relates ++ names_seen (behind_relates relates) names)).1
      ∙ ap (λ t. record (made_view version action relates names body) { action = Some t })
      (append-nil action)

  pub made-viewed : view all ≡ Ok (made_view version action relates names body)
  unfolding envelopes_on_literals
  made-viewed =
      ap (λ o. unless (option_map BadNames o)
      (unless (wrong_root all) (viewed_by all (parts_of all))))
      (made-named version action relates names body texts content named)
      ∙ ap (viewed_by all) (parts-there version action relates names body texts content)
      ∙ ap (λ f. unless f (Ok (viewed all (record { header = Some 3; body = at_body })))) no-fault
      ∙ ap (λ bs. Ok (seen_with (version_of bs) bs)) blocks-there
      ∙ ap (λ v. Ok (seen_with v blocks)) in-version
      ∙ ap (λ (v : View). Ok v) view-there
