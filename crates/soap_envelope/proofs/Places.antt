-- Where the items of replies and faults lead in a document.
use Rattle.std.proofs.Common.{Bool, List, Option, Some, [], ap, append_assoc, codes, eqb, false}
use Rattle.std.proofs.Common.{length, refl, suc, true, zero, ℕ, ◌++◌, ◌∙◌, ◌∷◌, ◌≡◌}
use Rattle.std.proofs.lemmas.Bool.{and_parts}
use Rattle.std.specs.{List.list_all, Str.is_utf8}
use Rattle.nbfx_values.proofs.Positions.{passed, position_from-append, stepped}
use Rattle.nbfx_values.proofs.Walks.{position_of-document}
use Rattle.nbfx_values.specs.Positions.{position_from, position_of}
use Rattle.nbfx_values.specs.declared.content.Item.TheVariants.{Attr, Close, Start, Text, Xmlns}
use Rattle.nbfx_values.specs.declared.position.Position.TheVariants.{After, Before, Within}
use Rattle.nbfx_values.specs.{Documents.IsDocument, Items.is_valid_item, Scalars.is_valid_value}
use Rattle.nbfx_values.specs.{declared.content.Item.Item, declared.position.Position.Position}
use Rattle.soap_envelope.proofs.{Nesting.ended, Nesting.nowhere, OnLiterals.envelopes_on_literals}
use Rattle.soap_envelope.specs.Making.{action_block, addressing_start, ending, envelope_items}
use Rattle.soap_envelope.specs.Making.{is_valid_text, middle, opening, relates_block, words}
use Rattle.soap_envelope.specs.declared.versions.Addressing.TheVariants.{V10, V200408}
use Rattle.soap_envelope.specs.declared.versions.Addressing.{Addressing}

-- one element more around
abbrev deeper : Position → Position
deeper (Within n a) = Within (suc n) a
deeper Before = Before
deeper After = After

-- what leads on within an element leads on one element deeper
pub deeper-leads : (xs : List Item) (n m : ℕ) (a b : Bool) → position_from (Some (Within n a)) xs
    ≡ Some (Within m b)
    → position_from (Some (Within (suc n) a)) xs ≡ Some (Within (suc m) b)
deeper-leads [] n m a b h = ap (λ o. o)
    (let e : Within n a ≡ Within m b = cc in ap (λ p. Some (deeper p)) e)
deeper-leads (Start p l ∷ xs) n m a b h =
    let q = passed (is_valid_item (Start p l)) (Some (Within (suc n) true)) xs (Within m b) h in
    stepped (Within (suc n) a) (Start p l) xs q.0 ∙ deeper-leads xs (suc n) m true b q.1
deeper-leads (Xmlns p u ∷ xs) n m true b h =
    let q = passed (is_valid_item (Xmlns p u)) (Some (Within n true)) xs (Within m b) h in
    stepped (Within (suc n) true) (Xmlns p u) xs q.0 ∙ deeper-leads xs n m true b q.1
deeper-leads (Xmlns p u ∷ xs) n m false b h = absurd (nowhere (Xmlns p u) xs (Within m b) h)
deeper-leads (Attr p l v ∷ xs) n m true b h =
    let q = passed (is_valid_item (Attr p l v)) (Some (Within n true)) xs (Within m b) h in
    stepped (Within (suc n) true) (Attr p l v) xs q.0 ∙ deeper-leads xs n m true b q.1
deeper-leads (Attr p l v ∷ xs) n m false b h = absurd (nowhere (Attr p l v) xs (Within m b) h)
deeper-leads (Close ∷ xs) (suc n) m a b h = deeper-leads xs n m false b h
deeper-leads (Close ∷ xs) zero m a b h = absurd (ended xs m b h)
deeper-leads (x ∷ xs) n m a b h =
    let q = passed (is_valid_item x) (Some (Within n false)) xs (Within m b) h in
    stepped (Within (suc n) a) x xs q.0 ∙ deeper-leads xs n m false b q.1

-- content leads on also right behind the beginning of its element
pub content-leads : (xs : List Item) (n : ℕ) → position_from (Some (Within n false)) xs
    ≡ Some (Within n false)
    → (b : Bool) × (position_from (Some (Within n true)) xs ≡ Some (Within n b))
content-leads [] n h = (true, refl)
content-leads (Xmlns p u ∷ xs) n h = absurd (nowhere (Xmlns p u) xs (Within n false) h)
content-leads (Attr p l v ∷ xs) n h = absurd (nowhere (Attr p l v) xs (Within n false) h)
content-leads (Close ∷ xs) zero h = (false, h)
content-leads xs n h = (false, h)

-- texts lead nowhere else
pub texts-lead : (xs : List Item) (n : ℕ) (a : Bool) → list_all is_valid_text xs ≡ true
    → (b : Bool) × (position_from (Some (Within n a)) xs ≡ Some (Within n b))
texts-lead [] n a h = (a, refl)
texts-lead (Text v ∷ xs) n a h =
    let q = and_parts (is_valid_value v) (list_all is_valid_text xs) h in
    let more = texts-lead xs n false q.1 in
    (more.0, stepped (Within n a) (Text v) xs q.0 ∙ more.1)
texts-lead (x ∷ xs) n a h = absurd cc

-- one list behind another
pub leads-on : (o p q : Option Position) (xs ys : List Item) → position_from o xs ≡ p
    → position_from p ys ≡ q
    → position_from o (xs ++ ys) ≡ q
leads-on o p q xs ys h k = position_from-append o xs ys ∙ ap (λ r. position_from r ys) h ∙ k

action-leads : (action : List ℕ) → is_utf8 action ≡ true
    → position_from (Some (Within 1 true)) (action_block action) ≡ Some (Within 1 false)
unfolding envelopes_on_literals
action-leads action h = stepped (Within 2 true) (words action) (Close ∷ []) h

relates-lead : (texts : List Item) → list_all is_valid_text texts ≡ true
    → position_from (Some (Within 1 false)) (relates_block texts) ≡ Some (Within 1 false)
unfolding envelopes_on_literals
relates-lead [] h = refl
relates-lead (text ∷ more) h =
    let p = texts-lead (text ∷ more) 2 true h in
    leads-on (Some (Within 2 true)) (Some (Within 2 p.0)) (Some (Within 1 false)) (text ∷ more)
    (Close ∷ []) p.1 refl

-- the opening leads into Header
pub opening-leads : (version : Addressing) (rest : List Item)
    → position_from (Some (Within 1 true)) rest ≡ Some After
    → position_of (opening version ++ rest) ≡ Some After
unfolding envelopes_on_literals
opening-leads V10 rest h = h
opening-leads V200408 rest h = h

-- an envelope is a document, where its action is UTF-8, its texts are valid, and its blocks and its
-- content lead
-- nowhere else
pub envelope-document : (version : Addressing) (action : List ℕ) (relates blocks body : List Item)
    → is_utf8 action ≡ true
    → list_all is_valid_text relates ≡ true
    → position_from (Some (Within 1 false)) blocks ≡ Some (Within 1 false)
    → position_from (Some (Within 0 false)) body ≡ Some (Within 0 false)
    → IsDocument (envelope_items version action relates blocks body)
unfolding envelopes_on_literals
envelope-document version action relates blocks body utf8 texts leads content =
    let inside = content-leads body 1 (deeper-leads body 0 0 false false content) in
    let closed = leads-on (Some (Within 1 true)) (Some (Within 1 inside.0)) (Some After) body ending
    inside.1 refl in
    let from_blocks = leads-on (Some (Within 1 false)) (Some (Within 1 false)) (Some After) blocks
    (middle ++ (body ++ ending)) leads closed in
    let from_relates = leads-on (Some (Within 1 false)) (Some (Within 1 false)) (Some After)
    (relates_block relates) (blocks ++ (middle ++ (body ++ ending))) (relates-lead relates texts)
    from_blocks in
    let from_action = leads-on (Some (Within 1 true)) (Some (Within 1 false)) (Some After)
    (action_block action) (relates_block relates ++ (blocks ++ (middle ++ (body ++ ending))))
    (action-leads action utf8) from_relates in
    position_of-document (envelope_items version action relates blocks body)
    (opening-leads version
    (action_block action ++ (relates_block relates ++ (blocks ++ (middle ++ (body ++ ending)))))
    from_action)

-- the items of an envelope in the order in which they are put
pub grouped : (version : Addressing) (old : List Item) (action : List ℕ) (relates blocks body :
    List Item)
    → ((((((old ++ opening version) ++ action_block action) ++ relates_block relates) ++ blocks) ++
    middle)
    ++ body) ++ ending
    ≡ old ++ envelope_items version action relates blocks body
grouped version old action relates blocks body = simp append_assoc

-- the block that names the message that is answered, where there are texts
pub relates_block-some : (texts : List Item) → eqb (length texts) 0 ≡ false
    → relates_block texts ≡ addressing_start (codes "RelatesTo") ∷ (texts ++ Close ∷ [])
relates_block-some [] h = cc
relates_block-some (text ∷ more) h = refl
