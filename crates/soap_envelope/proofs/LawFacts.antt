-- What replies and faults are seen as.
use Rattle.std.proofs.Common.{List, None, Ok, Some, [], ap, append_assoc, arith, codes, drop}
use Rattle.std.proofs.Common.{flat_map, length, length-append, option_map, refl, slice_get, sym}
use Rattle.std.proofs.Common.{true, ℕ, ◌++◌, ◌+◌, ◌∙◌, ◌∷◌, ◌≡◌}
use Rattle.std.proofs.lemmas.Bool.{and_parts}
use Rattle.std.specs.List.{list_all}
use Rattle.nbfx_values.specs.declared.content.Item.TheVariants.{Close, Text}
use Rattle.nbfx_values.specs.{Documents.IsDocument, Items.is_valid_item, declared.content.Item.Item}
use Rattle.soap_envelope.proofs.Contents.{body-content, view-stands}
use Rattle.soap_envelope.proofs.{BodyScope.body-scope, FaultPlaces.fault-content}
use Rattle.soap_envelope.proofs.{MadeParts.get-behind, MadeView.made-viewed}
use Rattle.soap_envelope.proofs.{OnLiterals.envelopes_on_literals, Standing.content-stands}
use Rattle.soap_envelope.specs.Faults.{code_text, fault_body, reason_items, sub_texts}
use Rattle.soap_envelope.specs.Faults.{subcode_items, value_items}
use Rattle.soap_envelope.specs.Headers.{counted_at, first_counted}
use Rattle.soap_envelope.specs.Laws.{BodiesStand, FaultsAreViewed, RelatesAreKept, RepliesAreViewed}
use Rattle.soap_envelope.specs.Made.{StandsInReplies, action_seen, blocks_seen, reply_scope}
use Rattle.soap_envelope.specs.Making.{IsContent, action_block, addressing_start, ending}
use Rattle.soap_envelope.specs.Making.{is_valid_text, middle, opening, reply_items, response_action}
use Rattle.soap_envelope.specs.View.{View, texts_at, texts_in, view}
use Rattle.soap_envelope.specs.declared.versions.Addressing.TheVariants.{V10, V200408}
use Rattle.soap_envelope.specs.{BadNames.first_bad_name, Body.behind_head, Children.children_from}
use Rattle.soap_envelope.specs.{Making.soap_start, Parts.root_scope, Scopes.within, Seen.BodyStands}
use Rattle.soap_envelope.specs.{Versions.fault_action, declared.blocks.Block.Block}
use Rattle.soap_envelope.specs.{declared.report.FaultReport.FaultReport, declared.report.Sub.Sub}
use Rattle.soap_envelope.specs.{declared.versions.Addressing.Addressing}
use Rattle.soap_envelope.specs.declared.report.Sub.TheVariants as sub

pub replies_are_viewed : RepliesAreViewed
replies_are_viewed version action relates body texts content named =
    made-viewed version (response_action action) relates [] body texts content named

-- the content of its Body has good names in any reply
body-named : (doc : List Item) (v : View) → IsDocument doc → view doc ≡ Ok v
    → StandsInReplies v.version v.body
body-named doc v document h at =
    let stands : BodyStands doc v = rw h at (view-stands doc) in
    let scope = within doc v.body_at (root_scope doc) in
    let content = behind_head (drop (v.body_at + 1) doc) in
    let body = body-scope doc v document h in
    rw stands.content
    ((content-stands v.version scope content body.reach body.good).0 at)

pub bodies_stand : BodiesStand
bodies_stand doc v action relates document h texts =
    let stands : BodyStands doc v = rw h at (view-stands doc) in
    let content : IsContent v.body =
    rw stands.content (body-content v.version doc v.body_at document stands.starts) in
    replies_are_viewed v.version action relates v.body texts content (body-named doc v document h)

-- texts up to an end, after a front
texts-there : (all before texts rest : List Item) (at : ℕ)
    → all ≡ before ++ (texts ++ Close ∷ rest) → at ≡ length before
    → list_all is_valid_text texts ≡ true
    → flat_map (texts_in all) (children_from (Some 0) at (texts ++ Close ∷ rest)) ≡ texts
texts-there all before [] rest at is place h = refl
texts-there all before (Text v ∷ texts) rest at is place h =
    let got : slice_get all at ≡ Some (Text v) =
    ap (slice_get all) place
    ∙ ap (λ l. slice_get l (length before)) is
    ∙ get-behind before (Text v) (texts ++ Close ∷ rest) in
    rw got
    (ap (λ l. Text v ∷ l)
    (texts-there all (before ++ Text v ∷ []) texts rest (at + 1)
    (is ∙ sym (append_assoc before (Text v ∷ []) (texts ++ Close ∷ rest)))
    (omega (arith, place, length-append before (Text v ∷ [])))
    (and_parts (is_valid_item (Text v)) (list_all is_valid_text texts) h).1))
texts-there all before (x ∷ texts) rest at is place h = absurd cc

counted-relates : (version : Addressing) (text : Item) (texts : List Item)
    → counted_at version (codes "RelatesTo") (blocks_seen version (text ∷ texts) []) ≡ Some 8
unfolding envelopes_on_literals
counted-relates V10 text texts = refl
counted-relates V200408 text texts = refl

pub relates_are_kept : RelatesAreKept
unfolding envelopes_on_literals
relates_are_kept version action [] body h =
    ap (λ r. texts_at (reply_items version action [] body) (option_map (λ (b : Block). b.from) r))
    (no-relates version)
  where
    no-relates : (v : Addressing) → first_counted v (codes "RelatesTo") (action_seen v ∷ []) ≡ None
    no-relates V10 = refl
    no-relates V200408 = refl
relates_are_kept version action (Text v ∷ texts) body h =
    let before = opening version
    ++ (action_block (response_action action) ++ addressing_start (codes "RelatesTo") ∷ []) in
    let rest = middle ++ (body ++ ending) in
    let all = before ++ ((Text v ∷ texts ++ Close ∷ []) ++ rest) in
    let is : all ≡ before ++ (Text v ∷ texts ++ Close ∷ rest) =
    ap (λ l. before ++ l) (append_assoc (Text v ∷ texts) (Close ∷ []) rest) in
    ap (texts_at all) (counted-relates version (Text v) texts)
    ∙ ap (λ l. flat_map (texts_in all) (children_from (Some 0) 9 l))
    (append_assoc (Text v ∷ texts) (Close ∷ []) rest)
    ∙ texts-there all before (Text v ∷ texts) rest 9 is refl h
relates_are_kept version action (x ∷ texts) body h = absurd cc

-- the names of a fault's Body are good
fault-named : (version : Addressing) (report : FaultReport)
    → StandsInReplies version (fault_body report)
unfolding envelopes_on_literals
fault-named version report at = by report.sub (code_text report.code)
  where
    by : (s : Sub) (code : List ℕ) → first_bad_name (reply_scope version) at
        (soap_start (codes "Fault")
        ∷ (soap_start (codes "Code")
        ∷ (value_items code ++ (subcode_items (sub_texts s) ++ (Close ∷ [])))
        ++ (reason_items report.reason ++ (Close ∷ [])))) ≡ None
    by sub.None code = refl
    by s code = refl

pub faults_are_viewed : FaultsAreViewed
faults_are_viewed version report relates texts utf8 =
    made-viewed version (fault_action version report.sub) relates report.names (fault_body report)
    texts
    (fault-content report utf8) (fault-named version report)
