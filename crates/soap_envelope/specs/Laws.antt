-- What holds of views by the definitions alone.
use Rattle.std.specs.Prelude.{◌≡◌, ℕ, false, List, [], IsTrue, Ok, codes}
use Rattle.std.specs.Str.{is_utf8}
use Rattle.nbfx_values.specs.{declared.content.Item.Item, Documents.IsDocument, Limits.Limits}
use Rattle.least_payloads.specs.Least.{may_fit}
use Rattle.soap_envelope.specs.{declared.report.FaultReport.FaultReport, BadNames.bad_name}
use Rattle.soap_envelope.specs.{Faults.fault_body, Faults.fault_items, Versions.fault_action}
use Rattle.soap_envelope.specs.declared.versions.Addressing.{Addressing}
use Rattle.soap_envelope.specs.{Fitting.names_fit, Headers.counted_at}
use Rattle.soap_envelope.specs.Made.{made_view, reply_scope, StandsInReplies}
use Rattle.soap_envelope.specs.Making.{AreTexts, IsContent, reply_items, response_action}
use Rattle.soap_envelope.specs.Renaming.{headed_by, IsRenaming, renamed}
use Rattle.soap_envelope.specs.Resolved.{content_from, content_within, resolved, resolved_from}
use Rattle.soap_envelope.specs.View.{texts_at, View, view}

abbrev pub reply_view : Addressing → List ℕ → (relates body : List Item) → View
reply_view version action relates body =
    made_view version (response_action action) relates [] body

-- A reply is an envelope of its version whose Action is the request's followed by `Response`, and
-- whose Body has the content that was put there.
abbrev pub RepliesAreViewed : Type 0
RepliesAreViewed = (version : Addressing) (action : List ℕ) (relates body : List Item)
    → AreTexts relates → IsContent body → StandsInReplies version body
    → view (reply_items version action relates body)
    ≡ Ok (reply_view version action relates body)

-- Its RelatesTo has just the texts that were put there.
abbrev pub RelatesAreKept : Type 0
RelatesAreKept = (version : Addressing) (action : List ℕ) (relates body : List Item)
    → AreTexts relates
    → texts_at (reply_items version action relates body)
    (counted_at version (codes "RelatesTo") (reply_view version action relates body).blocks)
    ≡ relates

-- The content of a document's Body may be put into any reply in its version, and viewed there it is
-- the same.
abbrev pub BodiesStand : Type 0
BodiesStand = (doc : List Item) (v : View) (action : List ℕ) (relates : List Item) → IsDocument doc
    → view doc ≡ Ok v → AreTexts relates
    → view (reply_items v.version action relates v.body)
    ≡ Ok (reply_view v.version action relates v.body)

-- It has there the names and values that it has in its document.
abbrev pub BodiesAreNamed : Type 0
BodiesAreNamed = (doc : List Item) (v : View) → IsDocument doc → view doc ≡ Ok v
    → content_from 0 (resolved_from (reply_scope v.version) v.body)
    ≡ content_within (resolved doc) v.body_at

-- A fault is an envelope of its version whose Body has one Fault alone.
abbrev pub FaultsAreViewed : Type 0
FaultsAreViewed = (version : Addressing) (report : FaultReport) (relates : List Item)
    → AreTexts relates → IsTrue (is_utf8 report.reason)
    → view (fault_items version report relates)
    ≡ Ok (made_view version (fault_action version report.sub) relates report.names
    (fault_body report))

-- A fault whose names don't fit doesn't fit either.
abbrev pub UnfitNamesAreUnfit : Type 0
UnfitNamesAreUnfit = (limits : Limits) (version : Addressing) (report : FaultReport)
    (relates : List Item) → names_fit limits report.names ≡ false
    → may_fit limits (fault_items version report relates) ≡ false

-- What is seen outside Body, and why a document has no view, depends on the namespaces that its
-- prefixes stand for, and on no prefix: two documents whose names are bad at the same item, if at
-- all, and that have the same names and otherwise the same content, item by item, are seen alike.
abbrev pub NamesAreAll : Type 0
NamesAreAll = (items other : List Item) → bad_name items ≡ bad_name other
    → resolved items ≡ resolved other
    → headed_by (view items) ≡ headed_by (view other)

-- So are a document and the same with other prefixes for the same namespaces.
abbrev pub PrefixesAreFree : Type 0
PrefixesAreFree = (f : List ℕ → List ℕ) (items : List Item) → IsRenaming f
    → headed_by (view (renamed f items)) ≡ headed_by (view items)
