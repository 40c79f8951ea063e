-- Worked cases: which version of addressing a document is in, and what that changes.
use Rattle.std.proofs.Common.{List, None, [], codes, map, refl, ◌++◌, ◌∷◌, ◌≡◌}
use Rattle.nbfx_values.specs.{declared.content.Item.Item, declared.content.Item.TheVariants.Close}
use Rattle.soap_envelope.proofs.Documents.{a, action, aged, binds, echo, enveloped, fault, hi}
use Rattle.soap_envelope.proofs.Documents.{identified, invalid, message, older, older_action}
use Rattle.soap_envelope.proofs.Documents.{related, reply, role, s, some, start, why, with_blocks}
use Rattle.soap_envelope.proofs.{Documents.words, Documents.x, OnLiterals.envelopes_on_literals}
use Rattle.soap_envelope.proofs.{Worked.AllTold, WorkedRefusals.AllRefused}
use Rattle.soap_envelope.specs.declared.refusals.SoapFault.TheVariants.{BadHeader, RepeatedHeader}
use Rattle.soap_envelope.specs.declared.report.Code.TheVariants.{MustUnderstand, Sender}
use Rattle.soap_envelope.specs.declared.versions.Addressing.TheVariants.{V10, V200408}
use Rattle.soap_envelope.specs.{Faults.fault_items, Making.reply_items, Names.addressing}
use Rattle.soap_envelope.specs.{Names.addressing_2004, declared.report.FaultReport.FaultReport}
use Rattle.soap_envelope.specs.declared.report.Sub.TheVariants as sub

-- the first targeted block of one of the five names has it; without one it is 1.0
versions : AllTold (λ v. v.version) (
    (echo, V10)
    ∷ (aged echo, V200408)
    ∷ (enveloped (s "Body" []), V10)
    ∷ (aged (enveloped (s "Body" [])), V10)
    ∷ (with_blocks [], V10)
    ∷ (aged (with_blocks (a "FaultTo" [])), V10)
    ∷ (aged (with_blocks (a "action" [])), V10)
    ∷ (aged (with_blocks (s "Action" [])), V10)
    ∷ (with_blocks (older "Action" []), V200408)
    ∷ (with_blocks (older "To" []), V200408)
    ∷ (with_blocks (older "MessageID" []), V200408)
    ∷ (with_blocks (older "RelatesTo" []), V200408)
    ∷ (with_blocks (older "ReplyTo" (older "Address" [])), V200408)
    ∷ (with_blocks (action ++ older "Action" []), V10)
    ∷ (with_blocks (older "To" [] ++ action), V200408)
    ∷ (with_blocks (older "FaultTo" [] ++ action ++ older "To" []), V10)
    ∷ (with_blocks (older "To" (role "urn:other" ∷ []) ++ action), V10)
    ∷ (with_blocks (a "To" (role "urn:other" ∷ []) ++ older "To" []), V200408)
    ∷ [])
unfolding envelopes_on_literals
versions = refl

-- only blocks of the version count
actions : AllTold (λ v. v.action) (
    (aged echo, some "urn:echo")
    ∷ (with_blocks (older "To" [] ++ action), None)
    ∷ (with_blocks (older "To" [] ++ action ++ older "Action" (words "urn:b" ∷ [])), some "urn:b")
    ∷ (with_blocks (action ++ older "Action" (words "urn:b" ∷ [])), some "urn:echo")
    ∷ [])
unfolding envelopes_on_literals
actions = refl

identifiers : AllTold (λ v. v.message_id) (
    (aged echo, identified)
    ∷ (with_blocks (older "To" [] ++ message), [])
    ∷ (with_blocks (action ++ older "MessageID" identified), [])
    ∷ [])
unfolding envelopes_on_literals
identifiers = refl

-- an Address is of the version of its ReplyTo
abbrev other_address : List Item
other_address = start "a" "Address" ∷ words "urn:a" ∷ Close ∷ []

reply_addresses : AllTold (λ v. v.reply_address) (
    (aged (with_blocks (a "ReplyTo" other_address)), some "urn:a")
    ∷ (with_blocks (older "To" [] ++ a "ReplyTo" other_address), None)
    ∷ [])
unfolding envelopes_on_literals
reply_addresses = refl

-- and only they are judged as such
refused : AllRefused (
    (aged (with_blocks (action ++ action)), RepeatedHeader 8)
    ∷ (with_blocks (older "To" [] ++ older "To" []), RepeatedHeader 7)
    ∷ (aged (with_blocks (a "Action" (x []))), BadHeader 4)
    ∷ (aged (with_blocks (a "ReplyTo" [])), BadHeader 4)
    ∷ (with_blocks (older "ReplyTo" other_address), BadHeader 4)
    ∷ [])
unfolding envelopes_on_literals
refused = refl

passed : AllTold (λ v. v.version) (
    (with_blocks (older "To" [] ++ action ++ action), V200408)
    ∷ (with_blocks (action ++ older "ReplyTo" []), V10)
    ∷ (with_blocks (older "To" [] ++ a "Action" (x [])), V200408)
    ∷ [])
unfolding envelopes_on_literals
passed = refl

-- the content of Body declares what replies in the version don't
bodies : AllTold (λ v. v.body) (
    (aged echo, hi)
    ∷ (enveloped (s "Header" (older "To" []) ++ s "Body" (x [])), x (binds "a" addressing ∷ []))
    ∷ (aged (enveloped (s "Body" (x []))), x (binds "a" addressing_2004 ∷ []))
    ∷ (enveloped (s "Body" (x [])), x [])
    ∷ [])
unfolding envelopes_on_literals
bodies = refl

-- replies and faults in the older version
replies : map (λ body. reply_items V200408 (codes "urn:echo") identified body) (hi ∷ [] ∷ [])
    ≡ map (λ body. aged (reply "urn:echoResponse" body)) (hi ∷ [] ∷ [])
unfolding envelopes_on_literals
replies = refl

faults : map (λ (report : FaultReport). fault_items V200408 report identified) (
    why MustUnderstand sub.None [] ∷ why Sender sub.OnlyAnonymous [] ∷ [])
    ≡ aged (fault older_action related "s:MustUnderstand" [] "why")
    ∷ aged (fault older_action related "s:Sender" (invalid "a:OnlyAnonymousAddressSupported") "why")
    ∷ []
unfolding envelopes_on_literals
faults = refl
