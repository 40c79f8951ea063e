-- Worked cases: replies and faults, item by item, and which names a fault reports.
use Prim.Native.String.{String}
use Rattle.soap_envelope.specs.declared.versions.Addressing.TheVariants.{V10}
use Rattle.std.proofs.Common.{◌≡◌, ℕ, true, false, List, [], ◌∷◌, ◌++◌, map, Ok, Err, codes, Result}
use Rattle.{std.proofs.Common.refl, nbfx_values.specs.declared.content.Item.Item}
use Rattle.nbfx_values.specs.Limits.{limits}
use Rattle.nbfx_values.specs.declared.content.Item.TheVariants.{Close, Start, Xmlns}
use Rattle.soap_envelope.specs.{declared.refusals.SoapFault.SoapFault, Qualified.Name}
use Rattle.soap_envelope.specs.declared.report.Code.TheVariants.{MustUnderstand, Receiver, Sender}
use Rattle.soap_envelope.specs.{declared.report.Code.TheVariants.VersionMismatch, Fitting.names_fit}
use Rattle.soap_envelope.specs.{declared.report.FaultReport.FaultReport, Faults.fault_items}
use Rattle.soap_envelope.specs.{Making.reply_items, Understanding.not_understood}
use Rattle.soap_envelope.specs.{Names.addressing, Names.qualified_name, View.View, View.view}
use Rattle.soap_envelope.specs.Versions.{understood as understood_names}
use Rattle.soap_envelope.proofs.Documents.{a, acting, action, addressing_action, called, echo}
use Rattle.soap_envelope.proofs.Documents.{enveloped, fault, hi, identified, invalid, message, must}
use Rattle.soap_envelope.proofs.Documents.{next, related, reply, role, s, secured, soap_action}
use Rattle.soap_envelope.proofs.Documents.{start, subcode, unknown, why, with_blocks, words}
use Rattle.soap_envelope.proofs.OnLiterals.{envelopes_on_literals}
use Rattle.soap_envelope.specs.declared.report.Sub.TheVariants as sub

-- the action of a request, the texts of its identifier, a content of Body, and the reply
abbrev Row : Type 0
Row = List ℕ × List Item × List Item × List Item

abbrev AllReplied : List Row → Type 0
AllReplied rows = map (λ (r : Row). reply_items V10 r.0 r.1 r.2) rows ≡ map (λ (r : Row). r.3) rows

replies : AllReplied (
    (codes "urn:echo", identified, hi, reply "urn:echoResponse" hi)
    ∷ (
      codes "urn:echo",
      identified,
      start "" "reply" ∷ words "ok" ∷ Close ∷ [],
      reply "urn:echoResponse" (start "" "reply" ∷ words "ok" ∷ Close ∷ []),
    )
    ∷ ([], [], [], enveloped (s "Header" (acting "Response") ++ s "Body" []))
    ∷ (
      codes "urn:a",
      words "b" ∷ words "c" ∷ [],
      [],
      enveloped (s "Header" (acting "urn:aResponse" ++ a "RelatesTo" (words "b" ∷ words "c" ∷ []))
          ++ s "Body" []),
    )
    ∷ [])
unfolding envelopes_on_literals
replies = refl

-- what is reported, the texts of the request's identifier, and the fault
abbrev FaultRow : Type 0
FaultRow = FaultReport × List Item × List Item

abbrev AllReported : List FaultRow → Type 0
AllReported rows =
    map (λ (r : FaultRow). fault_items V10 r.0 r.1) rows ≡ map (λ (r : FaultRow). r.2) rows

sec : Name
sec = called "urn:t" "Sec"

-- each code and each subcode; the names that weren't understood, in order
faults : AllReported ((
  why MustUnderstand sub.None (sec ∷ []),
  identified,
  fault soap_action (related ++ unknown "urn:t" "n:Sec") "s:MustUnderstand" [] "why",
)
    ∷ (
      record (why MustUnderstand sub.None (called "" "k" ∷ sec ∷ [])) { reason = [] },
      [],
      fault soap_action (unknown "" "n:k" ++ unknown "urn:t" "n:Sec") "s:MustUnderstand" [] "",
    )
    ∷ (why VersionMismatch sub.None [], [], fault soap_action [] "s:VersionMismatch" [] "why")
    ∷ (why Receiver sub.None [], identified, fault soap_action related "s:Receiver" [] "why")
    ∷ (why Sender sub.None [], [], fault soap_action [] "s:Sender" [] "why")
    ∷ (
      why Sender sub.HeaderRequired [],
      identified,
      fault addressing_action related "s:Sender" (subcode "a:MessageAddressingHeaderRequired" [])
          "why",
    )
    ∷ (
      why Sender sub.ActionNotSupported [],
      identified,
      fault addressing_action related "s:Sender" (subcode "a:ActionNotSupported" []) "why",
    )
    ∷ (
      why Sender sub.OnlyAnonymous [],
      identified,
      fault addressing_action related "s:Sender" (invalid "a:OnlyAnonymousAddressSupported") "why",
    )
    ∷ (
      why Sender sub.InvalidCardinality [],
      [],
      fault addressing_action [] "s:Sender" (invalid "a:InvalidCardinality") "why",
    )
    ∷ [])
unfolding envelopes_on_literals sec
faults = refl

-- the names that are known, a document, and those that must be understood and aren't
abbrev Understood : Type 0
Understood = List Name × List Item × List Name

abbrev foreign : List Name → Result View SoapFault → Result (List Name) SoapFault
foreign known (Ok v) = Ok (not_understood known v.blocks)
foreign known (Err fault) = Err fault

abbrev names_in : List Name → Result (List Name) SoapFault
names_in names = Ok names

abbrev AllUnderstood : List Understood → Type 0
AllUnderstood rows = map (λ (r : Understood). foreign r.0 (view r.1)) rows
    ≡ map (λ (r : Understood). names_in r.2) rows

none : String
none = "http://www.w3.org/2003/05/soap-envelope/role/none"

-- the blocks of addressing that servers know, and a request with a block more before MessageID
abbrev five : List Name
five = understood_names V10

abbrev request : List Item → List Item
request block = enveloped (s "Header" (action ++ block ++ message) ++ s "Body" hi)

-- a block that isn't known, that is, that isn't for this node, that need not be; two of one name
understood : AllUnderstood (
    (five, request (secured (role next ∷ [])), sec ∷ [])
    ∷ (five, request (secured (role none ∷ [])), [])
    ∷ ([], with_blocks (secured (role next ∷ []) ++ message), sec ∷ [])
    ∷ (sec ∷ [], with_blocks (secured (role next ∷ []) ++ message), [])
    ∷ ([], with_blocks (secured (role none ∷ []) ++ message), [])
    ∷ ([], with_blocks (a "Sec" (must "0" ∷ []) ++ message), [])
    ∷ (sec ∷ [], echo, qualified_name addressing (codes "Action") ∷ [])
    ∷ (
      qualified_name addressing (codes "Action") ∷ [],
      with_blocks (secured [] ++ action ++ secured []),
      sec ∷ sec ∷ [],
    )
    ∷ (called "urn:t" "sec" ∷ called "" "Sec" ∷ [], with_blocks (secured []), sec ∷ [])
    ∷ [])
unfolding envelopes_on_literals sec none
understood = refl

-- what names count
fitting : map (λ (q : ℕ × ℕ). names_fit (limits q.0 4 0 q.1 16 1) (sec ∷ called "" "k" ∷ []))
    ((18, 9) ∷ (17, 9) ∷ (18, 8) ∷ [])
    ≡ true ∷ false ∷ false ∷ []
unfolding sec
fitting = refl
