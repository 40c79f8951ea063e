-- The fault of each reason not to serve a request.
use Rattle.soap_envelope.specs.declared.versions.Addressing.{Addressing}
use Rattle.std.specs.Prelude.{ℕ, List, [], codes}
use Rattle.{nbfx_values.specs.declared.content.Item.Item, soap_envelope.specs.Faults.fault_items}
use Rattle.soap_envelope.specs.{declared.refusals.SoapFault.SoapFault, Qualified.Name}
use Rattle.soap_envelope.specs.declared.report.{Code.Code, FaultReport.FaultReport, Sub.Sub}
use Rattle.action_dispatch.specs.declared.refusals.Refusal.{Refusal, TheVariants.NotUnderstood}
use Rattle.action_dispatch.specs.declared.refusals.Refusal.TheVariants.{ByService, IllFormed}
use Rattle.action_dispatch.specs.declared.refusals.Refusal.TheVariants.{NoAction, NoEnvelope}
use Rattle.action_dispatch.specs.declared.refusals.Refusal.TheVariants.{OtherReplyAddress}
use Rattle.action_dispatch.specs.declared.refusals.Refusal.TheVariants.{RepeatedHeader, Unfit}
use Rattle.action_dispatch.specs.declared.refusals.Refusal.TheVariants.{UnknownAction}
use Rattle.soap_envelope.specs.declared.refusals.SoapFault.TheVariants as soap
use Rattle.soap_envelope.specs.declared.report.Code.TheVariants as code
use Rattle.soap_envelope.specs.declared.report.Sub.TheVariants as sub

-- why a document without a view is refused
abbrev pub refusal_of : SoapFault → Refusal
refusal_of soap.NotAnEnvelope = NoEnvelope
refusal_of soap.VersionMismatch = NoEnvelope
refusal_of (soap.RepeatedHeader item) = RepeatedHeader
refusal_of _ = IllFormed

abbrev pub code_of : Refusal → Code
code_of NoEnvelope = code.VersionMismatch
code_of (NotUnderstood names) = code.MustUnderstand
code_of (ByService reason) = code.Receiver
code_of Unfit = code.Receiver
code_of _ = code.Sender

abbrev pub sub_of : Refusal → Sub
sub_of RepeatedHeader = sub.InvalidCardinality
sub_of NoAction = sub.HeaderRequired
sub_of OtherReplyAddress = sub.OnlyAnonymous
sub_of UnknownAction = sub.ActionNotSupported
sub_of _ = sub.None

abbrev pub reason_of : Refusal → List ℕ
reason_of NoEnvelope = codes "The root is not a SOAP 1.2 envelope."
reason_of RepeatedHeader = codes "An addressing header is repeated."
reason_of IllFormed = codes "The message is not a well-formed envelope."
reason_of (NotUnderstood names) = codes "A header block was not understood."
reason_of NoAction = codes "The Action header is required."
reason_of OtherReplyAddress = codes "Only the anonymous reply address is supported."
reason_of UnknownAction = codes "The action is not supported."
reason_of (ByService reason) = reason
reason_of Unfit = codes "The reply does not fit."

-- the blocks that weren't understood
abbrev pub names_of : Refusal → List Name
names_of (NotUnderstood names) = names
names_of _ = []

abbrev pub report_of : Refusal → FaultReport
report_of refusal = record {
  code = code_of refusal;
  sub = sub_of refusal;
  reason = reason_of refusal;
  names = names_of refusal;
}

-- the fault of a refusal, which relates to the request of a version with this identifier
abbrev pub fault_of : Addressing → Refusal → (relates : List Item) → List Item
fault_of version refusal relates = fault_items version (report_of refusal) relates

-- the fault in place of an answer of a version that doesn't fit
abbrev pub unfit_fault : Addressing → (relates : List Item) → List Item
unfit_fault version relates = fault_of version Unfit relates
