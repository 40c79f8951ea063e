-- What a server answers a request with, by its service.
use Rattle.std.specs.Prelude.{◌≡◌, ℕ, false, List, [], ◌∷◌, if◌then◌else◌, Some, None, Ok, Err}
use Rattle.std.specs.Prelude.{Bool, Option, Result, bytes_eq, ⊤}
use Rattle.std.specs.Option.{option_map_or}
use Rattle.nbfx_values.specs.{declared.content.Item.Item, Limits.Limits}
use Rattle.least_payloads.specs.Least.{may_fit}
use Rattle.soap_envelope.specs.{declared.refusals.SoapFault.SoapFault, Qualified.Name}
use Rattle.soap_envelope.specs.Making.{AreTexts, reply_items}
use Rattle.soap_envelope.specs.declared.versions.Addressing.{Addressing, TheVariants.V10}
use Rattle.soap_envelope.specs.Versions.{anonymous, nobody, understood}
use Rattle.soap_envelope.specs.{Understanding.not_understood, View.View, View.view}
use Rattle.action_dispatch.specs.declared.answers.{Answer.Answer, Measured.Measured}
use Rattle.action_dispatch.specs.declared.answers.Answer.TheVariants.{Nothing, Reply}
use Rattle.action_dispatch.specs.declared.answers.Measured.TheVariants.{Made, TooLarge}
use Rattle.action_dispatch.specs.declared.judging.Destination.{Destination, TheVariants.Sender}
use Rattle.action_dispatch.specs.declared.judging.Destination.TheVariants.{Elsewhere, Nobody}
use Rattle.action_dispatch.specs.declared.{judging.Judged.Judged, service.Served.Served}
use Rattle.action_dispatch.specs.declared.judging.Judged.TheVariants.{Asked, Refused, Unanswered}
use Rattle.action_dispatch.specs.declared.refusals.Refusal.{Refusal, TheVariants.NotUnderstood}
use Rattle.action_dispatch.specs.declared.refusals.Refusal.TheVariants.{ByService, NoAction}
use Rattle.action_dispatch.specs.declared.refusals.Refusal.TheVariants.{OtherReplyAddress}
use Rattle.action_dispatch.specs.declared.refusals.Refusal.TheVariants.{UnknownAction}
use Rattle.action_dispatch.specs.Refusals.{fault_of, refusal_of}
use Rattle.action_dispatch.specs.declared.service.Served.TheVariants as said

-- a service, as a function of action and content of Body
abbrev pub Serves : Type 0
Serves = (action : List ℕ) → (body : List Item) → Served

-- whether an address is a version's for nobody, if it has one
abbrev pub is_nobody : Addressing → List ℕ → Bool
is_nobody version address = option_map_or (bytes_eq address) (nobody version) false

-- where a request of a version wants its answer, by the address of its ReplyTo
abbrev pub destination : Addressing → Option (List ℕ) → Destination
destination version None = Sender
destination version (Some address) =
    if is_nobody version address
    then Nobody
    else if bytes_eq address (anonymous version) then Sender else Elsewhere

-- an answer to nobody isn't sent, whatever the request
abbrev pub unless_nobody : Destination → Judged → Judged
unless_nobody Nobody later = Unanswered
unless_nobody to later = later

-- blocks that must be understood and aren't have these names
abbrev pub unless_foreign : List Name → Judged → Judged
unless_foreign [] later = later
unless_foreign (name ∷ more) later = Refused (NotUnderstood (name ∷ more))

-- the service is asked only where there is an action, and the answer goes to the sender
abbrev pub by_action : Option (List ℕ) → Destination → Judged
by_action None to = Refused NoAction
by_action (Some action) Elsewhere = Refused OtherReplyAddress
by_action (Some action) to = Asked action

-- what becomes of a request with this view, in the order in which it is judged
abbrev pub judged : View → Judged
judged v =
    let to = destination v.version v.reply_address in
    unless_nobody to
    (unless_foreign (not_understood (understood v.version) v.blocks) (by_action v.action to))

-- the answer that a request of a version with this identifier isn't served
abbrev pub refusal_answer : Addressing → Refusal → (relates : List Item) → Answer
refusal_answer version refusal relates = Reply (fault_of version refusal relates) relates version

-- the answer where the service says this
abbrev pub answer_by : Addressing → (action : List ℕ) → (relates : List Item) → Served → Answer
answer_by version action relates (said.Reply body) =
    Reply (reply_items version action relates body) relates version
answer_by version action relates said.Nothing = Nothing
answer_by version action relates said.Unknown = refusal_answer version UnknownAction relates
answer_by version action relates (said.Refuse reason) =
    refusal_answer version (ByService reason) relates

-- the answer to a request that was judged, which has this content of Body
abbrev pub answer_to : Serves → Addressing → (body relates : List Item) → Judged → Answer
answer_to serves version body relates Unanswered = Nothing
answer_to serves version body relates (Refused refusal) = refusal_answer version refusal relates
answer_to serves version body relates (Asked action) =
    answer_by version action relates (serves action body)

-- that to a document without a view is in version 1.0
abbrev pub answered_by : Serves → Result View SoapFault → Answer
answered_by serves (Err fault) = refusal_answer V10 (refusal_of fault) []
answered_by serves (Ok v) = answer_to serves v.version v.body v.message_id (judged v)

-- the answer to the request that is this document
abbrev pub answered : Serves → List Item → Answer
answered serves items = answered_by serves (view items)

-- An answer was made; or it wasn't, and is a document that isn't written, whatever strings the
-- session has: its content is above the limits, or the least that it has in a payload.
abbrev pub IsMeasured : Limits → Answer → Measured → Type 0
IsMeasured limits answer (Made made) = made ≡ answer
IsMeasured limits answer (TooLarge relates version) =
    (document : List Item) × (answer ≡ Reply document relates version)
    × (may_fit limits document ≡ false)

-- what an answer relates to are texts, which another answer may relate to
abbrev pub RelatesToTexts : Answer → Type 0
RelatesToTexts (Reply document relates version) = AreTexts relates
RelatesToTexts Nothing = ⊤

-- also where the answer wasn't made
abbrev pub MeasuresTexts : Measured → Type 0
MeasuresTexts (Made answer) = RelatesToTexts answer
MeasuresTexts (TooLarge relates version) = AreTexts relates
