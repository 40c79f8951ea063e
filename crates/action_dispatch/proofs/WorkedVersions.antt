-- Worked cases: requests of the older version of addressing, and of both.
use Rattle.std.proofs.Common.{List, [], refl, ◌++◌, ◌∷◌, ◌≡◌}
use Rattle.action_dispatch.proofs.{Requests.reply_to, Requests.request, Worked.AllAnswered}
use Rattle.action_dispatch.specs.declared.answers.Answer.TheVariants.{Nothing, Reply}
use Rattle.action_dispatch.specs.{Refusals.unfit_fault, Services.echoed}
use Rattle.nbfx_values.specs.declared.content.Item.{Item}
use Rattle.soap_envelope.proofs.Documents.{action, addressing_action, aged, echo, fault, hi}
use Rattle.soap_envelope.proofs.Documents.{identified, invalid, message, must, older, older_action}
use Rattle.soap_envelope.proofs.Documents.{related, reply, secured, soap_action, subcode, unknown}
use Rattle.soap_envelope.proofs.OnLiterals.{envelopes_on_literals}
use Rattle.soap_envelope.specs.declared.versions.Addressing.TheVariants.{V10, V200408}

anonymous : List Item
anonymous = reply_to "http://www.w3.org/2005/08/addressing/anonymous"

older_anonymous : List Item
older_anonymous = reply_to "http://schemas.xmlsoap.org/ws/2004/08/addressing/role/anonymous"

nobody : List Item
nobody = reply_to "http://www.w3.org/2005/08/addressing/none"

-- a request is answered in its version, whose anonymous address alone is served
echoed_again : List Item
echoed_again = reply "urn:echoResponse" hi

elsewhere : List Item
elsewhere = fault older_action related "s:Sender" (invalid "a:OnlyAnonymousAddressSupported")
    "Only the anonymous reply address is supported."

elsewhere_now : List Item
elsewhere_now = fault addressing_action related "s:Sender"
    (invalid "a:OnlyAnonymousAddressSupported") "Only the anonymous reply address is supported."

served : AllAnswered echoed (
    (aged echo, Reply (aged echoed_again) identified V200408)
    ∷ (
      aged (request (action ++ message ++ older_anonymous)),
      Reply (aged echoed_again) identified V200408,
    )
    ∷ (aged (request (action ++ message ++ anonymous)), Reply (aged elsewhere) identified V200408)
    ∷ (aged (request (action ++ message ++ nobody)), Reply (aged elsewhere) identified V200408)
    ∷ (request (action ++ message ++ older_anonymous), Reply elsewhere_now identified V10)
    ∷ (request (action ++ message ++ nobody), Nothing)
    ∷ [])
unfolding envelopes_on_literals anonymous older_anonymous nobody echoed_again elsewhere
    elsewhere_now
served = refl

-- a block of the other version isn't understood where it must be, and doesn't count
other_reply_to : List Item
other_reply_to = fault soap_action
    (related ++ unknown "http://schemas.xmlsoap.org/ws/2004/08/addressing" "n:ReplyTo")
    "s:MustUnderstand" [] "A header block was not understood."

other_action : List Item
other_action = fault older_action (unknown "http://www.w3.org/2005/08/addressing" "n:Action")
    "s:MustUnderstand" [] "A header block was not understood."

mixed : AllAnswered echoed ((
  request (action ++ message ++ older "ReplyTo" (must "1" ∷ [])),
  Reply other_reply_to identified V10,
)
    ∷ (request (action ++ message ++ older "ReplyTo" []), Reply echoed_again identified V10)
    ∷ (request (older "To" [] ++ action), Reply (aged other_action) [] V200408)
    ∷ [])
unfolding envelopes_on_literals echoed_again other_reply_to other_action
mixed = refl

-- other refusals of the older version, and one of a document without a view, which is in 1.0
no_action : List Item
no_action = fault older_action related "s:Sender" (subcode "a:MessageAddressingHeaderRequired" [])
    "The Action header is required."

not_understood : List Item
not_understood = fault older_action (related ++ unknown "urn:t" "n:Sec") "s:MustUnderstand" []
    "A header block was not understood."

repeated : List Item
repeated = fault addressing_action [] "s:Sender" (invalid "a:InvalidCardinality")
    "An addressing header is repeated."

refused : AllAnswered echoed (
    (aged (request message), Reply (aged no_action) identified V200408)
    ∷ (
      aged (request (secured [] ++ action ++ message)),
      Reply (aged not_understood) identified V200408,
    )
    ∷ (aged (request (action ++ action ++ message)), Reply repeated [] V10)
    ∷ [])
unfolding envelopes_on_literals no_action not_understood repeated
refused = refl

does_not_fit : List Item
does_not_fit = fault older_action related "s:Receiver" [] "The reply does not fit."

unfit : unfit_fault V200408 identified ≡ aged does_not_fit
unfolding envelopes_on_literals does_not_fit
unfit = refl
