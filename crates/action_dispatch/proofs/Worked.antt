-- Worked cases: the answers to literal requests.
use Rattle.std.proofs.Common.{List, [], codes, map, refl, ◌++◌, ◌∷◌, ◌≡◌}
use Rattle.action_dispatch.proofs.Requests.{reply_to, request}
use Rattle.action_dispatch.specs.declared.answers.Answer.TheVariants.{Nothing, Reply}
use Rattle.action_dispatch.specs.{Actions.text_for, Answers.Serves, Answers.answered}
use Rattle.action_dispatch.specs.{Refusals.unfit_fault, Services.echoed, Services.reply_with}
use Rattle.action_dispatch.specs.{declared.answers.Answer.Answer}
use Rattle.nbfx_values.specs.{declared.content.Item.Item, declared.content.Item.TheVariants.Close}
use Rattle.soap_envelope.proofs.Documents.{acting, action, addressing_action, echo, enveloped}
use Rattle.soap_envelope.proofs.Documents.{fault, hi, identified, invalid, message, next, related}
use Rattle.soap_envelope.proofs.Documents.{reply, role, s, secured, soap_action, start, subcode}
use Rattle.soap_envelope.proofs.Documents.{unknown, words, xmlns}
use Rattle.soap_envelope.proofs.OnLiterals.{envelopes_on_literals}
use Rattle.soap_envelope.specs.declared.versions.Addressing.TheVariants.{V10}
use Rattle.action_dispatch.specs.declared.service.Served.TheVariants as said

abbrev pub Row : Type 0
Row = List Item × Answer

abbrev pub AllAnswered : Serves → List Row → Type 0
AllAnswered serves rows = map (λ (r : Row). answered serves r.0) rows ≡ map (λ (r : Row). r.1) rows

-- a request that is served is echoed under its action, and relates to its identifier
echoes : AllAnswered echoed (
    (echo, Reply (reply "urn:echoResponse" hi) identified V10)
    ∷ (
      request action,
      Reply (enveloped (s "Header" (acting "urn:echoResponse") ++ s "Body" hi)) [] V10,
    )
    ∷ (
      request (action ++ message ++ reply_to "http://www.w3.org/2005/08/addressing/anonymous"),
      Reply (reply "urn:echoResponse" hi) identified V10,
    )
    ∷ (
      request (secured (role "http://www.w3.org/2003/05/soap-envelope/role/none" ∷ []) ++ action
          ++ message),
      Reply (reply "urn:echoResponse" hi) identified V10,
    )
    ∷ [])
unfolding envelopes_on_literals
echoes = refl

-- what isn't served has its fault, and none goes to nobody
not_understood : List Item
not_understood = fault soap_action (related ++ unknown "urn:t" "n:Sec") "s:MustUnderstand" []
    "A header block was not understood."

no_action : List Item
no_action = fault addressing_action related "s:Sender"
    (subcode "a:MessageAddressingHeaderRequired" []) "The Action header is required."

elsewhere : List Item
elsewhere = fault addressing_action related "s:Sender" (invalid "a:OnlyAnonymousAddressSupported")
    "Only the anonymous reply address is supported."

nobody : List Item
nobody = reply_to "http://www.w3.org/2005/08/addressing/none"

other : List Item
other = reply_to "urn:other"

refusals : AllAnswered echoed (
    (request (secured [] ++ action ++ message), Reply not_understood identified V10)
    ∷ (request (action ++ secured (role next ∷ []) ++ message), Reply not_understood identified V10)
    ∷ (request (secured [] ++ message ++ other), Reply not_understood identified V10)
    ∷ (request message, Reply no_action identified V10)
    ∷ (request (message ++ other), Reply no_action identified V10)
    ∷ (request (action ++ message ++ other), Reply elsewhere identified V10)
    ∷ (request (action ++ message ++ nobody), Nothing)
    ∷ (request (secured [] ++ nobody), Nothing)
    ∷ [])
unfolding envelopes_on_literals not_understood no_action elsewhere nobody other
refusals = refl

-- a document that is no envelope has a fault that relates to nothing
no_envelope : List Item
no_envelope = fault soap_action [] "s:VersionMismatch" [] "The root is not a SOAP 1.2 envelope."

ill_formed : List Item
ill_formed = fault soap_action [] "s:Sender" [] "The message is not a well-formed envelope."

documents : AllAnswered echoed ((
  s "Other" (xmlns "s" "http://www.w3.org/2003/05/soap-envelope" ∷ []),
  Reply no_envelope [] V10,
)
    ∷ (s "Envelope" (xmlns "s" "urn:s" ∷ []), Reply no_envelope [] V10)
    ∷ (
      request (action ++ action ++ message),
      Reply (fault addressing_action [] "s:Sender" (invalid "a:InvalidCardinality")
          "An addressing header is repeated.") [] V10,
    )
    ∷ (enveloped (s "Header" (action ++ nobody)), Reply ill_formed [] V10)
    ∷ (request (words "a" ∷ nobody), Reply ill_formed [] V10)
    ∷ (s "Envelope" [], Reply ill_formed [] V10)
    ∷ [])
unfolding envelopes_on_literals no_envelope ill_formed nobody
documents = refl

-- what other services say
texts : Serves
texts asked body =
    reply_with (text_for ((codes "urn:a", codes "no") ∷ (codes "urn:echo", codes "ok") ∷ []) asked)

unsupported : List Item
unsupported = fault addressing_action related "s:Sender" (subcode "a:ActionNotSupported" [])
    "The action is not supported."

of_texts : AllAnswered texts ((
  echo,
  Reply (reply "urn:echoResponse" (start "" "reply" ∷ words "ok" ∷ Close ∷ [])) identified V10,
)
    ∷ (request (acting "urn:other" ++ message), Reply unsupported identified V10)
    ∷ [])
unfolding envelopes_on_literals texts unsupported
of_texts = refl

silent : Serves
silent asked body = said.Nothing

of_silent : AllAnswered silent ((echo, Nothing) ∷ [])
unfolding envelopes_on_literals silent
of_silent = refl

unwilling : Serves
unwilling asked body = said.Refuse (codes "Closed.")

of_unwilling : AllAnswered unwilling (
    (echo, Reply (fault soap_action related "s:Receiver" [] "Closed.") identified V10)
    ∷ [])
unfolding envelopes_on_literals unwilling
of_unwilling = refl

-- the fault in place of a reply that doesn't fit
does_not_fit : List Item
does_not_fit = fault soap_action related "s:Receiver" [] "The reply does not fit."

unfit : unfit_fault V10 identified ≡ does_not_fit
unfolding envelopes_on_literals does_not_fit
unfit = refl
