-- What a service says decides the answer, however the content of Body comes to it.
use Rattle.soap_envelope.specs.declared.versions.Addressing.{Addressing}
use Rattle.std.proofs.Common.{◌≡◌, ℕ, false, List, [], IfOk, Result, sym, refl, ap, ◌∙◌, subst}
use Rattle.std.proofs.Common.{Ok, Err}
use Rattle.{unit_streams.specs.declared.memory.Memory.Memory, least_payloads.specs.Least.may_fit}
use Rattle.nbfx_values.specs.{declared.content.Item.Item, Limits.Limits}
use Rattle.soap_envelope.proofs.ReplySizes.{unfit_bodies_are_unfit}
use Rattle.soap_envelope.specs.{Body.body_items, Faults.related_texts, Making.reply_items}
use Rattle.soap_envelope.specs.Parts.{root_scope}
use Rattle.action_dispatch.specs.declared.answers.Answer.{Answer, TheVariants.Reply}
use Rattle.action_dispatch.specs.declared.answers.Measured.{Measured, TheVariants.Made}
use Rattle.action_dispatch.specs.declared.answers.Measured.TheVariants.{TooLarge}
use Rattle.action_dispatch.specs.declared.{planning.Plan.TheVariants.Asks, service.Served.Served}
use Rattle.action_dispatch.specs.declared.planning.Plan.TheVariants.{Refused as FaultMade}
use Rattle.action_dispatch.specs.Answers.{answer_by, answered, IsMeasured, MeasuresTexts, Serves}
use Rattle.action_dispatch.specs.Planning.{IsFor, Leads}
use Rattle.action_dispatch.specs.Services.{Ignores, IsTooLarge, RepliesTooMuch, Returns}
use Rattle.action_dispatch.specs.declared.service.Served.TheVariants as said

-- a reply whose content doesn't fit isn't made
pub too_large : (limits : Limits) (version : Addressing) (action : List ℕ) (relates body : List
    Item)
    → may_fit limits body ≡ false
    → IsMeasured limits (Reply (reply_items version action relates body) relates version)
    (TooLarge relates version)
too_large limits version action relates body unfit = (
  reply_items version action relates body,
  refl,
  unfit_bodies_are_unfit limits version action relates body unfit,
)

-- a service that doesn't use the content says what it says to none
pub answered_unread : (serves : Serves) (version : Addressing) (action : List ℕ) (relates body :
    List Item)
    (answer : Answer) → Ignores serves
    → answer ≡ answer_by version action relates (serves action [])
    → answer ≡ answer_by version action relates (serves action body)
answered_unread serves version action relates body answer ignores is =
    is ∙ ap (answer_by version action relates) (sym (ignores action body))

-- a service that gives the content back is answered by a reply with it
pub measured_returned : (serves : Serves) (limits : Limits) (version : Addressing) (action : List ℕ)
    (relates body : List Item) (measured : Result Measured Memory) → Returns serves
    → IfOk measured (IsMeasured limits
    (Reply (reply_items version action relates body) relates version))
    → IfOk measured (IsMeasured limits (answer_by version action relates (serves action body)))
measured_returned serves limits version action relates body measured returns h =
    subst (λ (said : Served). IfOk measured (IsMeasured limits (answer_by version action relates
    said)))
    (sym (returns action body)) h

-- nor is one that is too large whatever the content
pub measured_unasked : (serves : Serves) (limits : Limits) (version : Addressing) (action : List ℕ)
    (relates body : List Item) → RepliesTooMuch limits serves action
    → IsMeasured limits (answer_by version action relates (serves action body)) (TooLarge relates
    version)
measured_unasked serves limits version action relates body unfit =
    by (serves action body) (unfit body)
  where
    by : (what : Served) → IsTooLarge limits what
        → IsMeasured limits (answer_by version action relates what) (TooLarge relates version)
    by (said.Reply content) h = too_large limits version action relates content h
    by what h = absurd h

-- an answer that is measured is the one that the plan leads to
pub measured_asked : (serves : Serves) (limits : Limits) (doc : List Item) (version : Addressing)
    (action : List ℕ)
    (relates : List Item) (at : ℕ) (measured : Result Measured Memory)
    → Leads limits doc (Asks version action relates at) serves
    → IfOk measured (IsMeasured limits
    (answer_by version action relates (serves action (body_items version doc (root_scope doc) at))))
    → IfOk measured (IsMeasured limits (answered serves doc))
measured_asked serves limits doc version action relates at measured leads h =
    subst (λ (answer : Answer). IfOk measured (IsMeasured limits answer)) (sym leads) h

-- a fault that was made is the answer, with the texts that it relates to
pub refused_fault : (serves : Serves) (limits : Limits) (doc fault : List Item) (related : ℕ)
    (version : Addressing) (measured : Result Measured Memory)
    → Leads limits doc (FaultMade fault related version) serves
    → IfOk measured (λ measured. measured ≡ Made (Reply fault (related_texts related fault)
    version))
    → IfOk measured (IsMeasured limits (answered serves doc))
refused_fault serves limits doc fault related version (Ok measured) leads made =
    subst (IsMeasured limits (answered serves doc)) (sym made) (sym leads)
refused_fault serves limits doc fault related version (Err memory) leads made = tt

-- and it has that texts
pub refused_texts : (limits : Limits) (doc fault : List Item) (related : ℕ)
    (version : Addressing) (measured : Result Measured Memory)
    → IsFor doc (FaultMade fault related version)
    → IfOk measured (λ measured. measured ≡ Made (Reply fault (related_texts related fault)
    version))
    → IfOk measured MeasuresTexts
refused_texts limits doc fault related version (Ok measured) texts made =
    subst MeasuresTexts (sym made) texts
refused_texts limits doc fault related version (Err memory) texts made = tt
