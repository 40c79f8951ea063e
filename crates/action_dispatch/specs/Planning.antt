-- What is left to do for a request once it was judged, which needs no name from its document.
use Rattle.soap_envelope.specs.declared.versions.Addressing.{Addressing}
use Rattle.std.specs.Prelude.{◌≡◌, ℕ, List, if◌then◌else◌, IsTrue, length, slice_get}
use Rattle.nbfx_values.specs.{declared.content.Item.Item, Limits.Limits}
use Rattle.soap_envelope.specs.{Body.body_items, Children.is_start, Making.AreTexts, View.View}
use Rattle.soap_envelope.specs.{Faults.related_texts, Fitting.names_fit, Parts.root_scope}
use Rattle.action_dispatch.specs.declared.answers.{Answer.TheVariants.Nothing, Measured.Measured}
use Rattle.action_dispatch.specs.declared.answers.Answer.TheVariants.{Reply}
use Rattle.action_dispatch.specs.declared.answers.Measured.TheVariants.{Made, TooLarge}
use Rattle.action_dispatch.specs.declared.{judging.Judged.Judged, planning.Plan.Plan}
use Rattle.action_dispatch.specs.declared.judging.Judged.TheVariants.{Asked, Refused, Unanswered}
use Rattle.action_dispatch.specs.declared.planning.Plan.TheVariants.{Answered, Asks}
use Rattle.action_dispatch.specs.declared.planning.Plan.TheVariants.{Refused as FaultMade}
use Rattle.action_dispatch.specs.{declared.refusals.Refusal.Refusal, Refusals.fault_of}
use Rattle.action_dispatch.specs.Refusals.{names_of}
use Rattle.action_dispatch.specs.Answers.{answer_by, answered, IsMeasured, judged, MeasuresTexts}
use Rattle.action_dispatch.specs.Answers.{Serves}

-- a fault is made only where the names in it fit the quotas
abbrev pub refused : Limits → Addressing → Refusal → (relates : List Item) → Plan
refused limits version refusal relates =
    if names_fit limits (names_of refusal)
    then FaultMade (fault_of version refusal relates) (length relates) version
    else Answered (TooLarge relates version)

-- for a request of a version that was judged, which has this identifier and this place of Body
abbrev pub planned : Limits → Addressing → Judged → (relates : List Item) → (body_at : ℕ) → Plan
planned limits version Unanswered relates body_at = Answered (Made Nothing)
planned limits version (Refused refusal) relates body_at = refused limits version refusal relates
planned limits version (Asked action) relates body_at = Asks version action relates body_at

abbrev pub planned_of : Limits → View → Plan
planned_of limits v = planned limits v.version (judged v) v.message_id v.body_at

-- a plan leads to the answer to the request that is this document
abbrev pub Leads : Limits → List Item → Plan → Serves → Type 0
Leads limits items (Answered measured) serves = IsMeasured limits (answered serves items) measured
Leads limits items (FaultMade fault related version) serves =
    answered serves items ≡ Reply fault (related_texts related fault) version
Leads limits items (Asks version action relates body_at) serves =
    answered serves items
    ≡ answer_by version action relates
    (serves action (body_items version items (root_scope items) body_at))

-- whether a plan is one for a document: Body begins at its place, and answers relate to texts
abbrev pub IsFor : List Item → Plan → Type 0
IsFor items (Answered measured) = MeasuresTexts measured
IsFor items (FaultMade fault related version) = AreTexts (related_texts related fault)
IsFor items (Asks version action relates body_at) =
    AreTexts relates × IsTrue (is_start (slice_get items body_at))

-- it does whatever the service
pub record Plans (limits : Limits) (items : List Item) (plan : Plan) : Type 0 where
  pub leads : (serves : Serves) → Leads limits items plan serves
  pub is_for : IsFor items plan
