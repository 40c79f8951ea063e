-- The plan for a request leads to its answer.
use Rattle.std.proofs.Common.{◌≡◌, ℕ, Bool, true, false, List, [], IfOk, if◌then◌else◌, OnOk}
use Rattle.std.proofs.Common.{IsTrue, length, slice_get, Ok, Err, Result, sym, refl, ap, ◌∙◌}
use Rattle.std.proofs.Common.{subst}
use Rattle.unit_streams.specs.declared.memory.Memory.{Memory}
use Rattle.nbfx_values.specs.{declared.content.Item.Item, Limits.Limits}
use Rattle.soap_envelope.proofs.{FaultSizes.unfit_names_are_unfit, RelatedTexts.related_are}
use Rattle.soap_envelope.specs.{declared.refusals.SoapFault.SoapFault, Body.body_items}
use Rattle.soap_envelope.specs.{Children.is_start, Making.AreTexts, View.View, View.view}
use Rattle.soap_envelope.specs.declared.versions.Addressing.{Addressing, TheVariants.V10}
use Rattle.soap_envelope.specs.{Fitting.names_fit, Parts.root_scope, Seen.BodyStands}
use Rattle.action_dispatch.specs.declared.answers.Answer.{Answer, TheVariants.Reply}
use Rattle.action_dispatch.specs.declared.judging.Judged.{Judged}
use Rattle.action_dispatch.specs.declared.answers.Measured.TheVariants.{Made, TooLarge}
use Rattle.action_dispatch.specs.declared.judging.Judged.TheVariants.{Asked, Refused, Unanswered}
use Rattle.action_dispatch.specs.declared.planning.Plan.{Plan, TheVariants.Answered}
use Rattle.action_dispatch.specs.declared.planning.Plan.TheVariants.{Refused as FaultMade}
use Rattle.action_dispatch.specs.{declared.refusals.Refusal.Refusal, Answers.Serves}
use Rattle.action_dispatch.specs.Answers.{answer_by, answer_to, answered, answered_by, judged}
use Rattle.action_dispatch.specs.Answers.{refusal_answer, RelatesToTexts}
use Rattle.action_dispatch.specs.Planning.{IsFor, Leads, planned, planned_of, Plans, refused}
use Rattle.action_dispatch.specs.Refusals.{fault_of, names_of, refusal_of, report_of}

module _ (limits : Limits) (doc : List Item) where
  -- a fault, which isn't made where its names don't fit
  led : (serves : Serves) (version : Addressing) (refusal : Refusal) (relates : List Item)
      → answered serves doc ≡ refusal_answer version refusal relates
      → Leads limits doc (refused limits version refusal relates) serves
  led serves version refusal relates is = by (names_fit limits (names_of refusal)) refl
    where
      by : (b : Bool) → names_fit limits (names_of refusal) ≡ b
          → Leads limits doc
          (if b then FaultMade (fault_of version refusal relates) (length relates) version
          else Answered (TooLarge relates version))
          serves
      by true fit =
          is ∙ ap (λ texts. Reply (fault_of version refusal relates) texts version)
          (sym (related_are version (report_of refusal) relates))
      by false unfit = (
        fault_of version refusal relates,
        is,
        unfit_names_are_unfit limits version (report_of refusal) relates unfit,
      )

  with_texts : (version : Addressing) (refusal : Refusal) (relates : List Item) → AreTexts relates
      → IsFor doc (refused limits version refusal relates)
  with_texts version refusal relates texts = by (names_fit limits (names_of refusal)) where
    by : (b : Bool)
        → IsFor doc
        (if b then FaultMade (fault_of version refusal relates) (length relates) version
        else Answered (TooLarge relates version))
    by true = subst AreTexts (sym (related_are version (report_of refusal) relates)) texts
    by false = texts

  -- whatever becomes of it
  leads-by : (serves : Serves) (version : Addressing) (body relates : List Item) (at : ℕ) (step :
      Judged)
      → body ≡ body_items version doc (root_scope doc) at
      → answered serves doc ≡ answer_to serves version body relates step
      → Leads limits doc (planned limits version step relates at) serves
  leads-by serves version body relates at Unanswered same is = sym is
  leads-by serves version body relates at (Refused refusal) same is = led serves version refusal
      relates is
  leads-by serves version body relates at (Asked action) same is =
      is ∙ ap (λ content. answer_by version action relates (serves action content)) same

  is-for : (version : Addressing) (relates : List Item) (at : ℕ) (step : Judged) → AreTexts relates
      → IsTrue (is_start (slice_get doc at)) → IsFor doc (planned limits version step relates at)
  is-for version relates at Unanswered texts starts = tt
  is-for version relates at (Refused refusal) texts starts = with_texts version refusal relates
      texts
  is-for version relates at (Asked action) texts starts = (texts, starts)

  -- of a document with a view
  pub plans_viewed : (v : View) → view doc ≡ Ok v → BodyStands doc v → AreTexts v.message_id
      → Plans limits doc (planned_of limits v)
  plans_viewed v viewed stands texts = record {
    leads = λ serves. leads-by serves v.version v.body v.message_id v.body_at (judged v)
        stands.content
        (ap (answered_by serves) viewed);
    is_for = is-for v.version v.message_id v.body_at (judged v) texts stands.starts;
  }

  -- of a document without one
  pub plans_refused : (fault : SoapFault) (answer : Answer) → view doc ≡ Err fault
      → answer ≡ refusal_answer V10 (refusal_of fault) [] → RelatesToTexts answer
      → Plans limits doc (Answered (Made answer))
  plans_refused fault answer viewed is texts = record {
    leads = λ serves. is ∙ ap (answered_by serves) (sym viewed);
    is_for = texts;
  }

  pub plans_by : (v : View) (plan : Result Plan Memory) → view doc ≡ Ok v → BodyStands doc v
      → IfOk plan (λ plan. plan ≡ planned_of limits v) → OnOk plan (AreTexts v.message_id)
      → IfOk plan (Plans limits doc)
  plans_by v (Ok plan) viewed stands is texts =
      subst (Plans limits doc) (sym is) (plans_viewed v viewed stands texts)
  plans_by v (Err memory) viewed stands is texts = tt
