-- When a service is asked.
use Rattle.std.proofs.Common.{ap, ◌∙◌}
use Rattle.action_dispatch.specs.{Answers.answer_to, Answers.answered_by, Laws.AsksTheService}

pub asks_the_service : AsksTheService
asks_the_service serves items v action viewed asked =
    ap (answered_by serves) viewed ∙ ap (answer_to serves v.version v.body v.message_id) asked
