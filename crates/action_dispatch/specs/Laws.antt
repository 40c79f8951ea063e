-- What holds of answers by their definition alone.
use Rattle.std.specs.Prelude.{◌≡◌, ℕ, List, Ok}
use Rattle.nbfx_values.specs.declared.content.Item.{Item}
use Rattle.soap_envelope.specs.View.{View, view}
use Rattle.action_dispatch.specs.declared.judging.Judged.TheVariants.{Asked}
use Rattle.action_dispatch.specs.Answers.{Serves, answer_by, answered, judged}

-- A request that is to be served is answered by what the service says to its action and to the
-- content of its Body, whatever their size.
abbrev pub AsksTheService : Type 0
AsksTheService = (serves : Serves) (items : List Item) (v : View) (action : List ℕ)
    → view items ≡ Ok v → judged v ≡ Asked action
    → answered serves items ≡ answer_by v.version action v.message_id (serves action v.body)
