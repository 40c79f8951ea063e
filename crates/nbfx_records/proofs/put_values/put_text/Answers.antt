use Rattle.nbfx_records.proofs.PutFacts.{put_first}
use Rattle.nbfx_records.proofs.put_values.put_text.Goals as goal

pub returns-in_err-put_kind : goal.returns-in_err-put_kind
returns-in_err-put_kind c = put_first c.args.body.now c.from_residual.ensures.0
    c.in_err-put_kind.ensures
