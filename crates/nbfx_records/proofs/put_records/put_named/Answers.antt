use Rattle.nbfx_records.specs.{Chosen.named_bytes, Views.name_seen}
use Rattle.nbfx_records.proofs.PutFacts.{put_first, put_second}
use Rattle.nbfx_records.proofs.put_records.put_named.Goals as goal

pub returns-in_err-put_kind : goal.returns-in_err-put_kind
returns-in_err-put_kind c = put_first
    (named_bytes c.args.form c.args.prefix.now (name_seen c.args.name)) c.from_residual.ensures.0
    c.in_err-put_kind.ensures

pub returns : goal.returns
returns c = put_second c.in_ok-put_kind.ensures
    (put_second c.in_ok-put_prefix.ensures c.put_name.ensures)
