use Rattle.nbfx_records.proofs.PutFacts.{put_first, put_second}
use Rattle.nbfx_records.proofs.put_values.put_counted.Goals as goal

pub returns-in_err-put_length : goal.returns-in_err-put_length
returns-in_err-put_length c = put_first c.args.content.now c.from_residual.ensures.0
    c.in_err-put_length.ensures

pub returns : goal.returns
returns c = put_second c.in_ok-put_length.ensures c.put_bytes.ensures
