use Rattle.multibyte_ints.specs.Text.{string_bytes_of}
use Rattle.nbfx_records.proofs.PutFacts.{put_first, put_second}
use Rattle.nbfx_records.proofs.put_parts.put_raw_string.Goals as goal

pub returns-in_err-put_integer : goal.returns-in_err-put_integer
unfolding string_bytes_of
returns-in_err-put_integer c = put_first c.args.text.now c.from_residual.ensures.0
    c.in_err-put_integer.ensures

pub returns : goal.returns
unfolding string_bytes_of
returns c = put_second c.in_ok-put_integer.ensures c.put_bytes.ensures
