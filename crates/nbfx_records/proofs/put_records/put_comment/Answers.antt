use Rattle.{multibyte_ints.specs.Text.string_bytes_of, nbfx_records.proofs.PutFacts.put_first}
use Rattle.nbfx_records.proofs.put_records.put_comment.Goals as goal

pub returns-in_err-put_kind : goal.returns-in_err-put_kind
returns-in_err-put_kind c = put_first (string_bytes_of c.args.text.now) c.from_residual.ensures.0
    c.in_err-put_kind.ensures
