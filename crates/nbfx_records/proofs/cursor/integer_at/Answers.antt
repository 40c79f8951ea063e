use Rattle.nbfx_records.proofs.CursorFacts.{one_byte_whole}
use Rattle.nbfx_records.proofs.cursor.integer_at.Goals as goal

pub returns-then-bytes-from-lt128-clause-tells : goal.returns-then-bytes-from-lt128-clause-tells
returns-then-bytes-from-lt128-clause-tells c = record {
  told = one_byte_whole c.args.bytes.now c.args.from c.if-from-bytes.true
      c.if-bytes-from-lt128.true;
}
