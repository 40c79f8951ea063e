use Rattle.std.proofs.Common.{◌≤◌, length, sym, refl, subst, inr}
use Rattle.nmf_records.specs.declared.reader.TheConstants.{CONTENT_TYPE_LIMIT}
use Rattle.stream_reader.proofs.RightRecords.{type_short}
use Rattle.initiator_machine.proofs.preamble.put_encoding.Goals as goal

pub put_text_frame-requires : goal.put_text_frame-requires
put_text_frame-requires c =
    inr (
      refl,
      subst (λ t. length t ≤ CONTENT_TYPE_LIMIT) (sym c.content_type.ensures)
          (type_short c.in-Extensible.kind),
    )
