use Rattle.std.proofs.Common.{◌≡◌, [], sym, refl, ap, subst, arith}
use Rattle.{nbfx_decoder.specs.declared.decoder.Decoder.Decoder}
use Rattle.nbfx_decoder.specs.DecoderState.{FailedBehind as DecoderFailedBehind}
use Rattle.nbfx_decoder.specs.DecoderState.{settings_of as decoder_settings}
use Rattle.stream_reader.specs.{StreamReaderState.failure_of}
use Rattle.stream_reader.proofs.PayloadSteps.{behind_document, behind_refused}
use Rattle.stream_reader.specs.declared.awaited.Awaited.TheVariants as awaits
use Rattle.stream_reader.proofs.reader.StreamReader.behind_last.Goals as goal

pub returns-in-Err-clause-answers : goal.returns-in-Err-clause-answers
returns-in-Err-clause-answers c = λ x z p h.
    let decoder = sym c.refuse_payload.ensures.shown.decoder in
    behind_refused c.args.self.now x z c.args.payload p h c.requires.last
    c.requires.unchunked c.refuse_payload.new.self
    (subst (λ (d : Decoder). decoder_settings d ≡ decoder_settings c.args.self.now.decoder) decoder
    c.in-Err.ensures.settings) c.in-Err.fault _
    (c.in-Err.ensures.answers z.strings h.part.bytes h.part.stands_for)
    (subst (λ (d : Decoder). DecoderFailedBehind d c.in-Err.fault z.strings h.part.bytes) decoder
    (c.in-Err.ensures.failed z.strings h.part.bytes h.part.stands_for))
    c.refuse_payload.ensures.told c.refuse_payload.ensures.shown.messages

pub returns-in-Err-clause-refused : goal.returns-in-Err-clause-refused
unfolding failure_of
returns-in-Err-clause-refused c = c.refuse_payload.ensures.failure

pub returns-clause-answers : goal.returns-clause-answers
returns-clause-answers c = λ x z p h.
    let anew = c.in-Ok.ensures.anew z.strings h.part.bytes h.part.stands_for in
    behind_document c.args.self.now x z c.args.payload p h c.requires.last
    c.requires.unchunked _ c.in-Ok.ensures.settings c.in-Ok.doc
    c.table-table.result.now c.args.self.now.messages _ _
    (c.in-Ok.ensures.answers z.strings h.part.bytes h.part.stands_for) anew
    (ap awaits.Record c.due_after.ensures) refl refl
    (omega (arith, c.saturating_add-self.ensures, h.few, h.messages)) refl
    (c.table-table.ensures.strings _ [] anew) c.len.ensures.count c.used.ensures.cost
