use Rattle.std.proofs.Common.{◌≡◌, ℕ, List, [], ◌++◌, Ok, Err, refl, sym, ◌∙◌, append-nil}
use Rattle.std.specs.Bool.{⊤}
use Rattle.unit_streams.specs.declared.memory.Memory.{Memory}
use Rattle.nbfx_records.proofs.PutFacts.{put_first, put_second}
use Rattle.nbfx_records.specs.Putting.{Puts}
use Rattle.nbfx_encoder.specs.{EncoderState.payload_in, Envelopes.envelope_end}
use Rattle.nbfx_encoder.proofs.sender.put_envelope.Goals as goal

-- room that is asked for leaves what stands, whether it is had or not
stays : {old mid : List ℕ} → mid ≡ old → Puts {T = ⊤} {E = Memory} (Ok tt) old mid []
stays is = record { put = is ∙ sym (append-nil _) }

fails : {old mid : List ℕ} → mid ≡ old → Puts {T = ⊤} {E = ⊤} (Err tt) old mid []
fails is = record { put = ([], [], refl, is ∙ sym (append-nil _)) }

pub returns-in_err-reserve : goal.returns-in_err-reserve
returns-in_err-reserve c =
    put_first _ c.from_residual.ensures.0 (fails c.in_err-reserve.ensures.items)

pub returns-in_err-put_envelope_head : goal.returns-in_err-put_envelope_head
returns-in_err-put_envelope_head c = put_second (stays c.in_ok-reserve.ensures.items)
    (put_first (payload_in c.args.encoder.now ++ envelope_end c.args.mode)
    c.from_residual-in_err-put_envelope_head.ensures.0 c.in_err-put_envelope_head.ensures)

pub returns-in_err-put_payload : goal.returns-in_err-put_payload
returns-in_err-put_payload c = put_second (stays c.in_ok-reserve.ensures.items)
    (put_second c.in_ok-put_envelope_head.ensures
    (put_first (envelope_end c.args.mode) c.from_residual-in_err-put_payload.ensures.0
    c.in_err-put_payload.ensures))

pub returns : goal.returns
returns c = put_second (stays c.in_ok-reserve.ensures.items)
    (put_second c.in_ok-put_envelope_head.ensures
    (put_second c.in_ok-put_payload.ensures c.put_envelope_end.ensures))
