-- The events that end a stream close it.
use Rattle.std.proofs.Common.{◌≡◌, ℕ, true, List, Some, None, Option, option_map, refl, subst}
use Rattle.{std.specs.Option.option_or, unit_streams.specs.Tellers.Closes}
use Rattle.nbfx_values.specs.declared.refusals.Offence.{Offence}
use Rattle.nmf_records.specs.declared.frame.Frame.{Frame}
use Rattle.stream_reader.specs.Stream.{chunk_due, completed, completed_bare, completed_payload}
use Rattle.stream_reader.specs.Stream.{ends, Envelope, envelope_in, frame, message, offence_at}
use Rattle.stream_reader.specs.Stream.{on_open, on_payload, OpenPayload, payload_by, payload_byte}
use Rattle.stream_reader.specs.Stream.{payload_open, reason_in, record_due, refused}
use Rattle.stream_reader.specs.Stream.{refused_payload, Settings, Situation, Stage, stream}
use Rattle.stream_reader.specs.Stream.{StreamEvent, StreamUnit, with_byte}
use Rattle.stream_reader.proofs.{Ending.tells, Grammar.quiet_over, Grammar.readable}
use Rattle.nmf_records.specs.declared.frame.Frame.TheVariants as frames

-- an event that ends the stream comes without a refusal
abbrev Unrefused : Option StreamEvent → Option Offence → Type 0
Unrefused None refusal = Unit {0}
Unrefused (Some event) refusal = ends event ≡ true → refusal ≡ None

-- an envelope doesn't end it
envelope_unrefused : (envelope : Option Envelope) (refusal : Option Offence)
    → Unrefused (option_map message envelope) refusal
envelope_unrefused None refusal = tt
envelope_unrefused (Some e) refusal = λ h. cc

module _ (x : Settings) (z : Situation) where
  bare_unrefused : (from to : ℕ) (read : Frame) (text : List ℕ)
      → Unrefused (completed_bare z to read text)
      (option_or (option_map (offence_at from) (reason_in x z.stage read text)) None)
  bare_unrefused from to frames.End text = λ e. refl
  bare_unrefused from to frames.Fault text = λ e. refl
  bare_unrefused from to frames.PreambleEnd text = λ e. refl
  bare_unrefused from to frames.PreambleAck text = λ e. refl
  bare_unrefused from to read text = tt

  record_unrefused : (from to : ℕ) (read : Frame) (text : List ℕ) (v : Option OpenPayload)
      → Unrefused (on_payload v (completed_payload x z) (completed_bare z to read text))
      (option_or (option_map (offence_at from) (reason_in x z.stage read text))
      (on_payload v (refused_payload x z) None))
  record_unrefused from to read text (Some p) = envelope_unrefused (envelope_in x z p) _
  record_unrefused from to read text None = bare_unrefused from to read text

  byte_unrefused : (stage : Stage) (byte : ℕ)
      → Unrefused (on_open stage (λ p. completed_payload x z (with_byte x z p byte)) None)
      (on_open stage (λ p. refused_payload x z (with_byte x z p byte)) None)
  byte_unrefused (record_due due) byte = tt
  byte_unrefused (chunk_due p) byte = tt
  byte_unrefused (payload_open p) byte = envelope_unrefused (envelope_in x z (with_byte x z p byte))
      _

  unit_unrefused : (from to : ℕ) (u : StreamUnit)
      → Unrefused (completed x z from to u) (refused x z from u)
  unfolding completed refused
  unit_unrefused from to (frame read) =
      record_unrefused from to read.frame read.text (payload_by x z from read.frame)
  unit_unrefused from to (payload_byte byte) = byte_unrefused z.stage byte

pub closes : (x : Settings) → Closes (stream x) ends
closes x = record {
  readable = readable x;
  quiet = quiet_over x;
  tells = tells x;
  unrefused = λ z from to u event some is_end.
      subst (λ (v : Option StreamEvent). Unrefused v (refused x z from u)) some
      (unit_unrefused x z from to u) is_end;
}
