-- A stream ends with the End record or a Fault, and with nothing else.
use Rattle.std.proofs.Common.{◌≡◌, ℕ, ◌+◌, Bool, true, false, List, if◌then◌else◌, ◌==◌, Some, None}
use Rattle.std.proofs.Common.{Option, sym, refl, ap, ◌∙◌}
use Rattle.{unit_streams.specs.Grammar.TellsItsEnd, nbfx_values.specs.declared.session.Mode.Mode}
use Rattle.nbfx_values.specs.declared.session.Mode.TheVariants.{Duplex, Simplex, Singleton}
use Rattle.nmf_records.specs.declared.{frame.Frame.Frame, script.Direction.Direction}
use Rattle.nmf_records.specs.declared.script.Direction.TheVariants.{FromInitiator, FromReceiver}
use Rattle.nmf_records.specs.Script.{behind_preamble, first}
use Rattle.stream_reader.specs.Stream.{accepted, after, after_bare, behind_payload, chunk_due}
use Rattle.stream_reader.specs.Stream.{chunked, completed, completed_bare, completed_payload}
use Rattle.stream_reader.specs.Stream.{direction_of, due_behind, due_in, ended, ends, Form, frame}
use Rattle.stream_reader.specs.Stream.{initiators, is_over_in, last_chunk, led, message, on_open}
use Rattle.stream_reader.specs.Stream.{on_payload, opened, OpenPayload, payload_by, payload_byte}
use Rattle.stream_reader.specs.Stream.{payload_open, peer_fault, receivers, record_due, Settings}
use Rattle.stream_reader.specs.Stream.{Side, Situation, sized, Stage, stream, StreamEvent}
use Rattle.stream_reader.specs.Stream.{StreamUnit, with_byte}
use Rattle.stream_reader.proofs.Outcomes.{envelope_of, goes_on, is_refused, is_whole, outcome}
use Rattle.stream_reader.proofs.Outcomes.{wants_chunk}
use Rattle.nmf_records.specs.declared.frame.Frame.TheVariants as frames
use Rattle.nmf_records.specs.declared.script.Due.TheVariants as dues

-- a situation is over as its stage is
abbrev Over : Situation → Bool → Type 0
Over z b = is_over_in z.stage ≡ b

-- what comes behind the preamble, or behind a payload, isn't the end
pub begun_on : (direction : Direction) (mode : Mode)
    → is_over_in (record_due (behind_preamble direction mode)) ≡ false
begun_on FromInitiator Singleton = refl
begun_on FromInitiator Duplex = refl
begun_on FromInitiator Simplex = refl
begun_on FromReceiver Singleton = refl
begun_on FromReceiver Duplex = refl
begun_on FromReceiver Simplex = refl

pub form_on : (form : Form) → is_over_in (record_due (due_behind form)) ≡ false
form_on sized = refl
form_on chunked = refl
form_on last_chunk = refl

pub first_on : (side : Side) → is_over_in (record_due (first (direction_of side))) ≡ false
first_on (initiators endpoint) = refl
first_on (receivers mode kind) = refl

module _ (x : Settings) (z : Situation) where
  -- bytes of a payload end nothing
  pub payload_goes_on : (p : OpenPayload) → Over (behind_payload x z p) false
  payload_goes_on p =
      elim (outcome x z p) [
        | goes_on more b c ↦ rw b refl
        | wants_chunk none h b c ↦ rw b refl
        | is_whole all none b c ↦ rw b (form_on p.form)
        | is_refused all r is b c ↦ rw b (form_on p.form)
      ]

  -- and an event that they complete is none of an end
  payload_message : (p : OpenPayload) (v : StreamEvent) → completed_payload x z p ≡ Some v
      → ends v ≡ false
  payload_message p v e =
      elim (outcome x z p) [
        | goes_on more b c ↦ let bad = sym c ∙ e in cc
        | wants_chunk none h b c ↦ let bad = sym c ∙ e in cc
        | is_whole all none b c ↦
            let same : message (envelope_of z p) ≡ v = let two = sym c ∙ e in cc in ap ends
            (sym same)
        | is_refused all r is b c ↦ let bad = sym c ∙ e in cc
      ]

  payload_ends : (p : OpenPayload) (v : StreamEvent) → completed_payload x z p ≡ Some v
      → Over (behind_payload x z p) (ends v)
  payload_ends p v e = payload_goes_on p ∙ sym (payload_message p v e)

  -- a chunk's size leads to no end of the session
  chunk_goes_on : (stage : Stage) (size : ℕ) → is_over_in stage ≡ false
      → is_over_in (record_due (led x z.mode stage (frames.Chunk size))) ≡ false
  chunk_goes_on stage size e = go (size == 0) (due_going stage e) where
    due_going : (stage : Stage) → is_over_in stage ≡ false
        → is_over_in (record_due (due_in stage)) ≡ false
    due_going (record_due due) e = e
    due_going (chunk_due p) e = refl
    due_going (payload_open p) e = form_on p.form

    go : (b : Bool) → is_over_in (record_due (due_in stage)) ≡ false
        → is_over_in (record_due (if b then dues.End else due_in stage)) ≡ false
    go true e = refl
    go false e = e

  -- a record of no payload that completes nothing ends nothing
  pub bare_goes_on : (from to : ℕ) (read : Frame) (text : List ℕ) → payload_by x z from read ≡ None
      → is_over_in z.stage ≡ false → completed_bare z to read text ≡ None
      → Over (after_bare x z read text) false
  bare_goes_on from to (frames.Chunk size) text none on e = chunk_goes_on z.stage size on
  bare_goes_on from to frames.UnsizedEnvelope text none on e = cc
  bare_goes_on from to (frames.SizedEnvelope size) text none on e = cc
  bare_goes_on from to frames.End text none on e = cc
  bare_goes_on from to frames.Fault text none on e = cc
  bare_goes_on from to frames.PreambleAck text none on e = cc
  bare_goes_on from to frames.PreambleEnd text none on e = cc
  bare_goes_on from to _ text none on e = refl

  -- one that completes an event ends as the event says
  bare_ends : (to : ℕ) (read : Frame) (text : List ℕ) (v : StreamEvent)
      → completed_bare z to read text ≡ Some v → Over (after_bare x z read text) (ends v)
  bare_ends to frames.End text v e = let same : ended to ≡ v = cc in ap ends same
  bare_ends to frames.Fault text v e = let same : peer_fault to text ≡ v = cc in ap ends same
  bare_ends to frames.PreambleAck text v e =
      let same : accepted ≡ v = cc in begun_on (direction_of x.side) z.mode ∙ ap ends same
  bare_ends to frames.PreambleEnd text v e =
      let same : opened z.mode z.kind z.text ≡ v = cc in
      begun_on (direction_of x.side) z.mode ∙ ap ends same
  bare_ends to read text v e = cc

  -- whether it is a record of a payload or of none
  record_goes_on : (from to : ℕ) (read : Frame) (text : List ℕ) (v : Option OpenPayload)
      → payload_by x z from read ≡ v → is_over_in z.stage ≡ false
      → on_payload v (completed_payload x z) (completed_bare z to read text) ≡ None
      → Over (on_payload v (behind_payload x z) (after_bare x z read text)) false
  record_goes_on from to read text (Some p) is on e = payload_goes_on p
  record_goes_on from to read text None is on e = bare_goes_on from to read text is on e

  record_ends : (to : ℕ) (read : Frame) (text : List ℕ) (w : Option OpenPayload) (v : StreamEvent)
      → on_payload w (completed_payload x z) (completed_bare z to read text) ≡ Some v
      → Over (on_payload w (behind_payload x z) (after_bare x z read text)) (ends v)
  record_ends to read text (Some p) v e = payload_ends p v e
  record_ends to read text None v e = bare_ends to read text v e

  byte_goes_on : (stage : Stage) (byte : ℕ) → is_over_in z.stage ≡ false
      → Over (on_open stage (λ p. behind_payload x z (with_byte x z p byte)) z) false
  byte_goes_on (record_due due) byte on = on
  byte_goes_on (chunk_due p) byte on = on
  byte_goes_on (payload_open p) byte on = payload_goes_on (with_byte x z p byte)

  byte_ends : (stage : Stage) (byte : ℕ) (v : StreamEvent)
      → on_open stage (λ p. completed_payload x z (with_byte x z p byte)) None ≡ Some v
      → Over (on_open stage (λ p. behind_payload x z (with_byte x z p byte)) z) (ends v)
  byte_ends (record_due due) byte v e = cc
  byte_ends (chunk_due p) byte v e = cc
  byte_ends (payload_open p) byte v e = payload_ends (with_byte x z p byte) v e

  unit_goes_on : (from to : ℕ) (u : StreamUnit) → is_over_in z.stage ≡ false
      → completed x z from to u ≡ None → Over (after x z from u) false
  unfolding completed after
  unit_goes_on from to (frame read) on none =
      record_goes_on from to read.frame read.text (payload_by x z from read.frame) refl on none
  unit_goes_on from to (payload_byte byte) on none = byte_goes_on z.stage byte on

  unit_ends : (from to : ℕ) (u : StreamUnit) (v : StreamEvent) → completed x z from to u ≡ Some v
      → Over (after x z from u) (ends v)
  unfolding completed after
  unit_ends from to (frame read) v some =
      record_ends to read.frame read.text (payload_by x z from read.frame) v some
  unit_ends from to (payload_byte byte) v some = byte_ends z.stage byte v some

pub tells : (x : Settings) → TellsItsEnd (stream x) ends
tells x = record {
  start = first_on x.side;
  told = λ z from b u k v reads on some. unit_ends x z from (from + k) u v some;
  untold = λ z from b u k reads on none. unit_goes_on x z from (from + k) u on none;
}
