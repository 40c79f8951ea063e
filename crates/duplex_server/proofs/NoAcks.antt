-- No Preamble Ack comes in an initiator's stream.
use Rattle.std.proofs.Common.{◌≡◌, ℕ, ◌+◌, Bool, true, false, List, [], ◌∷◌, ◌==◌, if◌then◌else◌}
use Rattle.std.proofs.Common.{Some, None, Option, refl, subst}
use Rattle.unit_streams.proofs.Standing.{standing_last}
use Rattle.unit_streams.specs.{Front.whole, Grammar.standing, Judging.event_at, Judging.given_at}
use Rattle.nbfx_values.specs.declared.session.Mode.{Mode}
use Rattle.nbfx_values.specs.declared.session.Mode.TheVariants.{Duplex, Simplex, Singleton}
use Rattle.nmf_records.specs.{declared.frame.Frame.Frame, declared.script.Due.Due}
use Rattle.nmf_records.specs.declared.script.Direction.TheVariants.{FromInitiator}
use Rattle.nmf_records.specs.{RecordFronts.MayCome, Script.behind_preamble, Script.may_come}
use Rattle.stream_reader.proofs.Coming.{unit_of_chunk, unit_of_payload, unit_of_record}
use Rattle.stream_reader.proofs.{Grammar.readable}
use Rattle.stream_reader.proofs.Outcomes.{goes_on, is_refused, is_whole, outcome, wants_chunk}
use Rattle.stream_reader.specs.Stream.{accepted, after, after_bare, beginning, behind_payload}
use Rattle.stream_reader.specs.Stream.{chunk_due, chunked, completed, completed_bare}
use Rattle.stream_reader.specs.Stream.{completed_payload}
use Rattle.stream_reader.specs.Stream.{direction_of, due_behind, due_in, ended, ends, Form}
use Rattle.stream_reader.specs.Stream.{last_chunk, led, message, on_open, on_payload, opened}
use Rattle.stream_reader.specs.Stream.{OpenPayload, payload_by, payload_open, peer_fault}
use Rattle.stream_reader.specs.Stream.{record_due}
use Rattle.stream_reader.specs.Stream.{Settings, Situation, sized, Stage, stream, StreamEvent}
use Rattle.stream_reader.specs.Stream.{StreamUnit, unit_in, with_byte}
use Rattle.duplex_server.specs.declared.requests.Request.{Request, TheVariants.Ended}
use Rattle.duplex_server.specs.Requests.{request_for}
use Rattle.nmf_records.specs.declared.frame.Frame.TheVariants as frames
use Rattle.nmf_records.specs.declared.script.Due.TheVariants as dues

-- none is due
abbrev WantsNoAck : Stage → Type 0
WantsNoAck (record_due dues.Ack) = ⊥
WantsNoAck stage = Unit {0}

abbrev IsNoAck : Option StreamEvent → Type 0
IsNoAck (Some accepted) = ⊥
IsNoAck event = Unit {0}

abbrev HasNoAck : Situation → Option StreamEvent → Type 0
HasNoAck z event = WantsNoAck z.stage × IsNoAck event

form_wants : (form : Form) → WantsNoAck (record_due (due_behind form))
form_wants sized = tt
form_wants chunked = tt
form_wants last_chunk = tt

preamble_wants : (mode : Mode) → WantsNoAck (record_due (behind_preamble FromInitiator mode))
preamble_wants Singleton = tt
preamble_wants Duplex = tt
preamble_wants Simplex = tt

due_wants : (stage : Stage) → WantsNoAck stage → WantsNoAck (record_due (due_in stage))
due_wants (record_due due) h = h
due_wants (chunk_due p) h = tt
due_wants (payload_open p) h = form_wants p.form

ack_due : (due : Due) → MayCome (may_come FromInitiator due) frames.PreambleAck → due ≡ dues.Ack
ack_due dues.Ack e = refl
ack_due _ e = cc

module _ (x : Settings) (is : direction_of x.side ≡ FromInitiator) (z : Situation)
    (h : WantsNoAck z.stage) where
  payload_has : (p : OpenPayload) → HasNoAck (behind_payload x z p) (completed_payload x z p)
  payload_has p =
      elim (outcome x z p) [
        | goes_on more b c ↦ rw (b, c) (tt, tt)
        | wants_chunk none so b c ↦ rw (b, c) (tt, tt)
        | is_whole all none b c ↦ rw (b, c) (form_wants p.form, tt)
        | is_refused all r so b c ↦ rw (b, c) (form_wants p.form, tt)
      ]

  chunk_wants : (size : ℕ) → WantsNoAck (record_due (led x z.mode z.stage (frames.Chunk size)))
  chunk_wants size = go (size == 0) (due_wants z.stage h) where
    go : (b : Bool) → WantsNoAck (record_due (due_in z.stage))
        → WantsNoAck (record_due (if b then dues.End else due_in z.stage))
    go true kept = tt
    go false kept = kept

  bare_has : (to : ℕ) (read : Frame) (text : List ℕ)
      → MayCome (may_come (direction_of x.side) (due_in z.stage)) read
      → HasNoAck (after_bare x z read text) (completed_bare z to read text)
  bare_has to (frames.Version major minor) text may = (tt, tt)
  bare_has to (frames.Mode byte) text may = (tt, tt)
  bare_has to frames.Via text may = (tt, tt)
  bare_has to (frames.KnownEncoding encoding) text may = (tt, tt)
  bare_has to frames.ExtensibleEncoding text may = (tt, tt)
  bare_has to frames.PreambleEnd text may = (rw is (preamble_wants z.mode), tt)
  bare_has to frames.PreambleAck text may =
      let due = ack_due (due_in z.stage) (rw is at may) in
      absurd (subst (λ (d : Due). WantsNoAck (record_due d)) due (due_wants z.stage h))
  bare_has to frames.UnsizedEnvelope text may = (tt, tt)
  bare_has to (frames.Chunk size) text may = (chunk_wants size, tt)
  bare_has to (frames.SizedEnvelope size) text may = (due_wants z.stage h, tt)
  bare_has to frames.End text may = (tt, tt)
  bare_has to frames.Fault text may = (tt, tt)

  record_has : (to : ℕ) (read : Frame) (text : List ℕ) (v : Option OpenPayload)
      → MayCome (may_come (direction_of x.side) (due_in z.stage)) read
      → HasNoAck (on_payload v (behind_payload x z) (after_bare x z read text))
      (on_payload v (completed_payload x z) (completed_bare z to read text))
  record_has to read text (Some p) may = payload_has p
  record_has to read text None may = bare_has to read text may

  byte_has : (byte : ℕ) (stage : Stage)
      → HasNoAck (on_open stage (λ p. behind_payload x z (with_byte x z p byte)) z)
      (on_open stage (λ p. completed_payload x z (with_byte x z p byte)) None)
  byte_has byte (record_due due) = (h, tt)
  byte_has byte (chunk_due p) = (h, tt)
  byte_has byte (payload_open p) = payload_has (with_byte x z p byte)

  unit_has : (stage : Stage) (from : ℕ) (b : List ℕ) (u : StreamUnit) (k : ℕ) → z.stage ≡ stage
      → unit_in x stage from b ≡ whole u k
      → HasNoAck (after x z from u) (completed x z from (from + k) u)
  unfolding after completed
  unit_has (record_due due) from b u k at e =
      let c = unit_of_record x from b u k due e in
      rw c.1 (record_has (from + k) c.0.frame c.0.text (payload_by x z from c.0.frame)
      (rw at c.2.may))
  unit_has (chunk_due p) from b u k at e =
      let c = unit_of_chunk x from b u k p e in
      rw c.1 (record_has (from + k) c.0.frame c.0.text (payload_by x z from c.0.frame)
      (rw at c.2.may))
  unit_has (payload_open p) from b u k at e =
      let c = unit_of_payload x from b u k p e in rw c.3 (byte_has c.0 z.stage)

-- what was begun behind the last unit hides its event
not_given : (begun : List ℕ) (event : Option StreamEvent) → IsNoAck event
    → given_at begun event ≡ Some accepted → ⊥
not_given [] event none is = subst IsNoAck is none
not_given (b ∷ rest) event none is = cc

abbrev pub ends_by : Request → Bool
ends_by Ended = true
ends_by request = false

module _ (x : Settings) (is : direction_of x.side ≡ FromInitiator) where
  pub no_acks : (p : List ℕ) → event_at (stream x) p ≡ Some accepted → ⊥
  unfolding event_at
  no_acks p given =
      not_given (standing (stream x) p).begun (standing (stream x) p).event
      (standing_last (stream x) (readable x) (λ z from event refusal. HasNoAck z event) first
      (λ z from event refusal b u k e some h. unit_has x is z h.0 z.stage from b u k refl e) p).1
      given
    where
      first : HasNoAck (beginning x) None
      first = rw is (tt, tt)

  -- so a request tells whether it ends the stream
  pub end_told : (p : List ℕ) (event : StreamEvent) → event_at (stream x) p ≡ Some event
      → (request : Request) → request ≡ request_for event → ends_by request ≡ ends event
  end_told p accepted there request says = absurd (no_acks p there)
  end_told p (opened mode kind via) there request says = rw says refl
  end_told p (message e) there request says = rw says refl
  end_told p (ended n) there request says = rw says refl
  end_told p (peer_fault n text) there request says = rw says refl
