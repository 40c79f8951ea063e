-- Where the input may end in a stream that isn't over: behind the Ack alone of a receiver in
-- simplex
-- mode.
use Rattle.std.proofs.Common.{◌≡◌, ℕ, Bool, true, false, ◌&&◌, List, [], ◌∷◌, ◌++◌, length}
use Rattle.std.proofs.Common.{if◌then◌else◌, ◌==◌, Some, None, Option, sym, refl, ap, ◌∙◌, subst}
use Rattle.std.proofs.{Common.arith, Common.take_all, Common.eqb-true, lemmas.List.nil_from_length}
use Rattle.{unit_streams.proofs.Refusals.unit_standing, nmf_records.specs.Records.IsRecordOf}
use Rattle.unit_streams.proofs.Standing.{standing_keeps, standing_length, standing_nothing}
use Rattle.unit_streams.specs.{Front.whole, Grammar.Standing, Grammar.standing, Refusals.AreUnits}
use Rattle.unit_streams.specs.Judging.{ending_at, is_over_at}
use Rattle.nbfx_values.specs.declared.refusals.Offence.{Offence}
use Rattle.nbfx_values.specs.declared.session.{Kind.Kind, Mode.Mode}
use Rattle.nbfx_values.specs.declared.session.Mode.TheVariants.{Duplex, Simplex, Singleton}
use Rattle.nmf_records.specs.declared.{frame.Frame.Frame, record_types.TheConstants.PREAMBLE_ACK}
use Rattle.nmf_records.specs.declared.script.{Direction.Direction, Due.Due}
use Rattle.nmf_records.specs.declared.script.Direction.TheVariants.{FromInitiator, FromReceiver}
use Rattle.nmf_records.specs.RecordFronts.{bare, comes, MayCome}
use Rattle.nmf_records.specs.Script.{behind_preamble, first, may_come, may_end}
use Rattle.stream_reader.specs.Reasons.{IsLoneAck}
use Rattle.stream_reader.specs.Stream.{after, after_bare, beginning, behind_payload, chunk_due}
use Rattle.stream_reader.specs.Stream.{chunked, cut_off, direction_of, due_behind, due_in, Form}
use Rattle.stream_reader.specs.Stream.{frame, initiators, is_over_in, last_chunk, led, may_end_in}
use Rattle.stream_reader.specs.Stream.{offence_at, on_open, on_payload, open_from, OpenPayload}
use Rattle.stream_reader.specs.Stream.{payload_by, payload_open, receivers, record_due, Settings}
use Rattle.stream_reader.specs.Stream.{Side, Situation, sized, Stage, stream, StreamEvent}
use Rattle.stream_reader.specs.Stream.{StreamUnit, unit_in, with_byte}
use Rattle.stream_reader.proofs.Coming.{unit_of_chunk, unit_of_payload, unit_of_record}
use Rattle.stream_reader.proofs.DueRecords.{mode_due, record_unit, version_due}
use Rattle.stream_reader.proofs.{Grammar.readable, Outcomes.wants_chunk, Prefixes.units_keep}
use Rattle.stream_reader.proofs.Outcomes.{goes_on, is_refused, is_whole, mode_behind, outcome}
use Rattle.nbfx_values.specs.declared.refusals.Reason.TheVariants as reasons
use Rattle.nmf_records.specs.declared.frame.Frame.TheVariants as frames
use Rattle.nmf_records.specs.declared.script.Due.TheVariants as dues

-- no Version or Mode record is due
abbrev pub IsBehindMode : Stage → Type 0
IsBehindMode (record_due dues.Version) = ⊥
IsBehindMode (record_due dues.Mode) = ⊥
IsBehindMode stage = Unit {0}

form_behind : (form : Form) → IsBehindMode (record_due (due_behind form))
form_behind sized = tt
form_behind chunked = tt
form_behind last_chunk = tt

preamble_behind : (direction : Direction) (mode : Mode)
    → IsBehindMode (record_due (behind_preamble direction mode))
preamble_behind FromInitiator Singleton = tt
preamble_behind FromInitiator Duplex = tt
preamble_behind FromInitiator Simplex = tt
preamble_behind FromReceiver Singleton = tt
preamble_behind FromReceiver Duplex = tt
preamble_behind FromReceiver Simplex = tt

-- the mode is this one, and stays so
abbrev pub KeepsMode : Mode → Situation → Type 0
KeepsMode mode z = (z.mode ≡ mode) × IsBehindMode z.stage

module _ (x : Settings) (mode : Mode) (z : Situation) (h : KeepsMode mode z) where
  payload_keeps : (p : OpenPayload) → KeepsMode mode (behind_payload x z p)
  payload_keeps p = (
    mode_behind x z p ∙ h.0,
    elim (outcome x z p) [
      | goes_on more b c ↦ rw b tt
      | wants_chunk none is b c ↦ rw b tt
      | is_whole all none b c ↦ rw b (form_behind p.form)
      | is_refused all r is b c ↦ rw b (form_behind p.form)
    ],
  )

  due_keeps : (stage : Stage) → IsBehindMode stage → IsBehindMode (record_due (due_in stage))
  due_keeps (record_due due) h = h
  due_keeps (chunk_due p) h = tt
  due_keeps (payload_open p) h = form_behind p.form

  chunk_keeps : (size : ℕ) → IsBehindMode (record_due (led x z.mode z.stage (frames.Chunk size)))
  chunk_keeps size = go (size == 0) (due_keeps z.stage h.1) where
    go : (b : Bool) → IsBehindMode (record_due (due_in z.stage))
        → IsBehindMode (record_due (if b then dues.End else due_in z.stage))
    go true kept = tt
    go false kept = kept

  bare_keeps : (read : Frame) (text : List ℕ)
      → MayCome (may_come (direction_of x.side) (due_in z.stage)) read
      → KeepsMode mode (after_bare x z read text)
  bare_keeps (frames.Version major minor) text may =
      absurd (subst (λ (due : Due). IsBehindMode (record_due due))
      (version_due (direction_of x.side) (due_in z.stage) major minor may) (due_keeps z.stage h.1))
  bare_keeps (frames.Mode byte) text may =
      absurd (subst (λ (due : Due). IsBehindMode (record_due due))
      (mode_due (direction_of x.side) (due_in z.stage) byte may) (due_keeps z.stage h.1))
  bare_keeps frames.PreambleEnd text may = (h.0, preamble_behind (direction_of x.side) z.mode)
  bare_keeps frames.PreambleAck text may = (h.0, preamble_behind (direction_of x.side) z.mode)
  bare_keeps (frames.Chunk size) text may = (h.0, chunk_keeps size)
  bare_keeps (frames.SizedEnvelope size) text may = (h.0, due_keeps z.stage h.1)
  bare_keeps _ text may = (h.0, tt)

  record_keeps : (read : Frame) (text : List ℕ) (v : Option OpenPayload)
      → MayCome (may_come (direction_of x.side) (due_in z.stage)) read
      → KeepsMode mode (on_payload v (behind_payload x z) (after_bare x z read text))
  record_keeps read text (Some p) may = payload_keeps p
  record_keeps read text None may = bare_keeps read text may

  byte_keeps : (byte : ℕ) (stage : Stage)
      → KeepsMode mode (on_open stage (λ p. behind_payload x z (with_byte x z p byte)) z)
  byte_keeps byte (record_due due) = h
  byte_keeps byte (chunk_due p) = h
  byte_keeps byte (payload_open p) = payload_keeps (with_byte x z p byte)

  pub unit_keeps : (stage : Stage) (from : ℕ) (b : List ℕ) (u : StreamUnit) (k : ℕ) → z.stage ≡ stage
      → unit_in x stage from b ≡ whole u k → KeepsMode mode (after x z from u)
  unfolding after
  unit_keeps (record_due due) from b u k at e =
      let c = unit_of_record x from b u k due e in
      rw c.1 (record_keeps c.0.frame c.0.text (payload_by x z from c.0.frame)
      (rw at c.2.may))
  unit_keeps (chunk_due p) from b u k at e =
      let c = unit_of_chunk x from b u k p e in
      rw c.1 (record_keeps c.0.frame c.0.text (payload_by x z from c.0.frame)
      (rw at c.2.may))
  unit_keeps (payload_open p) from b u k at e =
      let c = unit_of_payload x from b u k p e in rw c.3 (byte_keeps c.0 z.stage)

-- a receiver's stream stays in its mode
pub receivers_mode : (x : Settings) (mode : Mode) (kind : Kind) → x.side ≡ receivers mode kind
    → (p : List ℕ) → (standing (stream x) p).situation.mode ≡ mode
receivers_mode x mode kind side p =
    (standing_keeps (stream x) (readable x) (λ z from. KeepsMode mode z) first
    (λ z from b u k e some h. unit_keeps x mode z h z.stage from b u k refl e) p).0
  where
    first : KeepsMode mode (beginning x)
    first = rw side (refl, tt)

-- where a receiver's stream stands in simplex mode: before the Ack, behind it alone, or at the end
abbrev IsOneWay : Stage → List ℕ → Type 0
IsOneWay (record_due dues.Ack) p = p ≡ []
IsOneWay (record_due dues.End) p = p ≡ PREAMBLE_ACK ∷ []
IsOneWay (record_due dues.Over) p = Unit {0}
IsOneWay stage p = ⊥

module _ (x : Settings) (kind : Kind) (side : x.side ≡ receivers Simplex kind) where
  abbrev OneWayAt : List ℕ → Type 0
  OneWayAt p = IsOneWay (standing (stream x) p).situation.stage p

  module _ (before bytes : List ℕ) (z : Situation) (from : ℕ) (mode : z.mode ≡ Simplex) where
    goes_one_way : (due : Due) (read : Frame) (text : List ℕ) → z.stage ≡ record_due due
        → IsOneWay (record_due due) before → MayCome (may_come FromReceiver due) read
        → IsRecordOf read text bytes
        → IsOneWay (on_payload (payload_by x z from read) (behind_payload x z)
        (after_bare x z read text)).stage (before ++ bytes)
    goes_one_way dues.Ack frames.PreambleAck text at h may is =
        rw (side, mode, h, is.1) refl
    goes_one_way dues.Ack frames.Fault text at h may is = tt
    goes_one_way dues.End frames.End text at h may is = tt
    goes_one_way dues.End frames.Fault text at h may is = tt
    goes_one_way dues.Ack _ text at h may is = cc
    goes_one_way dues.End _ text at h may is = cc
    goes_one_way dues.Over frames.Via text at h may is = cc
    goes_one_way dues.Over _ text at h may is = cc
    goes_one_way _ read text at h may is = absurd h

  one_way_unit : (before bytes : List ℕ) (u : StreamUnit) (stage : Stage)
      → (standing (stream x) before).situation.stage ≡ stage
      → unit_in x stage (standing (stream x) before).from bytes ≡ whole u (length bytes)
      → IsOneWay stage before
      → IsOneWay (after x (standing (stream x) before).situation (standing (stream x) before).from
      u).stage
      (before ++ bytes)
  unfolding after
  one_way_unit before bytes u (record_due due) at e h =
      let c = unit_of_record x (standing (stream x) before).from bytes u (length bytes) due e in
      let is : IsRecordOf c.0.frame c.0.text bytes =
      subst (λ (b : List ℕ). IsRecordOf c.0.frame c.0.text b)
      (take_all (length bytes) bytes (omega arith)) c.2.bytes_are in
      let may : MayCome (may_come FromReceiver due) c.0.frame =
      subst (λ (s : Side). MayCome (may_come (direction_of s) due) c.0.frame) side c.2.may in
      rw c.1 (goes_one_way before bytes (standing (stream x) before).situation
      (standing (stream x) before).from (receivers_mode x Simplex kind side before) due c.0.frame
      c.0.text at h may is)
  one_way_unit before bytes u (chunk_due p) at e h = absurd h
  one_way_unit before bytes u (payload_open p) at e h = absurd h

  one_way : (p : List ℕ) → AreUnits (stream x) p → OneWayAt p
  one_way p units =
      units_keep (stream x) (readable x) OneWayAt
      (λ before bytes u first reads h. rw (stage_behind before bytes u first reads)
      (one_way_unit before bytes u (standing (stream x) before).situation.stage refl reads h))
      before_all p units
    where
      stage_behind : (before bytes : List ℕ) (u : StreamUnit) → AreUnits (stream x) before
          → (stream x).unit_at (standing (stream x) before).situation
          (standing (stream x) before).from bytes ≡ whole u (length bytes)
          → (standing (stream x) (before ++ bytes)).situation.stage
          ≡ (after x (standing (stream x) before).situation (standing (stream x) before).from
          u).stage
      stage_behind before bytes u first reads =
          ap (λ (s : Standing Situation StreamEvent Offence). s.situation.stage)
          (unit_standing (stream x) (readable x) before bytes u first reads)

      before_all : OneWayAt []
      before_all = rw (standing_nothing (stream x) (readable x), side) refl

  -- behind the Ack the input may end
  ack_reads : unit_in x (standing (stream x) []).situation.stage (standing (stream x) []).from
      (PREAMBLE_ACK ∷ []) ≡ whole (frame (bare frames.PreambleAck)) 1
  ack_reads =
      ap (λ (s : Standing Situation StreamEvent Offence). unit_in x s.situation.stage s.from
      (PREAMBLE_ACK ∷ [])) (standing_nothing (stream x) (readable x))
      ∙ ap (λ (s : Side). unit_in x (record_due (first (direction_of s))) 0 (PREAMBLE_ACK ∷ []))
      side
      ∙ record_unit x dues.Ack (PREAMBLE_ACK ∷ []) 0 (bare frames.PreambleAck) refl (refl, refl)
      (ap (λ (s : Side). comes (may_come (direction_of s) dues.Ack) frames.PreambleAck) side)
      (omega arith)

  behind_ack : (stream x).at_end (standing (stream x) (PREAMBLE_ACK ∷ [])).situation
      (standing (stream x) (PREAMBLE_ACK ∷ [])).from 1 ≡ None
  unfolding after cut_off
  behind_ack =
      rw (unit_standing (stream x) (readable x) [] (PREAMBLE_ACK ∷ [])
      (frame (bare frames.PreambleAck))
      (ap (λ (s : Standing Situation StreamEvent Offence). s.begun)
      (standing_nothing (stream x) (readable x))) ack_reads)
      (rw (standing_nothing (stream x) (readable x), side) refl)

-- so it may behind the lone Ack
pub ack_may_end : (x : Settings) (p : List ℕ) → IsLoneAck x p → ending_at (stream x) p ≡ None
unfolding ending_at
ack_may_end x p (kind, side, is) = rw is (behind_ack x kind side)

-- and else only behind the end
pub may_end_of : (direction : Direction) (mode : Mode) (due : Due) → may_end direction mode due
    ≡ true
    → is_over_in (record_due due) ≡ false
    → (direction ≡ FromReceiver) × (mode ≡ Simplex) × (due ≡ dues.End)
may_end_of FromReceiver Simplex dues.End may on = (refl, refl, refl)
may_end_of direction mode dues.Over may on = cc
may_end_of FromInitiator mode _ may on = cc
may_end_of FromReceiver Singleton _ may on = cc
may_end_of FromReceiver Duplex _ may on = cc
may_end_of FromReceiver Simplex _ may on = cc

both : (b c : Bool) → (b && c) ≡ true → (b ≡ true) × (c ≡ true)
both true true e = (refl, refl)
both true false e = cc
both false c e = cc

pub due_may_end : (x : Settings) (mode : Mode) (due : Due) (from n : ℕ)
    → may_end_in x mode (record_due due) from n ≡ true → is_over_in (record_due due) ≡ false
    → (may_end (direction_of x.side) mode due ≡ true) × (from ≡ n)
due_may_end x mode dues.Over from n may on = cc
due_may_end x mode due from n may on =
    let b = both (may_end (direction_of x.side) mode due) (from == n) may in
    (b.0, eqb-true from n b.1)

module _ (x : Settings) (p : List ℕ) where
  by_side : (side : Side) (due : Due) → x.side ≡ side → direction_of side ≡ FromReceiver
      → (standing (stream x) p).situation.mode ≡ Simplex
      → (standing (stream x) p).situation.stage ≡ record_due due → due ≡ dues.End
      → AreUnits (stream x) p → IsLoneAck x p
  by_side (initiators endpoint) due is receiver mode at ends units = cc
  by_side (receivers m kind) due is receiver mode at ends units =
      let simplex : x.side ≡ receivers Simplex kind =
      is ∙ ap (λ (m : Mode). receivers m kind) (sym (receivers_mode x m kind is p) ∙ mode) in
      let there : (standing (stream x) p).situation.stage ≡ record_due dues.End =
      at ∙ ap record_due ends in (
        kind,
        simplex,
        subst (λ (stage : Stage). IsOneWay stage p) there
            (one_way x kind simplex p units),
      )

  by_stage : (stage : Stage) → (standing (stream x) p).situation.stage ≡ stage
      → may_end_in x (standing (stream x) p).situation.mode stage (standing (stream x) p).from
      (length p) ≡ true
      → is_over_in stage ≡ false → IsLoneAck x p
  by_stage (record_due due) at may on =
      let b = due_may_end x (standing (stream x) p).situation.mode due (standing (stream x) p).from
      (length p) may on in
      let m = may_end_of (direction_of x.side) (standing (stream x) p).situation.mode due b.0 on in
      let all = b.1 in
      let size = standing_length (stream x) (readable x) p in
      by_side x.side due refl m.0 m.1 at m.2
      (nil_from_length (standing (stream x) p).begun (omega (arith, size, all)))
  by_stage (chunk_due o) at may on = cc
  by_stage (payload_open o) at may on = cc

  pub only_ack_may_end : ending_at (stream x) p ≡ None → is_over_at (stream x) p ≡ false
      → IsLoneAck x p
  unfolding ending_at is_over_at cut_off
  only_ack_may_end none on = by_stage (standing (stream x) p).situation.stage refl may on where
    may : may_end_in x (standing (stream x) p).situation.mode
        (standing (stream x) p).situation.stage (standing (stream x) p).from (length p) ≡ true
    may = go (may_end_in x (standing (stream x) p).situation.mode
        (standing (stream x) p).situation.stage (standing (stream x) p).from (length p)) refl none
      where
        go : (b : Bool) → may_end_in x (standing (stream x) p).situation.mode
            (standing (stream x) p).situation.stage (standing (stream x) p).from (length p) ≡ b
            → (if b then None else Some (offence_at (open_from
            (standing (stream x) p).situation.stage (standing (stream x) p).from)
            reasons.Truncated)) ≡ None
            → may_end_in x (standing (stream x) p).situation.mode
            (standing (stream x) p).situation.stage (standing (stream x) p).from (length p) ≡ true
        go true e h = e
        go false e h = cc
