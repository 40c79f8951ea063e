-- Which bytes of a stream show each reason that refuses a record, and what refuses it by its
-- length.
use Rattle.std.proofs.Common.{◌≡◌, ℕ, ◌≤◌, Bool, true, false, not, ◌&&◌, ◌⊎◌, ◌↔◌, List, [], ◌∷◌}
use Rattle.std.proofs.Common.{◌++◌, length, if◌then◌else◌, nat_le, Some, None, Option, option_map}
use Rattle.std.proofs.Common.{sym, refl, ap, ◌∙◌, subst, inl, inr, arith, take_all, leb-true}
use Rattle.std.proofs.lemmas.Bool.{cases_Bool, Decides.nat_tests}
use Rattle.{std.specs.Option.option_or, nbfx_decoder.specs.Payload.Refusal}
use Rattle.unit_streams.proofs.{Refusals.refusals_are_three, Standing.standing_length}
use Rattle.unit_streams.specs.Front.{begun, Front, whole, wrong}
use Rattle.unit_streams.specs.{Grammar.standing, Parts.seen, Refusals.IsRefusedByUnit}
use Rattle.unit_streams.specs.Judging.{is_over_at, refusal_at}
use Rattle.unit_streams.specs.Refusals.{AreUnits, IsRefusedByBytes, IsRefusedByLength}
use Rattle.nbfx_values.specs.declared.refusals.{Offence.Offence, Reason.Reason}
use Rattle.nbfx_values.specs.declared.refusals.Place.TheVariants.{Frame as InFrame}
use Rattle.nbfx_values.specs.declared.refusals.Place.TheVariants.{Payload as InPayload}
use Rattle.nmf_records.proofs.{Causes.fault_cause, Faults.fault_comes}
use Rattle.nmf_records.specs.declared.frame.{Frame.Frame, FrameFault.FrameFault}
use Rattle.nmf_records.specs.{declared.script.Due.Due, Script.may_come}
use Rattle.nmf_records.specs.RecordFronts.{text_limit}
use Rattle.nmf_records.specs.RecordFronts.{frame_at, MayCome}
use Rattle.nmf_records.specs.Records.{IsRecord, IsRecordOf, Read}
use Rattle.stream_reader.specs.Reasons.{IsTooLong, Shows, ShowsFrom, ShowsIn}
use Rattle.stream_reader.specs.Stream.{text_limits}
use Rattle.stream_reader.specs.Stream.{chunk_due, direction_of, due_record_at, frame, is_over_in}
use Rattle.stream_reader.specs.Stream.{offence_at, offence_in, on_open, on_payload, open_from}
use Rattle.stream_reader.specs.Stream.{OpenPayload, payload_at, payload_by, payload_byte}
use Rattle.stream_reader.specs.Stream.{payload_open, reason_in, reason_of, record_due, refusal_in}
use Rattle.stream_reader.specs.Stream.{refused, refused_payload, refused_record, Settings}
use Rattle.stream_reader.specs.Stream.{Situation, size_before, Stage, stream, StreamUnit, too_long}
use Rattle.stream_reader.specs.Stream.{unit_in, with_byte}
use Rattle.stream_reader.proofs.Coming.{Comes, unit_of_chunk, unit_of_record}
use Rattle.stream_reader.proofs.DueRecords.{read_due, record_unit, refusing}
use Rattle.stream_reader.proofs.Grammar.{quiet_over, readable}
use Rattle.stream_reader.proofs.Said.{IsFaulty, IsSaid, said, shown, shows_fault}
use Rattle.nbfx_values.specs.declared.refusals.Reason.TheVariants as reasons
use Rattle.nmf_records.specs.declared.script.Due.TheVariants as dues

-- a mapped option
pub some_mapped : {A B : Type 0} (f : A → B) (v : Option A) (b : B) → option_map f v ≡ Some b
    → (a : A) × (v ≡ Some a) × (b ≡ f a)
some_mapped f None b e = cc
some_mapped f (Some a) b e = (a, refl, cc)

seen_wrong : (due : Due) (from : ℕ) (v : Front Read FrameFault) (o : Offence) (n : ℕ)
    → seen frame (refusing from due) v ≡ wrong o n
    → (fault : FrameFault) × (v ≡ wrong fault n) × (o ≡ refusing from due fault)
seen_wrong due from begun o n e = cc
seen_wrong due from (whole read k) o n e = cc
seen_wrong due from (wrong fault k) o n e =
    let size : k ≡ n = cc in (fault, ap (wrong fault) size, cc)

-- two offences that are one
pub same_place : (m n : ℕ) (r s : Reason) → offence_at m r ≡ offence_at n s → m ≡ n
same_place m n r s e = let h : InFrame m ≡ InFrame n = ap (λ (o : Offence). o.place) e in cc

pub same_reason : (m n : ℕ) (r s : Reason) → offence_at m r ≡ offence_at n s → r ≡ s
same_reason m n r s e = ap (λ (o : Offence). o.reason) e

-- one in a record is none in a payload
pub apart : (from : ℕ) (reason : Reason) (number : ℕ) (r : Refusal)
    → offence_at from reason ≡ offence_in number r → ⊥
apart from reason number r e =
    let h : InFrame from ≡ InPayload number r.at = ap (λ (o : Offence). o.place) e in cc

-- a payload's refusal is none in a record
no_payload : (x : Settings) (z : Situation) (p : OpenPayload) (from : ℕ) (reason : Reason)
    → refused_payload x z p ≡ Some (offence_at from reason) → ⊥
no_payload x z p from reason e =
    let m = some_mapped (offence_in z.messages) (refusal_in x z p) (offence_at from reason) e in
    apart from reason z.messages m.0 m.2

-- a record that is refused in the record is so by what it says
said_so : (x : Settings) (z : Situation) (at : ℕ) (read : Frame) (text : List ℕ) (from : ℕ)
    (reason : Reason) → refused_record x z at read text ≡ Some (offence_at from reason)
    → (at ≡ from) × (reason_in x z.stage read text ≡ Some reason)
said_so x z at read text from reason e =
    go (reason_in x z.stage read text) (payload_by x z at read) refl e
  where
    go : (v : Option Reason) (w : Option OpenPayload) → reason_in x z.stage read text ≡ v
        → option_or (option_map (offence_at at) v) (on_payload w (refused_payload x z) None)
        ≡ Some (offence_at from reason)
        → (at ≡ from) × (reason_in x z.stage read text ≡ Some reason)
    go (Some r) w is some =
        let same : offence_at at r ≡ offence_at from reason = cc in
        (same_place at from r reason same, is ∙ ap Some (same_reason at from r reason same))
    go None (Some p) is some = absurd (no_payload x z p from reason some)
    go None None is some = cc

module _ (x : Settings) (p before bytes : List ℕ) (joined : p ≡ before ++ bytes)
    (units : AreUnits (stream x) before) where
  place : (standing (stream x) before).from ≡ length before
  place =
      let n = standing_length (stream x) (readable x) before in
      let none = ap length units in omega (arith, n, none)

  not_over : (v : Front StreamUnit Offence)
      → unit_in x (standing (stream x) before).situation.stage (standing (stream x) before).from
      bytes ≡ v
      → (v ≡ begun → ⊥) → is_over_at (stream x) before ≡ false
  unfolding is_over_at
  not_over v e read =
      elim (cases_Bool (is_over_in (standing (stream x) before).situation.stage)) [
        | inl over ↦ absurd (read (sym e
            ∙ (quiet_over x).unread (standing (stream x) before).situation
            (standing (stream x) before).from bytes over))
        | inr on ↦ on
      ]

  over_stage : is_over_at (stream x) before ≡ false
      → is_over_in (standing (stream x) before).situation.stage ≡ false
  unfolding is_over_at
  over_stage o = o

  -- bytes that show it where this is due
  shows_from : (from : ℕ) (reason : Reason) → (standing (stream x) before).from ≡ from
      → is_over_at (stream x) before ≡ false
      → ShowsIn x (standing (stream x) before).situation.stage bytes reason
      → ShowsFrom x p from reason
  shows_from from reason at on shows = record {
    before = before;
    bytes = bytes;
    joined = joined;
    place = sym at ∙ place;
    units = units;
    going_on = on;
    shows = shows;
  }

  -- by what its last unit says: a record
  of_record : (stage : Stage) (due : Due) (u : StreamUnit) (from : ℕ) (reason : Reason)
      → (standing (stream x) before).situation.stage ≡ stage
      → unit_in x stage (standing (stream x) before).from bytes ≡ whole u (length bytes)
      → (read : Read) → u ≡ frame read → Comes x due bytes read (length bytes)
      → ((r : Reason) → Shows x due (size_before stage) bytes r → ShowsIn x stage bytes r)
      → refused x (standing (stream x) before).situation (standing (stream x) before).from u
      ≡ Some (offence_at from reason)
      → ShowsFrom x p from reason
  unfolding refused
  of_record stage due u from reason at e read is_read comes shows some =
      let z : Situation = (standing (stream x) before).situation in
      let some' : refused_record x z (standing (stream x) before).from read.frame read.text
      ≡ Some (offence_at from reason)
      = ap (refused x z (standing (stream x) before).from) (sym is_read) ∙ some in
      let told = said_so x z (standing (stream x) before).from read.frame read.text from reason
      some' in
      let is : IsRecordOf read.frame read.text bytes =
      subst (λ (b : List ℕ). IsRecordOf read.frame read.text b)
      (take_all (length bytes) bytes (omega arith)) comes.bytes_are in
      let reason_is : reason_in x stage read.frame read.text ≡ Some reason =
      ap (λ (s : Stage). reason_in x s read.frame read.text) (sym at) ∙ told.1 in
      shows_from from reason told.0
      (not_over (whole u (length bytes))
      (ap (λ (s : Stage). unit_in x s (standing (stream x) before).from bytes) at ∙ e) (λ h. cc))
      (subst (λ (s : Stage). ShowsIn x s bytes reason) (sym at)
      (shows reason
      (said x stage due bytes read.frame read.text reason is comes.may comes.low reason_is)))

  of_unit : (stage : Stage) (u : StreamUnit) (from : ℕ) (reason : Reason)
      → (standing (stream x) before).situation.stage ≡ stage
      → unit_in x stage (standing (stream x) before).from bytes ≡ whole u (length bytes)
      → refused x (standing (stream x) before).situation (standing (stream x) before).from u
      ≡ Some (offence_at from reason)
      → ShowsFrom x p from reason
  unfolding unit_in refused
  of_unit (record_due due) u from reason at e some =
      let c = unit_of_record x (standing (stream x) before).from bytes u (length bytes) due e in
      of_record (record_due due) due u from reason at e c.0 c.1 c.2 (λ r h. h) some
  of_unit (chunk_due o) u from reason at e some =
      let c = unit_of_chunk x (standing (stream x) before).from bytes u (length bytes) o e in
      of_record (chunk_due o) dues.Chunk u from reason at e c.0 c.1 c.2 (λ r h. h) some
  of_unit (payload_open o) u from reason at e some = absurd (never bytes u e some) where
    z : Situation
    z = (standing (stream x) before).situation

    never : (b : List ℕ) (u : StreamUnit) → payload_at b ≡ whole u (length bytes)
        → refused x (standing (stream x) before).situation (standing (stream x) before).from u
        ≡ Some (offence_at from reason) → ⊥
    never [] u e some = cc
    never (y ∷ b) u e some =
        let same : payload_byte y ≡ u = cc in
        let told : on_open z.stage (λ p. refused_payload x z (with_byte x z p y)) None
        ≡ Some (offence_at from reason)
        = ap (refused x z (standing (stream x) before).from) same ∙ some in
        no_payload x z (with_byte x z o y) from reason
        (ap (λ (s : Stage). on_open s (λ p. refused_payload x z (with_byte x z p y)) None) (sym at)
        ∙ told)

  -- by its bytes
  of_due : (stage : Stage) (due : Due) (from n : ℕ) (reason : Reason)
      → (standing (stream x) before).situation.stage ≡ stage
      → unit_in x stage (standing (stream x) before).from bytes
      ≡ due_record_at x due (standing (stream x) before).from bytes
      → (is_over_in stage ≡ false → is_over_in (record_due due) ≡ false)
      → ((r : Reason) → Shows x due (size_before stage) bytes r → ShowsIn x stage bytes r)
      → unit_in x stage (standing (stream x) before).from bytes ≡ wrong (offence_at from reason) n
      → ShowsFrom x p from reason
  of_due stage due from n reason at is_record going shows e =
      let at' : ℕ = (standing (stream x) before).from in
      let on : is_over_at (stream x) before ≡ false =
      not_over (wrong (offence_at from reason) n)
      (ap (λ (s : Stage). unit_in x s (standing (stream x) before).from bytes) at ∙ e) (λ h. cc) in
      let reads : is_over_in (record_due due) ≡ false =
      going (sym (ap is_over_in at) ∙ over_stage on) in
      let w = seen_wrong due at' (frame_at (text_limits x) (may_come
      (direction_of x.side) due) bytes)
      (offence_at from reason) n
      (sym (read_due x due at' bytes reads) ∙ sym is_record ∙ e) in
      let is : offence_at at' (reason_of due w.0) ≡ offence_at from reason = sym w.2 in
      shows_from from reason (same_place at' from (reason_of due w.0) reason is) on
      (subst (λ (s : Stage). ShowsIn x s bytes reason) (sym at)
      (shows reason (subst (λ (r : Reason). Shows x due (size_before stage) bytes r)
      (same_reason at' from (reason_of due w.0) reason is)
      (shows_fault x due (size_before stage) bytes w.0 n
      (fault_cause (text_limits x) (may_come (direction_of x.side) due) bytes w.0 n w.1)))))

  of_bytes : (stage : Stage) (from n : ℕ) (reason : Reason)
      → (standing (stream x) before).situation.stage ≡ stage
      → unit_in x stage (standing (stream x) before).from bytes ≡ wrong (offence_at from reason) n
      → ShowsFrom x p from reason
  unfolding unit_in
  of_bytes (record_due due) from n reason at e =
      of_due (record_due due) due from n reason at refl (λ o. o) (λ r h. h) e
  of_bytes (chunk_due o) from n reason at e =
      of_due (chunk_due o) dues.Chunk from n reason at refl (λ o. refl) (λ r h. h) e
  of_bytes (payload_open o) from n reason at e = absurd (never bytes e) where
    never : (b : List ℕ) → payload_at b ≡ wrong (offence_at from reason) n → ⊥
    never [] e = cc
    never (y ∷ b) e = cc

  -- and the other way
  of_fault : (stage : Stage) (due : Due) (reason : Reason)
      → (standing (stream x) before).situation.stage ≡ stage
      → unit_in x stage (standing (stream x) before).from bytes
      ≡ due_record_at x due (standing (stream x) before).from bytes
      → is_over_in (record_due due) ≡ false → IsFaulty x due bytes reason
      → IsRefusedByBytes (stream x) p (offence_at (standing (stream x) before).from reason)
  of_fault stage due reason at is_record on (fault, n, cause, is) = record {
    before = before;
    bytes = bytes;
    size = n;
    joined = joined;
    units = units;
    reads = ap (λ (s : Stage). unit_in x s (standing (stream x) before).from bytes) at
        ∙ is_record ∙ read_due x due (standing (stream x) before).from bytes on
        ∙ ap (seen frame (refusing (standing (stream x) before).from due))
        (fault_comes (text_limits x) (may_come (direction_of x.side) due) bytes fault n cause)
        ∙ ap (λ r. wrong (offence_at (standing (stream x) before).from r) n) is;
  }

  of_said : (stage : Stage) (due : Due) (reason : Reason)
      → (standing (stream x) before).situation.stage ≡ stage
      → ((read : Read) → IsRecord read bytes → MayCome (may_come (direction_of x.side) due)
      read.frame
      → length read.text ≤ text_limit (text_limits x) read.frame
      → unit_in x stage (standing (stream x) before).from bytes ≡ whole (frame read) (length bytes))
      → IsSaid x stage due bytes reason
      → IsRefusedByUnit (stream x) p (offence_at (standing (stream x) before).from reason)
  unfolding refused
  of_said stage due reason at reads h = record {
    before = before;
    bytes = bytes;
    unit = frame h.read;
    joined = joined;
    units = units;
    reads = ap (λ (s : Stage). unit_in x s (standing (stream x) before).from bytes) at
        ∙ reads h.read h.bytes_are h.may h.low;
    refused = said_refused (reason_in x (standing (stream x) before).situation.stage h.read.frame
        h.read.text) (ap (λ (s : Stage). reason_in x s h.read.frame h.read.text) at ∙ h.refused);
  } where
    said_refused : (v : Option Reason) → v ≡ Some reason
        → option_or (option_map (offence_at (standing (stream x) before).from) v)
        (on_payload (payload_by x (standing (stream x) before).situation
        (standing (stream x) before).from h.read.frame)
        (refused_payload x (standing (stream x) before).situation) None)
        ≡ Some (offence_at (standing (stream x) before).from reason)
    said_refused v e = rw e refl

  either : (due : Due) (reason : Reason)
      → (IsFaulty x due bytes reason
      → IsRefusedByBytes (stream x) p (offence_at (standing (stream x) before).from reason))
      → (IsSaid x (standing (stream x) before).situation.stage due bytes reason
      → IsRefusedByUnit (stream x) p (offence_at (standing (stream x) before).from reason))
      → Shows x due (size_before (standing (stream x) before).situation.stage) bytes reason
      → refusal_at (stream x) p ≡ Some (offence_at (standing (stream x) before).from reason)
  either due reason faulty said_so h =
      elim (shown x (standing (stream x) before).situation.stage due bytes reason h) [
        | inl f ↦ (refusals_are_three (stream x) (readable x) p _).1 (inr (inl (faulty f)))
        | inr s ↦ (refusals_are_three (stream x) (readable x) p _).1 (inl (said_so s))
      ]

  refused_in : (stage : Stage) (reason : Reason)
      → (standing (stream x) before).situation.stage ≡ stage
      → is_over_at (stream x) before ≡ false → ShowsIn x stage bytes reason
      → refusal_at (stream x) p ≡ Some (offence_at (standing (stream x) before).from reason)
  unfolding unit_in
  refused_in (record_due due) reason at on shows =
      let going : is_over_in (record_due due) ≡ false = sym (ap is_over_in at) ∙ over_stage on in
      either due reason
      (of_fault (record_due due) due reason at refl going)
      (λ s. of_said (record_due due) due reason at
      (λ read is may low. record_unit x due bytes (standing (stream x) before).from read going is
      may low)
      (subst (λ (v : Stage). IsSaid x v due bytes reason) at s))
      (subst (λ (v : Stage). Shows x due (size_before v) bytes reason) (sym at) shows)
  refused_in (chunk_due o) reason at on shows =
      either dues.Chunk reason
      (of_fault (chunk_due o) dues.Chunk reason at refl refl)
      (λ s. of_said (chunk_due o) dues.Chunk reason at
      (λ read is may low. record_unit x dues.Chunk bytes (standing (stream x) before).from read refl
      is may low)
      (subst (λ (v : Stage). IsSaid x v dues.Chunk bytes reason) at s))
      (subst (λ (v : Stage). Shows x dues.Chunk (size_before v) bytes reason) (sym at) shows)
  refused_in (payload_open o) reason at on shows = absurd shows

module _ (x : Settings) (p : List ℕ) where
  -- a prefix that is refused by its length is too long
  length_is : (from : ℕ) (reason : Reason)
      → IsRefusedByLength (stream x) p (offence_at from reason)
      → (reason ≡ reasons.SessionTooLong) × IsTooLong x p from
  unfolding too_long is_over_at
  length_is from reason h =
      go (nat_le x.limits.session (length p))
      (is_over_in (standing (stream x) p).situation.stage) refl refl h.refused
    where
      opened : ℕ
      opened = open_from (standing (stream x) p).situation.stage (standing (stream x) p).from

      go : (t over : Bool) → nat_le x.limits.session (length p) ≡ t
          → is_over_in (standing (stream x) p).situation.stage ≡ over
          → (if t && not over then Some (offence_at
          (open_from (standing (stream x) p).situation.stage (standing (stream x) p).from)
          reasons.SessionTooLong) else None) ≡ Some (offence_at from reason)
          → (reason ≡ reasons.SessionTooLong) × IsTooLong x p from
      go true true le o' some = cc
      go false over le o' some = cc
      go true false le o' some =
          let same : offence_at opened reasons.SessionTooLong ≡ offence_at from reason = cc in (
            sym (same_reason opened from reasons.SessionTooLong reason same),
            record {
              reached = leb-true x.limits.session (length p) le;
              going_on = o';
              going = h.going;
              place = sym (same_place opened from reasons.SessionTooLong reason same);
            },
          )

  is_length : (from : ℕ) → IsTooLong x p from
      → IsRefusedByLength (stream x) p (offence_at from reasons.SessionTooLong)
  unfolding too_long is_over_at
  is_length from h =
      let enough : nat_le x.limits.session (length p) ≡ true =
      let le = h.reached in grind (arith, nat_tests) in
      record {
        going = h.going;
        refused = rw (enough, h.going_on)
            (ap (λ from. Some (offence_at from reasons.SessionTooLong)) (sym h.place));
      }

  -- what refuses a prefix in a record
  pub record_refusal : (from : ℕ) (reason : Reason)
      → refusal_at (stream x) p ≡ Some (offence_at from reason)
      → ShowsFrom x p from reason ⊎ ((reason ≡ reasons.SessionTooLong) × IsTooLong x p from)
  record_refusal from reason e =
      elim ((refusals_are_three (stream x) (readable x) p (offence_at from reason)).0 e) [
        | inl h ↦ inl (of_unit x p h.before h.bytes h.joined h.units _ h.unit from reason refl
            h.reads h.refused)
        | inr (inl h) ↦ inl (of_bytes x p h.before h.bytes h.joined h.units _ from h.size reason
            refl h.reads)
        | inr (inr h) ↦ inr (length_is from reason h)
      ]

  pub shown_refused : (from : ℕ) (reason : Reason) → ShowsFrom x p from reason
      → refusal_at (stream x) p ≡ Some (offence_at from reason)
  shown_refused from reason h =
      let at : (standing (stream x) h.before).from ≡ from =
      place x p h.before h.bytes h.joined h.units ∙ sym h.place in
      refused_in x p h.before h.bytes h.joined h.units
      (standing (stream x) h.before).situation.stage reason refl h.going_on h.shows
      ∙ ap (λ n. Some (offence_at n reason)) at

  -- no bytes of a record show that a session is too long, or cut off
  never_long : (stage : Stage) (bytes : List ℕ) → ShowsIn x stage bytes reasons.SessionTooLong → ⊥
  never_long (record_due due) bytes h = h
  never_long (chunk_due o) bytes h = h
  never_long (payload_open o) bytes h = h

  pub never_cut : (stage : Stage) (bytes : List ℕ) → ShowsIn x stage bytes reasons.Truncated → ⊥
  never_cut (record_due due) bytes h = h
  never_cut (chunk_due o) bytes h = h
  never_cut (payload_open o) bytes h = h

  pub refused_by_record : (from : ℕ) (reason : Reason) → (reason ≡ reasons.SessionTooLong → ⊥)
      → (refusal_at (stream x) p ≡ Some (offence_at from reason)) ↔ ShowsFrom x p from reason
  refused_by_record from reason isnt = (
    (λ e. elim (record_refusal from reason e) [ inl h ↦ h | inr (is, long) ↦ absurd (isnt is) ]),
    shown_refused from reason,
  )

  pub too_long_is : (from : ℕ)
      → (refusal_at (stream x) p ≡ Some (offence_at from reasons.SessionTooLong))
      ↔ IsTooLong x p from
  too_long_is from = (
    (λ e. elim (record_refusal from reasons.SessionTooLong e) [
      | inl h ↦ absurd (never_long (standing (stream x) h.before).situation.stage h.bytes h.shows)
      | inr (is, long) ↦ long
    ]),
    (λ h. (refusals_are_three (stream x) (readable x) p _).1 (inr (inr (is_length from h)))),
  )
