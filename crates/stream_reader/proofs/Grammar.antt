-- The grammar of a stream: each unit is known by its own bytes, and behind the end nothing is
-- judged.
use Rattle.std.proofs.Common.{◌≡◌, ℕ, ◌<◌, Bool, true, false, not, ◌&&◌, List, [], if◌then◌else◌}
use Rattle.std.proofs.Common.{nat_le, Some, None, refl, ap, inl, leb-false}
use Rattle.{std.proofs.lemmas.Bool.lt-leb, nbfx_values.specs.declared.session.Mode.Mode}
use Rattle.unit_streams.proofs.{Fronts.reads_by, Parts.reads_byte, Parts.reads_seen}
use Rattle.unit_streams.specs.{Front.begun, Front.ReadsFront, Parts.a_byte, Parts.seen}
use Rattle.unit_streams.specs.Grammar.{IsQuietWhenOver, IsReadable}
use Rattle.nbfx_values.specs.declared.refusals.{Offence.Offence, Reason.TheVariants.SessionTooLong}
use Rattle.nmf_records.proofs.Frames.{frame_peels, frames_front}
use Rattle.nmf_records.specs.{declared.script.Due.Due, RecordFronts.frame_at, Script.may_come}
use Rattle.stream_reader.specs.Stream.{text_limits}
use Rattle.stream_reader.specs.Stream.{chunk_due, cut_off, direction_of, due_record_at, frame}
use Rattle.stream_reader.specs.Stream.{is_over_in, offence_at, open_from, payload_at, payload_byte}
use Rattle.stream_reader.specs.Stream.{payload_open, reason_of, record_due, Settings, Stage, stream}
use Rattle.stream_reader.specs.Stream.{StreamUnit, too_long, unit_in}
use Rattle.nmf_records.specs.declared.script.Due.TheVariants as dues

-- where nothing is read
reads_nothing : ReadsFront {A = StreamUnit} {R = Offence} (λ bytes. begun)
reads_nothing = reads_by (λ bytes. begun) (λ b. inl refl)

-- a payload's byte
reads_payload : ReadsFront payload_at
reads_payload = reads_seen payload_byte (λ o. o) a_byte reads_byte

module _ (x : Settings) where
  -- a record that is due
  reads_due : (due : Due) (from : ℕ)
      → ReadsFront (λ bytes. seen frame (λ fault. offence_at from (reason_of due fault))
      (frame_at (text_limits x) (may_come (direction_of x.side) due) bytes))
  reads_due due from = reads_seen frame (λ fault. offence_at from (reason_of due fault))
      (frame_at (text_limits x) (may_come (direction_of x.side) due))
      (frames_front (text_limits x) (may_come (direction_of x.side) due))

  nothing_due : (due : Due) (from : ℕ) → seen frame (λ fault. offence_at from (reason_of due fault))
      (frame_at (text_limits x) (may_come (direction_of x.side) due) []) ≡ begun
  nothing_due due from = ap (seen frame (λ fault. offence_at from (reason_of due fault)))
      (frame_peels (text_limits x) (may_come (direction_of x.side) due)).nothing

  reads_record : (due : Due) (from : ℕ) → ReadsFront (due_record_at x due from)
  reads_record dues.Over from = reads_nothing
  reads_record due from = reads_due due from

  nothing_recorded : (due : Due) (from : ℕ) → due_record_at x due from [] ≡ begun
  nothing_recorded dues.Over from = refl
  nothing_recorded due from = nothing_due due from

  reads_unit : (stage : Stage) (from : ℕ) → ReadsFront (unit_in x stage from)
  unfolding unit_in
  reads_unit (record_due due) from = reads_record due from
  reads_unit (chunk_due payload) from = reads_record dues.Chunk from
  reads_unit (payload_open payload) from = reads_payload

  nothing_read : (stage : Stage) (from : ℕ) → unit_in x stage from [] ≡ begun
  unfolding unit_in
  nothing_read (record_due due) from = nothing_recorded due from
  nothing_read (chunk_due payload) from = nothing_recorded dues.Chunk from
  nothing_read (payload_open payload) from = refl

  pub readable : IsReadable (stream x)
  readable = record {
    reads = λ z from. reads_unit z.stage from;
    nothing = λ z from. nothing_read
        z.stage from;
  }

  -- behind the end
  unread_over : (stage : Stage) (from : ℕ) (bytes : List ℕ) → is_over_in stage ≡ true
      → unit_in x stage from bytes ≡ begun
  unfolding unit_in
  unread_over (record_due dues.Over) from bytes e = refl
  unread_over (record_due _) from bytes e = cc
  unread_over (chunk_due p) from bytes e = cc
  unread_over (payload_open p) from bytes e = cc

  any_length_over : (stage : Stage) (from n : ℕ) → is_over_in stage ≡ true → too_long x stage from n
      ≡ None
  unfolding too_long
  any_length_over stage from n e = rw e (no (nat_le x.limits.session n)) where
    no : (b : Bool) → (if b && not true then Some (offence_at (open_from stage from) SessionTooLong)
        else None) ≡ None
    no true = refl
    no false = refl

  any_end_over : (mode : Mode) (stage : Stage) (from n : ℕ) → is_over_in stage ≡ true
      → cut_off x mode stage from n ≡ None
  unfolding cut_off
  any_end_over mode (record_due dues.Over) from n e = refl
  any_end_over mode (record_due _) from n e = cc
  any_end_over mode (chunk_due p) from n e = cc
  any_end_over mode (payload_open p) from n e = cc

  pub quiet_over : IsQuietWhenOver (stream x)
  quiet_over = record {
    unread = λ z from bytes e. unread_over z.stage from bytes e;
    any_length = λ z from n e. any_length_over z.stage from n e;
    any_end = λ z from n e. any_end_over z.mode z.stage from n e;
  }

  -- within the session quota no length is too great
  pub short_enough : (stage : Stage) (from n : ℕ) → n < x.limits.session → too_long x stage from n
      ≡ None
  unfolding too_long
  short_enough stage from n lt = rw (lt-leb x.limits.session n lt) refl

  -- where one isn't, of a session that isn't over, it is below the quota
  pub within_quota : (stage : Stage) (from n : ℕ) → is_over_in stage ≡ false → too_long x stage from
      n ≡ None → n < x.limits.session
  unfolding too_long
  within_quota stage from n going none = by_test (nat_le x.limits.session n) refl (rw going at none)
    where
      by_test : (b : Bool) → nat_le x.limits.session n ≡ b
          → (if b && true then Some (offence_at (open_from stage from) SessionTooLong) else None)
          ≡ None → n < x.limits.session
      by_test true e h = cc
      by_test false e h = leb-false x.limits.session n e
