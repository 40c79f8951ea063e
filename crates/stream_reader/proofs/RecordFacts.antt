-- What a record leads to that is read, and what its reader answers, by the limits and what may
-- come.
use Rattle.std.proofs.Common.{◌≡◌, ℕ, ◌+◌, ◌<◌, ◌≤◌, Bool, true, false, List, [], ◌++◌, length}
use Rattle.std.proofs.Common.{if◌then◌else◌, ◌==◌, Some, None, Ok, Err, Option, option_map, sym}
use Rattle.std.proofs.Common.{refl, subst, arith}
use Rattle.{std.specs.Option.option_or, nbfx_decoder.specs.Payload.Refusal}
use Rattle.unit_streams.specs.Front.{begun, whole, wrong}
use Rattle.nbfx_values.specs.declared.refusals.{Offence.Offence, Reason.Reason}
use Rattle.nmf_records.specs.declared.frame.{Expect.Expect, Frame.Frame}
use Rattle.nmf_records.specs.declared.frame.{FrameRefusal.FrameRefusal, FrameStep.FrameStep}
use Rattle.nmf_records.specs.declared.frame.FrameStep.TheVariants.{Done, More}
use Rattle.nmf_records.specs.{declared.reader.FrameReader.FrameReader, Script.may_come}
use Rattle.nmf_records.specs.declared.script.{Direction.Direction, Due.Due}
use Rattle.nmf_records.specs.declared.script.Direction.TheVariants.{FromInitiator, FromReceiver}
use Rattle.nmf_records.specs.Reader.{AfterPiece, FrameAnswers, shown_behind}
use Rattle.nmf_records.specs.Reader.{ShowsText as FramesShowText, StandsFor as FrameStandsFor}
use Rattle.nmf_records.specs.RecordFronts.{frame_at, MayCome, TextKind, TextLimits, with_text}
use Rattle.stream_reader.specs.Stream.{after, after_record, chunk_due, completed_bare}
use Rattle.stream_reader.specs.Stream.{completed_payload, completed_record, direction_of}
use Rattle.stream_reader.specs.Stream.{offence_at, offence_in, on_payload, OpenPayload}
use Rattle.stream_reader.specs.Stream.{payload_begun, payload_by, payload_open, reason_in}
use Rattle.stream_reader.specs.Stream.{record_due, refusal_in, refused_payload, refused_record}
use Rattle.stream_reader.specs.Stream.{Settings, Situation, sized, Stage, with_chunk}
use Rattle.stream_reader.specs.StreamReaderState.{HasBegun, HasPayloads}
use Rattle.stream_reader.proofs.DueRecords.{chunk_due as size_due, envelope_due}
use Rattle.stream_reader.proofs.MadePayloads.{size_large}
use Rattle.stream_reader.proofs.Outcomes.{more_completed, refused_eventless}
use Rattle.stream_reader.proofs.Texts.{reads_record, reads_size, ReadsDue}
use Rattle.nmf_records.specs.declared.frame.Frame.TheVariants as frames
use Rattle.nmf_records.specs.declared.script.Due.TheVariants as dues

module _ (x : Settings) (z : Situation) (from to : ℕ) (f : Frame) (text : List ℕ) where
  -- a size that is refused is of a payload with bytes to come
  large_left : (low : (o : OpenPayload) → z.stage ≡ chunk_due o → o.size ≤ x.limits.payload)
      (p : OpenPayload) (why : Reason) → payload_by x z from f ≡ Some p
      → reason_in x z.stage f text ≡ Some why → 0 < p.left
  large_left low p why made e = by_frame f made e where
    by_size : (size : ℕ) (stage : Stage) → z.stage ≡ stage
        → payload_by x (record z { stage = stage }) from (frames.Chunk size) ≡ Some p
        → reason_in x stage (frames.Chunk size) text ≡ Some why → 0 < p.left
    by_size size (record_due due) at made e = cc
    by_size size (payload_open o) at made e = cc
    by_size size (chunk_due o) at made e =
        let same : with_chunk o size ≡ p = cc in
        let large = size_large x (o.size + size) why e in
        subst (λ (q : OpenPayload). 0 < q.left) same
        (let few = low o at in omega (arith, large, few))

    by_frame : (g : Frame) → payload_by x z from g ≡ Some p
        → reason_in x z.stage g text ≡ Some why → 0 < p.left
    by_frame (frames.SizedEnvelope size) made e =
        let same : payload_begun x z from size sized ≡ p = cc in
        let large = size_large x size why e in
        subst (λ (q : OpenPayload). 0 < q.left) same (omega (arith, large))
    by_frame (frames.Chunk size) made e = by_size size z.stage refl made e
    by_frame frames.UnsizedEnvelope made e = cc
    by_frame g made e = cc

  -- a record that is refused completes nothing
  pub refused_none : ((o : OpenPayload) → z.stage ≡ chunk_due o → o.size ≤ x.limits.payload)
      → (o : Offence) → refused_record x z from f text ≡ Some o
      → completed_record x z from to f text ≡ None
  refused_none low o e =
      by_both (payload_by x z from f) refl (reason_in x z.stage f text) refl e
    where
      by_own : (p : OpenPayload) (v : Option Refusal) → refusal_in x z p ≡ v
          → option_map (offence_in z.messages) v ≡ Some o → completed_payload x z p ≡ None
      by_own p None is e = cc
      by_own p (Some why) is e = refused_eventless x z p why is

      bare : (g : Frame) (w : Option Reason) → reason_in x z.stage g text ≡ w
          → option_or (option_map (offence_at from) w) None ≡ Some o
          → completed_bare z to g text ≡ None
      bare frames.End None is e = cc
      bare frames.End (Some why) is e = cc
      bare frames.Fault None is e = cc
      bare frames.Fault (Some why) is e = cc
      bare frames.PreambleEnd None is e = cc
      bare frames.PreambleEnd (Some why) is e = cc
      bare frames.PreambleAck None is e = cc
      bare frames.PreambleAck (Some why) is e = cc
      bare g w is e = refl

      by_both : (v : Option OpenPayload) → payload_by x z from f ≡ v → (w : Option Reason)
          → reason_in x z.stage f text ≡ w
          → option_or (option_map (offence_at from) w) (on_payload v (refused_payload x z) None)
          ≡ Some o
          → on_payload v (completed_payload x z) (completed_bare z to f text) ≡ None
      by_both (Some p) made (Some why) is e = more_completed x z p (large_left low p why made is)
      by_both (Some p) made None is e = by_own p (refusal_in x z p) refl e
      by_both None made w is e = bare f w is e

  -- payloads come behind a record that completes no event only where they could before
  pub quiet_payloads : (due : Due) → ReadsDue z.stage due
      → MayCome (may_come (direction_of x.side) due) f
      → completed_record x z from to f text ≡ None
      → HasPayloads (after_record x z from f text).stage → HasPayloads z.stage
  quiet_payloads due at may none has =
      elim at [
        | reads_size o is same ↦ subst HasPayloads (sym is) tt
        | reads_record is ↦ subst HasPayloads (sym is) (by_frame f is may none has)
      ]
    where
      unsized_due : (direction : Direction) (due : Due)
          → MayCome (may_come direction due) frames.UnsizedEnvelope → HasPayloads (record_due due)
      unsized_due direction dues.Envelope may = tt
      unsized_due direction dues.Reply may = tt
      unsized_due FromInitiator _ may = cc
      unsized_due FromReceiver _ may = cc

      no_chunk : (size : ℕ) (next : Due) → z.stage ≡ record_due due
          → HasPayloads (after_record x z from (frames.Chunk size) text).stage
          → MayCome (may_come (direction_of x.side) due) (frames.Chunk size)
          → HasPayloads (record_due due)
      no_chunk size next is has may = absurd
          (go (size == 0) (rw (is, size_due (direction_of x.side) due size may) at has)) where
            go : (b : Bool) → HasPayloads (record_due (if b then dues.End else dues.Chunk)) → ⊥
            go true has = has
            go false has = has

      by_frame : (g : Frame) → z.stage ≡ record_due due
          → MayCome (may_come (direction_of x.side) due) g
          → completed_record x z from to g text ≡ None
          → HasPayloads (after_record x z from g text).stage → HasPayloads (record_due due)
      by_frame (frames.SizedEnvelope size) is may none has =
          subst (λ (n : Due). HasPayloads (record_due n))
          (sym (envelope_due (direction_of x.side) due size may)) tt
      by_frame frames.UnsizedEnvelope is may none has = unsized_due (direction_of x.side) due may
      by_frame (frames.Chunk size) is may none has = no_chunk size due is has may
      by_frame frames.End is may none has = cc
      by_frame frames.Fault is may none has = cc
      by_frame frames.PreambleEnd is may none has = cc
      by_frame frames.PreambleAck is may none has = cc
      by_frame _ is may none has = absurd has

-- what a reader of records answers and shows, by the limits and what may come
module _ (limits there : TextLimits) (expect other : Expect) (l : limits ≡ there) (m : expect
    ≡ other)
    (new : FrameReader) (b y : List ℕ) where
  by_same : (P : TextLimits → Expect → Type 0) → P limits expect → P there other
  by_same P h = subst (λ (n : TextLimits). P n other) l (subst (P limits) m h)

  pub shown_so : (kind : TextKind) (s : List ℕ)
      → FramesShowText kind new (shown_behind kind limits expect (b ++ y) s)
      → FramesShowText kind new (shown_behind kind there other (b ++ y) s)
  shown_so kind s = by_same (λ n e. FramesShowText kind new (shown_behind kind n e (b ++ y) s))

  pub more_so : (n : ℕ) (step : FrameStep) → step ≡ More
      → FrameAnswers limits expect b y (Ok (n, step)) → AfterPiece new expect (b ++ y) (Ok
      (n, step))
      → (n ≡ length y) × (frame_at there other (b ++ y) ≡ begun) × FrameStandsFor new other (b ++ y)
  more_so n step is said after =
      let a : FrameAnswers limits expect b y (Ok (n, More)) =
      subst (λ (t : FrameStep). FrameAnswers limits expect b y (Ok (n, t))) is said in
      let f : FrameStandsFor new expect (b ++ y) =
      subst (λ (t : FrameStep). AfterPiece new expect (b ++ y) (Ok (n, t))) is after in (
        a.0,
        by_same (λ k e. frame_at k e (b ++ y) ≡ begun) a.1,
        subst (λ (e : Expect). FrameStandsFor new e (b ++ y)) m f,
      )

  pub done_so : (n : ℕ) (step : FrameStep) (f : Frame) → step ≡ Done f
      → FrameAnswers limits expect b y (Ok (n, step)) → AfterPiece new expect (b ++ y) (Ok
      (n, step))
      → (text : List ℕ) × (frame_at there other (b ++ y) ≡ whole (with_text f text) (length b + n))
      × ((next : Expect) → FrameStandsFor new next [])
  done_so n step f is said after =
      let a : FrameAnswers limits expect b y (Ok (n, Done f)) =
      subst (λ (t : FrameStep). FrameAnswers limits expect b y (Ok (n, t))) is said in (
        a.0,
        by_same (λ k e. frame_at k e (b ++ y) ≡ whole (with_text f a.0) (length b + n)) a.1,
        subst (λ (t : FrameStep). AfterPiece new expect (b ++ y) (Ok (n, t))) is after,
      )

  pub wrong_so : (refusal : FrameRefusal) → FrameAnswers limits expect b y (Err refusal)
      → frame_at there other (b ++ y) ≡ wrong refusal.fault refusal.shown_by
  wrong_so refusal = by_same (λ k e. frame_at k e (b ++ y) ≡ wrong refusal.fault refusal.shown_by)

-- the reader of records has the bytes of what is due
module _ (direction : Direction) (stage : Stage) (due : Due) (frames : FrameReader) (b : List ℕ)
  where
    pub begun_due : ReadsDue stage due → HasBegun direction stage frames b
        → FrameStandsFor frames (may_come direction due) b
    begun_due (reads_record at) h = subst (λ (s : Stage). HasBegun direction s frames b) at h
    begun_due (reads_size o at same) h =
        subst (λ (n : Due). FrameStandsFor frames (may_come direction n) b) (sym same)
        (subst (λ (s : Stage). HasBegun direction s frames b) at h)

    pub begun_there : ReadsDue stage due → FrameStandsFor frames (may_come direction due) b
        → HasBegun direction stage frames b
    begun_there (reads_record at) h =
        subst (λ (s : Stage). HasBegun direction s frames b) (sym at) h
    begun_there (reads_size o at same) h =
        subst (λ (s : Stage). HasBegun direction s frames b) (sym at)
        (subst (λ (n : Due). FrameStandsFor frames (may_come direction n) b) same h)
