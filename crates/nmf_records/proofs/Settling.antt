-- Where a reader stands once it has gone on to where some bytes led.
use Rattle.nmf_records.specs.RecordFronts.{TextLimits}
use Rattle.std.proofs.Common.{◌≡◌, ℕ, ◌+◌, ◌-◌, ◌^◌, ◌≤◌, min, List, ◌++◌, length, take, refl, ap}
use Rattle.std.proofs.Common.{◌∙◌, sym, subst, arith}
use Rattle.unit_streams.proofs.{Peeling.extent, Taken.taken_len}
use Rattle.nmf_records.specs.declared.{frame.Expect.Expect, reader.FrameReader.FrameReader}
use Rattle.nmf_records.specs.{declared.stage.Progress.Progress, RecordFronts.frame_at}
use Rattle.nmf_records.specs.declared.stage.Progress.TheVariants.{Done, Going, Wrong}
use Rattle.nmf_records.specs.Advancing.{KeepsFault, pending_after, Progresses, stage_after, Steps}
use Rattle.nmf_records.specs.Reader.{failure_of, HoldsText, limits_of, pending_of, StandsFor}
use Rattle.nmf_records.specs.declared.stage.Stage.{Stage}
use Rattle.nmf_records.specs.declared.stage.Stage.TheVariants as stages
use Rattle.nmf_records.specs.declared.stage.TextRecord.TheVariants as texts
use Rattle.nmf_records.proofs.{Frames.frame_peels, Short.begun_short, Short.decided_short}

-- what settle leaves
pub record IsSettled (mid new : FrameReader) (n : ℕ) (progress : Progress) : Type 0 where
  pub stage : new.stage ≡ stage_after progress
  pub pending : new.pending ≡ pending_after (min (mid.pending + n) (2 ^ 32 - 1)) progress
  pub size : new.size ≡ mid.size
  pub text : new.text ≡ mid.text
  pub content_type : new.content_type ≡ mid.content_type

-- the limit stays
pub settled_limits : (mid new : FrameReader) (n : ℕ) (progress : Progress) → IsSettled mid new n
    progress → limits_of new ≡ limits_of mid
unfolding limits_of
settled_limits mid new n progress s = rw (s.text, s.content_type) refl

-- and what has begun of a text
settled_text : (stage : Stage) (p : List ℕ) (mid new : FrameReader) → new.text ≡ mid.text
    → new.content_type ≡ mid.content_type → HoldsText stage mid p → HoldsText stage new p
settled_text stages.Type p mid new text content_type h = tt
settled_text (stages.Field field) p mid new text content_type h = tt
settled_text (stages.Text texts.Via) p mid new text content_type h = rw text h
settled_text (stages.Text texts.ContentType) p mid new text content_type h = rw content_type h
settled_text (stages.Text texts.Fault) p mid new text content_type h = rw text h
settled_text (stages.Size size) p mid new text content_type h = tt
settled_text (stages.Failed fault) p mid new text content_type h = tt

-- a reader stands for the bytes that led there
pub settled_steps : (limits : TextLimits) (expect : Expect) (p bytes : List ℕ) (n : ℕ)
    (mid new : FrameReader)
    (progress : Progress)
    → n ≤ length bytes → limits_of new ≡ limits → mid.pending ≡ length p → Progresses limits expect
    (p ++ take n bytes) mid progress → IsSettled mid new n progress
    → Steps limits expect (p ++ take n bytes) new progress
unfolding StandsFor pending_of
settled_steps limits expect p bytes n mid new (Going stage) within lim counted leads settled =
    let len = taken_len p bytes n within in
    let short = begun_short limits expect (p ++ take n bytes) leads.0 in
    record {
      begun = ap (λ l. frame_at l expect (p ++ take n bytes)) lim ∙ leads.0;
      shape = rw settled.stage leads.1;
      size = rw (settled.stage, settled.size) leads.2;
      text = subst (λ (s : Stage). HoldsText s new (p ++ take n bytes)) (sym settled.stage)
          (settled_text stage (p ++ take n bytes) mid new settled.text settled.content_type
          leads.3);
      counted = omega (arith, settled.pending, len, short, counted);
    }
settled_steps limits expect p bytes n mid new (Done frame) within lim counted leads settled = (
  leads.0,
  leads.1,
  λ next. record {
    begun = (frame_peels (limits_of new) next).nothing;
    shape = rw settled.stage refl;
    size = rw (settled.stage, settled.size) leads.2;
    text = rw settled.stage tt;
    counted = settled.pending;
  },
)
settled_steps limits expect p bytes n mid new (Wrong fault) within lim counted leads settled =
    let len = taken_len p bytes n within in
    let short = decided_short limits expect (p ++ take n bytes) in
    let size = ap extent leads in
    (leads, omega (arith, settled.pending, len, short, counted, size))

-- and keeps a fault
pub settled_keeps : (mid new : FrameReader) (n : ℕ) (progress : Progress) → IsSettled mid new n
    progress → KeepsFault new progress
unfolding failure_of pending_of
settled_keeps mid new n (Going stage) s = tt
settled_keeps mid new n (Done frame) s = tt
settled_keeps mid new n (Wrong fault) s = rw s.stage refl
