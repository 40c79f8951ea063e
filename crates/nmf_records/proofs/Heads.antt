-- The records that come with each message, where they are whole at the front of a piece.
use Rattle.nmf_records.specs.RecordFronts.{TextKind, TextLimits}
use Rattle.std.proofs.Common.{◌≡◌, ℕ, ◌+◌, ◌≤◌, true, false, List, [], ◌∷◌, ◌++◌, length, Some, Ok}
use Rattle.std.proofs.Common.{sym, refl, ap, ◌∙◌, arith}
use Rattle.{unit_streams.specs.Front.whole, multibyte_ints.proofs.IntegerBytes.int_reads_front}
use Rattle.multibyte_ints.specs.{Integer.int_at, Reader.StandsFor as IntStandsFor}
use Rattle.nmf_records.specs.declared.frame.Expect.{Expect, TheVariants.Chunk, TheVariants.Types}
use Rattle.nmf_records.specs.declared.frame.{Frame.Frame, FrameRefusal.FrameRefusal}
use Rattle.nmf_records.specs.declared.frame.FrameStep.TheVariants.{Done}
use Rattle.nmf_records.specs.declared.reader.FrameReader.{FrameReader}
use Rattle.nmf_records.specs.declared.record_types.TheConstants.{SIZED_ENVELOPE}
use Rattle.nmf_records.specs.Reader.{failure_of, FrameAnswers, limits_of, shown_behind, ShowsText}
use Rattle.nmf_records.specs.Reader.{StandsFor}
use Rattle.nmf_records.specs.RecordFronts.{allows, as_size, bare, begins_text, frame_at}
use Rattle.nmf_records.proofs.{Feeding.no_refusal, Showing.plain_shows, Typed.allowed_reads}
use Rattle.nmf_records.proofs.Frames.{frame_peels, frames_front}
use Rattle.nmf_records.specs.declared.frame.Frame.TheVariants as frames
use Rattle.nmf_records.specs.declared.stage.Stage.TheVariants as stages

-- an integer has no more bytes than those at whose front it stands
pub int_within : (bytes : List ℕ) (size n : ℕ) → int_at bytes ≡ whole size n → n ≤ length bytes
int_within bytes size n e = int_reads_front.whole_within bytes size n e

-- the size of a chunk
pub chunk_front : (limits : TextLimits) (bytes : List ℕ) (size n : ℕ) → int_at bytes ≡ whole size n
    → frame_at limits Chunk bytes ≡ whole (bare (frames.Chunk size)) n
chunk_front limits bytes size n e =
    ap (as_size 0 frames.Chunk) e ∙ ap (whole (bare (frames.Chunk size))) (omega arith)

-- the head of a sized envelope, behind its type byte
pub envelope_front : (limits : TextLimits) (types : ℕ) (bytes : List ℕ) (size n : ℕ)
    → allows types SIZED_ENVELOPE ≡ true → int_at bytes ≡ whole size n
    → frame_at limits (Types types) (SIZED_ENVELOPE ∷ bytes)
    ≡ whole (bare (frames.SizedEnvelope size)) (n + 1)
envelope_front limits types bytes size n may e =
    allowed_reads limits types SIZED_ENVELOPE bytes (omega arith) may
    ∙ ap (as_size 1 frames.SizedEnvelope) e
    ∙ ap (whole (bare (frames.SizedEnvelope size))) (omega arith)

-- a reader before the first byte of a record
module _ (r : FrameReader) (at_type : r.stage ≡ stages.Type) where
  pub none_failed : (refusal : FrameRefusal) → failure_of r ≡ Some refusal → ⊥
  none_failed refusal = no_refusal r refusal (λ fault e. let bad = sym at_type ∙ e in cc)

  module _ (expect : Expect) (p : List ℕ) (stands : StandsFor r expect p) where
    pub none_yet : p ≡ []
    unfolding StandsFor
    none_yet = rw at_type at stands.shape

    pub stands_anew : (next : Expect) → StandsFor r next []
    unfolding StandsFor
    stands_anew next =
        let size : IntStandsFor r.size [] = rw at_type at stands.size in
        record {
          begun = (frame_peels (limits_of r) next).nothing;
          shape = rw at_type refl;
          size = rw at_type size;
          text = rw at_type tt;
          counted = stands.counted ∙ ap length none_yet;
        }

    module _ (piece : List ℕ) where
      pub head_answers : (frame : Frame) (n : ℕ)
          → ((limits : TextLimits) → frame_at limits expect piece ≡ whole (bare frame) n)
          → FrameAnswers (limits_of r) expect p piece (Ok (n, Done frame))
      head_answers frame n read = (
        [],
        ap (λ q. frame_at (limits_of r) expect (q ++ piece)) none_yet ∙ read (limits_of r)
            ∙ ap (whole (bare frame)) (let none = ap length none_yet in omega (arith, none)),
      )

      pub head_shows : (kind : TextKind) (s : List ℕ) → begins_text kind expect piece ≡ false
          → ShowsText kind r s
          → ShowsText kind r (shown_behind kind (limits_of r) expect (p ++ piece) s)
      head_shows kind s plain h =
          plain_shows kind r s expect (p ++ piece) (frame_at (limits_of r) expect (p ++ piece))
          (ap (λ q. begins_text kind expect (q ++ piece)) none_yet ∙ plain) h

-- it has no more bytes than the piece
pub head_within : (expect : Expect) (piece : List ℕ) (frame : Frame) (n : ℕ)
    → ((limits : TextLimits) → frame_at limits expect piece ≡ whole (bare frame) n)
    → n ≤ length piece
head_within expect piece frame n read =
    let none : TextLimits = record { text = 0; content_type = 0 } in
    (frames_front none expect).whole_within piece (bare frame) n (read none)
