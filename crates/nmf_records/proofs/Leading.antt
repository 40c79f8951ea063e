-- What a byte of a type, a field or a size led to.
use Rattle.nmf_records.specs.RecordFronts.{TextLimits}
use Rattle.std.proofs.Common.{◌≡◌, ℕ, suc, ◌+◌, ◌≤◌, List, [], ◌∷◌, ◌++◌, length, drop, sym, refl}
use Rattle.std.proofs.Common.{ap, ◌∙◌, subst, arith, length-append}
use Rattle.unit_streams.{proofs.Behind.behind_begun, specs.Front.begun}
use Rattle.multibyte_ints.proofs.IntegerBytes.{wrong_at_last}
use Rattle.multibyte_ints.specs.{Integer.int_at, Reader.StandsFor as IntStandsFor}
use Rattle.nmf_records.specs.declared.frame.{Expect.Expect, Frame.Frame}
use Rattle.nmf_records.{specs.declared.reader.FrameReader.FrameReader, proofs.Typed.begun_reads}
use Rattle.nmf_records.specs.declared.record_types.TheConstants.{SIZED_ENVELOPE}
use Rattle.nmf_records.specs.declared.stage.{Field.Field, Progress.Progress}
use Rattle.nmf_records.specs.declared.stage.Progress.TheVariants.{Done, Going, Wrong}
use Rattle.nmf_records.specs.declared.stage.{SizeRecord.SizeRecord, Stage.Stage}
use Rattle.nmf_records.specs.Advancing.{BeginsAnew, Progresses, ReadsBytes, SizeAnswers}
use Rattle.nmf_records.specs.Reader.{HasShape, HoldsText, size_bytes}
use Rattle.nmf_records.specs.RecordFronts.{as_size, bare, frame_at, size_at}
use Rattle.nmf_records.specs.Steps.{GoesTo, HasNoText, Meets, sized}
use Rattle.nmf_records.specs.declared.frame.Frame.TheVariants as frames
use Rattle.nmf_records.specs.declared.frame.FrameFault.TheVariants as faults
use Rattle.nmf_records.specs.declared.stage.Field.TheVariants as fields
use Rattle.nmf_records.specs.declared.stage.SizeRecord.TheVariants as sizes
use Rattle.nmf_records.specs.declared.stage.Stage.TheVariants as stages

-- a reader of texts that begins anew has no byte of one
holds_text : (mid : FrameReader) (stage : Stage) (p : List ℕ) → HasNoText stage p
    → BeginsAnew mid (Going stage) → HoldsText stage mid p
holds_text mid stages.Type p none anew = tt
holds_text mid (stages.Field field) p none anew = tt
holds_text mid (stages.Text text) p none anew = rw none anew
holds_text mid (stages.Size size) p none anew = tt
holds_text mid (stages.Failed fault) p none anew = tt

-- a fixed byte leads where it goes
pub fixed_leads : (limits : TextLimits) (expect : Expect) (p : List ℕ) (mid : FrameReader)
    (progress : Progress) → Meets (frame_at limits expect p) (length p) progress
    → GoesTo expect p progress → IntStandsFor mid.size [] → BeginsAnew mid progress
    → Progresses limits expect p mid progress
fixed_leads limits expect p mid (Going stage) meets goes int anew =
    (meets, goes.0, rw goes.1 int, holds_text mid stage p goes.2 anew)
fixed_leads limits expect p mid (Done frame) meets goes int anew = (meets.0, meets.1, int)
fixed_leads limits expect p mid (Wrong fault) meets goes int anew = meets

-- a text doesn't begin with a second byte
pub not_anew : (expect : Expect) (p : List ℕ) (mid : FrameReader) (progress : Progress) → 2
    ≤ length p → GoesTo expect p progress → BeginsAnew mid progress
not_anew expect p mid (Going stages.Type) two goes = tt
not_anew expect p mid (Going (stages.Field field)) two goes = tt
not_anew expect p mid (Going (stages.Text text)) two goes =
    let len : length p ≡ 1 = ap length goes.0 ∙ ap (λ q. suc (length q)) goes.2 in absurd
    (omega arith)
not_anew expect p mid (Going (stages.Size size)) two goes = tt
not_anew expect p mid (Going (stages.Failed fault)) two goes = tt
not_anew expect p mid (Done frame) two goes = tt
not_anew expect p mid (Wrong fault) two goes = tt

-- a size that has begun is an integer that has
begun_size : (n : ℕ) (frame : ℕ → Frame) (b : List ℕ) → size_at n frame b ≡ begun → int_at b ≡ begun
begun_size n frame b h = behind_begun n (λ size. bare (frame size)) (λ _. faults.BadInt) (int_at b)
    h

-- what a size behind n bytes led to
module _ (limits : TextLimits) (n : ℕ) (expect : Expect) (size : SizeRecord) (q : List ℕ)
    (byte : ℕ) (p : List ℕ)
  where
    -- where its bytes with one more lead
    pub size_leads : (mid : FrameReader) (progress : Progress) → frame_at limits expect p
        ≡ size_at n (sized size) (q ++ byte ∷ []) → length p ≡ n + length (q ++ byte ∷ [])
        → HasShape expect (stages.Size size) p → size_bytes (stages.Size size) p ≡ q ++ byte ∷ []
        → int_at q ≡ begun
        → SizeAnswers size (q ++ byte ∷ []) mid.size progress
        → Progresses limits expect p mid progress
    size_leads mid (Going stage) reads len shape bytes so_far answers =
        rw answers.0 (reads ∙ ap (as_size n (sized size)) answers.1, shape, rw bytes answers.2, tt)
    size_leads mid (Done frame) reads len shape bytes so_far answers =
        ([], reads ∙ ap (as_size n (sized size)) answers.2 ∙ rw (answers.1, len) refl, answers.3)
    size_leads mid (Wrong fault) reads len shape bytes so_far answers =
        let fifth = wrong_at_last q byte so_far answers.1 in
        reads ∙ ap (as_size n (sized size)) answers.1 ∙ rw (answers.0, len, ← fifth) refl

-- a fixed field has a byte before it
pub field_some : (expect : Expect) (field : Field) (p : List ℕ) → HasShape expect
    (stages.Field field) p → 1 ≤ length p
field_some expect fields.Major p shape = omega (arith, ap length shape)
field_some expect (fields.Minor major) p shape = omega (arith, ap length shape)
field_some expect fields.Mode p shape = omega (arith, ap length shape)
field_some expect fields.Encoding p shape = omega (arith, ap length shape)

-- a stage of single bytes that is no field and no size
pub only_type : (stage : Stage) → ReadsBytes stage
    → ((field : Field) → stage ≡ stages.Field field → ⊥)
    → ((size : SizeRecord) → stage ≡ stages.Size size → ⊥) → stage ≡ stages.Type
only_type stages.Type reads not_field not_size = refl
only_type (stages.Field field) reads not_field not_size = absurd (not_field field refl)
only_type (stages.Text text) reads not_field not_size = absurd reads
only_type (stages.Size size) reads not_field not_size = absurd (not_size size refl)
only_type (stages.Failed fault) reads not_field not_size = absurd reads

-- one more byte
one_more : (p : List ℕ) (byte : ℕ) → length (p ++ byte ∷ []) ≡ length p + 1
one_more p byte = simp length-append

-- a byte of a fixed field
pub field_leads : (limits : TextLimits) (expect : Expect) (field : Field) (p : List ℕ) (byte : ℕ)
    (mid : FrameReader) (progress : Progress)
    → HasShape expect (stages.Field field) p → Meets (frame_at limits expect (p ++ byte ∷ []))
    (length p + 1) progress → GoesTo expect (p ++ byte ∷ []) progress → IntStandsFor mid.size []
    → Progresses limits expect (p ++ byte ∷ []) mid progress
field_leads limits expect field p byte mid progress shape meets goes int =
    let len = one_more p byte in
    let some = field_some expect field p shape in
    fixed_leads limits expect (p ++ byte ∷ []) mid progress
    (subst (λ n. Meets (frame_at limits expect (p ++ byte ∷ [])) n progress) (sym len) meets) goes
    int (not_anew expect (p ++ byte ∷ []) mid progress (omega (arith, len, some)) goes)

-- a byte of a size that has begun
pub size_byte_leads : (limits : TextLimits) (expect : Expect) (size : SizeRecord) (p : List ℕ)
    (byte : ℕ)
    (mid : FrameReader) (progress : Progress)
    → frame_at limits expect p ≡ begun → HasShape expect (stages.Size size) p
    → SizeAnswers size (size_bytes (stages.Size size) p ++ byte ∷ []) mid.size progress
    → Progresses limits expect (p ++ byte ∷ []) mid progress
size_byte_leads limits expect sizes.SizedEnvelope p byte mid progress so_far shape answers =
    let q : List ℕ = drop 1 p in
    let so_far' : frame_at limits expect (SIZED_ENVELOPE ∷ q) ≡ begun = ap (frame_at limits expect)
    (sym shape) ∙ so_far in
    let more : p ++ byte ∷ [] ≡ SIZED_ENVELOPE ∷ (q ++ byte ∷ []) = ap (λ x. x ++ byte ∷ []) shape
    in
    let reads : frame_at limits expect (SIZED_ENVELOPE ∷ (q ++ byte ∷ []))
    ≡ size_at 1 frames.SizedEnvelope (q ++ byte ∷ []) = begun_reads limits expect SIZED_ENVELOPE q
    (q ++ byte ∷ []) (omega arith) so_far' in
    let so_far_size : size_at 1 frames.SizedEnvelope q
    ≡ begun = sym (begun_reads limits expect SIZED_ENVELOPE q q (omega arith) so_far') ∙ so_far' in
    rw more (size_leads limits 1 expect sizes.SizedEnvelope q byte
    (SIZED_ENVELOPE ∷ (q ++ byte ∷ [])) mid progress reads (omega arith) refl refl
    (begun_size 1 frames.SizedEnvelope q so_far_size) answers)
size_byte_leads limits expect sizes.Chunk p byte mid progress so_far shape answers =
    let so_far' : size_at 0 frames.Chunk p ≡ begun = ap (λ e. frame_at limits e p) (sym shape) ∙
    so_far in
    size_leads limits 0 expect sizes.Chunk p byte (p ++ byte ∷ []) mid progress (rw shape refl)
    (omega arith) shape refl (begun_size 0 frames.Chunk p so_far') answers
