-- Which text a reader shows once it has gone on.
use Rattle.nmf_records.specs.RecordFronts.{content_type, has_text_of, limit_for, text_kind}
use Rattle.nmf_records.specs.RecordFronts.{text_limit, TextKind, TextLimits, via_or_fault}
use Rattle.std.proofs.Common.{◌≡◌, ℕ, Bool, true, false, ◌&&◌, List, [], ◌∷◌, ◌++◌, drop}
use Rattle.std.proofs.Common.{◌==◌, sym, refl, ap, ◌∙◌, subst, inl, inr, arith}
use Rattle.std.proofs.lemmas.Bool.{cases_Bool}
use Rattle.{std.proofs.Math.Bool.and-false, unit_streams.proofs.Behind.behind_begun}
use Rattle.unit_streams.specs.Front.{begun, Front, whole, wrong}
use Rattle.multibyte_ints.proofs.TextBytes.{string_peels}
use Rattle.multibyte_ints.specs.{Reader.StandsFor as IntStandsFor, Text.string_at, Text.StringFault}
use Rattle.multibyte_ints.specs.TextReader.{limit_of as text_limit_of, StringStandsFor, text_of}
use Rattle.nmf_records.specs.declared.frame.Expect.{Expect, TheVariants.Chunk, TheVariants.Types}
use Rattle.nmf_records.specs.declared.frame.{Frame.Frame, FrameFault.FrameFault}
use Rattle.nmf_records.specs.{declared.reader.FrameReader.FrameReader, Records.Read}
use Rattle.nmf_records.specs.declared.record_types.TheConstants.{EXTENSIBLE_ENCODING, FAULT}
use Rattle.nmf_records.specs.declared.record_types.TheConstants.{KNOWN_ENCODING, MODE}
use Rattle.nmf_records.specs.declared.record_types.TheConstants.{SIZED_ENVELOPE, VERSION, VIA}
use Rattle.nmf_records.specs.declared.stage.{Field.Field, Progress.Progress}
use Rattle.nmf_records.specs.declared.stage.Progress.TheVariants.{Done, Going, Wrong}
use Rattle.nmf_records.specs.declared.stage.{SizeRecord.SizeRecord, TextRecord.TextRecord}
use Rattle.nmf_records.specs.Advancing.{BeginsAnew, Progresses, TextAnswers}
use Rattle.nmf_records.specs.Reader.{HasShape, IsShown, kind_of, limits_of, reader_of}
use Rattle.nmf_records.specs.Reader.{ShowsText, text_after, type_of_text}
use Rattle.nmf_records.specs.{Reader.text_read, Steps.has_kind, Steps.Meets, Steps.starts_text}
use Rattle.nmf_records.specs.Steps.{texted}
use Rattle.nmf_records.specs.RecordFronts.{allows, as_text, begins_text, fault_of, frame_at}
use Rattle.nmf_records.specs.RecordFronts.{text_frame_at, with_text}
use Rattle.nmf_records.proofs.Typed.{begun_may_come, begun_reads}
use Rattle.nmf_records.specs.declared.stage.Field.TheVariants as fields
use Rattle.nmf_records.specs.declared.stage.TextRecord.TheVariants as texts
use Rattle.nmf_records.specs.declared.stage.SizeRecord.TheVariants as sizes
use Rattle.nmf_records.specs.declared.stage.Stage.TheVariants as stages

-- what has the same text shows the same
pub shows_same : (kind : TextKind) (old new : FrameReader) (s : List ℕ)
    → reader_of kind new ≡ reader_of kind old → ShowsText kind old s → ShowsText kind new s
unfolding ShowsText
shows_same kind old new s e h = subst (λ r. IsShown r s) (sym e) h

-- before the first byte no text is shown
pub shows_none : (r : FrameReader) → StringStandsFor r.text [] → StringStandsFor r.content_type []
    → (kind : TextKind) → ShowsText kind r []
unfolding ShowsText
shows_none r text type via_or_fault = record {
  string = [];
  stands = text;
  text_is = ap text_of (sym (string_peels (text_limit_of r.text)).nothing);
}
shows_none r text type content_type = record {
  string = [];
  stands = type;
  text_is = ap text_of (sym (string_peels (text_limit_of r.content_type)).nothing);
}

-- what keeps both texts shows the same
pub shows_kept : (kind : TextKind) (old new : FrameReader) (s : List ℕ) → new.text ≡ old.text
    → new.content_type ≡ old.content_type → ShowsText kind old s → ShowsText kind new s
shows_kept via_or_fault old new s text type h = shows_same via_or_fault old new s text h
shows_kept content_type old new s text type h = shows_same content_type old new s type h

-- a record without such a text
pub plain_head : (kind : TextKind) (expect : Expect) (type : ℕ) (q : List ℕ)
    → has_text_of kind type ≡ false → begins_text kind expect (type ∷ q) ≡ false
plain_head kind (Types types) type q e = ap (λ b. allows types type && b) e ∙ and-false
    (allows types type)
plain_head kind Chunk type q e = refl

-- no such text has begun, so what was shown is shown
pub plain_shows : (kind : TextKind) (new : FrameReader) (s : List ℕ) (expect : Expect) (p : List ℕ)
    (reading : Front Read FrameFault) → begins_text kind expect p ≡ false
    → ShowsText kind new s → ShowsText kind new (text_after kind s expect p reading)
plain_shows kind new s expect p reading e h = rw e h

-- the text that a record has
pub kind_is : (kind : TextKind) (text : TextRecord) → has_kind kind text ≡ true → kind_of text
    ≡ kind
kind_is via_or_fault texts.Via e = refl
kind_is via_or_fault texts.ContentType e = cc
kind_is via_or_fault texts.Fault e = refl
kind_is content_type texts.Via e = cc
kind_is content_type texts.ContentType e = refl
kind_is content_type texts.Fault e = cc

-- is known by its type
pub kind_by_type : (kind : TextKind) (text : TextRecord)
    → has_text_of kind (type_of_text text) ≡ has_kind kind text
kind_by_type via_or_fault texts.Via = refl
kind_by_type via_or_fault texts.ContentType = refl
kind_by_type via_or_fault texts.Fault = refl
kind_by_type content_type texts.Via = refl
kind_by_type content_type texts.ContentType = refl
kind_by_type content_type texts.Fault = refl

-- and by its frame
pub frame_kind : (text : TextRecord) → text_kind (texted text) ≡ kind_of text
frame_kind texts.Via = refl
frame_kind texts.ContentType = refl
frame_kind texts.Fault = refl

-- the limit of a text is that of its reader
pub reader_limit : (kind : TextKind) (r : FrameReader)
    → limit_for kind (limits_of r) ≡ text_limit_of (reader_of kind r)
unfolding limits_of
reader_limit via_or_fault r = refl
reader_limit content_type r = refl

-- a text has begun, of which nothing is there
pub start_shows : (kind : TextKind) (mid : FrameReader) (progress : Progress) (s : List ℕ)
    (expect : Expect) (p : List ℕ) (n : ℕ) (reading : Front Read FrameFault)
    → starts_text kind progress ≡ true → begins_text kind expect p ≡ true
    → Meets reading n progress → BeginsAnew mid progress
    → ShowsText kind mid (text_after kind s expect p reading)
unfolding ShowsText
start_shows kind mid (Going (stages.Text text)) s expect p n reading start begins meets anew =
    record {
      string = [];
      stands = rw (kind_is kind text start) at anew;
      text_is = rw (begins, meets)
          (ap text_of (sym ((string_peels (text_limit_of (reader_of kind mid))).nothing)));
    }
start_shows kind mid (Going stages.Type) s expect p n reading start begins meets anew = cc
start_shows kind mid (Going (stages.Field field)) s expect p n reading start begins meets anew = cc
start_shows kind mid (Going (stages.Size size)) s expect p n reading start begins meets anew = cc
start_shows kind mid (Going (stages.Failed fault)) s expect p n reading start begins meets anew = cc
start_shows kind mid (Done frame) s expect p n reading start begins meets anew = cc
start_shows kind mid (Wrong fault) s expect p n reading start begins meets anew = cc

-- the first byte of a record
pub first_shows : (kind : TextKind) (old mid : FrameReader) (progress : Progress) (s : List ℕ)
    (types type n : ℕ) (reading : Front Read FrameFault) (b : Bool)
    → starts_text kind progress ≡ b
    → starts_text kind progress ≡ begins_text kind (Types types) (type ∷ [])
    → Meets reading n progress → BeginsAnew mid progress
    → (starts_text kind progress ≡ false → reader_of kind mid ≡ reader_of kind old)
    → ShowsText kind old s
    → ShowsText kind mid (text_after kind s (Types types) (type ∷ []) reading)
first_shows kind old mid progress s types type n reading true e same meets anew unchanged h =
    start_shows kind mid progress s (Types types) (type ∷ []) n reading e (sym same ∙ e) meets anew
first_shows kind old mid progress s types type n reading false e same meets anew unchanged h =
    plain_shows kind mid s (Types types) (type ∷ []) reading (sym same ∙ e)
    (shows_same kind old mid s (unchanged e) h)

-- the types of records that have no text
pub no_text : (kind : TextKind) (type : ℕ) → (type == VIA) ≡ false → (type == FAULT) ≡ false
    → (type == EXTENSIBLE_ENCODING) ≡ false → has_text_of kind type ≡ false
no_text via_or_fault type via fault encoding = rw (via, fault) refl
no_text content_type type via fault encoding = encoding

-- behind a fixed field no text begins
pub field_head : (kind : TextKind) (expect : Expect) (field : Field) (p c : List ℕ)
    → HasShape expect (stages.Field field) p → begins_text kind expect (p ++ c) ≡ false
field_head kind expect fields.Major p c shape = rw shape
    (plain_head kind expect VERSION c (no_text kind VERSION refl refl refl))
field_head kind expect (fields.Minor major) p c shape = rw shape
    (plain_head kind expect VERSION (major ∷ c) (no_text kind VERSION refl refl refl))
field_head kind expect fields.Mode p c shape = rw shape
    (plain_head kind expect MODE c (no_text kind MODE refl refl refl))
field_head kind expect fields.Encoding p c shape = rw shape
    (plain_head kind expect KNOWN_ENCODING c (no_text kind KNOWN_ENCODING refl refl refl))

-- nor behind a size
pub size_head : (kind : TextKind) (expect : Expect) (size : SizeRecord) (p c : List ℕ)
    → HasShape expect (stages.Size size) p → begins_text kind expect (p ++ c) ≡ false
size_head kind expect sizes.SizedEnvelope p c shape =
    ap (λ x. begins_text kind expect (x ++ c)) shape ∙
    plain_head kind expect SIZED_ENVELOPE (drop 1 p ++ c)
    (no_text kind SIZED_ENVELOPE refl refl refl)
size_head kind expect sizes.Chunk p c shape = rw shape refl

-- a text that has begun is of a record that may come
text_may_come : (limits : TextLimits) (expect : Expect) (text : TextRecord) (q : List ℕ)
    → frame_at limits expect (type_of_text text ∷ q) ≡ begun
    → (types : ℕ) × (expect ≡ Types types) × (allows types (type_of_text text) ≡ true)
text_may_come limits expect texts.Via q h = begun_may_come limits expect VIA q (omega arith) h
text_may_come limits expect texts.ContentType q h = begun_may_come limits expect EXTENSIBLE_ENCODING
    q (omega arith) h
text_may_come limits expect texts.Fault q h = begun_may_come limits expect FAULT q (omega arith) h

-- and is known by its first byte
pub text_head : (limits : TextLimits) (expect : Expect) (kind : TextKind) (text : TextRecord)
    (q c : List ℕ) → frame_at limits expect (type_of_text text ∷ q) ≡ begun
    → begins_text kind expect (type_of_text text ∷ c) ≡ has_kind kind text
text_head limits expect kind text q c h =
    let m = text_may_come limits expect text q h in
    rw (m.1, m.2) (kind_by_type kind text)

-- the text that is read of a record is that of its string
read_text : (frame : Frame) (y : Front (List ℕ) StringFault) → text_read (as_text frame y)
    ≡ text_of y
read_text frame begun = refl
read_text frame (whole s k) = refl
read_text frame (wrong r k) = refl

-- a text that has begun is read as one, however it goes on
pub text_reads : (limits : TextLimits) (expect : Expect) (text : TextRecord) (q c : List ℕ)
    → frame_at limits expect (type_of_text text ∷ q) ≡ begun
    → frame_at limits expect (type_of_text text ∷ c) ≡ text_frame_at limits (texted text) c
text_reads limits expect texts.Via q c h = begun_reads limits expect VIA q c (omega arith) h
text_reads limits expect texts.ContentType q c h = begun_reads limits expect EXTENSIBLE_ENCODING q c
    (omega arith) h
text_reads limits expect texts.Fault q c h = begun_reads limits expect FAULT q c (omega arith) h

-- a text goes on, and the other stays
pub text_shows : (limits : TextLimits) (old new : FrameReader) (kind : TextKind) (s : List ℕ)
    (expect : Expect) (text : TextRecord) (q c : List ℕ) → limits_of new ≡ limits
    → frame_at limits expect (type_of_text text ∷ q) ≡ begun
    → StringStandsFor (reader_of (kind_of text) new) c
    → (has_kind kind text ≡ false → reader_of kind new ≡ reader_of kind old)
    → ShowsText kind old s
    → ShowsText kind new (text_after kind s expect (type_of_text text ∷ c)
    (frame_at limits expect (type_of_text text ∷ c)))
unfolding ShowsText
text_shows limits old new kind s expect text q c lim h stands others shows =
    elim (cases_Bool (has_kind kind text)) [
      | inl is ↦ goes_on is
      | inr isnt ↦ plain_shows kind new s expect (type_of_text text ∷ c)
          (frame_at limits expect (type_of_text text ∷ c))
          (text_head limits expect kind text q c h ∙ isnt)
          (shows_same kind old new s (others isnt) shows)
    ]
  where
    goes_on : has_kind kind text ≡ true → ShowsText kind new (text_after kind s expect
        (type_of_text text ∷ c) (frame_at limits expect (type_of_text text ∷ c)))
    goes_on is =
        let same : text_limit limits (texted text) ≡ text_limit_of (reader_of kind new) =
        ap (λ k. limit_for k limits) (frame_kind text ∙ kind_is kind text is)
        ∙ ap (limit_for kind) (sym lim) ∙ reader_limit kind new in
        record {
          string = c;
          stands = rw (kind_is kind text is) at stands;
          text_is = rw (
            text_head limits expect kind text q c h ∙ is,
            text_reads limits expect text q c h,
            ← same,
          )
              (read_text (texted text) (string_at (text_limit limits (texted text)) c));
        }

-- what the bytes of a text led to
pub text_leads : (limits : TextLimits) (expect : Expect) (text : TextRecord) (p c : List ℕ)
    (mid : FrameReader) (progress : Progress)
    → frame_at limits expect p ≡ begun → HasShape expect (stages.Text text) p
    → IntStandsFor mid.size
    []
    → TextAnswers limits text (drop 1 p ++ c) (reader_of (kind_of text) mid) progress
    → Progresses limits expect (p ++ c)
    mid progress
text_leads limits expect text p c mid progress h shape int answers =
    let h' : frame_at limits expect (type_of_text text ∷ drop 1 p)
    ≡ begun = ap (frame_at limits expect) (sym shape) ∙ h in
    let more : p ++ c ≡ type_of_text text ∷ (drop 1 p ++ c) = ap (λ x. x ++ c) shape in
    rw more (by_progress (drop 1 p ++ c) progress
    (text_reads limits expect text (drop 1 p) (drop 1 p ++ c) h') answers)
  where
    at_frame : (q : List ℕ) → string_at (text_limit limits (texted text)) q
        ≡ string_at (limit_for (kind_of text) limits) q
    at_frame q = ap (λ k. string_at (limit_for k limits) q) (frame_kind text)

    by_progress : (q : List ℕ) (progress : Progress) → frame_at limits expect
        (type_of_text text ∷ q)
        ≡ text_frame_at limits (texted text) q
        → TextAnswers limits text q (reader_of (kind_of text) mid) progress
        → Progresses limits expect
        (type_of_text text ∷ q) mid progress
    by_progress q (Going stage) reads answers =
        rw answers.0 (
          reads ∙ ap (as_text (texted text)) (at_frame q ∙ answers.1),
          refl,
          int,
          answers.2,
        )
    by_progress q (Done frame) reads answers = (
      answers.1,
      reads ∙ ap (as_text (texted text)) (at_frame q ∙ answers.2) ∙ rw answers.0
          (ap (whole (with_text (texted text) answers.1)) (omega arith)),
      int,
    )
    by_progress q (Wrong fault) reads answers =
        reads ∙ ap (as_text (texted text)) (at_frame q ∙ answers.2)
        ∙ rw (answers.1, frame_kind text)
        (ap (wrong (fault_of (kind_of text) answers.0)) (omega arith))

-- the string of a text that has begun
pub text_begun : (limits : TextLimits) (expect : Expect) (text : TextRecord) (p : List ℕ)
    → frame_at limits expect p ≡ begun → HasShape expect (stages.Text text) p
    → string_at (limit_for (kind_of text) limits) (drop 1 p) ≡ begun
text_begun limits expect text p h shape =
    let h' : frame_at limits expect (type_of_text text ∷ drop 1 p)
    ≡ begun = ap (frame_at limits expect) (sym shape) ∙ h in
    ap (λ k. string_at (limit_for k limits) (drop 1 p)) (sym (frame_kind text))
    ∙ behind_begun 1 (with_text (texted text)) (fault_of (text_kind (texted text)))
    (string_at (text_limit limits (texted text)) (drop 1 p))
    (sym (text_reads limits expect text (drop 1 p) (drop 1 p) h') ∙ h')
