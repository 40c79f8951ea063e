use Rattle.std.proofs.Common.{◌≡◌, ℕ, ◌+◌, Bool, true, false, List, if◌then◌else◌, Some, None, sym}
use Rattle.std.proofs.Common.{refl, ap, ◌∙◌, subst}
use Rattle.nbfx_values.specs.QuotasOf.{limits_of}
use Rattle.nmf_records.specs.declared.{frame.Frame.Frame}
use Rattle.nmf_records.specs.{Reader.ShowsText as FramesShowText, RecordFronts.text_kind}
use Rattle.nmf_records.specs.Writing.{has_text}
use Rattle.stream_reader.specs.declared.{reader.StreamReader.StreamReader}
use Rattle.stream_reader.specs.{Sides.side_of, Stepping.size_before_of}
use Rattle.stream_reader.specs.Stream.{chunk_due, is_binary_type, payload_open, reason_in}
use Rattle.stream_reader.specs.Stream.{record_due, serves}
use Rattle.stream_reader.specs.Stream.{size_before, Stage, too_large}
use Rattle.stream_reader.specs.StreamReaderState.{awaited_at, settings_of}
use Rattle.nbfx_values.specs.declared.refusals.Reason.TheVariants as reasons
use Rattle.nmf_records.specs.declared.frame.Frame.TheVariants as frames
use Rattle.stream_reader.proofs.reader.StreamReader.reason_in.Goals as goal

-- what it is set to
serves_so : (r : StreamReader) (stage : Stage) (via text : List ℕ) (b : Bool) → via ≡ text
    → serves (side_of r.side) via ≡ b
    → (if b then None else Some reasons.EndpointNotFound)
    ≡ reason_in (settings_of r) stage frames.Via text
unfolding settings_of
serves_so r stage via text b same is =
    sym (ap (λ c. if c then None else Some reasons.EndpointNotFound)
    (ap (serves (side_of r.side)) (sym same) ∙ is))

limits_are : (r : StreamReader) → (settings_of r).limits ≡ limits_of r.quotas
unfolding settings_of
limits_are r = refl

-- a record with a text shows it
shown_as : (r : StreamReader) (f g : Frame) (text : List ℕ)
    → (has_text f ≡ true → FramesShowText (text_kind f) r.frames text) → f ≡ g
    → has_text g ≡ true → FramesShowText (text_kind g) r.frames text
shown_as r f g text shown is has =
    subst (λ (h : Frame). FramesShowText (text_kind h) r.frames text) is
    (shown (ap has_text is ∙ has))

-- the bytes of a payload before a chunk
before_as : (stage : Stage) → size_before_of (awaited_at stage) ≡ size_before stage
before_as (record_due due) = refl
before_as (chunk_due o) = refl
before_as (payload_open o) = refl

pub returns-in-Via : goal.returns-in-Via
returns-in-Via c = λ stage text awaits shown.
    serves_so c.args.self.now stage c.text.result.now text true
    (c.text.ensures text
    (shown_as c.args.self.now c.args.frame frames.Via text shown c.in-Via.is refl))
    (sym c.serves.ensures ∙ c.if-serves.true)
    ∙ ap (λ f. reason_in (settings_of c.args.self.now) stage f text) (sym c.in-Via.is)

pub returns-in-Via-2 : goal.returns-in-Via-2
returns-in-Via-2 c = λ stage text awaits shown.
    serves_so c.args.self.now stage c.text.result.now text false
    (c.text.ensures text
    (shown_as c.args.self.now c.args.frame frames.Via text shown c.in-Via.is refl))
    (sym c.serves.ensures ∙ c.if-serves.false)
    ∙ ap (λ f. reason_in (settings_of c.args.self.now) stage f text) (sym c.in-Via.is)

-- the text that is read is the record's
type_so : (r : StreamReader) (stage : Stage) (type text : List ℕ) → type ≡ text
    → (if is_binary_type type then None else Some reasons.BadEncoding)
    ≡ reason_in (settings_of r) stage frames.ExtensibleEncoding text
type_so r stage type text same =
    ap (λ t. if is_binary_type t then None else Some reasons.BadEncoding) same

pub returns-in-ExtensibleEncoding : goal.returns-in-ExtensibleEncoding
returns-in-ExtensibleEncoding c = λ stage text awaits shown.
    c.bad_content_type.ensures
    ∙ type_so c.args.self.now stage c.content_type.result.now text
    (c.content_type.ensures text (shown_as c.args.self.now c.args.frame frames.ExtensibleEncoding
    text shown c.in-ExtensibleEncoding.is refl))
    ∙ ap (λ f. reason_in (settings_of c.args.self.now) stage f text)
    (sym c.in-ExtensibleEncoding.is)

pub returns-in-SizedEnvelope : goal.returns-in-SizedEnvelope
returns-in-SizedEnvelope c = λ stage text awaits shown.
    c.too_large.ensures (settings_of c.args.self.now) (limits_are c.args.self.now)
    ∙ ap (too_large (settings_of c.args.self.now)) c.from.ensures
    ∙ ap (λ f. reason_in (settings_of c.args.self.now) stage f text) (sym c.in-SizedEnvelope.is)

pub returns-in-Chunk : goal.returns-in-Chunk
returns-in-Chunk c = λ stage text awaits shown.
    let before = c.from-in-Chunk.ensures ∙ c.size_before.ensures
    ∙ ap size_before_of awaits ∙ before_as stage in
    c.too_large-in-Chunk.ensures (settings_of c.args.self.now) (limits_are c.args.self.now)
    ∙ ap (λ n. too_large (settings_of c.args.self.now) (n + c.from-in-Chunk-2.result)) before
    ∙ ap (λ n. too_large (settings_of c.args.self.now) (size_before stage + n))
    c.from-in-Chunk-2.ensures
    ∙ ap (λ f. reason_in (settings_of c.args.self.now) stage f text) (sym c.in-Chunk.is)
