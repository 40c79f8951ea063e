-- A reader goes on behind a whole record, or the size of a chunk.
use Rattle.std.proofs.Common.{◌≡◌, ℕ, ◌+◌, ◌^◌, ◌<◌, ◌≤◌, Bool, true, false, List, []}
use Rattle.std.proofs.Common.{if◌then◌else◌, ◌==◌, Some, None, Ok, Err, Option, Result, option_map}
use Rattle.std.proofs.Common.{sym, refl, ap, ◌∙◌, subst, arith}
use Rattle.{std.specs.Option.option_or, nbfx_values.specs.QuotasOf.limits_of}
use Rattle.nbfx_values.specs.declared.{refusals.Reason.Reason, session.Kind.Kind}
use Rattle.nmf_records.specs.declared.{frame.Frame.Frame, reader.FrameReader.FrameReader}
use Rattle.nmf_records.specs.{Reader.ShowsText as FramesShowText, Writing.has_text}
use Rattle.nmf_records.specs.RecordFronts.{content_type, MayCome, text_kind}
use Rattle.nmf_records.specs.declared.script.{Direction.Direction, Due.Due}
use Rattle.nmf_records.specs.Script.{IsEncoding, leads, may_come}
use Rattle.nbfx_decoder.specs.{declared.decoder.Decoder.Decoder, Payload.payload}
use Rattle.nbfx_decoder.specs.DecoderState.{settings_of as decoder_settings}
use Rattle.nbfx_decoder.specs.DecoderState.{StandsFor as DecoderStandsFor}
use Rattle.stream_reader.specs.declared.awaited.{Awaited.Awaited, Closing.Closing}
use Rattle.stream_reader.specs.{declared.awaited.PayloadLeft.PayloadLeft, Sides.side_of}
use Rattle.stream_reader.specs.declared.reader.{ReadRefusal.ReadRefusal, StreamStep.StreamStep}
use Rattle.stream_reader.specs.declared.reader.ReadRefusal.TheVariants.{Offence as Refused}
use Rattle.stream_reader.specs.declared.reader.StreamReader.{StreamReader}
use Rattle.stream_reader.specs.Stepping.{awaited_after, bare_step, begun_by}
use Rattle.stream_reader.specs.Stepping.{BehindAnswers, closing_after, DecodesAfter, due_of}
use Rattle.stream_reader.specs.Stepping.{HasDecoded, IsDue, IsMoved, joined_with, MakesPayload}
use Rattle.stream_reader.specs.Stepping.{mode_after, step_of}
use Rattle.stream_reader.specs.Stream.{after_bare, after_record, behind_payload, chunk_due, chunked}
use Rattle.stream_reader.specs.Stream.{completed_bare, completed_payload, completed_record}
use Rattle.stream_reader.specs.Stream.{direction_of, due_in, Form, is_over_in, kind_of}
use Rattle.stream_reader.specs.Stream.{kind_of_type}
use Rattle.stream_reader.specs.Stream.{last_chunk}
use Rattle.stream_reader.specs.Stream.{offence_at, on_payload, OpenPayload, payload_begun}
use Rattle.stream_reader.specs.Stream.{payload_by, payload_open, payloads, reason_in, record_due}
use Rattle.stream_reader.specs.Stream.{refused_payload, refused_record, Settings, Side, Situation}
use Rattle.stream_reader.specs.Stream.{sized, Stage, strings_at, strings_in, with_chunk}
use Rattle.stream_reader.specs.StreamReaderState.{awaited_at, form_for, HasPart, IsIn, left_of}
use Rattle.stream_reader.specs.StreamReaderState.{ReadsPayload, Recalls, ShowsTable}
use Rattle.stream_reader.proofs.{Ending.bare_goes_on, Ending.begun_on, Situations.begun_behind}
use Rattle.stream_reader.proofs.MadePayloads.{only_size, reads_at, size_fits, size_large}
use Rattle.stream_reader.proofs.{Outcomes.more_behind, ReaderFacts.shows_in}
use Rattle.stream_reader.proofs.Texts.{chunk_made, due_on, reads_record, reads_size, ReadsDue}
use Rattle.nmf_records.specs.declared.frame.Frame.TheVariants as frames
use Rattle.nmf_records.specs.declared.script.Due.TheVariants as dues
use Rattle.stream_reader.specs.declared.awaited.Awaited.TheVariants as awaits
use Rattle.stream_reader.specs.declared.awaited.Form.TheVariants as forms
use Rattle.stream_reader.specs.declared.reader.StreamStep.TheVariants as steps

-- a reader that is as another one, but for where its unit begins
pub record IsAs (mid r : StreamReader) : Type 0 where
  pub side : mid.side ≡ r.side
  pub awaited : mid.awaited ≡ r.awaited
  pub mode : mid.mode ≡ r.mode
  pub kind : mid.kind ≡ r.kind
  pub messages : mid.messages ≡ r.messages
  pub taken : mid.taken ≡ r.taken
  pub frames : mid.frames ≡ r.frames
  pub decoder : mid.decoder ≡ r.decoder

module _ (r : StreamReader) (x : Settings) (z : Situation) (f : Frame) (text : List ℕ)
    (h : IsDue r x z f text) (from to : ℕ) where
  abbrev d : Direction
  d = direction_of x.side

  at_due : ReadsDue z.stage h.due
  at_due = reads_at z.stage h.due (ap due_of (sym h.at.awaits) ∙ h.due_is)

  shows_now : ShowsTable r.decoder (strings_in z)
  shows_now = shows_in r x z h.at

  -- at a record no payload is open
  decoder_now : z.stage ≡ record_due h.due → DecoderStandsFor r.decoder z.strings []
  decoder_now is = subst (ReadsPayload r.decoder x z) is h.at.payload

  -- the record, as a size where one is due
  size_there : h.due ≡ dues.Chunk → (size : ℕ) × (f ≡ frames.Chunk size)
  size_there same = only_size d f (subst (λ (n : Due). MayCome (may_come d n) f) same h.may)

  -- a record that is no size comes where a record is due
  no_size : ((size : ℕ) → f ≡ frames.Chunk size → ⊥) → z.stage ≡ record_due h.due
  no_size never =
      elim at_due [
        | reads_record is ↦ is
        | reads_size o is same ↦ let size = size_there same in absurd (never size.0 size.1)
      ]

  -- a record of no payload too
  pub no_payload : payload_by x z from f ≡ None → z.stage ≡ record_due h.due
  no_payload none =
      elim at_due [
        | reads_record is ↦ is
        | reads_size o is same ↦
            absurd (chunk_made x z from o f is
            (subst (λ (n : Due). MayCome (may_come d n) f) same h.may) none)
      ]

  -- what is refused by what it says keeps the documents and the strings
  abbrev KeepsAll : Situation → Type 0
  KeepsAll new = (z.messages ≡ new.messages) × (strings_in z ≡ strings_in new)

  keeps_open : (o : OpenPayload) → strings_in z ≡ o.standing.situation.strings → 0 < o.left
      → KeepsAll (behind_payload x z o)
  keeps_open o strings some = rw (more_behind x z o some) (refl, strings)

  refused_in : (g : Frame) → f ≡ g → (why : Reason) → reason_in x z.stage g text ≡ Some why
      → KeepsAll (after_record x z from g text)
  refused_in (frames.KnownEncoding encoding) is why e =
      let at = no_size (λ size same. let two = sym is ∙ same in cc) in
      (refl, ap (strings_at z) at ∙ h.no_strings (subst IsEncoding (sym is) tt))
  refused_in frames.ExtensibleEncoding is why e =
      let at = no_size (λ size same. let two = sym is ∙ same in cc) in
      (refl, ap (strings_at z) at ∙ h.no_strings (subst IsEncoding (sym is) tt))
  refused_in (frames.SizedEnvelope size) is why e =
      let at = no_size (λ size same. let two = sym is ∙ same in cc) in
      keeps_open (payload_begun x z from size sized) (ap (strings_at z) at)
      (let large = size_large x size why e in omega (arith, large))
  refused_in (frames.Chunk size) is why e =
      elim at_due [
        | reads_record at ↦
            let none : payload_by x z from (frames.Chunk size) ≡ None = rw at refl in
            subst (λ (v : Option OpenPayload).
            KeepsAll (on_payload v (behind_payload x z) (after_bare x z (frames.Chunk size) text)))
            (sym none) (refl, ap (strings_at z) at)
        | reads_size o at same ↦
            let made : payload_by x z from (frames.Chunk size) ≡ Some (with_chunk o size) = rw at
            refl in
            let part = (subst (ReadsPayload r.decoder x z) at h.at.payload).1 in
            let large = size_large x (o.size + size) why (rw at at e) in
            subst (λ (v : Option OpenPayload).
            KeepsAll (on_payload v (behind_payload x z) (after_bare x z (frames.Chunk size) text)))
            (sym made)
            (keeps_open (with_chunk o size) (ap (strings_at z) at)
            (let low = part.within in omega (arith, large, low)))
      ]
  refused_in frames.PreambleAck is why e = cc
  refused_in frames.PreambleEnd is why e = cc
  refused_in frames.UnsizedEnvelope is why e = cc
  refused_in frames.End is why e = cc
  refused_in frames.Fault is why e = cc
  refused_in _ is why e =
      (refl, ap (strings_at z) (no_size (λ size same. let two = sym is ∙ same in cc)))

  -- what comes of a record, by why it is refused and the payload that it makes
  abbrev By : Option Reason → Option OpenPayload → StreamReader → Result StreamStep ReadRefusal
      → Type 0
  By why made new result =
      BehindAnswers x (on_payload made (behind_payload x z) (after_bare x z f text))
      (on_payload made (completed_payload x z) (completed_bare z to f text))
      (option_or (option_map (offence_at from) why) (on_payload made (refused_payload x z) None))
      new result

  by_both : (why : Option Reason) (made : Option OpenPayload) (new : StreamReader)
      (result : Result StreamStep ReadRefusal) → reason_in x z.stage f text ≡ why
      → payload_by x z from f ≡ made → By why made new result
      → BehindAnswers x (after_record x z from f text) (completed_record x z from to f text)
      (refused_record x z from f text) new result
  by_both why made new result reason payload a =
      subst (λ (w : Option Reason). By w (payload_by x z from f) new result) (sym reason)
      (subst (λ (v : Option OpenPayload). By why v new result) (sym payload) a)

  -- a record that says what is refused
  pub behind_refusal : (new : StreamReader) (told : ReadRefusal) (why : Reason)
      → reason_in x z.stage f text ≡ Some why → told ≡ Refused (offence_at from why)
      → new.messages ≡ r.messages → new.decoder ≡ r.decoder
      → BehindAnswers x (after_record x z from f text) (completed_record x z from to f text)
      (refused_record x z from f text) new (Err told)
  behind_refusal new told why e is messages decoder =
      let same = refused_in f refl why e in
      subst (λ (t : ReadRefusal). BehindAnswers x (after_record x z from f text)
      (completed_record x z from to f text) (refused_record x z from f text) new (Err t)) (sym is)
      (by_both (Some why) (payload_by x z from f) new (Err (Refused (offence_at from why))) e refl (
        refl,
        record {
          messages = messages ∙ h.at.messages ∙ same.0;
          strings =
              subst (λ (s : Decoder). ShowsTable s (strings_in (after_record x z from f text)))
              (sym decoder) (subst (ShowsTable r.decoder) same.1 shows_now);
        },
      ))

  -- the payload that a record makes or resumes
  pub record IsMade (q : PayloadLeft) : Type 0 where
    pub payload : OpenPayload
    pub made : payload_by x z from f ≡ Some payload
    pub here_is : q ≡ left_of payload
    pub part : HasPart r.decoder x z payload

  part_begun : (size : ℕ) (form : Form) → z.stage ≡ record_due h.due → size ≤ x.limits.payload
      → HasPart r.decoder x z (payload_begun x z from size form)
  part_begun size form at low =
      let b = begun_behind x z from size form in record {
        bytes = [];
        stands_for = decoder_now at;
        standing_is = b.standing_is;
        counted = b.counted;
        within = low;
      }

  formed : (b : Bool) → form_for (if b then last_chunk else chunked)
      ≡ (if b then forms.LastChunk else forms.Chunked)
  formed true = refl
  formed false = refl

  made_chunk : (o : OpenPayload) (size : ℕ) (q : PayloadLeft) → z.stage ≡ chunk_due o
      → f ≡ frames.Chunk size → joined_with (left_of o) size q
      → reason_in x (chunk_due o) (frames.Chunk size) text ≡ None → x.limits.payload < 2 ^ 32
      → IsMade q
  made_chunk o size q at same joins good low =
      let fits = size_fits x (o.size + size) good in
      let reads = subst (ReadsPayload r.decoder x z) at h.at.payload in
      let part = reads.1 in
      record {
        payload = with_chunk o size;
        made = ap (payload_by x z from) same ∙ rw at refl;
        here_is =
            joins (omega (arith, fits, low))
            ∙ ap (λ form. record {
              from = o.from;
              size = o.size + size;
              left = size;
              form = form;
            }) (sym (formed (size == 0)));
        part = record {
          bytes = part.bytes;
          stands_for = part.stands_for;
          standing_is = part.standing_is;
          counted = (let n = part.counted in let none = reads.0 in omega (arith, n, none));
          within = fits;
        };
      }

  made_head : (g : Frame) (q : PayloadLeft) → f ≡ g → z.stage ≡ record_due h.due
      → Some q ≡ begun_by from g → reason_in x z.stage g text ≡ None → IsMade q
  made_head (frames.SizedEnvelope size) q is at makes good = record {
    payload = payload_begun x z from size sized;
    made = ap (payload_by x z from) is;
    here_is = cc;
    part = part_begun size sized at (size_fits x size good);
  }
  made_head frames.UnsizedEnvelope q is at makes good = record {
    payload = payload_begun x z from 0 chunked;
    made = ap (payload_by x z from) is;
    here_is = cc;
    part = part_begun 0 chunked at (omega arith);
  }
  made_head g q is at makes good = cc

  made_size : (p : PayloadLeft) (g : Frame) (q : PayloadLeft)
      → MakesPayload (awaits.Chunk p) from g (Some q)
      → (size : ℕ) × (g ≡ frames.Chunk size) × joined_with p size q
  made_size p (frames.Chunk size) q makes =
      let same : makes.0 ≡ q = (let two = makes.1 in cc) in
      (size, refl, subst (joined_with p size) same makes.2)
  made_size p g q makes = cc

  made_by : (stage : Stage) (q : PayloadLeft) → z.stage ≡ stage
      → MakesPayload (awaited_at stage) from f (Some q) → reason_in x stage f text ≡ None
      → x.limits.payload < 2 ^ 32 → IsMade q
  made_by (record_due other) q at makes good low =
      let here : record_due other ≡ record_due h.due = by_due at_due in
      made_head f q refl (at ∙ here) makes (ap (λ s. reason_in x s f text) at ∙ good)
    where
      by_due : ReadsDue z.stage h.due → record_due other ≡ record_due h.due
      by_due (reads_record e) = sym at ∙ e
      by_due (reads_size o e same) = let two = sym at ∙ e in cc
  made_by (chunk_due o) q at makes good low =
      let m = made_size (left_of o) f q makes in
      made_chunk o m.0 q at m.1 m.2
      (ap (λ g. reason_in x (chunk_due o) g text) (sym m.1) ∙ good) low
  made_by (payload_open o) q at makes good low = cc

  pub made_some : (q : PayloadLeft) → MakesPayload r.awaited from f (Some q)
      → reason_in x z.stage f text ≡ None → x.limits.payload < 2 ^ 32 → IsMade q
  made_some q makes good low =
      made_by z.stage q refl
      (subst (λ (a : Awaited). MakesPayload a from f (Some q)) h.at.awaits makes) good low

  none_head : (g : Frame) (stage : Stage) (due : Due) → stage ≡ record_due due → None
      ≡ begun_by from g
      → payload_by x (record z { stage = stage }) from g ≡ None
  none_head (frames.SizedEnvelope size) stage due at makes = cc
  none_head frames.UnsizedEnvelope stage due at makes = cc
  none_head (frames.Chunk size) stage due at makes = rw at refl
  none_head g stage due at makes = refl

  none_by : (stage : Stage) → z.stage ≡ stage → MakesPayload (awaited_at stage) from f None
      → payload_by x z from f ≡ None
  none_by (record_due other) at makes = none_head f z.stage other at makes
  none_by (chunk_due o) at makes =
      elim at_due [
        | reads_record e ↦ let two = sym at ∙ e in cc
        | reads_size other e same ↦
            let size = size_there same in
            let bad = subst (λ (g : Frame). MakesPayload (awaits.Chunk (left_of o)) from g None)
            size.1 makes in
            absurd (let never = bad.1 in cc)
      ]
  none_by (payload_open o) at makes =
      elim at_due [
        | reads_record e ↦ let two = sym at ∙ e in cc
        | reads_size other e same ↦ let two = sym at ∙ e in cc
      ]

  pub made_none : MakesPayload r.awaited from f None → payload_by x z from f ≡ None
  made_none makes =
      none_by z.stage refl
      (subst (λ (a : Awaited). MakesPayload a from f None) h.at.awaits makes)

  -- what the reader has then of it
  pub made_decoded : (new : StreamReader) (q : PayloadLeft) (m : IsMade q) → new.mode ≡ r.mode
      → new.kind ≡ r.kind → new.messages ≡ r.messages → new.decoder ≡ r.decoder
      → HasDecoded new x z q m.payload
  made_decoded new q m mode kind messages decoder = record {
    here_is = m.here_is;
    mode = mode ∙ h.at.mode;
    kind = kind ∙ h.at.kind;
    messages = messages ∙ h.at.messages;
    few = h.few;
    decodes = ap decoder_settings decoder ∙ h.at.decodes;
    part = subst (λ (s : Decoder). HasPart s x z m.payload) (sym decoder) m.part;
  }

  pub made_answers : (new : StreamReader) (q : PayloadLeft) (m : IsMade q)
      (result : Result StreamStep ReadRefusal) → reason_in x z.stage f text ≡ None
      → BehindAnswers x (behind_payload x z m.payload) (completed_payload x z m.payload)
      (refused_payload x z m.payload) new result
      → BehindAnswers x (after_record x z from f text) (completed_record x z from to f text)
      (refused_record x z from f text) new result
  made_answers new q m result good a = by_both None (Some m.payload) new result good m.made a

  -- a record of no payload leads to where another is due
  bare_stage : (g : Frame)
      → (after_bare x z g text).stage
      ≡ record_due (leads (direction_of x.side) z.mode (due_in z.stage) g)
  bare_stage frames.Via = refl
  bare_stage _ = refl

  bare_mode : (g : Frame) → mode_after z.mode g ≡ (after_bare x z g text).mode
  bare_mode frames.Via = refl
  bare_mode _ = refl

  bare_messages : (g : Frame) → z.messages ≡ (after_bare x z g text).messages
  bare_messages frames.Via = refl
  bare_messages _ = refl

  module _ (mid : StreamReader) (same_as : IsAs mid r) (side : side_of r.side ≡ x.side)
      (to_is : to ≡ r.taken)
      (sets : (kind : Kind) → record {
        statics = mid.statics.now;
        kind = kind;
        limits = limits_of
            mid.quotas;
      } ≡ payloads x kind) (at : z.stage ≡ record_due h.due) where
    decoder_there : DecoderStandsFor mid.decoder z.strings []
    decoder_there = subst (λ (s : Decoder). DecoderStandsFor s z.strings []) (sym same_as.decoder)
        (decoder_now at)

    -- the decoder is that of the situation
    record ReadsBare (new : StreamReader) (s : Situation) : Type 0 where
      kind : new.kind ≡ s.kind
      decodes : decoder_settings new.decoder ≡ payloads x s.kind
      stands : DecoderStandsFor new.decoder s.strings []

    same_bare : (new : StreamReader) (s : Situation) → s.kind ≡ z.kind → s.strings ≡ z.strings
        → (new.kind ≡ mid.kind) × (new.decoder ≡ mid.decoder) → ReadsBare new s
    same_bare new s kind strings same = record {
      kind = same.0 ∙ same_as.kind ∙ h.at.kind ∙ sym kind;
      decodes =
          ap decoder_settings (same.1 ∙ same_as.decoder) ∙ h.at.decodes ∙ ap (payloads x)
          (sym kind);
      stands =
          subst (λ (e : Decoder). DecoderStandsFor e s.strings []) (sym same.1)
          (subst (λ (t : List (List ℕ)). DecoderStandsFor mid.decoder t []) (sym strings)
          decoder_there);
    }

    -- the content type that the reader of records shows is the record's
    type_there : f ≡ frames.ExtensibleEncoding → FramesShowText content_type mid.frames text
    type_there is =
        subst (λ (t : FrameReader). FramesShowText content_type t text) (sym same_as.frames)
        (subst (λ (g : Frame). FramesShowText (text_kind g) r.frames text) is
        (h.shown (ap has_text is)))

    reads_bare : (g : Frame) → f ≡ g → (new : StreamReader) → DecodesAfter mid g new
        → ReadsBare new (after_bare x z g text)
    reads_bare (frames.KnownEncoding encoding) is new (kind, stands, decodes) =
        record { kind = kind; decodes = decodes ∙ sets (kind_of encoding); stands = stands }
    reads_bare frames.ExtensibleEncoding is new anew =
        let a = anew text (type_there is) in
        record { kind = a.0; decodes = a.2 ∙ sets (kind_of_type text); stands = a.1 }
    reads_bare _ is new same = same_bare new _ refl refl same

    says_bare : (g : Frame) (new : StreamReader) → new.mode ≡ mode_after mid.mode g
        → DecodesAfter mid g new → new.taken ≡ mid.taken
        → bare_step new g ≡ step_of (completed_bare z to g text)
    says_bare frames.PreambleEnd new mode same taken =
        ap (λ m. steps.Opened m new.kind) (mode ∙ same_as.mode ∙ h.at.mode)
        ∙ ap (steps.Opened z.mode) (same.0 ∙ same_as.kind ∙ h.at.kind)
    says_bare frames.PreambleAck new mode same taken = refl
    says_bare frames.End new mode same taken = ap steps.Ended (taken ∙ same_as.taken ∙ sym to_is)
    says_bare frames.Fault new mode same taken =
        ap steps.PeerFault (taken ∙ same_as.taken ∙ sym to_is)
    says_bare _ new mode same taken = refl

    on : is_over_in z.stage ≡ false
    on = ap is_over_in at ∙ due_on (direction_of x.side) h.due f h.may

    recalls_bare : (g : Frame) → f ≡ g → payload_by x z from g ≡ None
        → is_over_in (after_bare x z g text).stage ≡ true
        → Recalls (closing_after mid.closing g) (completed_bare z to g text)
    recalls_bare frames.End is none over = tt
    recalls_bare frames.Fault is none over = tt
    recalls_bare frames.PreambleEnd is none over =
        let still = begun_on (direction_of x.side) z.mode in let bad = sym still ∙ over in cc
    recalls_bare frames.PreambleAck is none over =
        let still = begun_on (direction_of x.side) z.mode in let bad = sym still ∙ over in cc
    recalls_bare (frames.Chunk size) is none over =
        let still = bare_goes_on x z from to (frames.Chunk size) text none on refl in
        let bad = sym still ∙ over in cc
    recalls_bare _ is none over = cc

    bare_in : (new : StreamReader) (step : StreamStep) → IsMoved mid f new step
        → IsIn new x (after_bare x z f text)
    bare_in new step m =
        let reads = reads_bare f refl new m.decodes in
        let awaited : new.awaited
        ≡ awaits.Record (leads (direction_of x.side) z.mode (due_in z.stage) f)
        = m.awaited
        ∙ ap (λ (s : Side). awaited_after (direction_of s) mid.mode mid.awaited f)
        (ap side_of same_as.side ∙ side)
        ∙ ap (λ a. awaited_after (direction_of x.side) mid.mode a f)
        (same_as.awaited ∙ awaited_here)
        ∙ ap (λ n. awaits.Record (leads (direction_of x.side) n h.due f)) (same_as.mode ∙ h.at.mode)
        ∙ ap (λ n. awaits.Record (leads (direction_of x.side) z.mode n f)) (sym (ap due_in at)) in
        record {
          awaits = awaited ∙ sym (ap awaited_at (bare_stage f));
          mode = m.mode ∙ ap (λ n. mode_after n f) (same_as.mode ∙ h.at.mode) ∙ bare_mode f;
          kind = reads.kind;
          messages = m.parts.messages ∙ same_as.messages ∙ h.at.messages ∙ bare_messages f;
          decodes = reads.decodes;
          payload =
              subst (ReadsPayload new.decoder x (after_bare x z f text)) (sym (bare_stage f))
              reads.stands;
        }
      where
        awaited_here : r.awaited ≡ awaits.Record h.due
        awaited_here = h.at.awaits ∙ ap awaited_at at

    pub bare_answers : (new : StreamReader) (step : StreamStep) → IsMoved mid f new step
        → reason_in x z.stage f text ≡ None → payload_by x z from f ≡ None
        → BehindAnswers x (after_record x z from f text) (completed_record x z from to f text)
        (refused_record x z from f text) new (Ok step)
    bare_answers new step m good none =
        by_both None None new (Ok step) good none (
          bare_in new step m,
          m.step_is ∙ says_bare f new m.mode m.decodes m.parts.keeps.taken,
          λ over.
              subst (λ (c : Closing). Recalls c (completed_bare z to f text)) (sym m.closing)
              (recalls_bare f refl none over),
        )
