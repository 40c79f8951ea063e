-- A reader takes bytes of a record, or of a chunk's size.
use Rattle.std.proofs.Common.{◌≡◌, ℕ, ◌+◌, ◌-◌, ◌<◌, ◌≤◌, true, false, List, [], ◌++◌, length, take}
use Rattle.std.proofs.Common.{Some, None, Ok, Err, Option, Result, sym, refl, ap, ◌∙◌, subst, arith}
use Rattle.std.proofs.{Common.length-append, Common.length-take-le, Math.Seq.take-length}
use Rattle.{std.specs.Option.option_or, nbfx_values.specs.declared.refusals.Offence.Offence}
use Rattle.unit_streams.proofs.Fronts.{decides_at, left_begun, wrong_later}
use Rattle.unit_streams.proofs.Passing.{decides_quiet, given_none, leaves_quiet, leaves_standing}
use Rattle.unit_streams.proofs.Passing.{whole_event, whole_quiet, whole_refusal, whole_standing}
use Rattle.unit_streams.proofs.Passing.{wrong_quiet, wrong_refusal, wrong_standing}
use Rattle.unit_streams.proofs.Peeling.{Decides, extent}
use Rattle.unit_streams.proofs.{Standing.standing_length, Units.between_going, Units.IsBetween}
use Rattle.unit_streams.specs.Front.{begun, Front, whole, wrong}
use Rattle.unit_streams.specs.{Going.IsQuiet, Going.IsQuietBefore, Parts.seen}
use Rattle.unit_streams.specs.Grammar.{behind_unit, Standing, standing, with_more}
use Rattle.unit_streams.specs.Judging.{event_at, is_over_at, refusal_at}
use Rattle.nmf_records.{proofs.Records.read_record, specs.Script.may_come}
use Rattle.nmf_records.specs.declared.frame.{Expect.Expect, Frame.Frame, FrameFault.FrameFault}
use Rattle.nmf_records.specs.declared.{reader.FrameReader.FrameReader, script.Due.Due}
use Rattle.nmf_records.specs.Reader.{shown_behind, ShowsText as FramesShowText}
use Rattle.nmf_records.specs.Reader.{StandsFor as FrameStandsFor, text_after}
use Rattle.nmf_records.specs.RecordFronts.{frame_at, MayCome, text_kind, TextKind}
use Rattle.nmf_records.specs.RecordFronts.{via_or_fault, with_text}
use Rattle.nmf_records.specs.{Script.IsEncoding, Writing.has_text}
use Rattle.nbfx_decoder.specs.declared.decoder.Decoder.{Decoder}
use Rattle.nbfx_decoder.specs.DecoderState.{settings_of as decoder_settings}
use Rattle.stream_reader.specs.declared.{reader.StreamReader.StreamReader}
use Rattle.stream_reader.specs.declared.reader.{ReadRefusal.ReadRefusal, StreamStep.StreamStep}
use Rattle.stream_reader.specs.declared.reader.ReadRefusal.TheVariants.{Memory, Offence as Refused}
use Rattle.stream_reader.specs.Stepping.{BehindAnswers, due_of, UnitAnswers}
use Rattle.stream_reader.specs.Stream.{after, after_record, chunk_due, completed, unit_in}
use Rattle.stream_reader.specs.Stream.{completed_record, direction_of, frame, is_over_in}
use Rattle.stream_reader.specs.Stream.{offence_at, OpenPayload}
use Rattle.stream_reader.specs.Stream.{reason_of, record_due, refused, refused_record, Settings}
use Rattle.stream_reader.specs.Stream.{Situation, stream, StreamEvent, StreamUnit, strings_in}
use Rattle.stream_reader.specs.Stream.{text_limits}
use Rattle.stream_reader.specs.StreamReaderState.{failure_of, HasBegun, HasPayloads, IsIn}
use Rattle.stream_reader.specs.StreamReaderState.{messages_of, Reached, ReadsPayload, Recalls}
use Rattle.stream_reader.specs.StreamReaderState.{ShowsStrings, ShowsTable, ShowsText, ShowsType}
use Rattle.stream_reader.specs.StreamReaderState.{taken_of}
use Rattle.stream_reader.proofs.DueRecords.{encoding_due, read_due, refusing}
use Rattle.stream_reader.proofs.{Grammar.readable, Grammar.short_enough, PayloadFeeds.none_begun}
use Rattle.stream_reader.proofs.{MadePayloads.reads_at, ReaderFacts.shows_in}
use Rattle.stream_reader.proofs.RecordFacts.{begun_there, begun_due, quiet_payloads, refused_none}
use Rattle.stream_reader.proofs.Texts.{before_encoding, begun_text, early, own_text, reads_record}
use Rattle.stream_reader.proofs.Texts.{reads_size, ReadsDue, whole_text, wrong_text}
use Rattle.nmf_records.specs.declared.script.Due.TheVariants as dues
use Rattle.stream_reader.specs.declared.reader.StreamStep.TheVariants as steps

module _ (r : StreamReader) (x : Settings) (p c : List ℕ) (due : Due)
    (is : due_of r.awaited ≡ Some due) (h : Reached r x p) (on : is_over_at (stream x) p ≡ false)
    (fits : length p + length c ≤ x.limits.session) where
  abbrev pub situation_here : Situation
  situation_here = (standing (stream x) p).situation

  abbrev pub from_here : ℕ
  from_here = (standing (stream x) p).from

  abbrev pub begun_here : List ℕ
  begun_here = (standing (stream x) p).begun

  abbrev pub expected : Expect
  expected = may_come (direction_of x.side) due

  pub due_here : ReadsDue (standing (stream x) p).situation.stage due
  due_here = reads_at (standing (stream x) p).situation.stage due (ap due_of (sym h.at.awaits) ∙ is)

  stage_on : is_over_in (standing (stream x) p).situation.stage ≡ false
  unfolding is_over_at
  stage_on = on

  -- the reader of records has its first bytes
  pub frames_here : FrameStandsFor r.frames (may_come (direction_of x.side) due)
      (standing (stream x) p).begun
  frames_here =
      begun_due (direction_of x.side) situation_here.stage due r.frames begun_here due_here h.frames

  abbrev front : List ℕ → Front StreamUnit Offence
  front = (stream x).unit_at situation_here from_here

  front_is : (bytes : List ℕ) → front bytes
      ≡ seen frame (refusing from_here due)
      (frame_at (text_limits x) (may_come (direction_of x.side) due) bytes)
  unfolding unit_in
  front_is bytes =
      elim due_here [
        | reads_record at ↦
            ap (λ s. unit_in x s from_here bytes) at
            ∙ read_due x due from_here bytes (ap is_over_in (sym at) ∙ stage_on)
        | reads_size o at same ↦
            ap (λ s. unit_in x s from_here bytes) at
            ∙ ap (λ n. seen frame (refusing from_here n)
            (frame_at (text_limits x) (may_come (direction_of x.side) n) bytes)) (sym same)
      ]

  close : (i : ℕ) → i < length c → (stream x).at_length situation_here from_here (length p + i)
      ≡ None
  close i lt = short_enough x situation_here.stage from_here (length p + i)
      (omega (arith, fits, lt))

  all_taken : (k : ℕ) → k ≡ length c → take k c ≡ c
  all_taken k e = ap (λ n. take n c) e ∙ take-length c

  over_there : (k : ℕ) → standing (stream x) (p ++ take k c) ≡ with_more (standing (stream x) p) c
      → is_over_at (stream x) (p ++ take k c) ≡ true
      → is_over_in (standing (stream x) p).situation.stage ≡ true
  unfolding is_over_at
  over_there k there over =
      sym (ap (λ (s : Standing Situation StreamEvent Offence). is_over_in s.situation.stage) there)
      ∙ over

  -- a record that is begun still
  pub record_more : (new : StreamReader) (k : ℕ) → 0 < k → k ≡ length c
      → frame_at (text_limits x) (may_come (direction_of x.side) due)
      ((standing (stream x) p).begun ++ c) ≡ begun
      → new.awaited ≡ r.awaited → new.mode ≡ r.mode → new.kind ≡ r.kind → new.messages ≡ r.messages
      → new.decoder ≡ r.decoder → new.unit_from ≡ r.unit_from → new.taken ≡ r.taken + k
      → new.failure ≡ r.failure
      → FrameStandsFor new.frames (may_come (direction_of x.side) due)
      ((standing (stream x) p).begun ++ c)
      → FramesShowText via_or_fault new.frames (shown_behind via_or_fault (text_limits x)
      (may_come (direction_of x.side) due)
      ((standing (stream x) p).begun ++ c) (standing (stream x) p).situation.text)
      → ShowsType new.frames → UnitAnswers x p c new (Ok (k, steps.More))
  record_more new k some all read awaited mode kind messages decoder unit_from taken failure
      frames_stand shown type =
      let still : front (begun_here ++ c) ≡ begun =
      front_is (begun_here ++ c) ∙ ap (seen frame (refusing from_here due)) read in
      let leaves = left_begun front ((readable x).reads situation_here from_here) begun_here c
      h.going.next still in
      let there : standing (stream x) (p ++ take k c) ≡ with_more (standing (stream x) p) c =
      ap (λ d. standing (stream x) (p ++ d)) (all_taken k all)
      ∙ leaves_standing (stream x) (readable x) p c h.going leaves close in
      let quiet = leaves_quiet (stream x) (readable x) p c h.going leaves close in
      let len : length (p ++ take k c) ≡ length p + k =
      length-append p (take k c)
      ∙ ap (λ n. length p + n) (length-take-le k c (omega (arith, all))) in (
        None,
        some,
        record {
          within = omega (arith, all);
          unrefused = λ i lt. quiet.unrefused i (omega (arith, all, lt));
          eventless = λ i any lt. quiet.eventless i any (omega (arith, all, lt));
        },
        quiet.eventless k some (omega (arith, all)),
        refl,
        record {
          at = rw there (record {
            awaits = awaited ∙ h.at.awaits;
            mode = mode ∙ h.at.mode;
            kind = kind ∙ h.at.kind;
            messages = messages ∙ h.at.messages;
            decodes = ap decoder_settings decoder ∙ h.at.decodes;
            payload =
                subst (λ (d : Decoder). ReadsPayload d x situation_here situation_here.stage)
                (sym decoder) h.at.payload;
          });
          frames =
              rw there
              (begun_there (direction_of x.side) situation_here.stage due new.frames
              (begun_here ++ c) due_here frames_stand);
          text =
              rw there
              (subst (FramesShowText via_or_fault new.frames)
              (ap (text_after via_or_fault situation_here.text expected (begun_here ++ c)) read
              ∙ begun_text x situation_here due due_here (early x p) (begun_here ++ c)) shown);
          type = type;
          closing = λ over.
              let same = over_there k there over in let bad = sym stage_on ∙ same in cc;
          unit_from = rw there (unit_from ∙ h.unit_from);
          taken = omega (arith, taken, h.taken, len);
          within = omega (arith, len, all, fits);
          going =
              rw there (record {
                next = still;
                last =
                    given_none (begun_here ++ c) (standing (stream x) p).refusal
                    (let n = length-append begun_here c in omega (arith, n, all, some));
              });
          unfailed = failure ∙ h.unfailed;
        },
        λ none has. subst
            (λ (s : Standing Situation StreamEvent Offence). HasPayloads s.situation.stage)
            there has,
      )

  -- a record that is whole
  module _ (f : Frame) (text : List ℕ) (n : ℕ)
      (read : frame_at (text_limits x) (may_come (direction_of x.side) due)
      ((standing (stream x) p).begun ++ c) ≡ whole (with_text f text)
      (length (standing (stream x) p).begun + n)) where
    abbrev unit : StreamUnit
    unit = frame (with_text f text)

    pub may_come_so : MayCome (may_come (direction_of x.side) due) f
    may_come_so =
        (read_record (text_limits x) expected (begun_here ++ c) (with_text f text)
        (length begun_here + n) read).1

    shown_there : (mid : FrameReader)
        → FramesShowText via_or_fault mid (shown_behind via_or_fault (text_limits x)
        (may_come (direction_of x.side) due)
        ((standing (stream x) p).begun ++ c) (standing (stream x) p).situation.text)
        → FramesShowText via_or_fault mid (after_record x (standing (stream x) p).situation
        (standing (stream x) p).from f text).text
    shown_there mid shown =
        subst (FramesShowText via_or_fault mid)
        (ap (text_after via_or_fault situation_here.text expected (begun_here ++ c)) read
        ∙ whole_text x situation_here (text_limits x) expected from_here (begun_here ++ c)
        (with_text f text) (length begun_here + n) read) shown

    -- that of the encoding comes before any strings
    before_there : due ≡ dues.Encoding → before_encoding situation_here.stage ≡ true
    before_there same =
        elim due_here [
          | reads_record at ↦ ap before_encoding at ∙ ap (λ n. before_encoding (record_due n)) same
          | reads_size o at size ↦ let bad = sym size ∙ same in cc
        ]

    pub none_before : IsEncoding f → (standing (stream x) p).situation.strings ≡ []
    none_before is = (early x p).strings
        (before_there (encoding_due (direction_of x.side) due f is may_come_so))

    -- a record with a text shows it
    pub shown_text : (mid : FrameReader) (kind : TextKind) (s : List ℕ) → kind ≡ text_kind f
        → has_text f ≡ true
        → FramesShowText kind mid (shown_behind kind (text_limits x)
        (may_come (direction_of x.side) due) ((standing (stream x) p).begun ++ c) s)
        → FramesShowText kind mid text
    shown_text mid kind s same has shown =
        subst (FramesShowText kind mid)
        (ap (text_after kind s expected (begun_here ++ c)) read
        ∙ own_text (text_limits x) expected kind s (begun_here ++ c) (with_text f text)
        (length begun_here + n) same has read) shown

    front_whole : front (begun_here ++ c) ≡ whole unit (length begun_here + n)
    front_whole = front_is (begun_here ++ c) ∙ ap (seen frame (refusing from_here due)) read

    by_last : Decides front begun_here c n
    by_last =
        decides_at front ((readable x).reads situation_here from_here) begun_here c n h.going.next
        (λ e. let w = front_whole in cc) (ap extent front_whole)

    close_before : (i : ℕ) → i < n → (stream x).at_length situation_here from_here (length p + i)
        ≡ None
    close_before i lt = close i (let w = by_last.within in omega (arith, w, lt))

    len : length (p ++ take n c) ≡ length p + n
    len = length-append p (take n c) ∙ ap (λ k. length p + k) (length-take-le n c by_last.within)

    abbrev leads_to : Situation
    leads_to = after_record x situation_here from_here f text

    -- where it ends
    abbrev to_here : ℕ
    to_here = from_here + (length begun_here + n)

    there : standing (stream x) (p ++ take n c)
        ≡ record (behind_unit (stream x) (standing (stream x) p) unit (length begun_here + n))
        { begun = [] }
    there = whole_standing (stream x) (readable x) p c h.going n by_last close_before unit
        (length begun_here + n) front_whole

    situation_there : (standing (stream x) (p ++ take n c)).situation ≡ leads_to
    unfolding after
    situation_there = ap (λ (s : Standing Situation StreamEvent Offence). s.situation) there

    quiet : completed_record x situation_here from_here to_here f text ≡ None → IsQuiet (stream x) p
        c n
    unfolding completed
    quiet = whole_quiet (stream x) (readable x) p c h.going n by_last close_before unit
        (length begun_here + n) front_whole

    event : event_at (stream x) (p ++ take n c)
        ≡ completed_record x situation_here from_here to_here f text
    unfolding completed
    event = whole_event (stream x) (readable x) p c h.going n by_last close_before unit
        (length begun_here + n) front_whole

    before : IsQuietBefore (stream x) p c n
    before = decides_quiet (stream x) (readable x) p c h.going n by_last close_before

    refusal_there : (o : Offence) → refused_record x situation_here from_here f text ≡ Some o
        → refusal_at (stream x) (p ++ take n c) ≡ Some o
    unfolding refused
    refusal_there o e =
        whole_refusal (stream x) (readable x) p c h.going n by_last close_before unit
        (length begun_here + n) front_whole
        ∙ ap (λ v. option_or v ((stream x).at_length (after x situation_here from_here unit)
        (from_here + (length begun_here + n)) (length p + n))) e

    ends_there : to_here ≡ r.taken + n
    ends_there = let place = standing_length (stream x) (readable x) p in omega
        (arith, h.taken, place)

    -- the payload of a chunk is within the quota
    low : (o : OpenPayload) → situation_here.stage ≡ chunk_due o → o.size ≤ x.limits.payload
    low o at = (subst (ReadsPayload r.decoder x situation_here) at h.at.payload).1.within

    module _ (new : StreamReader) (mid : FrameReader) (same : new.frames ≡ mid)
        (shown : FramesShowText via_or_fault mid (shown_behind via_or_fault (text_limits x)
        (may_come (direction_of x.side) due)
        ((standing (stream x) p).begun ++ c) (standing (stream x) p).situation.text))
        (type : ShowsType mid) (taken : new.taken ≡ r.taken + n) where
      text_there : FramesShowText via_or_fault new.frames (standing (stream x)
          (p ++ take n c)).situation.text
      text_there =
          rw same
          (subst (λ (s : Situation). FramesShowText via_or_fault mid s.text) (sym situation_there)
          (shown_there mid shown))

      -- and isn't refused
      module _ (good : refused_record x situation_here from_here f text ≡ None)
          (is_in : IsIn new x leads_to) (recalls : is_over_in leads_to.stage ≡ true
          → Recalls new.closing (completed_record x situation_here from_here to_here f text))
          (unit_from : new.unit_from ≡ r.taken + n)
          (fresh : (next : Expect) → FrameStandsFor mid next []) (failure : new.failure ≡ r.failure)
        where
          between : IsBetween (stream x) (readable x) (p ++ take n c) leads_to
              (from_here + (length begun_here + n))
          unfolding refused
          between = record {
            situation = situation_there;
            place = ap (λ (s : Standing Situation StreamEvent Offence). s.from) there;
            begun = ap (λ (s : Standing Situation StreamEvent Offence). s.begun) there;
            refusal = ap (λ (s : Standing Situation StreamEvent Offence). s.refusal) there ∙ good;
          }

          over_so : is_over_at (stream x) (p ++ take n c) ≡ true → is_over_in leads_to.stage ≡ true
          unfolding is_over_at
          over_so over = sym (ap (λ (s : Situation). is_over_in s.stage) situation_there) ∙ over

          reached : Reached new x (p ++ take n c)
          reached =
              let place = standing_length (stream x) (readable x) p in
              record {
                at = subst (IsIn new x) (sym situation_there) is_in;
                frames =
                    subst (HasBegun (direction_of x.side) _ new.frames) (sym between.begun)
                    (none_begun (direction_of x.side) _ new.frames
                    (λ next. subst (λ (g : FrameReader). FrameStandsFor g next []) (sym same)
                    (fresh next)));
                text = text_there;
                type = subst ShowsType (sym same) type;
                closing = λ over. subst (Recalls new.closing) (sym event) (recalls (over_so over));
                unit_from = omega (arith, unit_from, h.taken, place, between.place);
                taken = omega (arith, taken, h.taken, len);
                within = omega (arith, len, fits, by_last.within);
                going = between_going (stream x) (readable x) (p ++ take n c) leads_to
                    (from_here + (length begun_here + n)) between;
                unfailed = failure ∙ h.unfailed;
              }

      -- what is behind the record, by where it begins and ends
      abbrev Behind : ℕ → ℕ → Result StreamStep ReadRefusal → Type 0
      Behind from to result =
          BehindAnswers x (after_record x situation_here from f text)
          (completed_record x situation_here from to f text)
          (refused_record x situation_here from f text) new result

      by_place : (from to : ℕ) → from ≡ from_here → to ≡ r.taken + n
          → (result : Result StreamStep ReadRefusal) → Behind from to result
          → Behind from_here to_here result
      by_place from to place end result a =
          subst (λ (m : ℕ). Behind from_here m result) (end ∙ sym ends_there)
          (subst (λ (m : ℕ). Behind m to result) place a)

      done_by : (v : Option Offence) → refused_record x situation_here from_here f text ≡ v
          → (step : StreamStep)
          → BehindAnswers x leads_to (completed_record x situation_here from_here to_here f text) v
          new (Ok step)
          → new.unit_from ≡ r.taken + n → ((next : Expect) → FrameStandsFor mid next [])
          → new.failure ≡ r.failure → UnitAnswers x p c new (Ok (n, step))
      done_by None good step a unit_from fresh failure =
          rw a.1 (
            completed_record x situation_here from_here to_here f text,
            by_last.some,
            before,
            event,
            refl,
            reached good a.0 a.2 unit_from fresh failure,
            λ none has.
                quiet_payloads x situation_here from_here to_here f text due due_here may_come_so
                none (subst (λ (s : Situation). HasPayloads s.stage) situation_there has),
          )
      done_by (Some o) bad step a unit_from fresh failure = absurd a

      pub record_done : (from to : ℕ) → from ≡ (standing (stream x) p).from → to ≡ r.taken + n
          → (step : StreamStep)
          → BehindAnswers x (after_record x (standing (stream x) p).situation from f text)
          (completed_record x (standing (stream x) p).situation from to f text)
          (refused_record x (standing (stream x) p).situation from f text) new (Ok step)
          → new.unit_from ≡ r.taken + n → ((next : Expect) → FrameStandsFor mid next [])
          → new.failure ≡ r.failure → UnitAnswers x p c new (Ok (n, step))
      record_done from to place end step a =
          done_by (refused_record x situation_here from_here f text) refl step
          (by_place from to place end (Ok step) a)

      refused_by : (v : Option Offence) → refused_record x situation_here from_here f text ≡ v
          → (told : ReadRefusal)
          → BehindAnswers x leads_to (completed_record x situation_here from_here to_here f text) v
          new (Err told)
          → new.failure ≡ Some told → UnitAnswers x p c new (Err told)
      unfolding failure_of taken_of messages_of ShowsText ShowsStrings
      refused_by None good (Refused o) a failure = absurd a
      refused_by v e Memory a failure = absurd a
      refused_by (Some refused) bad (Refused o) a failure = (
        n,
        quiet (refused_none x situation_here from_here to_here f text low refused bad),
        refusal_there refused bad ∙ ap Some (sym a.0),
        record {
          failure = failure;
          taken_is = omega (arith, taken, h.taken);
          text = text_there;
          messages = subst (λ (s : Situation). new.messages ≡ s.messages) (sym situation_there)
              a.1.messages;
          strings =
              subst (λ (s : Situation). ShowsTable new.decoder (strings_in s)) (sym situation_there)
              a.1.strings;
        },
      )

      pub record_refused : (from to : ℕ) → from ≡ (standing (stream x) p).from → to ≡ r.taken + n
          → (told : ReadRefusal)
          → BehindAnswers x (after_record x (standing (stream x) p).situation from f text)
          (completed_record x (standing (stream x) p).situation from to f text)
          (refused_record x (standing (stream x) p).situation from f text) new (Err told)
          → new.failure ≡ Some told → UnitAnswers x p c new (Err told)
      record_refused from to place end told a =
          refused_by (refused_record x situation_here from_here f text) refl told
          (by_place from to place end (Err told) a)

  -- a record that is wrong
  pub record_wrong : (new : StreamReader) (fault : FrameFault) (k : ℕ) (told : ReadRefusal)
      → frame_at (text_limits x) (may_come (direction_of x.side) due)
      ((standing (stream x) p).begun ++ c) ≡ wrong fault k
      → told ≡ Refused (offence_at (standing (stream x) p).from (reason_of due fault))
      → FramesShowText via_or_fault new.frames (shown_behind via_or_fault (text_limits x)
      (may_come (direction_of x.side) due)
      ((standing (stream x) p).begun ++ c) (standing (stream x) p).situation.text)
      → new.taken ≡ (standing (stream x) p).from + k → new.failure ≡ Some told
      → new.messages ≡ r.messages → new.decoder ≡ r.decoder → UnitAnswers x p c new (Err told)
  unfolding failure_of taken_of messages_of ShowsText ShowsStrings
  record_wrong new fault k told read is_told shown taken failure messages decoder =
      let n : ℕ = k - length begun_here in
      let o : Offence = offence_at from_here (reason_of due fault) in
      let reads = (readable x).reads situation_here from_here in
      let is_wrong : front (begun_here ++ c) ≡ wrong (offence_at from_here (reason_of due fault))
      k =
      front_is (begun_here ++ c) ∙ ap (seen frame (refusing from_here due)) read in
      let later = wrong_later front reads begun_here c h.going.next _ k is_wrong in
      let d : Decides front begun_here c n =
      decides_at front reads begun_here c n h.going.next (λ e. cc)
      (ap extent is_wrong ∙ omega (arith, later)) in
      let close_before = λ (i : ℕ) (lt : i < n). close i (let w = d.within in omega (arith, w, lt))
      in
      let place = standing_length (stream x) (readable x) p in
      let there = wrong_standing (stream x) (readable x) p c h.going n d close_before _ k is_wrong
      in
      let shows = subst (λ (e : Decoder). ShowsTable e (strings_in situation_here)) (sym decoder)
      (shows_in r x situation_here h.at) in
      subst (λ (t : ReadRefusal). UnitAnswers x p c new (Err t)) (sym is_told) (
        n,
        wrong_quiet (stream x) (readable x) p c h.going n d close_before _ k is_wrong,
        wrong_refusal (stream x) (readable x) p c h.going n d close_before _ k is_wrong,
        record {
          failure = failure ∙ ap Some is_told;
          taken_is = omega (arith, taken, place, later);
          text =
              rw there
              (subst (FramesShowText via_or_fault new.frames)
              (ap (text_after via_or_fault situation_here.text expected (begun_here ++ c)) read
              ∙ wrong_text x situation_here due due_here (early x p) (begun_here ++ c) fault k)
              shown);
          messages = rw there (messages ∙ h.at.messages);
          strings = rw there shows;
        },
      )
