use Rattle.std.proofs.Common.{◌≡◌, ℕ, ◌+◌, ◌^◌, ◌<◌, ◌≤◌, true, false, List, ◌++◌, length, sym}
use Rattle.std.proofs.Common.{refl, ap}
use Rattle.std.proofs.Common.{◌∙◌, subst, arith, length-append}
use Rattle.std.proofs.lemmas.Result.{err_from_is_err_and}
use Rattle.unit_streams.proofs.Standing.{standing_length}
use Rattle.unit_streams.specs.{Front.whole, Grammar.standing, Judging.is_over_at}
use Rattle.nmf_records.{proofs.Frames.frames_front, specs.Reader.StandsFor as FrameStandsFor}
use Rattle.nmf_records.specs.declared.frame.{Expect.Expect, Frame.Frame}
use Rattle.nmf_records.specs.{declared.reader.FrameReader.FrameReader, Script.may_come}
use Rattle.nmf_records.specs.Reader.{limits_of as text_limits_of, shown_behind}
use Rattle.nmf_records.specs.Reader.{ShowsText as FramesShowText}
use Rattle.nmf_records.specs.RecordFronts.{content_type, frame_at, text_kind, TextKind}
use Rattle.nmf_records.specs.RecordFronts.{via_or_fault, with_text}
use Rattle.nmf_records.specs.Writing.{has_text}
use Rattle.stream_reader.specs.declared.reader.ReadRefusal.TheVariants.{Offence as Refused}
use Rattle.stream_reader.specs.{declared.reader.StreamReader.StreamReader, Sides.side_of}
use Rattle.stream_reader.specs.{Stepping.due_of, Stepping.IsDue, Stream.stream}
use Rattle.stream_reader.specs.Stream.{direction_of, offence_at, reason_of, Settings, Situation}
use Rattle.stream_reader.specs.Stream.{text_limits}
use Rattle.stream_reader.specs.StreamReaderState.{failure_of, Reached, settings_of, ShowsType}
use Rattle.stream_reader.specs.StreamReaderState.{StandsFor}
use Rattle.stream_reader.proofs.{Grammar.readable, Situations.messages_within}
use Rattle.stream_reader.proofs.ReaderFacts.{failure_as, same_settings}
use Rattle.stream_reader.proofs.RecordFacts.{done_so, more_so, shown_so, wrong_so}
use Rattle.stream_reader.proofs.RecordSteps.{frames_here, may_come_so, none_before, record_done}
use Rattle.stream_reader.proofs.RecordSteps.{record_more, record_refused, record_wrong, shown_text}
use Rattle.stream_reader.proofs.reader.StreamReader.record.Goals.{After-feed}
use Rattle.stream_reader.proofs.reader.StreamReader.record.Goals as goal

-- what it is set to
limits_are : (r : StreamReader) → text_limits_of r.frames ≡ text_limits (settings_of r)
unfolding settings_of
limits_are r = r.limits

direction_is : (r : StreamReader) → direction_of (side_of r.side)
    ≡ direction_of (settings_of r).side
unfolding settings_of
direction_is r = refl

session_is : (r : StreamReader) → (settings_of r).limits.session ≡ r.quotas.session
unfolding settings_of
session_is r = refl

-- where the records' reader was given the bytes, by the stream's settings
module _ (f : After-feed) (p : List ℕ) where
  abbrev r : StreamReader
  r = f.args.self.now

  abbrev y : List ℕ
  y = f.args.bytes.now

  abbrev x : Settings
  x = settings_of f.args.self.now

  abbrev b : List ℕ
  b = (standing (stream (settings_of f.args.self.now)) p).begun

  abbrev z : Situation
  z = (standing (stream (settings_of f.args.self.now)) p).situation

  expected_is : f.expect-expect.result ≡ may_come (direction_of (settings_of f.args.self.now).side)
      f.args.due
  expected_is =
      f.expect-expect.ensures
      ∙ ap (λ d. may_come d f.args.due) (f.direction.ensures ∙ direction_is f.args.self.now)

  module _ (h : Reached f.args.self.now (settings_of f.args.self.now) p)
      (on : is_over_at (stream (settings_of f.args.self.now)) p ≡ false) where
    fits : length p + length y ≤ x.limits.session
    fits = let session = session_is r in omega (arith, f.requires.fits, h.taken, session)

    stands : FrameStandsFor r.frames f.expect-expect.result b
    stands =
        subst (λ (e : Expect). FrameStandsFor r.frames e b) (sym expected_is)
        (frames_here r x p y f.args.due f.requires.awaited h on fits)

    -- the texts that it shows then, each where it showed another before
    shown_of : (kind : TextKind) (s : List ℕ) → FramesShowText kind r.frames s
        → FramesShowText kind f.feed.new.self
        (shown_behind kind (text_limits x) (may_come (direction_of x.side) f.args.due) (b ++ y) s)
    shown_of kind s before =
        shown_so _ (text_limits x) _ _ (limits_are r) expected_is f.feed.new.self b y kind s
        (f.feed.ensures.text kind b s stands before)

    shown : FramesShowText via_or_fault f.feed.new.self
        (shown_behind via_or_fault (text_limits x) (may_come (direction_of x.side) f.args.due)
        (b ++ y) z.text)
    shown = shown_of via_or_fault z.text h.text

    type : ShowsType f.feed.new.self
    type = (_, shown_of content_type h.type.0 h.type.1)

    few : z.messages + 1 < 2 ^ 64
    few =
        let least = messages_within x p in
        let most = r.quotas.good.session_most in
        let session = session_is r in
        omega (arith, least, h.within, most, session)

    -- a whole record with a text shows it
    own : (read : Frame) (text : List ℕ) (n : ℕ)
        → frame_at (text_limits x) (may_come (direction_of x.side) f.args.due) (b ++ y)
        ≡ whole (with_text read text) (length b + n) → (kind : TextKind) → kind ≡ text_kind read
        → has_text read ≡ true → FramesShowText kind f.feed.new.self text
    own read text n there via_or_fault same has = shown_text r x p y f.args.due f.requires.awaited h
        on fits read text n there f.feed.new.self via_or_fault z.text same has shown
    own read text n there content_type same has = shown_text r x p y f.args.due f.requires.awaited h
        on fits read text n there f.feed.new.self content_type h.type.0 same has
        (shown_of content_type h.type.0 h.type.1)

    -- a whole record is the one that is due, of a reader that has its bytes
    is_due : (read : Frame) (text : List ℕ) (n : ℕ)
        → frame_at (text_limits x) (may_come (direction_of x.side) f.args.due) (b ++ y)
        ≡ whole (with_text read text) (length b + n) → {placed : StreamReader}
        → placed.awaited ≡ r.awaited → placed.mode ≡ r.mode → placed.kind ≡ r.kind
        → placed.messages ≡ r.messages → placed.decoder ≡ r.decoder
        → placed.frames ≡ f.feed.new.self → IsDue placed x z read text
    is_due read text n there {placed} awaited mode kind messages decoder frames = record {
      at = record {
        awaits = awaited ∙ h.at.awaits;
        mode = mode ∙ h.at.mode;
        kind = kind ∙ h.at.kind;
        messages = messages ∙ h.at.messages;
        decodes = rw decoder h.at.decodes;
        payload = rw decoder h.at.payload;
      };
      due = f.args.due;
      due_is = ap due_of awaited ∙ f.requires.awaited;
      may = may_come_so r x p y f.args.due f.requires.awaited h on fits read text n there;
      few = few;
      no_strings = none_before r x p y f.args.due f.requires.awaited h on fits read text n there;
      shown = λ has. subst (λ (t : FrameReader). FramesShowText (text_kind read) t text)
          (sym frames) (own read text n there (text_kind read) refl has);
    }

pub returns-in-Ok-default-More-clause-answers : goal.returns-in-Ok-default-More-clause-answers
unfolding StandsFor
returns-in-Ok-default-More-clause-answers c = λ p h on.
    let f : After-feed = (goal.at-returns-in-Ok-default-More-clause-answers c).After-feed in
    let step = c.in-Ok-default-More in
    let said = more_so _ (text_limits (x f p)) _ _ (limits_are (r f p))
    (expected_is f p) c.feed.new.self
    (b f p) (y f p) step.n step.field-0-1 step.field-0-1-is
    (step.ensures.answers _ (stands f p h on)) (step.ensures.stands _ (stands f p h on)) in
    record_more (r f p) (x f p) p (y f p) c.args.due c.requires.awaited h on (fits f p h on) _
    step.n
    (omega (arith, said.0, c.requires.some)) said.0 said.1 refl refl refl refl refl refl refl refl
    said.2 (shown f p h on) (type f p h on)

pub returns-in-Ok-default-More-clause-settings : goal.returns-in-Ok-default-More-clause-settings
returns-in-Ok-default-More-clause-settings c = same_settings c.args.self.now _ refl refl refl

pub returns-in_err-step-in-Ok-default-Done-clause-settings :
    goal.returns-in_err-step-in-Ok-default-Done-clause-settings
returns-in_err-step-in-Ok-default-Done-clause-settings c =
    let keeps = c.in_err-step-in-Ok-default-Done.ensures.keeps in
    same_settings c.args.self.now c.behind.new.self keeps.side keeps.statics keeps.quotas

pub returns-in_ok-step-in-Ok-default-Done-clause-settings :
    goal.returns-in_ok-step-in-Ok-default-Done-clause-settings
returns-in_ok-step-in-Ok-default-Done-clause-settings c =
    let keeps = c.in_ok-step-in-Ok-default-Done.ensures.keeps in
    same_settings c.args.self.now c.behind.new.self keeps.side keeps.statics keeps.quotas

pub returns-in-Err-clause-refused : goal.returns-in-Err-clause-refused
unfolding failure_of
returns-in-Err-clause-refused c = c.refuse.ensures.failure

pub returns-in-Err-clause-settings : goal.returns-in-Err-clause-settings
returns-in-Err-clause-settings c =
    let kept = c.refuse.ensures.shown in
    same_settings c.args.self.now c.refuse.new.self kept.side kept.statics kept.quotas

pub returns-in_ok-step-in-Ok-default-Done-clause-answers :
    goal.returns-in_ok-step-in-Ok-default-Done-clause-answers
unfolding StandsFor settings_of
returns-in_ok-step-in-Ok-default-Done-clause-answers c = λ p h on.
    let f : After-feed = (goal.at-returns-in_ok-step-in-Ok-default-Done-clause-answers c).After-feed
    in
    let step = c.in-Ok-default-Done in
    let read = step.frame in
    let done = c.in_ok-step-in-Ok-default-Done.ensures in
    let said = done_so _ (text_limits (x f p)) _ _ (limits_are (r f p))
    (expected_is f p) c.feed.new.self
    (b f p) (y f p) step.n _ read step.field-0-1-is
    (step.ensures.answers _ (stands f p h on)) (step.ensures.stands _ (stands f p h on)) in
    let behind = done.answers read (z f p) said.0 (rw step.field-0-1-is refl)
    (is_due f p h on read said.0 step.n said.1
    refl refl refl refl refl refl) in
    record_done (r f p) (x f p) p (y f p) c.args.due c.requires.awaited h on (fits f p h on) read
    said.0 step.n said.1 c.behind.new.self c.feed.new.self done.keeps.frames (shown f p h on)
    (type f p h on)
    done.keeps.taken c.args.self.now.unit_from _ h.unit_from refl _ behind done.unit_from said.2
    done.unfailed

pub returns-in_err-step-in-Ok-default-Done-clause-answers :
    goal.returns-in_err-step-in-Ok-default-Done-clause-answers
unfolding StandsFor settings_of
returns-in_err-step-in-Ok-default-Done-clause-answers c = λ p h on.
    let f : After-feed = (goal.at-returns-in_err-step-in-Ok-default-Done-clause-answers
    c).After-feed in
    let step = c.in-Ok-default-Done in
    let read = step.frame in
    let done = c.in_err-step-in-Ok-default-Done.ensures in
    let said = done_so _ (text_limits (x f p)) _ _ (limits_are (r f p))
    (expected_is f p) c.feed.new.self
    (b f p) (y f p) step.n _ read step.field-0-1-is
    (step.ensures.answers _ (stands f p h on)) (step.ensures.stands _ (stands f p h on)) in
    let behind = done.answers read (z f p) said.0 (rw step.field-0-1-is refl)
    (is_due f p h on read said.0 step.n said.1
    refl refl refl refl refl refl) in
    let told = err_from_is_err_and c.from_residual.result c.from_residual.ensures.1 in
    rw (told.1, told.2)
    (record_refused (r f p) (x f p) p (y f p) c.args.due c.requires.awaited h on (fits f p h on)
    read said.0 step.n said.1 c.behind.new.self c.feed.new.self done.keeps.frames (shown f p h on)
    (type f p h on)
    done.keeps.taken c.args.self.now.unit_from _ h.unit_from refl
    c.in_err-step-in-Ok-default-Done.field-0.0 behind (failure_as _ _ done.refused))

pub returns-in-Err-clause-answers : goal.returns-in-Err-clause-answers
unfolding StandsFor
returns-in-Err-clause-answers c = λ p h on.
    let f : After-feed = (goal.at-returns-in-Err-clause-answers c).After-feed in
    let bytes : List ℕ = b f p ++ y f p in
    let read = wrong_so _ (text_limits (x f p)) _ _ (limits_are (r f p)) (expected_is f p)
    c.feed.new.self (b f p) (y f p) c.in-Err.refusal
    (c.in-Err.ensures.answers _ (stands f p h on)) in
    let place = standing_length (stream (x f p)) (readable (x f p)) p in
    let within = (frames_front (text_limits (x f p))
    (may_come (direction_of (x f p).side) c.args.due)).wrong_within bytes _ _ read in
    let session = session_is (r f p) in
    let taken : c.refuse.new.self.taken
    ≡ (standing (stream (x f p)) p).from + c.in-Err.refusal.shown_by =
    c.refuse.ensures.taken
    ∙ (let most = (r f p).quotas.good.session_most in
    omega (
      arith,
      c.saturating_add-self.ensures,
      h.unit_from,
      place,
      length-append (b f p) (y f p),
      within,
      fits f p h on,
      most,
      session,
    )) in
    record_wrong (r f p) (x f p) p (y f p) c.args.due c.requires.awaited h on (fits f p h on)
    c.refuse.new.self c.in-Err.refusal.fault c.in-Err.refusal.shown_by c.refuse.result read
    (c.refuse.ensures.offence
    ∙ ap (λ reason. Refused (offence_at (r f p).unit_from reason)) c.reason_of-reason.ensures
    ∙ ap (λ n. Refused (offence_at n (reason_of c.args.due c.in-Err.refusal.fault))) h.unit_from)
    (subst (λ (t : FrameReader). FramesShowText via_or_fault t (shown_behind via_or_fault
    (text_limits (x f p))
    (may_come (direction_of (x f p).side) c.args.due) bytes (z f p).text))
    (sym c.refuse.ensures.shown.frames) (shown f p h on))
    taken c.refuse.ensures.failure c.refuse.ensures.shown.messages c.refuse.ensures.shown.decoder
