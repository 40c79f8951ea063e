-- What is written of events as they are said is what a report says of them.
use Rattle.std.proofs.Common.{◌≡◌, ℕ, ◌^◌, ◌<◌, Bool, List, ◌++◌, length, take, Some, Ok, Err}
use Rattle.std.proofs.Common.{Option, Result, sym, refl, ap, ◌∙◌, subst, arith}
use Rattle.{io_edges.proofs.Putting.Puts-cut, string_tables.specs.SessionStrings.used_cost}
use Rattle.io_edges.specs.{declared.SinkFault.SinkFault, Puts.Puts}
use Rattle.unit_streams.{proofs.Answers.answers_are_first, specs.Grammar.standing}
use Rattle.unit_streams.specs.Judging.{Answer, answer, completes, event_at, goes_on, offends}
use Rattle.nbfx_values.specs.declared.{content.Item.Item, refusals.Offence.Offence}
use Rattle.nbfx_values.specs.declared.session.{Kind.Kind, Mode.Mode}
use Rattle.nbfx_values.specs.{Limits.IsGood, Measures.content_of}
use Rattle.stream_reader.proofs.Situations.{documents_fit, event_tells}
use Rattle.stream_reader.specs.declared.reader.{ReadRefusal.ReadRefusal, StreamStep.StreamStep}
use Rattle.stream_reader.specs.declared.reader.StreamReader.{StreamReader}
use Rattle.stream_reader.specs.Saying.{said as said_by_reader, step_for}
use Rattle.stream_reader.specs.Stream.{accepted, ended, message, opened, peer_fault, Settings}
use Rattle.stream_reader.specs.Stream.{stream, StreamEvent}
use Rattle.stream_reader.specs.StreamReaderState.{settings_of, StandsFor}
use Rattle.stream_loop.{proofs.Alike.alike, specs.declared.reading_end.FeedFault.FeedFault}
use Rattle.stream_loop.specs.Answers.{said, written_by}
use Rattle.command_words.specs.declared.task.Detail.{Detail, TheVariants.Summary, TheVariants.Whole}
use Rattle.session_report.specs.declared.reading.{Event.Event, Received.Received}
use Rattle.session_report.specs.declared.reporter.Outcome.{Outcome}
use Rattle.session_report.specs.Report.{document_lines, event_line, lines_of, next_outcome, told_of}
use Rattle.session_report.specs.Saying.{event_for, said_by, said_document, said_line, said_lines}
use Rattle.session_report.specs.Saying.{said_outcome, SaysStep}
use Rattle.io_edges.specs.Views.{SinkView}
use Rattle.stream_reader.specs.declared.reader.StreamStep.TheVariants as steps
use Rattle.session_report.specs.declared.reading.Event.TheVariants as events

same_line : (e : StreamEvent) → said_line (event_for e) ≡ event_line e
same_line (opened mode kind via) = refl
same_line accepted = refl
same_line (message e) = refl
same_line (ended n) = refl
same_line (peer_fault n text) = refl

same_document : (e : StreamEvent) → said_document (event_for e) ≡ document_lines e
same_document (opened mode kind via) = refl
same_document accepted = refl
same_document (message e) = refl
same_document (ended n) = refl
same_document (peer_fault n text) = refl

same_lines : (d : Detail) (e : StreamEvent) → said_lines d (event_for e) ≡ told_of d e
same_lines Summary e = same_line e
same_lines Whole e = rw (same_line e, same_document e) refl

same_outcome : (outcome : Outcome) (e : StreamEvent)
    → said_outcome outcome (event_for e) ≡ next_outcome outcome e
same_outcome outcome (opened mode kind via) = refl
same_outcome outcome accepted = refl
same_outcome outcome (message e) = refl
same_outcome outcome (ended n) = refl
same_outcome outcome (peer_fault n text) = refl

pub lines_are : (d : Detail) → written_by event_for (said_by d) ≡ lines_of d
lines_are d =
    alike (written_by event_for (said_by d)) (lines_of d) refl
    (λ outcome. same_lines d) same_outcome
    (λ outcome o. refl)

-- a line that was cut short is cut short of all lines of its event
pub said_cut : (d : Detail) (event : Event) {e : SinkFault} {k k1 : SinkView}
    → Puts k k1 (said_line event) (Err e) → Puts k k1 (said_lines d event) (Err e)
said_cut Summary event p = p
said_cut Whole event p = Puts-cut (said_document event) p

-- ---- what a step says

module _ (reader : StreamReader) (step : StreamStep) where
  -- this text is the one that a stream has where the reader stands
  abbrev pub IsText : List ℕ → Type 0
  IsText text = (p : List ℕ) → StandsFor reader p
      → text ≡ (standing (stream (settings_of reader)) p).situation.text

  pub says_opened : (mode : Mode) (kind : Kind) (via : List ℕ) → step ≡ steps.Opened mode kind
      → IsText via → SaysStep reader step (Some (events.Opened mode kind via))
  says_opened mode kind via is shown =
      (λ more. cc, λ p event stands here same. ap Some (go p event stands here (sym is ∙ same)))
    where
      go : (p : List ℕ) (event : StreamEvent) → StandsFor reader p
          → event_at (stream (settings_of reader)) p ≡ Some event
          → steps.Opened mode kind ≡ step_for event
          → events.Opened mode kind via ≡ event_for event
      go p (opened m k v) stands here same =
          let tells = event_tells (settings_of reader) p (opened m k v) here in
          let same_mode : mode ≡ m = cc in
          let same_kind : kind ≡ k = cc in
          let same_via : via ≡ v = shown p stands ∙ sym tells.2 in
          rw (same_mode, same_kind, same_via) refl
      go p accepted stands here same = cc
      go p (message e) stands here same = cc
      go p (ended n) stands here same = cc
      go p (peer_fault n text) stands here same = cc

  pub says_accepted : step ≡ steps.Accepted → SaysStep reader step (Some events.Accepted)
  says_accepted is = (λ more. cc, λ p event stands here same. ap Some (go event (sym is ∙ same)))
    where
      go : (event : StreamEvent) → steps.Accepted ≡ step_for event
          → events.Accepted ≡ event_for event
      go (opened m k v) same = cc
      go accepted same = refl
      go (message e) same = cc
      go (ended n) same = cc
      go (peer_fault n text) same = cc

  pub says_ended : (n : ℕ) → step ≡ steps.Ended n → SaysStep reader step (Some (events.Ended n))
  says_ended n is = (λ more. cc, λ p event stands here same. ap Some (go event (sym is ∙ same)))
    where
      go : (event : StreamEvent) → steps.Ended n ≡ step_for event → events.Ended n ≡ event_for event
      go (opened m k v) same = cc
      go accepted same = cc
      go (message e) same = cc
      go (ended k) same = let one : n ≡ k = cc in ap events.Ended one
      go (peer_fault k text) same = cc

  pub says_fault : (n : ℕ) (text : List ℕ) → step ≡ steps.PeerFault n → IsText text
      → SaysStep reader step (Some (events.PeerFault n text))
  says_fault n text is shown =
      (λ more. cc, λ p event stands here same. ap Some (go p event stands here (sym is ∙ same)))
    where
      go : (p : List ℕ) (event : StreamEvent) → StandsFor reader p
          → event_at (stream (settings_of reader)) p ≡ Some event
          → steps.PeerFault n ≡ step_for event → events.PeerFault n text ≡ event_for event
      go p (opened m k v) stands here same = cc
      go p accepted stands here same = cc
      go p (message e) stands here same = cc
      go p (ended k) stands here same = cc
      go p (peer_fault k other) stands here same =
          let tells = event_tells (settings_of reader) p (peer_fault k other) here in
          let one : n ≡ k = cc in
          let same_text : text ≡ other = shown p stands ∙ sym tells.1 in
          rw (one, same_text) refl

  -- an envelope whose content is small enough to be counted
  pub says_message : (number size strings used : ℕ) (doc : List Item) (r : Received)
      → step ≡ steps.Message number size doc strings used → IsGood (settings_of reader).limits
      → r.number ≡ number → r.size ≡ size → r.strings ≡ strings → r.used ≡ used → r.doc ≡ doc
      → (content_of doc < 2 ^ 64 → r.content ≡ content_of doc)
      → SaysStep reader step (Some (events.Message r))
  says_message number size strings used doc r is good a b c d e counted =
      (λ more. cc, λ p event stands here same. ap Some (go p event here (sym is ∙ same)))
    where
      go : (p : List ℕ) (event : StreamEvent)
          → event_at (stream (settings_of reader)) p ≡ Some event
          → steps.Message number size doc strings used ≡ step_for event
          → events.Message r ≡ event_for event
      go p (opened m k v) here same = cc
      go p accepted here same = cc
      go p (message f) here same =
          let n : number ≡ f.number = cc in
          let s : size ≡ f.size = cc in
          let i : doc ≡ f.items = cc in
          let l : strings ≡ length f.strings = cc in
          let u : used ≡ used_cost f.strings = cc in
          let fits = documents_fit (settings_of reader) good p f here in
          let low = fits.content in
          let most = good.content_most in
          let few : content_of doc < 2 ^ 64 = rw i (omega (arith, low, most)) in
          received_is r f.number f.size (content_of f.items) (length f.strings)
          (used_cost f.strings)
          f.items (a ∙ n) (b ∙ s) (counted few ∙ ap content_of i) (c ∙ l) (d ∙ u) (e ∙ i)
        where
          received_is : (r : Received) (number size content strings used : ℕ) (doc : List Item)
              → r.number ≡ number → r.size ≡ size → r.content ≡ content → r.strings ≡ strings
              → r.used ≡ used → r.doc ≡ doc
              → events.Message r ≡ events.Message (record {
                number = number;
                size = size;
                content = content;
                strings = strings;
                used = used;
                doc = doc;
              })
          received_is r number size content strings used doc n s c l u d =
              rw (← n, ← s, ← c, ← l, ← u, ← d) refl
      go p (ended k) here same = cc
      go p (peer_fault k text) here same = cc

abbrev count_in : Result (ℕ × StreamStep) ReadRefusal → ℕ
count_in (Ok answer) = answer.0
count_in (Err refusal) = 0

abbrev step_in : Result (ℕ × StreamStep) ReadRefusal → StreamStep
step_in (Ok answer) = answer.1
step_in (Err refusal) = steps.More

parts_of : (n k : ℕ) (step other : StreamStep)
    → ◌≡◌ {A = Result (ℕ × StreamStep) ReadRefusal} (Ok (n, step)) (Ok (k, other))
    → (n ≡ k) × (step ≡ other)
parts_of n k step other same = (ap count_in same, ap step_in same)

-- an answer is said by the event of its step
module _ (old new : StreamReader) (set : settings_of new ≡ settings_of old) (p y : List ℕ) (n : ℕ)
    (step : StreamStep) (event : Option Event) (stands : StandsFor new (p ++ take n y))
    (says : SaysStep new step event) where
  abbrev x : Settings
  x = settings_of old

  abbrev Says : Answer StreamEvent Offence → Type 0
  Says a = ◌≡◌ {A = Result (ℕ × Option Event) (FeedFault Offence)} (Ok (n, event))
      (said event_for (length y) a)

  abbrev Stepped : Answer StreamEvent Offence → Type 0
  Stepped a = ◌≡◌ {A = Result (ℕ × StreamStep) ReadRefusal} (Ok (n, step))
      (said_by_reader (length y) a)

  says_event : (k : ℕ) (e : StreamEvent) → answer (stream x) p y ≡ completes k e → n ≡ k
      → step ≡ step_for e → event ≡ Some (event_for e)
  says_event k e at same_n same_step =
      let here = ((answers_are_first (stream x) p y (completes k e)).0 at).2 in
      says.1 (p ++ take n y) e stands
      (subst (λ (m : ℕ). event_at (stream (settings_of new)) (p ++ take m y) ≡ Some e) (sym same_n)
      (subst (λ (s : Settings). event_at (stream s) (p ++ take k y) ≡ Some e) (sym set) here))
      same_step

  says_answer : (a : Answer StreamEvent Offence) → answer (stream x) p y ≡ a → Stepped a → Says a
  says_answer goes_on at same =
      let parts = parts_of n (length y) step steps.More same in
      rw (parts.0, says.0 parts.1) refl
  says_answer (completes k e) at same =
      let parts = parts_of n k step (step_for e) same in
      rw (parts.0, says_event k e at parts.0 parts.1) refl
  says_answer (offends k o) at same = cc

  pub answer_said : Stepped (answer (stream x) p y) → Says (answer (stream x) p y)
  answer_said same = says_answer (answer (stream x) p y) refl same
