-- What is written of any history, and why it is refused.
use Rattle.std.proofs.Common.{◌≡◌, ℕ, ◌+◌, ◌-◌, ◌^◌, ◌<◌, Bool, true, false, List, [], ◌∷◌, ◌++◌}
use Rattle.std.proofs.Common.{map, length, take, drop, if◌then◌else◌, nat_lt, Some, None, Ok, Err}
use Rattle.std.proofs.Common.{Option, Result, sym, refl, ap, ◌∙◌, subst, inl, inr, append_assoc}
use Rattle.std.proofs.Common.{append-nil, arith, flat_map}
use Rattle.std.proofs.lemmas.{Grind.flat_map-append, List.length-map}
use Rattle.std.specs.Option.{option_to_list}
use Rattle.unit_streams.proofs.{Pending.pending_history, Pieces.told_flat}
use Rattle.unit_streams.specs.{Front.begun, Front.whole, Grammar.Grammar, Going.IsPending}
use Rattle.unit_streams.specs.{Judging.events_of}
use Rattle.unit_streams.specs.Judging.{History, history_from, offence, only}
use Rattle.unit_streams.specs.Tellers.{report, state_behind, told_along, told_of_history}
use Rattle.unit_streams.specs.Tellers.{told_so_far}
use Rattle.unit_streams.specs.Units.{Counted, events_along, size_of, UnitsLead}
use Rattle.nbfx_values.specs.declared.content.Item.{Item}
use Rattle.line_notation.specs.declared.reader.LineKind.{LineKind, TheVariants.NotALine}
use Rattle.line_notation.specs.Lines.{cut}
use Rattle.reliable_sequence.specs.declared.events.{Counts.Counts, Event.Event}
use Rattle.reliable_sequence.specs.Rehearsal.{counts_of, delivered_by, Kept, kept_after, MayGo}
use Rattle.reliable_sequence.specs.Rehearsal.{Rehearsal, rehearsal, rehearsed}
use Rattle.reliable_sequence.specs.Sent.{submitted_count}
use Rattle.reliable_sequence.proofs.{EventFacts.one-more-at-most, RehearsalLaws.delivers}
use Rattle.rehearsal.specs.declared.fault.HistoryFault.{HistoryFault, TheVariants.Line}
use Rattle.rehearsal.specs.declared.fault.HistoryFault.TheVariants.{TooLong}
use Rattle.rehearsal.specs.declared.{played.Played.Played, TheConstants.MOST_BYTES}
use Rattle.line_streams.specs.LineRules.{each_silent, end_refused, line_at, LineRules}
use Rattle.rehearsal.specs.{Forms.event_of}
use Rattle.rehearsal.specs.History.{brought as brought_by, delivered_if, delivered_line}
use Rattle.rehearsal.specs.History.{delivered_lines, Explains, first_situation, history}
use Rattle.rehearsal.specs.History.{AcceptedIsInForm, history_rules, InputIsPlayed, IsInForm}
use Rattle.rehearsal.specs.History.{IsPlayed, last_line, no_counts, played, run_over, Settings}
use Rattle.rehearsal.specs.History.{Situation, situation_after, told}
use Rattle.rehearsal.specs.Laws.{PendingIsPlayed}
use Rattle.line_streams.proofs.LineFacts.{cut_line, refused_by}
use Rattle.rehearsal.proofs.{Happening.may-happen}
use Rattle.line_streams.proofs.Walking.{all_cut, all_lines, at_most, at_refusal, at_the_end}
use Rattle.line_streams.proofs.Walking.{brought, fills, goes_out, history_so, led_cut, lines_of}
use Rattle.line_streams.proofs.Walking.{no_line_left, nothing_left, refuses, some_left, Stop, total}
use Rattle.line_streams.proofs.Walking.{Walk}

-- ---- the run over events

-- what events bring one after the other
abbrev played_along : Kept → List Event → List Played
played_along k [] = []
played_along k (event ∷ more) = played k event ∷ played_along (kept_after k event) more

-- a line for each body that is delivered
delivered_one : (body : Option (List Item))
    → delivered_if body ≡ delivered_lines (option_to_list body)
delivered_one None = refl
delivered_one (Some body) = sym (append-nil (delivered_line body))

abbrev lines_told : Kept → List Event → List ℕ
lines_told k events = flat_map (λ (one : Played). delivered_if one.body) (played_along k events)

told_deliveries : (r : Rehearsal) (events : List Event)
    → delivered_lines r.delivered ++ lines_told r.kept events
    ≡ delivered_lines (rehearsal r events).delivered
told_deliveries r [] = append-nil (delivered_lines r.delivered)
told_deliveries r (event ∷ more) =
    let body : Option (List Item) = delivered_by r.kept event in
    let later : List ℕ = lines_told (kept_after r.kept event) more in
    sym (append_assoc (delivered_lines r.delivered) (delivered_if body) later)
    ∙ ap (λ l. (delivered_lines r.delivered ++ l) ++ later) (delivered_one body)
    ∙ ap (λ l. l ++ later)
    (sym (flat_map-append delivered_line r.delivered (option_to_list body)))
    ∙ told_deliveries (rehearsed r event) more

-- and the counts behind them
counts_behind : (r : Rehearsal) (events : List Event) (counts : Counts) → counts ≡ counts_of r.kept
    → state_behind told counts (played_along r.kept events) ≡ counts_of (rehearsal r events).kept
unfolding state_behind
counts_behind r [] counts same = same
counts_behind r (event ∷ more) counts same =
    counts_behind (rehearsed r event) more (counts_of (kept_after r.kept event)) refl

-- events of lines may happen, where there are few
go_on : (lines : List (List ℕ)) (events : List Event) (r : Rehearsal)
    → map event_of lines ≡ map Ok events
    → submitted_count r.kept.sender + length lines < 2 ^ 63 - 1 → MayGo r events
go_on lines [] r are few = tt
go_on [] (event ∷ events) r are few = cc
go_on (line ∷ lines) (event ∷ events) r are few =
    let one = one-more-at-most r.kept event in
    let first : event_of line ≡ Ok event = cc in
    let rest : map event_of lines ≡ map Ok events = cc in (
      may-happen r.kept (omega (arith, few)) line event first,
      go_on lines events (rehearsed r event) rest (omega (arith, few, one)),
    )

-- ---- the lines that aren't refused

-- their events, where they lead, and what they bring
record Ran (x : Settings) (z : Situation) (from : ℕ) (units : List (Counted (List ℕ)))
    (z' : Situation) : Type 0 where
  events : List Event
  events_are : map event_of (lines_of (history_rules x) units) ≡ map Ok events
  lines : z'.lines ≡ z.lines + length (lines_of (history_rules x) units)
  brings : events_along (history x) z from units ≡ played_along z.kept events

module _ (x : Settings) where
  abbrev g : Grammar Situation (List ℕ) Played HistoryFault
  g = history x

  ran : (units : List (Counted (List ℕ))) (z : Situation) (from : ℕ) (bytes : List ℕ)
      (z' : Situation) (rest : List ℕ) → UnitsLead g z from units bytes z' rest
      → Ran x z from units z'
  unfolding UnitsLead events_along
  ran [] z from bytes z' rest l = record {
    events = [];
    events_are = refl;
    lines = ap (λ (y : Situation). y.lines) (sym l.0) ∙ omega arith;
    brings = refl;
  }
  ran (one ∷ units) z from bytes z' rest l =
      by_event (event_of one.unit) refl (λ y led. ran units y (from + one.size)
      (drop one.size bytes) z' rest led) l
    where
      by_event : (v : Result Event LineKind) → event_of one.unit ≡ v
          → ((y : Situation) → UnitsLead g y (from + one.size) units (drop one.size bytes) z' rest
          → Ran x y (from + one.size) units z')
          → UnitsLead g z from (one ∷ units) bytes z' rest → Ran x z from (one ∷ units) z'
      by_event (Ok event) is later l =
          let r = later (situation_after z event) (rw is at l.2) in
          let count = r.lines in
          record {
            events = event ∷ r.events;
            events_are = ap (λ v. v ∷ map event_of (lines_of (history_rules x) units)) is
                ∙ ap (λ vs. Ok event ∷ vs) r.events_are;
            lines = omega (arith, count);
            brings = rw is (ap (λ es. played z.kept event ∷ es) r.brings);
          }
      by_event (Err kind) is later l = let none = rw is at l.1 in cc

  module _ (bytes : List ℕ) where
    abbrev rules : LineRules Situation Played HistoryFault
    rules = history_rules x

    abbrev w : Walk rules (first_situation x) 0 bytes
    w = all_lines rules bytes

    abbrev z : Situation
    z = w.situation

    r : Ran x (first_situation x) 0 w.units z
    r = ran w.units (first_situation x) 0 bytes z w.rest w.lead

    abbrev played_lines : List (List ℕ)
    played_lines = lines_of rules w.units

    abbrev more_lines : List (List ℕ)
    more_lines = (cut w.rest).0

    count : z.lines + 1 ≡ length played_lines + 1
    count = let n = r.lines in omega (arith, n)

    abbrev Why : Option HistoryFault → Type 0
    Why o = Explains x bytes played_lines more_lines o

    -- a line that is refused
    why_refused : (line : List ℕ) (n : ℕ) (fault : HistoryFault)
        → line_at {R = HistoryFault} w.rest ≡ whole line n
        → brought_by z (event_of line) ≡ Err fault → Why (Some fault)
    why_refused line n fault is refused = by_event (event_of line) refl refused where
      by_event : (v : Result Event LineKind) → event_of line ≡ v
          → brought_by z v ≡ Err fault → Why (Some fault)
      by_event (Ok event) said e = cc
      by_event (Err kind) said e =
          let same : Line (z.lines + 1) kind ≡ fault = cc in
          subst (λ (f : HistoryFault). Why (Some f)) same (
            count,
            inl (
              line,
              (cut (drop n w.rest)).0,
              ap (λ (c : List (List ℕ) × List ℕ). c.0) (cut_line {R = HistoryFault} w.rest line n
                  is),
              said,
            ),
          )

    -- the end of the input
    module _ (is : line_at {R = HistoryFault} w.rest ≡ begun)
        (less : 0 + size_of w.units + length w.rest < MOST_BYTES) where
      abbrev from : ℕ
      from = 0 + size_of w.units

      why_ended : Why (end_refused rules from (from + length w.rest) z)
      why_ended = by_rest (nat_lt from (from + length w.rest)) refl where
        by_rest : (v : Bool) → nat_lt from (from + length w.rest) ≡ v
            → Why (if v then Some (Line (z.lines + 1) NotALine) else None)
        by_rest true e =
            (count, inr (no_line_left rules bytes is, some_left rules bytes is from e, refl))
        by_rest false e = (
          no_line_left rules bytes is,
          nothing_left rules bytes is from e,
          let n = total rules bytes in omega (arith, n, less),
        )

    -- what comes of the rest, and why
    record Rest : Type 0 where
      fault : Option HistoryFault
      brings : history_from g ([] ++ take (size_of w.units) bytes) w.rest ≡ only fault
      why : Why fault

    of_rest : Stop rules z (0 + size_of w.units) w.rest → Rest
    of_rest (refuses line n fault is fits refused) = record {
      fault = Some fault;
      brings = at_refusal rules _ z _ (brought rules bytes).between w.rest line n fault is fits
          refused (each_silent (λ y l. brought_by y (event_of l)));
      why = why_refused line n fault is (refused_by _ fault refused);
    }
    of_rest (fills k within free full) = record {
      fault = Some TooLong;
      brings = at_most rules _ z _ (brought rules bytes).between w.rest k within free full;
      why = (
        let n = total rules bytes in omega (arith, n, within, full),
        let sum : MOST_BYTES ≡ size_of w.units + k = omega (arith, full) in
            ap (λ (j : ℕ). (cut (take j bytes)).0) sum
            ∙ ap (λ (c : List (List ℕ) × List ℕ). c.0)
            (led_cut rules w.units (first_situation x) 0 bytes z w.rest w.lead k free),
      );
    }
    of_rest (goes_out is less) = record {
      fault = end_refused rules (0 + size_of w.units) (0 + size_of w.units + length w.rest) z;
      brings = at_the_end rules _ z _ (brought rules bytes).between w.rest is less;
      why = why_ended is less;
    }

    abbrev es : List Played
    es = events_along g (first_situation x) 0 w.units

    abbrev first : Rehearsal
    first = run_over x []

    written_so : told_along told no_counts es ≡ delivered_lines (run_over x r.events).delivered
    written_so =
        ap (told_along told no_counts) r.brings
        ∙ told_flat told (λ one. delivered_if one.body) (λ s e. refl)
        (played_along first.kept r.events) no_counts
        ∙ told_deliveries first r.events

    counted_so : state_behind told no_counts es ≡ counts_of (run_over x r.events).kept
    counted_so =
        ap (state_behind told no_counts) r.brings
        ∙ counts_behind first r.events no_counts refl

    -- each line has a byte at least
    goes : MayGo first r.events
    goes =
        let few = w.few in
        let within = w.within in
        let one_each = length-map w.units (λ (one : Counted (List ℕ)). one.unit) in
        go_on played_lines r.events first r.events_are (omega (arith, few, within, one_each))

    -- what the lines bring is what is brought so far, where more may come
    brought_so_far : Rest → IsPending g bytes → events_of g bytes ≡ es
    brought_so_far rest pending =
        sym (append-nil (events_of g bytes))
        ∙ sym (ap (λ (v : History Played HistoryFault). v.events) (pending_history g bytes pending))
        ∙ ap (λ (v : History Played HistoryFault). v.events) (history_so rules bytes rest.fault
        rest.brings)

    so_far : Rest → IsPending g bytes
        → told_so_far g told bytes ≡ delivered_lines (run_over x r.events).delivered
    unfolding told_so_far
    so_far rest pending = ap (told_along told no_counts) (brought_so_far rest pending) ∙ written_so

    all_of : Rest → IsPlayed x bytes
    unfolding report offence
    all_of rest =
        let h = history_so rules bytes rest.fault rest.brings in
        let o = ap (λ (v : History Played HistoryFault). v.offence) h in
        let run : Rehearsal = run_over x r.events in
        let lines_first : List ℕ = delivered_lines run.delivered in
        record {
          lines = played_lines;
          more = more_lines;
          lines_are = ap (λ (c : List (List ℕ) × List ℕ). c.0) (all_cut rules bytes);
          events = r.events;
          events_are = r.events_are;
          written =
              ap (told_of_history told no_counts) h
              ∙ ap (λ l. l ++ last_line (state_behind told no_counts es) rest.fault) written_so
              ∙ ap (λ c. lines_first ++ last_line c rest.fault) counted_so
              ∙ ap (λ v. lines_first ++ last_line (counts_of run.kept) v) (sym o);
          in_order = delivers x.identifier x.window r.events goes;
          why = subst Why (sym o) rest.why;
        }

rest_of : (x : Settings) (bytes : List ℕ) → Rest x bytes
rest_of x bytes = of_rest x bytes (all_lines (history_rules x) bytes).stop

pub is_played : InputIsPlayed
is_played x bytes = all_of x bytes (rest_of x bytes)

pub pending_is_played : PendingIsPlayed
unfolding is_played all_of
pending_is_played x bytes pending = (is_played x bytes, so_far x bytes (rest_of x bytes) pending)

-- ---- input that isn't refused

-- each of the lines says an event
says_event : (before : List (List ℕ)) (line : List ℕ) (rest : List (List ℕ)) (events : List Event)
    → map event_of (before ++ line ∷ rest) ≡ map Ok events
    → (event : Event) × (event_of line ≡ Ok event)
says_event [] line rest [] e = cc
says_event [] line rest (event ∷ events) e = (event, cc)
says_event (first ∷ before) line rest [] e = cc
says_event (first ∷ before) line rest (event ∷ events) e = says_event before line rest events cc

module _ (x : Settings) (bytes : List ℕ) where
  p : IsPlayed x bytes
  p = is_played x bytes

  in_form : offence (history x) bytes ≡ None → IsInForm bytes
  in_form none =
      let why : Explains x bytes p.lines p.more None
      = subst (Explains x bytes p.lines p.more) none p.why in
      let all : (cut bytes).0 ≡ p.lines
      = p.lines_are ∙ ap (λ (more : List (List ℕ)). p.lines ++ more) why.0 ∙ append-nil p.lines in
      record {
        events = p.events;
        events_are = ap (map event_of) all ∙ p.events_are;
        whole = why.1;
        short = why.2;
      }

  refuses_none : (form : IsInForm bytes) (fault : HistoryFault)
      → Explains x bytes p.lines p.more (Some fault) → ⊥
  refuses_none form (Line n kind) (number, inl (line, rest, next, bad)) =
      let said = says_event p.lines line rest form.events
      (ap (map event_of) (sym (p.lines_are
      ∙ ap (λ (more : List (List ℕ)). p.lines ++ more) next)) ∙ form.events_are) in
      let good = said.1 in
      cc
  refuses_none form (Line n kind) (number, inr (none, cut_so, is)) = cut_so form.whole
  refuses_none form TooLong (long, lines) = let short = form.short in omega (arith, long, short)

  accepted : IsInForm bytes → offence (history x) bytes ≡ None
  accepted form = by_offence (offence (history x) bytes) refl where
    by_offence : (o : Option HistoryFault) → offence (history x) bytes ≡ o
        → offence (history x) bytes ≡ None
    by_offence None is = is
    by_offence (Some fault) is =
        absurd (refuses_none form fault (subst (Explains x bytes p.lines p.more) is p.why))

pub accepted_is_in_form : AcceptedIsInForm
accepted_is_in_form x bytes = (in_form x bytes, accepted x bytes)
