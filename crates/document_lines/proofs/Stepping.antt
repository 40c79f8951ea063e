-- What all lines bring one by one: their documents, and why they are refused.
use Rattle.std.proofs.Common.{◌≡◌, ℕ, ◌+◌, ◌-◌, ◌^◌, ◌<◌, ◌≤◌, Bool, true, false, not, List, []}
use Rattle.std.proofs.Common.{◌∷◌, ◌++◌, length, take, drop, if◌then◌else◌, nat_le, nat_lt, Some}
use Rattle.std.proofs.Common.{None, Ok, Err, Option, Result, sym, refl, ap, ◌∙◌, subst, append-nil}
use Rattle.std.proofs.Common.{arith, le-ltb, lt-ltb, length-append, length-take-le}
use Rattle.std.proofs.Common.{take-append-drop}
use Rattle.std.proofs.Math.Seq.{take-add}
use Rattle.nbfx_values.specs.declared.content.Item.{Item}
use Rattle.unit_streams.specs.{Front.begun, Front.whole, Going.IsPending, Grammar.Grammar}
use Rattle.unit_streams.specs.Judging.{History, history, history_from, only, refusal_at}
use Rattle.unit_streams.specs.Units.{Counted, events_along, size_of, UnitsLead}
use Rattle.line_notation.specs.declared.reader.LineFault.{LineFault, TheVariants.Bad}
use Rattle.line_notation.specs.declared.reader.LineFault.{TheVariants.Memory}
use Rattle.line_notation.specs.declared.reader.LineStep.{LineStep, TheVariants.Done}
use Rattle.line_notation.specs.declared.reader.LineStep.{TheVariants.More}
use Rattle.line_notation.specs.declared.reader.{LineKind.LineKind, LineKind.TheVariants.Cut}
use Rattle.line_notation.specs.{Between.IsUnrefused, Between.is_between, Between.next_line}
use Rattle.line_notation.specs.{Lines.cut, Lines.has_no_feed}
use Rattle.line_notation.specs.LineReaderState.{after, answer, answer_of, at_start, document_of}
use Rattle.line_notation.specs.LineReaderState.{documents_from, documents_of, ends, failed, going}
use Rattle.line_notation.specs.LineReaderState.{on, outcome, Placed, Standing, standing, HasReadFew}
use Rattle.line_notation.specs.LineReaderState.{standing_from}
use Rattle.stream_loop.specs.declared.reading_end.FeedFault.{FeedFault, TheVariants.Refused}
use Rattle.line_streams.specs.LineStreamState.{LineAnswers}
use Rattle.line_streams.specs.LineRules.{each_silent, end_refused, IsSilent, line_at, LineRules}
use Rattle.line_streams.specs.LineRules.{lines_by, refusal_in as refusal_of}
use Rattle.line_streams.proofs.Cutting.{behind_lines, cut_append}
use Rattle.line_streams.proofs.LineFacts.{answered_by, bounded, refused_by}
use Rattle.line_streams.proofs.Walking.{all_cut as every_cut, all_lines, at_most, at_refusal}
use Rattle.line_streams.proofs.Walking.{at_the_end, brought as walked, fills, goes_out, history_so}
use Rattle.line_streams.proofs.Walking.{led_cut, line_alone, lines_of, refused_at, refuses}
use Rattle.line_streams.proofs.Walking.{rest_cut, some_of, Stop, total, Walk}
use Rattle.document_lines.specs.declared.InputFault.{InputFault}
use Rattle.document_lines.specs.declared.InputFault.TheVariants.{Line, TooLong}
use Rattle.document_lines.specs.Documents.{documents_in, documents_within, refusal_at_end}
use Rattle.document_lines.specs.Documents.{refusal_in, unless}
use Rattle.document_lines.specs.Steps.{brought, documents_of_steps, IsIn, step_rules}
use Rattle.document_lines.proofs.Leading.{from_append, IsWhy, refused_leads, short_within, too_long}
use Rattle.document_lines.proofs.Leading.{unrefused_none, why_within}
use Rattle.document_lines.proofs.Standings.{done_leads, more_leads, next_after}

-- ---- a line

-- it isn't refused for want of memory
never_starved : (z : Standing) (line : List ℕ) → IsUnrefused z → answer z line ≡ Err Memory → ⊥
never_starved (failed fault) line unrefused e = absurd unrefused
never_starved (going n items array) line unrefused e = by (outcome items array line) e where
  by : (o : Result Placed LineKind) → answer_of (n + 1) o ≡ Err Memory → ⊥
  by (Ok (on items array)) e = cc
  by (Ok (ends doc)) e = cc
  by (Err kind) e = cc

-- behind one that brings a step no line is refused
unrefused_behind : (z : Standing) (line : List ℕ) (step : LineStep) → answer z line ≡ Ok step
    → IsUnrefused (after z line)
unrefused_behind z line More e = more_leads z line e
unrefused_behind z line (Done doc) e = subst IsUnrefused (sym (done_leads z line doc e).1) tt

-- why a line is refused
refused_why : (z : Standing) (line : List ℕ) (fault : InputFault)
    → brought (after z line) (answer z line) ≡ Err fault
    → (n : ℕ) × (kind : LineKind) × (fault ≡ Line n kind) × (after z line ≡ failed (Bad n kind))
refused_why z line fault e = by (answer z line) refl e where
  by : (v : Result LineStep LineFault) → answer z line ≡ v → brought (after z line) v ≡ Err fault
      → (n : ℕ) × (kind : LineKind) × (fault ≡ Line n kind)
      × (after z line ≡ failed (Bad n kind))
  by (Ok step) is e = cc
  by (Err (Bad n kind)) is e =
      let same : Line n kind ≡ fault = cc in
      (n, kind, sym same, refused_leads z line (Bad n kind) is)
  by (Err Memory) is e = cc

-- ---- how a line is answered (src/steps.rt)

pub few_read : (z : Standing) → next_line z - 1 < 2 ^ 63 → HasReadFew z
few_read (failed fault) less = tt
few_read (going n items array) less = omega (arith, less)

-- it is one line more, or none
pub one_more : (z z' : Standing) (line : List ℕ) → z' ≡ after z line
    → next_line z' - 1 ≤ next_line z - 1 + 1
one_more z z' line is =
    let most = next_after z line in
    let same = ap next_line is in
    omega (arith, most, same)

pub none_more : (z z' : Standing) (fault : LineFault) → z' ≡ failed fault
    → next_line z' - 1 ≤ next_line z - 1 + 1
none_more z z' fault is = let same = ap next_line is in omega (arith, same)

module _ (quota : ℕ) (old new : Standing) (line : List ℕ) where
  -- wherever lines have led to where it stands
  abbrev pub Answered : Result (Option LineStep) (FeedFault InputFault) → Type 0
  Answered result = (z : Standing) → IsIn old z
      → LineAnswers (step_rules quota) (IsIn new) z line result

  pub step_answered : (step : LineStep) → Ok step ≡ answer old line → new ≡ after old line
      → Answered (Ok (Some step))
  step_answered step is leads z (same, unrefused) =
      let said : answer z line ≡ Ok step = ap (λ y. answer y line) (sym same) ∙ sym is in
      answered_by (IsIn new) z (after z line) step (brought (after z line) (answer z line))
      (ap (brought (after z line)) said)
      (leads ∙ ap (λ y. after y line) same, unrefused_behind z line step said)

  pub step_refused : (n : ℕ) (kind : LineKind) → Err (Bad n kind) ≡ answer old line
      → Answered (Err (Refused (Line n kind)))
  step_refused n kind is z (same, unrefused) =
      ap (λ v. refusal_of (brought (after z line) v)) (ap (λ y. answer y line) (sym same) ∙ sym is)

-- ---- all lines

module _ (quota : ℕ) where
  abbrev rules : LineRules Standing LineStep InputFault
  rules = step_rules quota

  abbrev pub g : Grammar Standing (List ℕ) LineStep InputFault
  g = lines_by rules

  silent : IsSilent rules
  silent = each_silent (λ z line. brought (after z line) (answer z line))

  -- where lines lead that aren't refused, and the documents of their steps
  record Led (z : Standing) (lines : List (List ℕ)) (z' : Standing) (steps : List LineStep)
      : Type 0 where
    stands : standing_from z lines ≡ z'
    documents : documents_of_steps steps ≡ documents_from z lines
    unrefused : IsUnrefused z'

  led : (units : List (Counted (List ℕ))) (z : Standing) (from : ℕ) (bytes : List ℕ)
      (z' : Standing) (rest : List ℕ) → UnitsLead g z from units bytes z' rest → IsUnrefused z
      → Led z (lines_of rules units) z' (events_along g z from units)
  unfolding UnitsLead events_along
  led [] z from bytes z' rest l unrefused = record {
    stands = l.0;
    documents = refl;
    unrefused = subst IsUnrefused l.0 unrefused;
  }
  led (one ∷ units) z from bytes z' rest l unrefused =
      by_answer (answer z one.unit) refl (λ y leads good. led units y (from + one.size)
      (drop one.size bytes) z' rest leads good) l
    where
      by_answer : (v : Result LineStep LineFault) → answer z one.unit ≡ v
          → ((y : Standing)
          → UnitsLead g y (from + one.size) units (drop one.size bytes) z' rest
          → IsUnrefused y
          → Led y (lines_of rules units) z' (events_along g y (from + one.size) units))
          → UnitsLead g z from (one ∷ units) bytes z' rest
          → Led z (lines_of rules (one ∷ units)) z' (events_along g z from (one ∷ units))
      by_answer (Ok step) is later l =
          let r = later (after z one.unit) (rw is at l.2) (unrefused_behind z one.unit step is) in
          record {
            stands = r.stands;
            documents = rw is (ap (λ d. document_of (Ok step) ++ d) r.documents);
            unrefused = r.unrefused;
          }
      by_answer (Err (Bad n kind)) is later l = let none = rw is at l.1 in cc
      by_answer (Err Memory) is later l = absurd (never_starved z one.unit unrefused is)

  -- what is read of all bytes, by what their lines bring
  abbrev pub Said : (bytes : List ℕ) → List LineStep → Option InputFault → Type 0
  Said bytes steps None = documents_within quota bytes ≡ Ok (documents_of_steps steps)
  Said bytes steps (Some fault) = documents_within quota bytes ≡ Err fault

  module _ (bytes : List ℕ) where
    abbrev w : Walk rules at_start 0 bytes
    w = all_lines rules bytes

    abbrev z : Standing
    z = w.situation

    abbrev steps : List LineStep
    steps = events_along g at_start 0 w.units

    abbrev lines : List (List ℕ)
    lines = lines_of rules w.units

    abbrev size : ℕ
    size = size_of w.units

    l : Led at_start lines z steps
    l = led w.units at_start 0 bytes z w.rest w.lead tt

    left : drop size bytes ≡ w.rest
    left = (walked rules bytes).left

    -- so many bytes more than those of the lines
    front_is : (k : ℕ) → take (size + k) bytes ≡ take size bytes ++ take k w.rest
    front_is k = take-add size k bytes ∙ ap (λ d. take size bytes ++ take k d) left

    lines_cut : cut (take size bytes) ≡ (lines, [])
    lines_cut = let none : size ≡ size + 0 = omega arith in
        ap (λ (n : ℕ). cut (take n bytes)) none
        ∙ led_cut rules w.units at_start 0 bytes z w.rest w.lead 0 refl

    -- a line that is refused
    module _ (line : List ℕ) (n : ℕ) (fault : InputFault)
        (is : line_at {R = InputFault} w.rest ≡ whole line n) (fits : 0 + size + n ≤ quota)
        (refused : rules.refused z line ≡ Some fault)
      where
        all_cut : cut (take (size + n) bytes) ≡ (lines ++ line ∷ [], [])
        all_cut =
            ap cut (front_is n) ∙ cut_append (take size bytes) (take n w.rest)
            ∙ ap (λ (c : List (List ℕ) × List ℕ). behind_lines c.0 (cut (c.1 ++ take n w.rest)))
            lines_cut
            ∙ ap (behind_lines lines) (line_alone rules z 0 w.rest line n is)

        why : IsWhy fault (take (size + n) bytes)
        why =
            let r = refused_why z line fault (refused_by _ fault refused) in
            record {
              number = r.0;
              kind = r.1;
              fault_is = r.2;
              stands = ap (λ (c : List (List ℕ) × List ℕ). standing c.0) all_cut
                  ∙ from_append at_start lines (line ∷ [])
                  ∙ ap (λ y. after y line) l.stands ∙ r.3;
            }

        there : size + n ≤ length bytes
        there =
            let some = some_of rules z 0 w.rest line n is in
            let all = total rules bytes in
            omega (arith, some.1, all)

        said_refused : Said bytes steps (Some fault)
        said_refused =
            ap (documents_within quota) (sym (take-append-drop (size + n) bytes))
            ∙ why_within quota fault (take (size + n) bytes) (drop (size + n) bytes) why
            (let short = length-take-le (size + n) bytes there in omega (arith, short, fits))

    -- as many bytes as are too many
    said_too_long : (k : ℕ) → k ≤ length w.rest → has_no_feed (take k w.rest) ≡ true
        → 0 + size + k ≡ quota → Said bytes steps (Some TooLong)
    said_too_long k within free full =
        let n = total rules bytes in
        let p : List ℕ = take (size + k) bytes in
        let long = length-take-le (size + k) bytes (omega (arith, n, within)) in
        let is : length p ≡ quota = omega (arith, long, full) in
        let c = led_cut rules w.units at_start 0 bytes z w.rest w.lead k free in
        let stands : standing (cut p).0 ≡ z
        = ap (λ (c : List (List ℕ) × List ℕ). standing c.0) c ∙ l.stands in
        subst (λ (q : ℕ). documents_within q bytes ≡ Err TooLong) is
        (ap (documents_within (length p)) (sym (take-append-drop (size + k) bytes))
        ∙ too_long p (drop (size + k) bytes) (subst IsUnrefused (sym stands) l.unrefused))

    -- the end of the input
    module _ (is : line_at {R = InputFault} w.rest ≡ begun)
        (less : 0 + size + length w.rest < quota)
      where
        pub whole_cut : cut bytes ≡ (lines, w.rest)
        whole_cut =
            every_cut rules bytes
            ∙ ap (λ (c : List (List ℕ) × List ℕ). (lines ++ c.0, c.1)) (rest_cut rules bytes is)
            ∙ ap (λ (ls : List (List ℕ)). (ls, w.rest)) (append-nil lines)

        pub stands_at_end : standing (cut bytes).0 ≡ z
        stands_at_end = ap (λ (c : List (List ℕ) × List ℕ). standing c.0) whole_cut ∙ l.stands

        abbrev at_end : Option InputFault
        at_end = end_refused rules (0 + size) (0 + size + length w.rest) z

        abbrev by_end : Option InputFault → Result (List (List Item)) InputFault
        by_end fault = unless fault (Ok (documents_of_steps steps))

        end_is : refusal_at_end w.rest z ≡ at_end
        end_is = by w.rest where
          at_once : (between : Bool)
              → ◌≡◌ {A = Option InputFault}
              (if between then None else Some (Line (next_line z) Cut))
              (if not between then Some (Line (next_line z) Cut) else None)
          at_once true = refl
          at_once false = refl

          by : (rest : List ℕ) → refusal_at_end rest z
              ≡ end_refused rules (0 + size) (0 + size + length rest) z
          by [] =
              at_once (is_between z)
              ∙ ap (λ v. rules.at_end v z)
              (sym (le-ltb (0 + size) (0 + size + 0) (omega arith)))
          by (b ∷ rest) =
              ap (λ v. rules.at_end v z)
              (sym (lt-ltb (0 + size) (0 + size + length (b ∷ rest)) (omega arith)))

        documents_are : documents_in bytes ≡ by_end at_end
        documents_are =
            ap (λ (c : List (List ℕ) × List ℕ). unless (refusal_in (standing c.0))
            (unless (refusal_at_end c.1 (standing c.0)) (Ok (documents_of c.0)))) whole_cut
            ∙ ap (λ y. unless (refusal_in y)
            (unless (refusal_at_end w.rest y) (Ok (documents_of lines)))) l.stands
            ∙ ap (λ r. unless r (unless (refusal_at_end w.rest z) (Ok (documents_of lines))))
            (unrefused_none z l.unrefused)
            ∙ ap (λ r. unless r (Ok (documents_of lines))) end_is
            ∙ ap (λ d. unless at_end (Ok d)) (sym l.documents)

        said_at_end : Said bytes steps at_end
        said_at_end = by at_end refl where
          read : documents_within quota bytes ≡ by_end at_end
          read =
              let n = total rules bytes in
              short_within quota bytes (omega (arith, n, less)) ∙ documents_are

          by : (fault : Option InputFault) → at_end ≡ fault → Said bytes steps fault
          by None e = read ∙ ap by_end e
          by (Some fault) e = read ∙ ap by_end e

    -- what comes of the rest, and what that says
    record Rest : Type 0 where
      fault : Option InputFault
      brings : history_from g ([] ++ take size bytes) w.rest ≡ only fault
      said : Said bytes steps fault

    of_rest : Stop rules z (0 + size) w.rest → Rest
    of_rest (refuses line n fault is fits refused) = record {
      fault = Some fault;
      brings = at_refusal rules _ z _ (walked rules bytes).between w.rest line n fault is fits
          refused silent;
      said = said_refused line n fault is fits refused;
    }
    of_rest (fills k within free full) = record {
      fault = Some TooLong;
      brings = at_most rules _ z _ (walked rules bytes).between w.rest k within free full;
      said = said_too_long k within free full;
    }
    of_rest (goes_out is less) = record {
      fault = end_refused rules (0 + size) (0 + size + length w.rest) z;
      brings = at_the_end rules _ z _ (walked rules bytes).between w.rest is less;
      said = said_at_end is less;
    }

    -- the history says what is read of the bytes
    pub history_said : (events : List LineStep) (judged : Option InputFault)
        → history g bytes ≡ record { events = events; offence = judged }
        → Said bytes events judged
    history_said events judged is =
        let r = of_rest w.stop in
        let same = sym is ∙ history_so rules bytes r.fault r.brings in
        subst (λ (h : History LineStep InputFault). Said bytes h.events h.offence) (sym same) r.said

    -- where more may come no line is refused
    pub pending_unrefused : IsPending g bytes → IsUnrefused (standing (cut bytes).0)
    pending_unrefused pending = by w.stop where
      by : Stop rules z (0 + size) w.rest → IsUnrefused (standing (cut bytes).0)
      by (refuses line n fault is fits refused) =
          let shows = refused_at rules _ z _ (walked rules bytes).between w.rest line n fault is
          fits refused in
          let none = pending.unrefused (size + n) in
          absurd (let same = sym none ∙ ap (refusal_at g) (front_is n) ∙ shows in cc)
      by (fills k within free full) =
          let short = bounded rules bytes pending in
          let n = total rules bytes in
          absurd (omega (arith, short, n, within, full))
      by (goes_out is less) =
          subst IsUnrefused (sym (stands_at_end is less)) l.unrefused
