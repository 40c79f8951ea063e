-- What is written of any input, and why it is refused.
use Rattle.std.proofs.Common.{◌≡◌, ℕ, ◌+◌, ◌≤◌, Bool, true, false, not, ◌&&◌, ◌||◌, ◌⊎◌, List, []}
use Rattle.std.proofs.Common.{◌∷◌, ◌++◌, length, take, drop, if◌then◌else◌, nat_lt, ◌==◌, Some}
use Rattle.std.proofs.Common.{None, Ok, Err, Option, Result, sym, refl, ap, ◌∙◌, subst, inl, inr}
use Rattle.std.proofs.Common.{arith, length-append, eqb-true}
use Rattle.std.proofs.lemmas.Bool.{and_parts, cases_Bool, eqb-false, not-true, or_cases}
use Rattle.unit_streams.proofs.Pieces.{told_flat}
use Rattle.unit_streams.specs.{Front.begun, Front.whole, Grammar.Grammar}
use Rattle.unit_streams.specs.Judging.{History, history_from, offence, only}
use Rattle.unit_streams.specs.Tellers.{report, told_along}
use Rattle.unit_streams.specs.Units.{Counted, events_along, size_of, UnitsLead}
use Rattle.nbfx_values.specs.declared.content.Item.{Item}
use Rattle.nbfx_encoder.specs.{Placing.Placed, Refusals.told}
use Rattle.nbfx_encoder.specs.Spelling.{encoded, too_deep, too_large, too_much, Unfit, unnamed}
use Rattle.line_notation.proofs.{LinesAre.read-documents, RefusalFacts.nothing-else}
use Rattle.line_notation.specs.declared.reader.LineFault.{LineFault, TheVariants.Bad}
use Rattle.line_notation.specs.declared.reader.LineKind.{LineKind, TheVariants.WrongCount}
use Rattle.line_notation.specs.declared.reader.LineKind.TheVariants.{BadText, Cut, NotALine}
use Rattle.line_notation.specs.declared.reader.LineKind.TheVariants.{OutOfPlace, OutOfRange}
use Rattle.line_notation.specs.declared.reader.LineStep.{LineStep}
use Rattle.line_notation.specs.declared.reader.LineStep.TheVariants.{Done, More}
use Rattle.line_notation.specs.Between.{is_between, IsUnrefused, next_line}
use Rattle.line_notation.specs.LineReaderState.{after, answer, answer_of, at_start, document_of}
use Rattle.line_notation.specs.LineReaderState.{documents_from, documents_of, ending, standing_of}
use Rattle.line_notation.specs.LineReaderState.{ends as ends_document, failed, going}
use Rattle.line_notation.specs.LineReaderState.{on as leads_on, outcome, Placed as PlacedLine}
use Rattle.line_notation.specs.LineReaderState.{Standing as LineStanding, standing, standing_from}
use Rattle.line_notation.specs.Lines.{AreLinesOf, cut}
use Rattle.document_lines.{specs.declared.InputFault.InputFault, proofs.Standings.no_lone}
use Rattle.document_lines.specs.declared.InputFault.TheVariants.{Line, TooLong, Unfit as DoesNotFit}
use Rattle.document_lines.specs.Input.{behind_line, ending_fault, envelopes_and_end, fault_of}
use Rattle.document_lines.specs.Input.{document_rules, is_full, is_singleton, lines_of_documents}
use Rattle.document_lines.specs.Input.{refused_line, Settings, Situation, start_of}
use Rattle.document_lines.specs.Laws.{Explains, InputIsWritten, IsWritten, RefusesNoMemory}
use Rattle.document_lines.specs.Refused.{HasNoDocument, IsBadLine, RefusesLine}
use Rattle.document_lines.proofs.Built.{joined, walk as envelopes_of}
use Rattle.document_lines.specs.Silence.{silent}
use Rattle.line_streams.{specs.LineRules.line_at, proofs.LineFacts.cut_line}
use Rattle.line_streams.proofs.Walking.{all_cut, all_lines, at_most, at_refusal, at_the_end}
use Rattle.line_streams.proofs.Walking.{brought, fills, goes_out, history_so, led_cut, lines_of}
use Rattle.line_streams.proofs.Walking.{no_line_left, nothing_left, refuses, some_left, Stop, total}
use Rattle.line_streams.proofs.Walking.{Walk}
use Rattle.nbfx_encoder.specs.declared.faults.EncodeFault.TheVariants as encode

-- lines may end between documents
between_ends : (s : LineStanding) → is_between s ≡ true → ending s ≡ Ok tt
between_ends (failed fault) e = cc
between_ends (going n [] None) e = refl
between_ends (going n [] (Some array)) e = cc
between_ends (going n (item ∷ items) array) e = cc

module _ (x : Settings) where
  abbrev g : Grammar Situation (List ℕ) (List ℕ) InputFault
  g = lines_of_documents x

  -- ---- where units of lines lead

  behind_lines : (z : Situation) (b : LineStanding) (a : Result LineStep LineFault)
      → (behind_line x z b a).lines ≡ b
  behind_lines z b (Ok (Done doc)) = refl
  behind_lines z b (Ok More) = refl
  behind_lines z b (Err fault) = refl

  behind_documents : (z : Situation) (b : LineStanding) (a : Result LineStep LineFault)
      → (behind_line x z b a).documents ≡ z.documents + length (document_of a)
  behind_documents z b (Ok (Done doc)) = omega arith
  behind_documents z b (Ok More) = omega arith
  behind_documents z b (Err fault) = omega arith

  pub led_lines : (units : List (Counted (List ℕ))) (z : Situation) (from : ℕ) (bytes : List ℕ)
      (z' : Situation) (rest : List ℕ) → UnitsLead g z from units bytes z' rest
      → z'.lines ≡ standing_from z.lines (lines_of (document_rules x) units)
  unfolding UnitsLead
  led_lines [] z from bytes z' rest l = ap (λ (y : Situation). y.lines) (sym l.0)
  led_lines (one ∷ units) z from bytes z' rest l =
      led_lines units (g.after z from one.unit) (from + one.size) (drop one.size bytes) z' rest l.2
      ∙ ap (λ (b : LineStanding). standing_from b (lines_of (document_rules x) units))
      (behind_lines z (after z.lines one.unit) (answer z.lines one.unit))

  pub led_documents : (units : List (Counted (List ℕ))) (z : Situation) (from : ℕ) (bytes : List ℕ)
      (z' : Situation) (rest : List ℕ) → UnitsLead g z from units bytes z' rest
      → z'.documents
      ≡ z.documents + length (documents_from z.lines (lines_of (document_rules x) units))
  unfolding UnitsLead
  led_documents [] z from bytes z' rest l =
      ap (λ (y : Situation). y.documents) (sym l.0) ∙ omega arith
  led_documents (one ∷ units) z from bytes z' rest l =
      let b : LineStanding = after z.lines one.unit in
      let a : Result LineStep LineFault = answer z.lines one.unit in
      let later = led_documents units (g.after z from one.unit) (from + one.size)
      (drop one.size bytes) z' rest l.2 in
      let lines : List (List ℕ) = lines_of (document_rules x) units in
      let same = ap (λ (s : LineStanding). length (documents_from s lines)) (behind_lines z b a) in
      let first = behind_documents z b a in
      let both = length-append (document_of a) (documents_from b lines) in
      omega (arith, later, same, first, both)

  -- a line that isn't refused is one line more
  next_by : (z : Situation) (n : ℕ) (o : Result PlacedLine LineKind)
      → refused_line x z (standing_of n o) (answer_of n o) ≡ None
      → IsUnrefused (standing_of n o) × (next_line (standing_of n o) ≡ n + 1)
  next_by z n (Ok (leads_on items array)) none = (tt, refl)
  next_by z n (Ok (ends_document doc)) none = (tt, refl)
  next_by z n (Err kind) none = cc

  next_of : (z : Situation) (s : LineStanding) (line : List ℕ) → IsUnrefused s
      → refused_line x z (after s line) (answer s line) ≡ None
      → IsUnrefused (after s line) × (next_line (after s line) ≡ next_line s + 1)
  next_of z (failed fault) line on none = absurd on
  next_of z (going n items array) line on none =
      next_by z (n + 1) (outcome items array line) none

  led_next : (units : List (Counted (List ℕ))) (z : Situation) (from : ℕ) (bytes : List ℕ)
      (z' : Situation) (rest : List ℕ) → UnitsLead g z from units bytes z' rest
      → IsUnrefused z.lines
      → IsUnrefused z'.lines
      × (next_line z'.lines ≡ next_line z.lines + length (lines_of (document_rules x) units))
  unfolding UnitsLead
  led_next [] z from bytes z' rest l on = (
    subst (λ (y : Situation). IsUnrefused y.lines) l.0 on,
    ap (λ (y : Situation). next_line y.lines) (sym l.0) ∙ omega arith,
  )
  led_next (one ∷ units) z from bytes z' rest l on =
      let b : LineStanding = after z.lines one.unit in
      let a : Result LineStep LineFault = answer z.lines one.unit in
      let is = behind_lines z b a in
      let step = next_of z z.lines one.unit on l.1 in
      let later = led_next units (g.after z from one.unit) (from + one.size) (drop one.size bytes)
      z' rest l.2 (subst IsUnrefused (sym is) step.0) in
      let same = ap next_line is in
      let count = step.1 in
      let more = later.1 in
      (later.0, omega (arith, more, same, count))

  -- in singleton mode there is one document at most
  abbrev AtMostOne : Situation → Type 0
  AtMostOne z = (is_full x z ≡ true → is_between z.lines ≡ true)
      × (is_singleton x.mode ≡ true → z.documents ≤ 1)

  none_before : (n : ℕ) (single : Bool) → single ≡ true → (single && not (n == 0)) ≡ false → n ≡ 0
  none_before n single is e = eqb-true n 0 (by_count (n == 0) (rw is at e)) where
    by_count : (v : Bool) → not v ≡ false → v ≡ true
    by_count true e = refl
    by_count false e = cc

  most_by : (z : Situation) (n : ℕ) (o : Result PlacedLine LineKind) → AtMostOne z
      → ((doc : List Item) → o ≡ Ok (ends_document doc) → is_full x z ≡ false)
      → refused_line x z (standing_of n o) (answer_of n o) ≡ None
      → AtMostOne (behind_line x z (standing_of n o) (answer_of n o))
  most_by z n (Ok (leads_on items array)) most lone none = (
    λ is. elim (cases_Bool (is_between (going n items array))) [
      | inl t ↦ t
      | inr f ↦ let no = rw (is, most.0 is, f) at none in cc
    ],
    most.1,
  )
  most_by z n (Ok (ends_document doc)) most lone none = (
    λ is. refl,
    λ single.
        let zero = none_before z.documents (is_singleton x.mode) single (lone doc refl) in
        omega (arith, zero),
  )
  most_by z n (Err kind) most lone none = cc

  most_of : (z : Situation) (line : List ℕ) → AtMostOne z → (s : LineStanding) → z.lines ≡ s
      → IsUnrefused s → refused_line x z (after s line) (answer s line) ≡ None
      → AtMostOne (behind_line x z (after s line) (answer s line))
  most_of z line most (failed fault) is on none = absurd on
  most_of z line most (going n items array) is on none =
      most_by z (n + 1) (outcome items array line) most
      (λ doc o. elim (cases_Bool (is_full x z)) [
        | inl t ↦ absurd (no_lone z.lines line doc (most.0 t)
            (ap (λ (s : LineStanding). answer s line) is ∙ ap (answer_of (n + 1)) o))
        | inr f ↦ f
      ]) none

  led_most : (units : List (Counted (List ℕ))) (z : Situation) (from : ℕ) (bytes : List ℕ)
      (z' : Situation) (rest : List ℕ) → UnitsLead g z from units bytes z' rest
      → IsUnrefused z.lines → AtMostOne z → AtMostOne z'
  unfolding UnitsLead
  led_most [] z from bytes z' rest l on most = subst AtMostOne l.0 most
  led_most (one ∷ units) z from bytes z' rest l on most =
      let is = behind_lines z (after z.lines one.unit) (answer z.lines one.unit) in
      led_most units (g.after z from one.unit) (from + one.size) (drop one.size bytes) z' rest l.2
      (subst IsUnrefused (sym is) (next_of z z.lines one.unit on l.1).0)
      (most_of z one.unit most z.lines refl on l.1)

  -- ---- all of it

  module _ (bytes : List ℕ) where
    abbrev w : Walk (document_rules x) (start_of x) 0 bytes
    w = all_lines (document_rules x) bytes

    abbrev written_lines : List (List ℕ)
    written_lines = lines_of (document_rules x) w.units

    abbrev es : List (List ℕ)
    es = events_along g (start_of x) 0 w.units

    abbrev z : Situation
    z = w.situation

    next : IsUnrefused z.lines × (next_line z.lines ≡ 0 + 1 + length written_lines)
    next = led_next w.units (start_of x) 0 bytes z w.rest w.lead tt

    count : next_line z.lines ≡ length written_lines + 1
    count = let n = next.1 in omega (arith, n)

    documents : z.documents ≡ length (documents_of written_lines)
    documents =
        let n = led_documents w.units (start_of x) 0 bytes z w.rest w.lead in omega (arith, n)

    leads_to : z.lines ≡ standing_from at_start written_lines
    leads_to = led_lines w.units (start_of x) 0 bytes z w.rest w.lead

    most : AtMostOne z
    most = led_most w.units (start_of x) 0 bytes z w.rest w.lead tt
        (λ full. refl, λ single. omega arith)

    abbrev more_lines : List (List ℕ)
    more_lines = (cut w.rest).0

    abbrev Why : Option InputFault → Type 0
    Why o = Explains x bytes written_lines more_lines z.table o

    abbrev WhyLine : LineKind → Type 0
    WhyLine kind = RefusesLine x.mode bytes written_lines more_lines kind

    stands_between : {b : Bool} → is_between z.lines ≡ b → is_between (standing written_lines) ≡ b
    stands_between e = ap is_between (sym leads_to) ∙ e

    answers_so : {a : Result LineStep LineFault} (line : List ℕ) → answer z.lines line ≡ a
        → answer (standing written_lines) line ≡ a
    answers_so line e = ap (λ (s : LineStanding). answer s line) (sym leads_to) ∙ e

    -- a line that is refused
    module _ (line : List ℕ) (n : ℕ) (is : line_at {R = InputFault} w.rest ≡ whole line n) where
      next_is : more_lines ≡ line ∷ (cut (drop n w.rest)).0
      next_is = ap (λ (c : List (List ℕ) × List ℕ). c.0)
          (cut_line {R = InputFault} w.rest line n is)

      unfit_by : (doc : List Item) → answer z.lines line ≡ Ok (Done doc)
          → (v : Result (Placed (List ℕ)) Unfit) → encoded x.limits x.kind z.table doc ≡ v
          → (fault : InputFault) → fault_of x z.documents v ≡ Some fault → Why (Some fault)
      unfit_by doc ends (Ok payload) e fault refused = cc
      unfit_by doc ends (Err why) e fault refused = subst Why refused (
        documents,
        record {
          line = line;
          rest = (cut (drop n w.rest)).0;
          next = next_is;
          doc = doc;
          ends = answers_so line ends;
          unfit = why;
          not_fitting = e;
          why_is = refl;
        },
      )

      -- by what it says, or its place
      bad_line : (kind : LineKind) → (kind ≡ Cut → ⊥) → (kind ≡ WrongCount → ⊥)
          → answer z.lines line ≡ Err (Bad (next_line z.lines) kind) → WhyLine kind
      bad_line kind uncut counted a = by_kind kind uncut counted (record {
        line = line;
        rest = (cut (drop n w.rest)).0;
        next = next_is;
        bad = answers_so line a ∙ ap (λ (m : ℕ). Err (Bad m kind)) count;
      }) where
        by_kind : (kind : LineKind) → (kind ≡ Cut → ⊥) → (kind ≡ WrongCount → ⊥)
            → IsBadLine written_lines more_lines kind → WhyLine kind
        by_kind NotALine uncut counted bad = bad
        by_kind BadText uncut counted bad = bad
        by_kind OutOfRange uncut counted bad = bad
        by_kind OutOfPlace uncut counted bad = bad
        by_kind Cut uncut counted bad = absurd (uncut refl)
        by_kind WrongCount uncut counted bad = absurd (counted refl)

      -- the first of a second document
      second : is_full x z ≡ true → is_between z.lines ≡ true
          → answer z.lines line ≡ Ok More → is_between (after z.lines line) ≡ false
          → WhyLine WrongCount
      second full between good begins =
          let parts = and_parts (is_singleton x.mode) (not (z.documents == 0)) full in
          let few = most.1 parts.0 in
          let some = eqb-false z.documents 0 (not-true (z.documents == 0) parts.1) in
          let same = documents in
          inl (record {
            line = line;
            rest = (cut (drop n w.rest)).0;
            next = next_is;
            alone = parts.0;
            one = omega (arith, few, some, same);
            between = stands_between between;
            good = answers_so line good;
            begins = ap (λ (s : LineStanding). is_between (after s line)) (sym leads_to) ∙ begins;
          })

      refused_by : (m : ℕ) (o : Result PlacedLine LineKind) → m ≡ next_line z.lines
          → answer z.lines line ≡ answer_of m o → after z.lines line ≡ standing_of m o
          → (o ≡ Err Cut → ⊥) → (o ≡ Err WrongCount → ⊥) → (fault : InputFault)
          → refused_line x z (standing_of m o) (answer_of m o) ≡ Some fault → Why (Some fault)
      refused_by m (Ok (leads_on items array)) number a leads uncut counted fault refused =
          by_count (is_full x z && (is_between z.lines && not (is_between (going m items array))))
          refl
        where
          by_count : (v : Bool) → (is_full x z && (is_between z.lines
              && not (is_between (going m items array)))) ≡ v → Why (Some fault)
          by_count true e =
              let parts = and_parts (is_full x z)
              (is_between z.lines && not (is_between (going m items array))) e in
              let begins = and_parts (is_between z.lines)
              (not (is_between (going m items array))) parts.1 in
              subst Why (rw e at refused) (
                count,
                second parts.0 begins.0 a
                    (ap is_between leads
                    ∙ not-true (is_between (going m items array)) begins.1),
              )
          by_count false e = let none = rw e at refused in cc
      refused_by m (Ok (ends_document doc)) number a leads uncut counted fault refused =
          unfit_by doc a (encoded x.limits x.kind z.table doc) refl fault refused
      refused_by m (Err kind) number a leads uncut counted fault refused =
          subst Why refused (
            number ∙ count,
            bad_line kind (λ e. uncut (ap (λ (k : LineKind). Err k) e))
                (λ e. counted (ap (λ (k : LineKind). Err k) e))
                (a ∙ ap (λ (m : ℕ). Err (Bad m kind)) number),
          )

      why_refused : (s : LineStanding) → z.lines ≡ s → IsUnrefused s → (fault : InputFault)
          → refused_line x z (after s line) (answer s line) ≡ Some fault → Why (Some fault)
      why_refused (failed other) e on fault refused = absurd on
      why_refused (going m items array) e on fault refused =
          let other = nothing-else items array line in
          refused_by (m + 1) (outcome items array line) (sym (ap next_line e))
          (ap (λ (s : LineStanding). answer s line) e)
          (ap (λ (s : LineStanding). after s line) e) other.cut other.count fault refused

    -- the end of the input
    module _ (is : line_at {R = InputFault} w.rest ≡ begun) where
      abbrev from : ℕ
      from = 0 + size_of w.units

      abbrev within_line : Bool
      within_line = nat_lt from (from + length w.rest)

      why_ended : Why (ending_fault x within_line z)
      why_ended = by_cut (within_line || not (is_between z.lines)) refl
          (is_singleton x.mode && (z.documents == 0)) refl
        where
          or_left : (a b : Bool) → (a || b) ≡ false → a ≡ false
          or_left true b e = cc
          or_left false b e = refl

          or_not : (a b : Bool) → (a || not b) ≡ false → b ≡ true
          or_not true b e = cc
          or_not false true e = refl
          or_not false false e = cc

          ends_between : (within_line || not (is_between z.lines)) ≡ false
              → AreLinesOf (documents_of written_lines) written_lines
          ends_between e = read-documents written_lines (documents_of written_lines) refl
              (ap ending (sym leads_to)
              ∙ between_ends z.lines (or_not within_line (is_between z.lines) e))

          no_line : more_lines ≡ []
          no_line = no_line_left (document_rules x) bytes is

          no_bytes : (within_line || not (is_between z.lines)) ≡ false → (cut bytes).1 ≡ []
          no_bytes e = nothing_left (document_rules x) bytes is from
              (or_left within_line (not (is_between z.lines)) e)

          ends_within : (within_line || not (is_between z.lines)) ≡ true
              → (is_between (standing written_lines) ≡ false) ⊎ ((cut bytes).1 ≡ [] → ⊥)
          ends_within e =
              elim (or_cases within_line (not (is_between z.lines)) e) [
                | inl t ↦ inr (some_left (document_rules x) bytes is from t)
                | inr f ↦ inl (stands_between (not-true (is_between z.lines) f))
              ]

          without : (within_line || not (is_between z.lines)) ≡ false
              → (is_singleton x.mode && (z.documents == 0)) ≡ true
              → HasNoDocument x.mode bytes written_lines more_lines
          without e none =
              let parts = and_parts (is_singleton x.mode) (z.documents == 0) none in
              let zero = eqb-true z.documents 0 parts.1 in record {
                none_left = no_line;
                no_bytes = no_bytes e;
                alone = parts.0;
                none = sym documents ∙ zero;
                between = stands_between (or_not within_line (is_between z.lines) e);
              }

          one : (is_singleton x.mode && (z.documents == 0)) ≡ false → is_singleton x.mode ≡ true
              → length (documents_of written_lines) ≡ 1
          one some single =
              let few = most.1 single in
              let other : (z.documents == 0) ≡ false = rw single at some in
              let never = eqb-false z.documents 0 other in
              let same = documents in
              omega (arith, few, never, same)

          by_cut : (a : Bool) → (within_line || not (is_between z.lines)) ≡ a → (b : Bool)
              → (is_singleton x.mode && (z.documents == 0)) ≡ b
              → Why (if a then Some (Line (next_line z.lines) Cut)
              else if b then Some (Line (next_line z.lines) WrongCount) else None)
          by_cut true at_cut b at_count =
              (count, record { none_left = no_line; within = ends_within at_cut })
          by_cut false at_cut true at_count = (count, inr (without at_cut at_count))
          by_cut false at_cut false at_count =
              (no_line, no_bytes at_cut, ends_between at_cut, one at_count)

    -- what comes of the rest, and why
    record Rest : Type 0 where
      fault : Option InputFault
      brings : history_from g ([] ++ take (size_of w.units) bytes) w.rest ≡ only fault
      why : Why fault

    of_rest : Stop (document_rules x) z (0 + size_of w.units) w.rest → Rest
    of_rest (refuses line n fault is fits refused) = record {
      fault = Some fault;
      brings = at_refusal (document_rules x) _ z _ (brought (document_rules x) bytes).between w.rest
          line n fault is fits refused (silent x);
      why = why_refused line n is z.lines refl next.0 fault refused;
    }
    of_rest (fills k within free full) = record {
      fault = Some TooLong;
      brings = at_most (document_rules x) _ z _ (brought (document_rules x) bytes).between w.rest k
          within free full;
      why = (
        let n = total (document_rules x) bytes in omega (arith, n, within, full),
        let sum : x.limits.session ≡ size_of w.units + k = omega (arith, full) in
            ap (λ (j : ℕ). (cut (take j bytes)).0) sum
            ∙ ap (λ (c : List (List ℕ) × List ℕ). c.0)
            (led_cut (document_rules x) w.units (start_of x) 0 bytes z w.rest w.lead k free),
      );
    }
    of_rest (goes_out is less) = record {
      fault = ending_fault x (nat_lt (0 + size_of w.units) (0 + size_of w.units + length w.rest)) z;
      brings = at_the_end (document_rules x) _ z _ (brought (document_rules x) bytes).between w.rest
          is less;
      why = why_ended is;
    }

    all_of : Rest → IsWritten x bytes
    unfolding report offence
    all_of r =
        let h = history_so (document_rules x) bytes r.fault r.brings in
        let o = ap (λ (v : History (List ℕ) InputFault). v.offence) h in record {
          lines = written_lines;
          more = (cut w.rest).0;
          lines_are = ap (λ (c : List (List ℕ) × List ℕ). c.0) (all_cut (document_rules x) bytes);
          envelopes = (joined x es, z.table);
          all_fit = envelopes_of x w.units 0 bytes z w.rest at_start
              (record { statics = x.statics; strings = [] }) 0 tt w.lead;
          written =
              ap (λ (v : History (List ℕ) InputFault). told_along envelopes_and_end tt v.events
              ++ envelopes_and_end.ends tt v.offence) h
              ∙ ap (λ l. l ++ envelopes_and_end.ends tt r.fault)
              (told_flat envelopes_and_end (λ e. e) (λ s e. refl) es tt)
              ∙ ap (λ v. joined x es ++ envelopes_and_end.ends tt v) (sym o);
          why = subst Why (sym o) r.why;
        }

pub written : InputIsWritten
written x bytes = all_of x bytes (of_rest x bytes (w x bytes).stop)

-- ---- want of memory

-- a document is refused for what it has too much of
fits_or_says : (why : Unfit) → encode.Memory ≡ told why → ⊥
fits_or_says (too_deep depth) e = cc
fits_or_says (too_much size) e = cc
fits_or_says (unnamed item) e = cc
fits_or_says (too_large size) e = cc

pub no_memory : RefusesNoMemory
no_memory x bytes number is =
    let w = written x bytes in
    let why : Explains x bytes w.lines w.more w.envelopes.1 (Some (DoesNotFit number encode.Memory))
    = subst (Explains x bytes w.lines w.more w.envelopes.1) is w.why in
    fits_or_says why.1.unfit why.1.why_is
