-- How far the lines of any input lead that aren't refused, and what the input brings from there on.
use Rattle.std.proofs.Common.{◌≡◌, ℕ, zero, suc, ◌+◌, ◌-◌, ◌<◌, ◌≤◌, true, List, [], ◌∷◌, ◌++◌, map}
use Rattle.std.proofs.Common.{length, take, drop, Some, None, Option, sym, refl, ap, ◌∙◌, subst}
use Rattle.std.proofs.Common.{inl, inr, append-nil, arith, length-append, length-drop}
use Rattle.std.proofs.Common.{take-append-drop, length-take-le, nat_lt, ltb-false, ltb-true, false}
use Rattle.std.proofs.{Math.Seq.take-add, lemmas.List.drop-take, lemmas.List.nil_from_length}
use Rattle.std.{proofs.lemmas.Bool.cases_lt, specs.Option.option_or}
use Rattle.unit_streams.proofs.{Accepted.leads_length, Fronts.whole_some, Units.unit_quiet}
use Rattle.unit_streams.proofs.Histories.{events_in_none, history_along, history_behind}
use Rattle.unit_streams.proofs.Histories.{history_ends, history_refused, quiet_events}
use Rattle.unit_streams.proofs.Passing.{going_refusal, refusal_from, whole_refusal}
use Rattle.unit_streams.proofs.Units.{between_first, between_going, between_place, Brings}
use Rattle.unit_streams.proofs.Units.{IsBetween, short_below, unit_decides, units_bring}
use Rattle.unit_streams.specs.Front.{begun, Front, whole, wrong}
use Rattle.unit_streams.specs.{Going.IsGoing, Going.IsQuiet, Judging.history}
use Rattle.unit_streams.specs.Grammar.{Grammar, Standing, standing, with_more}
use Rattle.unit_streams.specs.Judging.{ending_at, history_from, led_by, only, refusal_at}
use Rattle.unit_streams.specs.Units.{Counted, events_along, size_of, UnitsLead}
use Rattle.line_notation.specs.Lines.{cut, has_no_feed}
use Rattle.line_streams.specs.LineRules.{end_refused, IsSilent, length_refused, line_at, LineRules}
use Rattle.line_streams.specs.LineRules.{lines_by}
use Rattle.line_streams.proofs.Cutting.{behind_lines as behind_all, cut_append, free_cut}
use Rattle.line_streams.proofs.LineFacts.{begun_no_feed, cut_line, free_take, long_enough}
use Rattle.line_streams.proofs.LineFacts.{never_wrong, readable, short_enough}
use Rattle.line_streams.proofs.LineSteps.{begins_going, begins_quiet, begins_standing}

module _ {Z E R : Type 0} (x : LineRules Z E R) where
  abbrev pub g : Grammar Z (List ℕ) E R
  g = lines_by x

  -- ---- how far the lines lead that aren't refused

  -- why they lead no further: a line is refused, or the bytes are as many as are too many, or there
  -- is no line more
  pub data Stop (z : Z) (from : ℕ) (rest : List ℕ) : Type 0 where
    refuses : (line : List ℕ) (n : ℕ) (fault : R) → line_at {R = R} rest ≡ whole line n
        → from + n ≤ x.most → x.refused z line ≡ Some fault → Stop z from rest
    fills : (k : ℕ) → k ≤ length rest → has_no_feed (take k rest) ≡ true
        → from + k ≡ x.most → Stop z from rest
    goes_out : line_at {R = R} rest ≡ begun → from + length rest < x.most → Stop z from rest

  pub record Walk (z : Z) (from : ℕ) (bytes : List ℕ) : Type 0 where
    pub units : List (Counted (List ℕ))
    pub situation : Z
    pub rest : List ℕ
    pub lead : UnitsLead g z from units bytes situation rest
    pub within : from + size_of units ≤ x.most
    pub few : length units ≤ size_of units
    pub stop : Stop situation (from + size_of units) rest

  stopped : (z : Z) (from : ℕ) (bytes : List ℕ) → from ≤ x.most → Stop z from bytes
      → Walk z from bytes
  unfolding UnitsLead size_of
  stopped z from bytes low stop = record {
    units = [];
    situation = z;
    rest = bytes;
    lead = (refl, refl);
    within = omega (arith, low);
    few = omega arith;
    stop = subst (λ (n : ℕ). Stop z n bytes) (omega arith) stop;
  }

  further : (z : Z) (from : ℕ) (bytes line : List ℕ) (n : ℕ) → line_at {R = R} bytes ≡ whole line n
      → 0 < n → x.refused z line ≡ None
      → Walk (g.after z from line) (from + n) (drop n bytes) → Walk z from bytes
  unfolding UnitsLead size_of
  further z from bytes line n is some none w = record {
    units = record { unit = line; size = n } ∷ w.units;
    situation = w.situation;
    rest = w.rest;
    lead = (is, none, w.lead);
    within = let low = w.within in omega (arith, low);
    few = let less = w.few in omega (arith, less, some);
    stop = subst (λ (m : ℕ). Stop w.situation m w.rest) (omega arith) w.stop;
  }

  pub some_of : (z : Z) (from : ℕ) (bytes line : List ℕ) (n : ℕ)
      → line_at {R = R} bytes ≡ whole line n → (0 < n) × (n ≤ length bytes)
  some_of z from bytes line n is =
      whole_some line_at ((readable x).reads z from) refl bytes line n is

  -- a line, and then what comes behind it
  step : (z : Z) (from : ℕ) (bytes : List ℕ) → from ≤ x.most
      → ((line : List ℕ) (n : ℕ) → line_at {R = R} bytes ≡ whole line n → from + n ≤ x.most
      → Walk (g.after z from line) (from + n) (drop n bytes))
      → Walk z from bytes
  step z from bytes low next = by_line (line_at bytes) refl where
    full : (k : ℕ) → k ≤ length bytes → has_no_feed (take k bytes) ≡ true
        → from + k ≡ x.most → Walk z from bytes
    full k within free fills_it = stopped z from bytes low (fills k within free fills_it)

    by_refusal : (line : List ℕ) (n : ℕ) → line_at {R = R} bytes ≡ whole line n
        → from + n ≤ x.most → (v : Option R) → x.refused z line ≡ v → Walk z from bytes
    by_refusal line n is fits (Some fault) v =
        stopped z from bytes low (refuses line n fault is fits v)
    by_refusal line n is fits None v = further z from bytes line n is
        (some_of z from bytes line n is).0 v (next line n is fits)

    by_line : (v : Front (List ℕ) R) → line_at bytes ≡ v → Walk z from bytes
    by_line begun is =
        elim (cases_lt (from + length bytes) x.most) [
          | inl less ↦ stopped z from bytes low (goes_out is less)
          | inr ge ↦
              let k : ℕ = x.most - from in
              full k (omega (arith, ge, low)) (free_take k bytes (begun_no_feed bytes is))
              (omega (arith, low))
        ]
    by_line (wrong fault n) is = absurd (never_wrong bytes fault n is)
    by_line (whole line n) is =
        let some = some_of z from bytes line n is in
        elim (cases_lt x.most (from + n)) [
          | inl over ↦
              let k : ℕ = x.most - from in
              let before = ((readable x).reads z from).whole_first bytes line n k is (omega
              (arith, over, low)) in
              full k (omega (arith, over, low, some.1)) (begun_no_feed (take k bytes) before)
              (omega (arith, low))
          | inr fits ↦ by_refusal line n is fits (x.refused z line) refl
        ]

  pub walk : (fuel : ℕ) (z : Z) (from : ℕ) (bytes : List ℕ) → length bytes ≤ fuel
      → from ≤ x.most → Walk z from bytes
  walk zero z from bytes few low = step z from bytes low
      (λ line n is fits. let some = some_of z from bytes line n is in absurd
      (omega (arith, few, some.0, some.1)))
  walk (suc fuel) z from bytes few low = step z from bytes low
      (λ line n is fits.
      let some = some_of z from bytes line n is in
      let len = length-drop n bytes in
      walk fuel (g.after z from line) (from + n) (drop n bytes)
      (omega (arith, len, few, some.0, some.1)) fits)

  -- ---- what the input brings from there on

  module _ (p : List ℕ) (z : Z) (from : ℕ) (at : IsBetween g (readable x) p z from)
      (rest : List ℕ)
    where
      abbrev here : Standing Z E R
      here = standing g p

      going_here : IsGoing g here
      going_here = between_going g (readable x) p z from at

      place : from ≡ length p
      place = between_place g (readable x) p z from at

      -- a line that is refused
      module _ (line : List ℕ) (n : ℕ) (fault : R) (is : line_at {R = R} rest ≡ whole line n)
          (fits : from + n ≤ x.most) (refused : x.refused z line ≡ Some fault)
        where
          short : (i : ℕ) → i < n → g.at_length here.situation here.from (length p + i) ≡ None
          short i lt = short_enough x (length p + i) (omega (arith, lt, fits, place))

          pub refused_at : refusal_at g (p ++ take n rest) ≡ Some fault
          refused_at =
              whole_refusal g (readable x) p rest going_here n
              (unit_decides g (readable x) p z from at rest line n is) short line n
              (ap (λ b. line_at (b ++ rest)) at.begun ∙ is)
              ∙ ap (λ v. option_or v (g.at_length (g.after here.situation here.from line)
              (here.from + n) (length p + n)))
              (ap (λ (y : Z). x.refused y line) at.situation ∙ refused)

          pub at_refusal : IsSilent x → history_from g p rest ≡ only (Some fault)
          at_refusal silent =
              let q = unit_quiet g (readable x) p z from at rest line n is short
              (silent z line fault refused) in
              history_behind g p rest n q.within q.unrefused
              ∙ ap (λ es. led_by es (history_from g (p ++ take n rest) (drop n rest)))
              (quiet_events g p rest n q)
              ∙ history_refused g (p ++ take n rest) (drop n rest) fault refused_at

      -- bytes without a line feed
      module _ (c : List ℕ) (free : has_no_feed c ≡ true) (fits : from + length c ≤ x.most) where
        within_most : length p + length c ≤ x.most
        within_most = omega (arith, fits, place)

        quiet : IsQuiet g p c (length c)
        quiet = begins_quiet x p going_here c free within_most

        stands : standing g (p ++ c) ≡ with_more here c
        stands = begins_standing x p going_here c free within_most

        goes : IsGoing g (with_more here c)
        goes = begins_going x p going_here c free within_most

        size : length (p ++ c) ≡ from + length c
        size = let n = length-append p c in omega (arith, n, place)

        by_length : refusal_at g (p ++ c) ≡ length_refused x (from + length c)
        by_length = refusal_from g (p ++ c) (with_more here c) stands
            ∙ going_refusal g (with_more here c) (length (p ++ c)) goes
            ∙ ap (length_refused x) size

        brings : (d : List ℕ) → history_from g p (c ++ d) ≡ history_from g (p ++ c) d
        brings d =
            history_along g c p d (λ i lt. quiet.unrefused i lt)
            ∙ ap (λ es. led_by es (history_from g (p ++ c) d))
            (events_in_none g c p (λ i some le. quiet.eventless i some le))

      -- as many bytes as are too many
      pub at_most : (k : ℕ) → k ≤ length rest → has_no_feed (take k rest) ≡ true
          → from + k ≡ x.most → history_from g p rest ≡ only (Some x.too_long)
      at_most k within free full =
          let c : List ℕ = take k rest in
          let len = length-take-le k rest within in
          let fits : from + length c ≤ x.most = omega (arith, len, full) in
          let refused = by_length c free fits ∙ long_enough x (from + length c)
          (omega (arith, len, full)) in
          ap (history_from g p) (sym (take-append-drop k rest)) ∙ brings c free fits (drop k rest)
          ∙ history_refused g (p ++ c) (drop k rest) x.too_long refused

      -- the end of the input
      pub at_the_end : line_at {R = R} rest ≡ begun → from + length rest < x.most
          → history_from g p rest ≡ only (end_refused x from (from + length rest) z)
      unfolding ending_at
      at_the_end is less =
          let free = begun_no_feed rest is in
          let fits : from + length rest ≤ x.most = omega (arith, less) in
          let unrefused = by_length rest free fits
          ∙ short_enough x (from + length rest) less in
          ap (history_from g p) (sym (append-nil rest)) ∙ brings rest free fits []
          ∙ history_ends g (p ++ rest) unrefused ∙ ap only (ending free fits)
        where
          ending : (free : has_no_feed rest ≡ true) (fits : from + length rest ≤ x.most)
              → ending_at g (p ++ rest) ≡ end_refused x from (from + length rest) z
          ending free fits =
              let s = stands rest free fits in
              ap (λ (t : Standing Z E R). end_refused x t.from (length (p ++ rest)) t.situation) s
              ∙ ap (λ n. end_refused x here.from n here.situation) (size rest free fits)
              ∙ ap (λ m. end_refused x m (from + length rest) here.situation) at.place
              ∙ ap (λ (y : Z). end_refused x from (from + length rest) y) at.situation

  -- ---- the lines of the bytes

  abbrev pub lines_of : List (Counted (List ℕ)) → List (List ℕ)
  lines_of units = map (λ (one : Counted (List ℕ)). one.unit) units

  pub cuts : (units : List (Counted (List ℕ))) (z : Z) (from : ℕ) (bytes : List ℕ)
      (z' : Z) (rest : List ℕ) → UnitsLead g z from units bytes z' rest
      → cut bytes ≡ (lines_of units ++ (cut rest).0, (cut rest).1)
  unfolding UnitsLead
  cuts [] z from bytes z' rest l = ap cut l.1
  cuts (one ∷ units) z from bytes z' rest l =
      cut_line {R = R} bytes one.unit one.size l.0
      ∙ ap (λ (c : List (List ℕ) × List ℕ). (one.unit ∷ c.0, c.1))
      (cuts units (g.after z from one.unit) (from + one.size) (drop one.size bytes) z' rest l.2)

  pub line_alone : (z : Z) (from : ℕ) (bytes line : List ℕ) (n : ℕ)
      → line_at {R = R} bytes ≡ whole line n → cut (take n bytes) ≡ (line ∷ [], [])
  line_alone z from bytes line n is =
      let all : n ≡ n + 0 = omega arith in
      cut_line {R = R} (take n bytes) line n
      (((readable x).reads z from).whole_alone bytes line n is)
      ∙ ap (λ (r : List ℕ). (line ∷ (cut r).0, (cut r).1))
      (ap (λ (j : ℕ). drop n (take j bytes)) all ∙ drop-take n 0 bytes)

  -- and those of first bytes, of which the last have no line feed
  pub led_cut : (units : List (Counted (List ℕ))) (z : Z) (from : ℕ) (bytes : List ℕ)
      (z' : Z) (rest : List ℕ) → UnitsLead g z from units bytes z' rest → (k : ℕ)
      → has_no_feed (take k rest) ≡ true
      → cut (take (size_of units + k) bytes) ≡ (lines_of units, take k rest)
  unfolding UnitsLead size_of
  led_cut [] z from bytes z' rest l k free =
      let none : 0 + k ≡ k = omega arith in
      ap (λ (j : ℕ). cut (take j bytes)) none ∙ ap (λ (b : List ℕ). cut (take k b)) l.1
      ∙ free_cut (take k rest) free
  led_cut (one ∷ units) z from bytes z' rest l k free =
      let n : ℕ = one.size in
      let m : ℕ = size_of units + k in
      let sum : n + size_of units + k ≡ n + m = omega arith in
      let tail : List ℕ = take m (drop n bytes) in
      ap (λ (j : ℕ). cut (take j bytes)) sum ∙ ap cut (take-add n m bytes)
      ∙ cut_append (take n bytes) tail
      ∙ ap (λ (c : List (List ℕ) × List ℕ). behind_all c.0 (cut (c.1 ++ tail)))
      (line_alone z from bytes one.unit n l.0)
      ∙ ap (behind_all (one.unit ∷ []))
      (led_cut units (g.after z from one.unit) (from + n) (drop n bytes) z' rest l.2 k free)

  -- ---- all of the input

  module _ (bytes : List ℕ) where
    pub all_lines : Walk x.start 0 bytes
    all_lines = walk (length bytes) x.start 0 bytes (omega arith) (omega arith)

    pub brought : Brings g (readable x) [] x.start 0 all_lines.units bytes all_lines.situation
        all_lines.rest
    brought = units_bring g (readable x) all_lines.units [] x.start 0 bytes all_lines.situation
        all_lines.rest (between_first g (readable x)) all_lines.lead
        (short_below g (readable x) x.most (λ y from n lt. short_enough x n lt) all_lines.units
        x.start 0 all_lines.within)

    pub total : length bytes ≡ size_of all_lines.units + length all_lines.rest
    total = leads_length g (readable x) all_lines.units x.start 0 bytes all_lines.situation
        all_lines.rest all_lines.lead

    -- the history is the events of the lines, and then this refusal
    pub history_so : (fault : Option R)
        → history_from g ([] ++ take (size_of all_lines.units) bytes) all_lines.rest ≡ only fault
        → history g bytes
        ≡ record { events = events_along g x.start 0 all_lines.units; offence = fault }
    unfolding history
    history_so fault is =
        brought.history ∙ ap (led_by (events_along g x.start 0 all_lines.units)) is
        ∙ ap (λ (es : List E). record { events = es; offence = fault })
        (append-nil (events_along g x.start 0 all_lines.units))

    -- the lines of all of it are those, and those of the rest
    pub all_cut : cut bytes
        ≡ (lines_of all_lines.units ++ (cut all_lines.rest).0, (cut all_lines.rest).1)
    all_cut = cuts all_lines.units x.start 0 bytes all_lines.situation all_lines.rest
        all_lines.lead

    -- where the rest has no line, it is what is left of all of it
    module _ (is : line_at {R = R} all_lines.rest ≡ begun) where
      pub rest_cut : cut all_lines.rest ≡ ([], all_lines.rest)
      rest_cut = free_cut all_lines.rest (begun_no_feed all_lines.rest is)

      pub no_line_left : (cut all_lines.rest).0 ≡ []
      no_line_left = ap (λ (c : List (List ℕ) × List ℕ). c.0) rest_cut

      pub bytes_left : (cut bytes).1 ≡ all_lines.rest
      bytes_left =
          ap (λ (c : List (List ℕ) × List ℕ). c.1) all_cut
          ∙ ap (λ (c : List (List ℕ) × List ℕ). c.1) rest_cut

      -- it has bytes, or none
      module _ (from : ℕ) where
        pub some_left : nat_lt from (from + length all_lines.rest) ≡ true → (cut bytes).1 ≡ []
            → ⊥
        some_left e none =
            let less = ltb-true from (from + length all_lines.rest) e in
            let nothing : length all_lines.rest ≡ 0 = ap length (sym bytes_left ∙ none) in
            omega (arith, less, nothing)

        pub nothing_left : nat_lt from (from + length all_lines.rest) ≡ false → (cut bytes).1 ≡ []
        nothing_left e =
            let le = ltb-false from (from + length all_lines.rest) e in
            bytes_left ∙ nil_from_length all_lines.rest (omega (arith, le))
