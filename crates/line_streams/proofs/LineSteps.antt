-- What a piece brings behind others: bytes of a line that goes on, or up to its line feed.
use Rattle.std.proofs.Common.{◌≡◌, ℕ, suc, ◌+◌, ◌<◌, ◌≤◌, true, List, [], ◌∷◌, ◌++◌, length, take}
use Rattle.std.proofs.Common.{Some, None, Option, sym, refl, ap, ◌∙◌, subst, inl, inr}
use Rattle.std.proofs.Common.{append_assoc, arith, length-append}
use Rattle.std.proofs.{lemmas.List.Folds.list_all-append}
use Rattle.{std.specs.Option.option_or, unit_streams.proofs.Fronts.leaves_or_decides}
use Rattle.unit_streams.proofs.Passing.{decides_quiet, leaves_quiet}
use Rattle.unit_streams.proofs.Passing.{leaves_standing, whole_event, whole_quiet}
use Rattle.unit_streams.proofs.Passing.{whole_refusal, whole_standing}
use Rattle.unit_streams.proofs.{Peeling.Decides, Peeling.extent, Peeling.Leaves}
use Rattle.unit_streams.specs.{Front.whole, Going.IsGoing, Going.IsQuiet, Going.IsQuietBefore}
use Rattle.unit_streams.specs.Grammar.{behind_unit, Grammar, Standing, standing, with_more}
use Rattle.unit_streams.specs.Judging.{event_at, given_at}
use Rattle.unit_streams.specs.{Judging.refusal_at}
use Rattle.line_notation.specs.Lines.{has_no_feed}
use Rattle.line_streams.specs.LineRules.{line_at, LineRules, lines_by}
use Rattle.line_streams.proofs.LineFacts.{begun_no_feed, feed_whole, no_feed_begun}
use Rattle.line_streams.proofs.LineFacts.{readable, short_enough}

module _ {Z E R : Type 0} (x : LineRules Z E R) (p : List ℕ) where
  abbrev g : Grammar Z (List ℕ) E R
  g = lines_by x

  abbrev here : Standing Z E R
  here = standing g p

  module _ (going : IsGoing g here) where
    begun_free : has_no_feed here.begun ≡ true
    begun_free = begun_no_feed here.begun going.next

    joined_free : (a : List ℕ) → has_no_feed a ≡ true → has_no_feed (here.begun ++ a) ≡ true
    joined_free a free = list_all-append _ here.begun a ∙ rw (begun_free, free) refl

    -- bytes without a line feed
    module _ (c : List ℕ) (free : has_no_feed c ≡ true) (fits : length p + length c ≤ x.most) where
      leaves : Leaves {R = R} line_at here.begun c
      leaves =
          elim (leaves_or_decides line_at ((readable x).reads here.situation here.from) here.begun
          c going.next) [
            | inl l ↦ l
            | inr d ↦
                let none : extent (line_at {R = R} (here.begun ++ c)) ≡ 0
                = ap extent (no_feed_begun (here.begun ++ c) (joined_free c free)) in
                absurd (let e = d.1.extent_is in let some = d.1.some in omega
                (arith, e, none, some))
          ]

      short_on : (i : ℕ) → i < length c → g.at_length here.situation here.from (length p + i) ≡ None
      short_on i lt = short_enough x (length p + i) (omega (arith, lt, fits))

      pub begins_quiet : IsQuiet g p c (length c)
      begins_quiet = leaves_quiet g (readable x) p c going leaves short_on

      pub begins_standing : standing g (p ++ c) ≡ with_more here c
      begins_standing = leaves_standing g (readable x) p c going leaves short_on

      given_more : (b c : List ℕ) → given_at b here.refusal ≡ None
          → given_at (b ++ c) here.refusal ≡ None
      given_more [] [] none = none
      given_more [] (y ∷ c) none = refl
      given_more (y ∷ b) c none = refl

      pub begins_going : IsGoing g (with_more here c)
      begins_going = record {
        next = no_feed_begun (here.begun ++ c) (joined_free c free);
        last = given_more here.begun c going.last;
      }

    -- bytes up to a line feed, and that
    module _ (c a more : List ℕ) (split : c ≡ a ++ 10 ∷ more) (free : has_no_feed a ≡ true)
        (fits : length p + suc (length a) ≤ x.most)
      where
        abbrev line : List ℕ
        line = here.begun ++ a

        abbrev n : ℕ
        n = suc (length a)

        -- what refuses the line, and what it brings
        abbrev refused : Option R
        refused = x.refused here.situation line

        abbrev brings : Option E
        brings = x.brings here.situation line

        is_whole : line_at {R = R} (here.begun ++ c) ≡ whole line (length line + 1)
        is_whole =
            ap (λ d. line_at (here.begun ++ d)) split
            ∙ ap line_at (sym (append_assoc here.begun a (10 ∷ more)))
            ∙ feed_whole line more (joined_free a free)

        decides : Decides {R = R} line_at here.begun c n
        decides =
            elim (leaves_or_decides line_at ((readable x).reads here.situation here.from) here.begun
            c going.next) [
              | inl l ↦ absurd (let none = l.at_end in let w = is_whole in cc)
              | inr d ↦
                  let size : length here.begun + d.0 ≡ length line + 1
                  = sym d.1.extent_is ∙ ap extent is_whole in
                  let len = length-append here.begun a in
                  let same : d.0 ≡ n = omega (arith, size, len) in
                  subst (λ (m : ℕ). Decides {R = R} line_at here.begun c m) same d.1
            ]

        short : (i : ℕ) → i < n → g.at_length here.situation here.from (length p + i) ≡ None
        short i lt = short_enough x (length p + i) (omega (arith, lt, fits))

        pub ends_quiet_before : IsQuietBefore g p c n
        ends_quiet_before = decides_quiet g (readable x) p c going n decides short

        pub ends_within : n ≤ length c
        ends_within = decides.within

        pub ends_standing : standing g (p ++ take n c)
            ≡ record (behind_unit g here line (length line + 1)) { begun = [] }
        ends_standing = whole_standing g (readable x) p c going n decides short line
            (length line + 1) is_whole

        pub ends_event : event_at g (p ++ take n c) ≡ brings
        ends_event = whole_event g (readable x) p c going n decides short line (length line + 1)
            is_whole

        pub ends_quiet : brings ≡ None → IsQuiet g p c n
        ends_quiet none = whole_quiet g (readable x) p c going n decides short line
            (length line + 1) is_whole none

        pub ends_refused : (r : R) → refused ≡ Some r → refusal_at g (p ++ take n c) ≡ Some r
        ends_refused r is =
            whole_refusal g (readable x) p c going n decides short line (length line + 1) is_whole
            ∙ ap (λ (v : Option R). option_or v (g.at_length
            (g.after here.situation here.from line) (here.from + (length line + 1))
            (length p + n))) is
