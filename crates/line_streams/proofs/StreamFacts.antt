-- What bytes of a line are answered with, and what holds before the first byte and behind the last.
use Rattle.std.proofs.Common.{◌≡◌, ℕ, suc, ◌+◌, ◌<◌, ◌≤◌, Bool, true, not, List, [], ◌∷◌, ◌++◌}
use Rattle.std.proofs.Common.{length, take, drop, OnOk, nat_lt, ◌==◌, Some, None, Ok, Err, Option}
use Rattle.std.proofs.Common.{Result, sym, refl, ap, ◌∙◌, subst, arith, length-append}
use Rattle.std.proofs.Common.{length-take-le, eqb-true, le-ltb, lt-ltb, ne_eqb}
use Rattle.std.proofs.{Math.Seq.take-length, lemmas.List.nil_from_length}
use Rattle.unit_streams.proofs.Standing.{standing_length, standing_nothing}
use Rattle.unit_streams.specs.Going.{IsGoing, IsQuiet, IsQuietBefore}
use Rattle.unit_streams.specs.Grammar.{Grammar, Standing, standing}
use Rattle.unit_streams.specs.Judging.{ending_at, event_at, refusal_at}
use Rattle.line_notation.specs.Lines.{has_no_feed}
use Rattle.stream_loop.specs.declared.reading_end.FeedFault.{FeedFault}
use Rattle.stream_loop.specs.declared.reading_end.FeedFault.TheVariants.{Memory, Refused}
use Rattle.line_streams.specs.LineRules.{IsSilent, LineRules, lines_by}
use Rattle.line_streams.specs.LineStreamState.{LineAnswers, Reached}
use Rattle.line_streams.proofs.{Finding.IsLineEnd, LineFacts.readable}
use Rattle.line_streams.proofs.LineSteps.{begins_going, begins_quiet, begins_standing, ends_event}
use Rattle.line_streams.proofs.LineSteps.{ends_quiet, ends_quiet_before, ends_refused}
use Rattle.line_streams.proofs.LineSteps.{ends_standing, ends_within}

-- what n bytes at the front of c are answered with, behind p, and what was read then
module _ {Z E R : Type 0} (x : LineRules Z E R) where
  abbrev pub UnitAnswers : (p c : List ℕ) → (n : ℕ) → (Now : List ℕ → Type 0)
      → Result (Option E) (FeedFault R) → Type 0
  UnitAnswers p c n Now (Ok None) = IsQuiet (lines_by x) p c n × Now (p ++ take n c)
  UnitAnswers p c n Now (Ok (Some event)) = (0 < n) × IsQuietBefore (lines_by x) p c n
      × (event_at (lines_by x) (p ++ take n c) ≡ Some event) × Now (p ++ take n c)
  UnitAnswers p c n Now (Err (Refused fault)) = IsQuiet (lines_by x) p c n
      × (refusal_at (lines_by x) (p ++ take n c) ≡ Some fault)
  UnitAnswers p c n Now (Err Memory) = Unit {0}

-- of a reader that has read p, and what it has read then
module _ {Z E R : Type 0} (x : LineRules Z E R) (silent : IsSilent x) (IsIn IsIn' : Z → Type 0)
    (begun begun' : List ℕ) (taken taken' : ℕ) where
  abbrev pub Now : List ℕ → Type 0
  Now = Reached x IsIn' begun' taken'

  module _ (p c : List ℕ) (h : Reached x IsIn begun taken p) where
    abbrev g : Grammar Z (List ℕ) E R
    g = lines_by x

    abbrev here : Standing Z E R
    here = standing g p

    -- bytes up to a line feed
    module _ (a more : List ℕ) (split : c ≡ a ++ 10 ∷ more) (free : has_no_feed a ≡ true)
        (fits : taken + suc (length a) ≤ x.most) (more_taken : taken' ≡ taken + suc (length a))
      where
        abbrev line : List ℕ
        line = here.begun ++ a

        room : length p + suc (length a) ≤ x.most
        room = let used = h.taken_is in omega (arith, fits, used)

        line_reached : begun' ≡ [] → x.refused here.situation line ≡ None
            → IsIn' (x.after here.situation line) → Now (p ++ take (suc (length a)) c)
        line_reached none good in_it =
            let n : ℕ = suc (length a) in
            let s = ends_standing x p h.going c a more split free room in
            let within = ends_within x p h.going c a more split free room in
            let size = length-append p (take n c) in
            let cut = length-take-le n c within in
            let used = h.taken_is in
            record {
              at = subst IsIn' (sym (ap (λ (t : Standing Z E R). t.situation) s)) in_it;
              begun_is = none ∙ sym (ap (λ (t : Standing Z E R). t.begun) s);
              taken_is = omega (arith, more_taken, used, size, cut);
              going = subst (IsGoing g) (sym s) (record { next = refl; last = good });
            }

        pub line_answered : (result : Result (Option E) (FeedFault R))
            → LineAnswers x IsIn' here.situation line result → OnOk result (begun' ≡ [])
            → UnitAnswers x p c (suc (length a)) Now result
        line_answered (Ok None) l none =
            (ends_quiet x p h.going c a more split free room l.1, line_reached none l.0 l.2)
        line_answered (Ok (Some event)) l none = (
          omega arith,
          ends_quiet_before x p h.going c a more split free room,
          ends_event x p h.going c a more split free room ∙ l.1,
          line_reached none l.0 l.2,
        )
        line_answered (Err (Refused fault)) l none = (
          ends_quiet x p h.going c a more split free room (silent here.situation line fault l),
          ends_refused x p h.going c a more split free room fault l,
        )
        line_answered (Err Memory) l none = tt

    -- bytes of a line that goes on
    module _ (free : has_no_feed c ≡ true) (fits : taken + length c ≤ x.most)
        (more_taken : taken' ≡ taken + length c)
      where
        pub begin_answered : ((z : Z) → IsIn z → IsIn' z) → begun' ≡ begun ++ c
            → UnitAnswers x p c (length c) Now (Ok None)
        begin_answered same more_begun =
            let used = h.taken_is in
            let space : length p + length c ≤ x.most = omega (arith, fits, used) in
            let s = begins_standing x p h.going c free space in
            let size = length-append p c in
            let there : Now (p ++ c) = record {
              at = subst IsIn' (sym (ap (λ (t : Standing Z E R). t.situation) s))
                  (same here.situation h.at);
              begun_is = more_begun ∙ ap (λ d. d ++ c) h.begun_is
                  ∙ sym (ap (λ (t : Standing Z E R). t.begun) s);
              taken_is = omega (arith, more_taken, used, size);
              going = subst (IsGoing g) (sym s) (begins_going x p h.going c free space);
            } in (
              begins_quiet x p h.going c free space,
              subst (λ (d : List ℕ). Now (p ++ d)) (sym (take-length c)) there,
            )

  -- ---- by a search for a line feed in them

  module _ (c : List ℕ) (fits : taken + length c ≤ x.most) where
    -- wherever it has read so far
    abbrev pub Answered : (n : ℕ) → Result (Option E) (FeedFault R) → Type 0
    Answered n result = (p : List ℕ) → Reached x IsIn begun taken p
        → UnitAnswers x p c n Now result

    pub unit_line : (k : ℕ) → IsLineEnd c k → k ≤ length c → taken' ≡ taken + (k + 1)
        → (result : Result (Option E) (FeedFault R)) → OnOk result (begun' ≡ [])
        → ((z : Z) → IsIn z → LineAnswers x IsIn' z (begun ++ take k c) result)
        → Answered (k + 1) result
    unit_line k found within more_taken result none answers p h =
        let a : List ℕ = take k c in
        let cut : length a ≡ k = length-take-le k c within in
        let count : suc (length a) ≡ k + 1 = omega (arith, cut) in
        let whole = ap length (found.split) ∙ length-append a (10 ∷ drop (suc k) c) in
        let situation : Z = (standing (lines_by x) p).situation in
        let told = subst (λ (b : List ℕ). LineAnswers x IsIn' situation (b ++ a) result)
        h.begun_is (answers situation h.at) in
        subst (λ (n : ℕ). UnitAnswers x p c n Now result) count
        (line_answered p c h a (drop (suc k) c) found.split found.free
        (omega (arith, fits, whole)) (omega (arith, more_taken, cut)) result told none)

    pub unit_begin : has_no_feed c ≡ true → taken' ≡ taken + length c
        → ((z : Z) → IsIn z → IsIn' z) → begun' ≡ begun ++ c
        → Answered (length c) (Ok None)
    unit_begin free more_taken same more_begun p h =
        begin_answered p c h free fits more_taken same more_begun

-- ---- before the first byte, and behind the last

module _ {Z E R : Type 0} (x : LineRules Z E R) (IsIn : Z → Type 0) where
  pub starts : (begun : List ℕ) (taken : ℕ) → begun ≡ [] → taken ≡ 0 → IsIn x.start
      → Reached x IsIn begun taken []
  starts begun taken none zero first =
      let s = standing_nothing (lines_by x) (readable x) in
      record {
        at = subst (λ (t : Standing Z E R). IsIn t.situation) (sym s) first;
        begun_is = none ∙ sym (ap (λ (t : Standing Z E R). t.begun) s);
        taken_is = zero;
        going = subst (IsGoing (lines_by x)) (sym s) (record { next = refl; last = refl });
      }

  module _ (begun : List ℕ) (taken : ℕ) (p : List ℕ) (h : Reached x IsIn begun taken p) where
    abbrev end : Standing Z E R
    end = standing (lines_by x) p

    within_by : (held : List ℕ) → held ≡ end.begun
        → nat_lt end.from (length p) ≡ not (length held == 0)
    within_by [] e =
        let n = standing_length (lines_by x) (readable x) p in
        let none = ap length e in
        le-ltb end.from (length p) (omega (arith, n, none))
    within_by (b ∷ more) e =
        let n = standing_length (lines_by x) (readable x) p in
        let some = ap length e in
        lt-ltb end.from (length p) (omega (arith, n, some))
        ∙ ap not (sym (ne_eqb (length (b ∷ more)) 0 (λ none. omega (arith, none))))

    -- the end of the input is answered as the rules say
    pub ends_so : (empty : Bool) → empty ≡ (length begun == 0)
        → x.at_end (not empty) end.situation ≡ ending_at (lines_by x) p
    unfolding ending_at
    ends_so empty is =
        ap (λ v. x.at_end v end.situation)
        (ap not is ∙ sym (within_by begun h.begun_is))

-- no byte of an unfinished line is held
pub nothing_begun : (begun : List ℕ) (empty : Bool) → empty ≡ (length begun == 0) → empty ≡ true
    → begun ≡ []
nothing_begun begun empty is so =
    nil_from_length begun (let none = eqb-true (length begun) 0 (sym is ∙ so) in omega
    (arith, none))
