-- A reader takes a piece, line by line.
use Rattle.std.proofs.Common.{◌≡◌, ℕ, ◌+◌, ◌-◌, ◌<◌, ◌≤◌, true, false, List, ◌++◌, length, take}
use Rattle.std.proofs.Common.{drop, is_some, Some, None, Ok, Err, Option, Result, sym, refl, ap}
use Rattle.std.proofs.Common.{◌∙◌, subst, inl, inr, append_assoc, append-nil, arith, length-drop}
use Rattle.std.proofs.Common.{take-append-drop, length-take-le}
use Rattle.std.proofs.{Math.Seq.take-add, Math.Seq.take-length, lemmas.List.take-append-le}
use Rattle.std.proofs.lemmas.Bool.{cases_lt}
use Rattle.unit_streams.proofs.{Answers.answers_are_first, Answers.quiet_none, Quiet.quiet_joined}
use Rattle.unit_streams.proofs.Passing.{going_refusal, refusal_from}
use Rattle.unit_streams.proofs.Quiet.{quiet_before_behind, quiet_before_joined, quiet_behind}
use Rattle.unit_streams.specs.Going.{IsQuiet, IsQuietBefore}
use Rattle.unit_streams.specs.Grammar.{Grammar, standing}
use Rattle.unit_streams.specs.Judging.{answer, completes, event_at, goes_on, offends, refusal_at}
use Rattle.stream_loop.specs.{declared.reading_end.FeedFault.FeedFault, Answers.said, Answers.Says}
use Rattle.stream_loop.specs.declared.reading_end.FeedFault.TheVariants.{Memory, Refused}
use Rattle.line_streams.specs.LineRules.{LineRules, lines_by}
use Rattle.line_streams.specs.LineStreamState.{PieceAnswers, Reached}
use Rattle.line_streams.proofs.{LineFacts.long_enough, LineFacts.short_enough}
use Rattle.line_streams.proofs.{StreamFacts.UnitAnswers}

-- the bytes that may be read on, and those behind them
module _ (piece : List ℕ) (used room : ℕ) where
  abbrev pub unread : List ℕ
  unread = take (room - used) (drop used piece)

  abbrev pub behind : List ℕ
  behind = drop (room - used) (drop used piece)

  pub split_unread : drop used piece ≡ unread ++ behind
  split_unread = sym (take-append-drop (room - used) (drop used piece))

  pub unread_length : used ≤ room → room ≤ length piece → length unread ≡ room - used
  unread_length le within = length-take-le (room - used) (drop used piece)
      (let n = length-drop used piece in omega (arith, le, within, n))

  -- the first of those that may be read on
  pub unread_front : (n : ℕ) → n ≤ length unread
      → take (used + n - used) (drop used piece) ≡ take n unread
  unread_front n within =
      ap (λ m. take m (drop used piece)) (let same : used + n - used ≡ n = omega arith in same)
      ∙ ap (take n) split_unread ∙ take-append-le n unread behind within

-- it has come k bytes of y behind p, which decided nothing
pub record Along {Z E R : Type 0} (x : LineRules Z E R) (Here : List ℕ → Type 0) (p y : List ℕ)
    (k : ℕ) : Type 0 where
  pub reached : Here (p ++ take k y)
  pub quiet : IsQuiet (lines_by x) p y k

module _ {Z E R : Type 0} (x : LineRules Z E R) (p y : List ℕ) where
  abbrev g : Grammar Z (List ℕ) E R
  g = lines_by x

  -- what a piece is answered with
  abbrev pub Answers : Result (ℕ × Option E) (FeedFault R) → Type 0
  Answers result = Says (λ (e : E). e) (length y) (answer g p y) result

  pub along_none : (Here : List ℕ → Type 0) → Here p → Along x Here p y 0
  along_none Here h = record {
    reached = subst Here (sym (append-nil p)) h;
    quiet = quiet_none g p y;
  }

  module _ (IsIn : Z → Type 0) (begun : List ℕ) (taken k : ℕ)
      (a : Along x (Reached x IsIn begun taken) p y k) where
    abbrev here : List ℕ
    here = p ++ take k y

    -- what so many bytes of the input are refused for, if for anything
    here_refusal : refusal_at g here
        ≡ g.at_length (standing g here).situation (standing g here).from (length here)
    here_refusal = refusal_from g here (standing g here) refl
        ∙ going_refusal g (standing g here) (length here) a.reached.going

    -- nothing more is asked of as many bytes as are too many
    pub along_too_long : x.most ≤ taken → Answers (Err (Refused x.too_long))
    along_too_long long =
        let all = a.reached.taken_is in
        let refused = here_refusal ∙ long_enough x (length here) (omega (arith, long, all)) in
        sym (ap (said (λ (e : E). e) (length y)) ((answers_are_first g p y
        (offends k x.too_long)).1 (a.quiet, refused)))

    -- the piece is used up
    pub along_end : k ≡ length y → taken < x.most → Answers (Ok (k, None))
    along_end all short =
        let count = a.reached.taken_is in
        let whole : here ≡ p ++ y
        = ap (λ c. p ++ c) (ap (λ n. take n y) all ∙ take-length y) in
        let unrefused = here_refusal ∙ short_enough x (length here) (omega (arith, short, count)) in
        ap (λ n. Ok (n, None)) all ∙ sym (ap (said (λ (e : E). e) (length y))
        ((answers_are_first g p y goes_on).1 (
          subst (λ (n : ℕ). IsQuiet g p y n) all a.quiet,
          ap (refusal_at g) (sym whole) ∙ unrefused,
        )))

    -- n bytes more, of those up to `room`
    module _ (room : ℕ) (Now : List ℕ → Type 0) where
      abbrev c : List ℕ
      c = unread y k room

      abbrev more : List ℕ
      more = behind y k room

      split : drop k y ≡ c ++ more
      split = split_unread y k room

      taken_so : (n : ℕ) → n ≤ length c → here ++ take n c ≡ p ++ take (k + n) y
      taken_so n le =
          append_assoc p (take k y) (take n c)
          ∙ ap (λ d. p ++ (take k y ++ d)) (sym (ap (take n) split ∙ take-append-le n c more le))
          ∙ ap (λ d. p ++ d) (sym (take-add k n y))

      quiet_so : (n : ℕ) → IsQuiet g here c n → IsQuiet g p y (k + n)
      quiet_so n q = quiet_joined g p y k n a.quiet
          (subst (λ (d : List ℕ). IsQuiet g here d n) (sym split) (quiet_behind g here c more n q))

      quiet_before_so : (n : ℕ) → IsQuietBefore g here c n → IsQuietBefore g p y (k + n)
      quiet_before_so n q = quiet_before_joined g p y k n a.quiet
          (subst (λ (d : List ℕ). IsQuietBefore g here d n) (sym split)
          (quiet_before_behind g here c more n q))

      pub along_more : (n : ℕ) (v : Option E) → is_some v ≡ false
          → UnitAnswers x here c n Now (Ok v) → Along x Now p y (k + n)
      along_more n None none u = record {
        reached = subst Now (taken_so n u.0.within) u.1;
        quiet = quiet_so n u.0;
      }
      along_more n (Some event) none u = cc

      pub along_refused : (n : ℕ) (fault : FeedFault R) → UnitAnswers x here c n Now (Err fault)
          → Answers (Err fault)
      along_refused n (Refused fault) u =
          let refused = ap (refusal_at g) (sym (taken_so n u.0.within)) ∙ u.1 in
          sym (ap (said (λ (e : E). e) (length y)) ((answers_are_first g p y
          (offends (k + n) fault)).1 (quiet_so n u.0, refused)))
      along_refused n Memory u = tt

      -- an event
      pub along_event : (n : ℕ) (v : Option E) → is_some v ≡ true
          → UnitAnswers x here c n Now (Ok v) → PieceAnswers x p y Now (Ok (k + n, v))
      along_event n None some u = cc
      along_event n (Some event) is u =
          let some = u.0 in
          let at = ap (event_at g) (sym (taken_so n u.1.within)) ∙ u.2 in (
            sym (ap (said (λ (e : E). e) (length y)) ((answers_are_first g p y
                (completes (k + n) event)).1 (quiet_before_so n u.1, omega (arith, some), at))),
            subst Now (taken_so n u.1.within) u.3,
          )

-- a piece that fits is used whole
pub all_used : (room len most taken : ℕ) → room ≤ len → (room < len → taken + room ≡ most)
    → taken + room < most → room ≡ len
all_used room len most taken within full short =
    elim (cases_lt room len) [
      | inl less ↦ let past = full less in absurd (omega (arith, past, short))
      | inr le ↦ omega (arith, within, le)
    ]
