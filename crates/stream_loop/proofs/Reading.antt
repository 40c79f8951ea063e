-- How far the reading of a stream has come after a step of it, and how it stops.
use Rattle.std.proofs.Common.{◌≡◌, ℕ, ◌+◌, ◌-◌, ◌<◌, ◌≤◌, Bool, true, false, ◌⊎◌, ◌↔◌, List, []}
use Rattle.std.proofs.Common.{◌∷◌, ◌++◌, length, take, drop, Some, None, Ok, Err, Option, Result}
use Rattle.std.proofs.Common.{sym, refl, ap, ◌∙◌, subst, inl, inr, append_assoc, append-nil, arith}
use Rattle.std.proofs.Common.{length-append, length-take-le, take-append-drop, take_all}
use Rattle.std.proofs.lemmas.{Bool.cases_lt, List.take-take}
use Rattle.std.specs.{Prelude.⊤, Result.result_err}
use Rattle.io_edges.specs.{declared.Failed.Failed, Faults.one_more, Flow.Told}
use Rattle.unit_streams.proofs.Pending.{pending_open}
use Rattle.unit_streams.specs.{Going.IsOpenAt, Going.IsPending, Grammar.Grammar}
use Rattle.unit_streams.specs.Judging.{ending_at, events_in, events_of, is_over_at, refusal_at}
use Rattle.stream_loop.specs.{Answers.EndsWithin, Answers.said_at_end, Edges.Fills, Edges.Input}
use Rattle.stream_loop.specs.Followed.{AreFirst, EndsWell, EndsWith, IsWhole, WasTaken}
use Rattle.stream_loop.specs.Resumed.{Came, HasComeTo, IsOver, RanOut, WasCut, WasHalted}
use Rattle.stream_loop.specs.{Resumed.WasJudged, Steps.HandlesOne}
use Rattle.stream_loop.proofs.Bringing.{first_of_open, whole_at_end}
use Rattle.stream_loop.proofs.Writing.{known_told, told_as}

module _ {Z U E R : Type 0} (g : Grammar Z U E R) (i i' : Input) (stands : List ℕ → Type 0)
    (Handled : List E → List E → Type 0) (p y : List ℕ) (h : HasComeTo g i i' stands Handled p y)
  where
    stream_is : (more : List ℕ) → p ++ (y ++ more) ≡ (h.before ++ h.piece) ++ more
    stream_is more = sym (append_assoc p y more) ∙ ap (λ l. l ++ more) (sym h.joined)

    -- one event more
    one_more_handled : (e : E) → events_of g p ++ e ∷ [] ≡ events_of g h.before
        ++ (h.since ++ e ∷ [])
    one_more_handled e =
        ap (λ l. l ++ e ∷ []) h.events_are ∙ append_assoc (events_of g h.before) h.since (e ∷ [])

    -- the bytes that are left were read, and complete nothing
    pub all_were_read : (stands' : List ℕ → Type 0) (Handled' : List E → List E → Type 0)
        → stands' (p ++ y) → IsOpenAt g (p ++ y) → events_of g (p ++ y) ≡ events_of g p
        → Handled' (events_of g h.before) h.since → HasComeTo g i i' stands' Handled' (p ++ y) []
    all_were_read stands' Handled' here on same handled = record {
      stands_for = here;
      on = on;
      before = h.before;
      piece = h.piece;
      came = h.came;
      joined = h.joined ∙ sym (append-nil (p ++ y));
      since = h.since;
      events_are = same ∙ h.events_are;
      handled = handled;
      no_empty_take = h.no_empty_take;
    }

    -- they show a refusal, or complete the last event
    pub decides : (Handled' : List E → List E → Type 0) (judged : Option R) (since : List E)
        → Handled' (events_of g h.before) since → (es : List E) → es ≡ events_of g h.before ++ since
        → ((more : List ℕ) → IsWhole g es judged (p ++ (y ++ more)))
        → (y' : List ℕ) → (judged ≡ None → (read : List ℕ)
        × (h.before ++ h.piece ≡ read ++ y')
        × EndsWell g read ((y' ≡ []) × IsOver g i i' h.piece))
        → WasJudged g i i' Handled' y' judged
    decides Handled' judged since handled es is whole y' left = record {
      before = h.before;
      piece = h.piece;
      came = h.came;
      since = since;
      handled = handled;
      whole = subst (IsWhole g (events_of g h.before ++ since) judged)
          (append-nil (h.before ++ h.piece)) (all []);
      settled = inr (all, h.no_empty_take);
      left = left;
    } where
      all : (more : List ℕ)
          → IsWhole g (events_of g h.before ++ since) judged ((h.before ++ h.piece) ++ more)
      all more =
          subst (λ (l : List E). IsWhole g l judged ((h.before ++ h.piece) ++ more)) is
          (subst (IsWhole g es judged) (stream_is more) (whole more))

    -- there was no memory to read them
    pub ran_out : (Handled' : List E → List E → Type 0) → Handled' (events_of g h.before) h.since
        → ((more : List ℕ) → AreFirst g (events_of g p) (p ++ more)) → RanOut g i i' Handled'
    ran_out Handled' handled first = record {
      before = h.before;
      piece = h.piece;
      came = h.came;
      since = h.since;
      handled = handled;
      first = λ more.
          subst (λ (l : List E). AreFirst g l ((h.before ++ h.piece) ++ more)) h.events_are
          (subst (AreFirst g (events_of g p)) (stream_is more) (first (y ++ more)));
      no_empty_take = h.no_empty_take;
    }

    -- the first n of them complete an event
    module _ (n : ℕ) (e : E) (within : n ≤ length y)
        (events_are : events_of g (p ++ take n y) ≡ events_of g p ++ e ∷ []) where
      split : h.before ++ h.piece ≡ (p ++ take n y) ++ drop n y
      split = h.joined ∙ ap (λ l. p ++ l) (sym (take-append-drop n y))
          ∙ sym (append_assoc p (take n y) (drop n y))

      -- which was handled
      pub handled_one : (stands' : List ℕ → Type 0) (Handled' : List E → List E → Type 0) → 0 < n
          → stands' (p ++ take n y) → IsOpenAt g (p ++ take n y)
          → Handled' (events_of g h.before) (h.since ++ e ∷ []) → (y' : List ℕ) → y' ≡ drop n y
          → HandlesOne g stands' Handled' i i' p y'
      handled_one stands' Handled' some here on handled y' left = record {
        read = p ++ take n y;
        more = omega (arith, length-append p (take n y), length-take-le n y within, some);
        come = record {
          stands_for = here;
          on = on;
          before = h.before;
          piece = h.piece;
          came = h.came;
          joined = split ∙ ap (λ l. (p ++ take n y) ++ l) (sym left);
          since = h.since ++ e ∷ [];
          events_are = events_are ∙ one_more_handled e;
          handled = handled;
          no_empty_take = h.no_empty_take;
        };
      }

      -- it ends the stream
      pub decides_at : (Handled' : List E → List E → Type 0)
          → Handled' (events_of g h.before) (h.since ++ e ∷ [])
          → ((more : List ℕ) → IsWhole g (events_of g p ++ e ∷ []) None (p ++ (y ++ more)))
          → EndsWith g (p ++ take n y) → (y' : List ℕ) → y' ≡ drop n y
          → WasJudged g i i' Handled' y' None
      decides_at Handled' handled whole ended y' left =
          decides Handled' None (h.since ++ e ∷ []) handled (events_of g p ++ e ∷ [])
          (one_more_handled e) whole y'
          (λ good. (p ++ take n y, split ∙ ap (λ l. (p ++ take n y) ++ l) (sym left), inl ended))

      -- the handler stopped at it
      pub halted_at : (stands' : List ℕ → Type 0) (Halts : Option E → List E → List E → Type 0)
          → stands' (p ++ take n y) → Halts (Some e) (events_of g h.before) h.since
          → (y' : List ℕ) → y' ≡ drop n y
          → ((more : List ℕ) → AreFirst g (events_of g p ++ e ∷ []) (p ++ (y ++ more)))
          → (ends : E → Bool) → (ends e ≡ false → IsOpenAt g (p ++ take n y))
          → (ends e ≡ true → (more : List ℕ)
          → IsWhole g (events_of g p ++ e ∷ []) None (p ++ (y ++ more)))
          → WasHalted g i i' ends stands' Halts y'
      halted_at stands' Halts here halted y' left first ends stays last = record {
        before = h.before;
        piece = h.piece;
        came = h.came;
        since = h.since;
        at = Some e;
        halted = halted;
        first = λ more.
            subst (λ (l : List E). AreFirst g l ((h.before ++ h.piece) ++ more)) es
            (subst (AreFirst g (events_of g p ++ e ∷ [])) (stream_is more) (first more));
        read = p ++ take n y;
        joined = split ∙ ap (λ l. (p ++ take n y) ++ l) (sym left);
        stands_for = here;
        events_are = events_are ∙ es;
        goes_on = by (ends e) refl stays last;
        no_empty_take = h.no_empty_take;
      } where
        es : events_of g p ++ e ∷ [] ≡ (events_of g h.before ++ h.since) ++ e ∷ []
        es = ap (λ l. l ++ e ∷ []) h.events_are

        by : (b : Bool) → ends e ≡ b → (b ≡ false → IsOpenAt g (p ++ take n y))
            → (b ≡ true → (more : List ℕ)
            → IsWhole g (events_of g p ++ e ∷ []) None (p ++ (y ++ more)))
            → IsOpenAt g (p ++ take n y)
            ⊎ (((last : E) × (Some e ≡ Some last) × (ends last ≡ true))
            × ((more : List ℕ) → IsWhole g
            (events_of g (p ++ take n y)) None ((h.before ++ h.piece) ++ more)))
        by false is stays last = inl (stays refl)
        by true is stays last = inr (
          (e, refl, is),
          λ more.
              subst (λ (l : List E). IsWhole g l None ((h.before ++ h.piece) ++ more))
              (sym events_are)
              (subst (IsWhole g (events_of g p ++ e ∷ []) None) (stream_is more) (last refl more)),
        )

-- by the grammar that the end has now, which is the first one
pub by_grammar : {Z U E R : Type 0} (now g : Grammar Z U E R) → now ≡ g
    → (Before After : Grammar Z U E R → Type 0) → (Before now → After now) → Before g → After g
by_grammar now g same Before After step = subst (λ s. Before s → After s) same step

-- what the end of the input is answered with says what it is
pub ending_is : {R : Type 0} (e : Option R) (u : Result ⊤ R) (o : Option R) → u ≡ said_at_end e
    → o ≡ result_err u → e ≡ o
ending_is None u o said is = sym (is ∙ ap result_err said)
ending_is (Some r) u o said is = sym (is ∙ ap result_err said)

-- what is told after two calls, of the same source
pub told_then : (P Q R : List ℕ → List ℕ → Type 0) (a b c : Option (List ℕ)) → Told a b P
    → Told b c Q
    → ((k l m : List ℕ) → P k l → Q l m → R k m) → Told a c R
told_then P Q R None b c p q by = tt
told_then P Q R (Some k) None c p q by = absurd p
told_then P Q R (Some k) (Some l) None p q by = absurd q
told_then P Q R (Some k) (Some l) (Some m) p q by = by k l m p q

pub told_both : (P Q : List ℕ → List ℕ → Type 0) (a b : Option (List ℕ)) → Told a b P → Told a b Q
    → Told a b (λ k l. P k l × Q k l)
told_both P Q None b p q = tt
told_both P Q (Some k) None p q = absurd p
told_both P Q (Some k) (Some l) p q = (p, q)

nothing_of : (bytes : List ℕ) → length bytes ≡ 0 → bytes ≡ []
nothing_of [] none = refl
nothing_of (b ∷ bytes) none = absurd (omega (arith, none))

-- where all that was taken is read
module _ {Z U E R : Type 0} (g : Grammar Z U E R) (i i1 : Input) (stands : List ℕ → Type 0)
    (Handled : List E → List E → Type 0) (q : List ℕ) (h : HasComeTo g i i1 stands Handled q [])
  where
    all_of : h.before ++ h.piece ≡ q
    all_of = h.joined ∙ append-nil q

    -- the handler stops before more is taken
    pub halted_between : (ends : E → Bool) (Halts : Option E → List E → List E → Type 0)
        → Halts None (events_of g h.before) h.since → WasHalted g i i1 ends stands Halts []
    halted_between ends Halts halted = record {
      before = h.before;
      piece = h.piece;
      came = h.came;
      since = h.since;
      at = None;
      halted = halted;
      first = λ more.
          subst (λ (b : List ℕ). AreFirst g (events_of g h.before ++ h.since) (b ++ more))
          (sym all_of)
          (subst (λ (l : List E). AreFirst g l (q ++ more)) h.events_are
          (first_of_open g q h.on more));
      read = q;
      joined = h.joined;
      stands_for = h.stands_for;
      events_are = h.events_are;
      goes_on = inl h.on;
      no_empty_take = h.no_empty_take;
    }

    -- bytes are taken
    module _ (pending : IsPending g q) (i2 : Input) (bytes : List ℕ)
        (HandledNow : List E → List E → Type 0) (handled : HandledNow (events_of g q) []) where
      came : (answer : Result ℕ Failed) → Fills i1 i2 bytes answer → Came g i i2 q bytes
      came answer f = record {
        pending = pending;
        short = f.short;
        stream = told_then (λ all rest. all ≡ h.before ++ h.piece ++ rest)
            (λ l l'. l ≡ bytes ++ l') (λ all rest. all ≡ q ++ bytes ++ rest) i.left i1.left i2.left
            h.came.stream f.moved (λ all rest rest' e k. e ∙ ap (λ l. l ++ rest) all_of
            ∙ ap (λ l. q ++ l) k ∙ sym (append_assoc q bytes rest'));
        took = told_then (λ t t'. t' ≡ t ++ h.before ++ h.piece) (λ t t'. t' ≡ t ++ bytes)
            (λ t t'. t' ≡ t ++ q ++ bytes) i.taken i1.taken i2.taken h.came.took f.taken
            (λ t t' t'' e k. k ∙ ap (λ l. l ++ bytes) (e ∙ append_assoc t h.before h.piece
            ∙ ap (λ l. t ++ l) all_of));
      }

      -- some
      pub filled : (answer : Result ℕ Failed) → Fills i1 i2 bytes answer → (answer ≡ Ok 0 → ⊥)
          → HasComeTo g i i2 stands HandledNow q bytes
      filled answer f some = record {
        stands_for = h.stands_for;
        on = h.on;
        before = q;
        piece = bytes;
        came = came answer f;
        joined = refl;
        since = [];
        events_are = sym (append-nil (events_of g q));
        handled = handled;
        no_empty_take = f.empty.same some ∙ h.no_empty_take;
      }

      -- the input failed
      pub was_cut : (fault : Failed) → Fills i1 i2 bytes (Err fault) → (Waits : Type 0) → Waits
          → WasCut g i i2 HandledNow Waits
      was_cut fault f Waits waits = record {
        before = q;
        came = subst (Came g i i2 q) f.none (came (Err fault) f);
        handled = handled;
        waits = waits;
        no_empty_take = f.empty.same (λ e. cc) ∙ h.no_empty_take;
      }

      -- the input is over
      pub was_over : (n : ℕ) → n ≡ 0 → Fills i1 i2 bytes (Ok n) → (judged : Option R)
          → ending_at g q ≡ judged → WasJudged g i i2 HandledNow bytes judged
      was_over n zero f judged is = record {
        before = q;
        piece = [];
        came = subst (Came g i i2 q) none (came (Ok n) f);
        since = [];
        handled = handled;
        whole = subst (λ (l : List E). IsWhole g l judged (q ++ []))
            (sym (append-nil (events_of g q)))
            (subst (IsWhole g (events_of g q) judged) (sym (append-nil q))
            (subst (λ v. IsWhole g (events_of g q) v q) is (whole_at_end g q pending)));
        settled = inl over;
        left = λ good. (
          q,
          ap (λ l. q ++ l) (sym none),
          inr (pending, is ∙ good, (none, over)),
        );
      } where
        none : bytes ≡ []
        none = nothing_of bytes (sym f.size ∙ zero)

        over : IsOver g i i2 []
        over = record {
          nothing = refl;
          over = told_then (λ all rest. all ≡ h.before ++ h.piece ++ rest)
              (λ l l'. (l ≡ bytes ++ l') × ((n ≡ 0) ↔ (l ≡ []))) (λ all rest. rest ≡ []) i.left
              i1.left i2.left h.came.stream
              (told_both (λ l l'. l ≡ bytes ++ l') (λ l l'. (n ≡ 0) ↔ (l ≡ [])) i1.left i2.left
              f.moved f.ended)
              (λ all rest rest' e k. ap (λ l. l ++ rest') (sym none) ∙ sym k.0 ∙ k.1.0 zero);
          once = f.empty.once (ap Ok zero) ∙ ap one_more h.no_empty_take;
        }

-- before the first byte is read, where these bytes were taken before
pub comes_held : {Z U E R : Type 0} (g : Grammar Z U E R) (i i' : Input) (stands : List ℕ → Type 0)
    (Handled : List E → List E → Type 0) → IsPending g [] → stands [] → Handled [] []
    → (y : List ℕ) → length y ≤ 65536 → WasTaken y i i' → HasComeTo g i i' stands Handled [] y
unfolding events_of events_in
comes_held g i i' stands Handled pending here handled y short taken = record {
  stands_for = here;
  on = pending_open g [] pending;
  before = [];
  piece = y;
  came = record {
    pending = pending;
    short = short;
    stream = taken.stream;
    took = told_as (λ t t'. t' ≡ t ++ y) (λ t t'. t' ≡ t ++ [] ++ y) i.taken i'.taken taken.took
        (λ t t' e. e ∙ ap (λ l. l ++ y) (sym (append-nil t)));
  };
  joined = refl;
  since = [];
  events_are = refl;
  handled = handled;
  no_empty_take = taken.empty_takes;
}

-- no bytes were taken
pub none_taken : (i : Input) → WasTaken [] i i
none_taken i = record {
  stream = known_told (λ all rest. all ≡ [] ++ rest) i.left i.left (λ bytes e. (bytes, e, refl));
  took = known_told (λ t t'. t' ≡ t ++ []) i.taken i.taken (λ t e. (t, e, sym (append-nil t)));
  faults = refl;
  empty_takes = refl;
}

-- before the first byte
pub comes_first : {Z U E R : Type 0} (g : Grammar Z U E R) (i : Input) (stands : List ℕ → Type 0)
    (Handled : List E → List E → Type 0) → IsPending g [] → stands [] → Handled [] []
    → HasComeTo g i i stands Handled [] []
comes_first g i stands Handled pending here handled =
    comes_held g i i stands Handled pending here handled [] (omega arith) (none_taken i)

-- bytes behind which the stream may go on are no more than one too many
pub open_within : {Z U E R : Type 0} (g : Grammar Z U E R) (ends : E → Bool) (most : ℕ)
    → EndsWithin g ends most → (p : List ℕ) → IsOpenAt g p → length p ≤ most + 1
open_within g ends most c p on =
    elim (cases_lt 0 (length p)) [
      | inl some ↦ omega (arith, some, c.within (take m p) (pending some), size some)
      | inr none ↦ omega (arith, none)
    ] where
      m : ℕ
      m = length p - 1

      size : 0 < length p → length (take m p) ≡ m
      size some = length-take-le m p (omega (arith, some))

      pending : 0 < length p → IsPending g (take m p)
      pending some = record { unrefused = unrefused; going_on = going } where
        past : (n : ℕ) → m ≤ n → take n (take m p) ≡ take m p
        past n le = take_all n (take m p) (omega (arith, le, size some))

        unrefused : (n : ℕ) → refusal_at g (take n (take m p)) ≡ None
        unrefused n = elim (cases_lt n m) [
          | inl lt ↦ ap (refusal_at g) (take-take n m p (omega (arith, lt)))
              ∙ on.before n (omega (arith, lt))
          | inr le ↦ ap (refusal_at g) (past n le) ∙ on.before m (omega (arith, some))
        ]

        going : (n : ℕ) → is_over_at g (take n (take m p)) ≡ false
        going n = elim (cases_lt n m) [
          | inl lt ↦ ap (is_over_at g) (take-take n m p (omega (arith, lt))) ∙ on.going_on n
          | inr le ↦ ap (is_over_at g) (past n le) ∙ on.going_on m
        ]
