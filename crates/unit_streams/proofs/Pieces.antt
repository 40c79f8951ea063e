-- How a piece is told of that is used up event by event, whatever is told.
use Rattle.std.proofs.Common.{◌≡◌, ℕ, ◌+◌, ◌-◌, ◌<◌, ◌≤◌, Bool, true, List, [], ◌∷◌, ◌++◌, length}
use Rattle.std.proofs.Common.{take, drop, Some, None, flat_map, sym, refl, ap, ◌∙◌, subst}
use Rattle.std.proofs.Common.{append_assoc, append-nil, length-drop, take-append-drop}
use Rattle.std.proofs.{Math.Seq.take-add, lemmas.List.take_rest}
use Rattle.unit_streams.specs.{Going.IsOpenAt, Going.IsPending, Grammar.Grammar}
use Rattle.unit_streams.specs.Judging.{answer, completes, event_at, goes_on, history_from, offends}
use Rattle.unit_streams.specs.Tellers.{AreDue, Closes, IsReport, report, state_at, StaysOpen}
use Rattle.unit_streams.specs.Tellers.{Teller, told_along, told_of_history, told_so_far}
use Rattle.unit_streams.proofs.Telling.{completes_adds, completes_due, goes_on_adds, means}
use Rattle.unit_streams.proofs.Telling.{offends_adds, open_report}

-- where the state says nothing, what is told of events is what is told of each
pub told_flat : {S E R : Type 0} (t : Teller S E R) (f : E → List ℕ)
    → ((s : S) (e : E) → t.told s e ≡ f e) → (events : List E) (s : S) → told_along t s events
    ≡ flat_map f events
unfolding told_along
told_flat t f same [] s = refl
told_flat t f same (e ∷ events) s = ap (λ l. l ++ told_along t (t.next s e) events) (same s e) ∙
    ap (λ l. f e ++ l) (told_flat t f same events (t.next s e))

-- the rest of a piece, of which so many bytes are used
abbrev pub rest_of : List ℕ → ℕ → List ℕ
rest_of piece used = take (length piece - used) (drop used piece)

pub rest_length : (piece : List ℕ) (used : ℕ) → length (rest_of piece used) ≡ length piece - used
rest_length piece used = ap length (take_rest piece used) ∙ length-drop used piece

-- some bytes of the rest more
pub further : (p piece : List ℕ) (used n : ℕ) → (p ++ take used piece)
    ++ take n (rest_of piece used) ≡ p ++ take (used + n) piece
further p piece used n =
    append_assoc p (take used piece) (take n (rest_of piece used))
    ∙ ap (λ l. p ++ l) (ap (λ l. take used piece ++ take n l) (take_rest piece used) ∙ sym
    (take-add used n piece))

-- lines behind lines
pub joined : (all here before lines line : List ℕ) → all ≡ here ++ line → here ≡ before ++ lines
    → all ≡ before ++ (lines ++ line)
joined all here before lines line e f = e ∙ ap (λ l. l ++ line) f ∙ append_assoc before lines line

module _ {Z U E R S : Type 0} (g : Grammar Z U E R) (t : Teller S E R) (ends : E → Bool) where
  -- an event that n more bytes of a piece complete, of which so many were used
  pub record TellsEvent (p piece : List ℕ) (used n : ℕ) (e : E) : Type 0 where
    pub some : 0 < n
    pub within : n ≤ length (rest_of piece used)
    pub here : event_at g ((p ++ take used piece) ++ take n (rest_of piece used)) ≡ Some e
    -- what is told of it comes behind what was told
    pub told : told_so_far g t ((p ++ take used piece) ++ take n (rest_of piece used))
        ≡ told_so_far g t (p ++ take used piece) ++ t.told (state_at g t (p ++ take used piece)) e
    pub state : state_at g t ((p ++ take used piece) ++ take n (rest_of piece used))
        ≡ t.next (state_at g t (p ++ take used piece)) e
    pub stays_open : StaysOpen g ends ((p ++ take used piece) ++ take n (rest_of piece used)) e
    -- and is due, whatever follows
    pub due : AreDue g t (p ++ piece) (told_so_far g t (p ++ take used piece))
        (t.told (state_at g t (p ++ take used piece)) e)
    -- the event that ends the stream is the last thing but the closing
    pub last : ends e ≡ true → (more : List ℕ)
        → IsReport g t (told_so_far g t (p ++ take used piece)) ((p ++ piece) ++ more)
        (t.told (state_at g t (p ++ take used piece)) e
        ++ t.ends (t.next (state_at g t (p ++ take used piece)) e) None) None

  module _ (p piece : List ℕ) (used : ℕ) where
    abbrev q : List ℕ
    q = p ++ take used piece

    abbrev y : List ℕ
    y = rest_of piece used

    -- what is used and the rest are the piece
    all_of : q ++ y ≡ p ++ piece
    all_of = append_assoc p (take used piece) y ∙ ap (λ l. p ++ l)
        (ap (λ l. take used piece ++ l) (take_rest piece used) ∙ take-append-drop used piece)

    -- whatever follows
    stream_of : (more : List ℕ) → q ++ (y ++ more) ≡ (p ++ piece) ++ more
    stream_of more = sym (append_assoc q y more) ∙ ap (λ l. l ++ more) all_of

    module _ (on : IsOpenAt g (p ++ take used piece)) where
      -- nothing is due where nothing more is known
      pub none_due : AreDue g t (p ++ piece) (told_so_far g t (p ++ take used piece)) []
      none_due more =
          let rest : List ℕ = told_of_history t (state_at g t q) (history_from g q (y ++ more)) in (
            rest,
            ap (report g t) (sym (stream_of more)) ∙ open_report g t q (y ++ more) on ∙
                ap (λ l. l ++ rest) (sym (append-nil (told_so_far g t q))),
          )

      module _ (c : Closes g ends) where
        -- the rest decides nothing
        pub none_told : answer g (p ++ take used piece) (rest_of piece used) ≡ goes_on
            → IsPending g (p ++ piece)
            × (told_so_far g t (p ++ piece) ≡ told_so_far g t (p ++ take used piece))
            × (state_at g t (p ++ piece) ≡ state_at g t (p ++ take used piece))
        none_told e =
            let adds = goes_on_adds g t ends c q y on e in (
              subst (IsPending g) all_of adds.0,
              ap (told_so_far g t) (sym all_of) ∙ adds.1,
              ap (state_at g t) (sym all_of) ∙ adds.2,
            )

        -- it shows a refusal
        pub refusal_told : (n : ℕ) (r : R) → answer g (p ++ take used piece) (rest_of piece used)
            ≡ offends n r
            → (more : List ℕ) → IsReport g t (told_so_far g t (p ++ take used piece))
            ((p ++ piece) ++ more) (t.ends (state_at g t (p ++ take used piece)) (Some r)) (Some r)
        refusal_told n r e more = subst (λ (l : List ℕ). IsReport g t (told_so_far g t q) l
            (t.ends (state_at g t q) (Some r)) (Some r)) (stream_of more)
            (offends_adds g t ends c q y on n r e more)

        -- it completes an event
        pub event_told : (n : ℕ) (e : E) → answer g (p ++ take used piece) (rest_of piece used)
            ≡ completes n e → TellsEvent p piece used n e
        event_told n e is =
            let m = means g t ends c q y on n e is in
            let adds = completes_adds g t ends c q y on n e is in
            let due = completes_due g t ends c q y on n e is in
            let v : List ℕ = t.told (state_at g t q) e in
            record {
              some = m.1;
              within = m.0.within;
              here = m.2;
              told = adds.0;
              state = adds.1;
              stays_open = adds.2;
              due = λ more. (
                (due more).0,
                ap (report g t) (sym (stream_of more)) ∙ (due more).1 ∙
                    sym (append_assoc (told_so_far g t q) v (due more).0),
              );
              last = λ is_end more. subst (λ (l : List ℕ). IsReport g t (told_so_far g t q) l
                  (v ++ t.ends (t.next (state_at g t q) e) None) None) (stream_of more)
                  (adds.3 is_end more);
            }

module _ {Z U E R S : Type 0} (g : Grammar Z U E R) (t : Teller S E R) (bytes before lines : List ℕ)
  where
    -- what is due behind lines
    pub due_behind : (line here : List ℕ) → here ≡ before ++ lines → AreDue g t bytes here line
        → AreDue g t bytes before (lines ++ line)
    due_behind line here e due more = let d = due more in (
      d.0,
      d.1 ∙ ap (λ l. (l ++ line) ++ d.0) e ∙ ap (λ l. l ++ d.0)
          (append_assoc before lines line),
    )

    -- the last lines are due
    pub last_due : ((more : List ℕ) → report g t (bytes ++ more) ≡ before ++ lines) → AreDue g t bytes
        before lines
    last_due all more = ([], all more ∙ sym (append-nil (before ++ lines)))

-- what is told of bytes behind which the stream may go on is due
pub told_due : {Z U E R S : Type 0} (g : Grammar Z U E R) (t : Teller S E R) (p : List ℕ)
    → IsOpenAt g p → AreDue g t (p ++ []) [] (told_so_far g t p)
told_due g t p on more = (
  told_of_history t (state_at g t p) (history_from g p more),
  ap (λ l. report g t (l ++ more)) (append-nil p) ∙ open_report g t p more on,
)
