-- How a stream ends: with an event, and with nothing judged behind it.
use Rattle.std.proofs.Common.{◌≡◌, ℕ, zero, suc, ◌<◌, ◌≤◌, Bool, true, false, ◌⊎◌, List, [], ◌∷◌}
use Rattle.std.proofs.Common.{◌++◌, length, take, Some, None, sym, refl, ap, ◌∙◌, subst, inl, inr}
use Rattle.std.proofs.Common.{append_assoc, append-nil, arith, length-append}
use Rattle.unit_streams.specs.Front.{begun, Front, whole, wrong}
use Rattle.unit_streams.specs.{Going.IsGoing, Judging.refusal_at, Laws.EndsAreClosed}
use Rattle.unit_streams.specs.Grammar.{behind_unit, Grammar, IsQuietWhenOver, IsReadable, next_unit}
use Rattle.unit_streams.specs.Grammar.{resumed, Standing, standing, TellsItsEnd, with_more}
use Rattle.unit_streams.specs.Judging.{ending_at, event_at, history_from, is_over_at, only}
use Rattle.unit_streams.proofs.Fronts.{begun_open, leaves_or_decides, wrong_open}
use Rattle.unit_streams.proofs.Histories.{history_ends, history_next}
use Rattle.unit_streams.proofs.Passing.{event_from, given_none, going_at, going_refusal, open_cases}
use Rattle.unit_streams.proofs.{Passing.refusal_from, Peeling.Decides, Standing.whole_at}
use Rattle.unit_streams.proofs.Standing.{leaves_all, peel_open, standing_append, standing_nothing}

module _ {Z U E R : Type 0} (g : Grammar Z U E R) (readable : IsReadable g) where
  -- one byte more leaves the situation, or completes a unit behind which it stands
  data ByteLeads (p : List ℕ) (b : ℕ) : Type 0 where
    stays : (standing g (p ++ b ∷ []) ≡ with_more (standing g p) (b ∷ [])) → ByteLeads p b
    closes : (u : U) (k : ℕ) → next_unit g (with_more (standing g p) (b ∷ [])) ≡ whole u k
        → (standing g (p ++ b ∷ []) ≡ record (behind_unit g (standing g p) u k) { begun = [] })
        → ByteLeads p b

  byte_leads : (p : List ℕ) (b : ℕ) → ByteLeads p b
  unfolding resumed
  byte_leads p b = by_cases (open_cases g readable p)
    where
      on : (t : Standing Z E R) → resumed g (standing g p) (b ∷ []) ≡ t → standing g (p ++ b ∷ [])
          ≡ t
      on t e = standing_append g readable p (b ∷ []) ∙ e

      by_front : (n : ℕ) → n ≡ 1 → Decides (g.unit_at (standing g p).situation (standing g p).from)
          (standing g p).begun (b ∷ []) n
          → (v : Front U R) → g.unit_at (standing g p).situation (standing g p).from
          ((standing g p).begun ++ b ∷ []) ≡ v → ByteLeads p b
      by_front n one d begun e = stays
          (on (with_more (standing g p) (b ∷ []))
          (peel_open g readable (with_more (standing g p) (b ∷ [])) (begun_open _ e)))
      by_front n one d (whole u k) e =
          closes u k e (on (record (behind_unit g (standing g p) u k) { begun = [] })
          (ap (λ m. resumed g (standing g p) (take m (b ∷ []))) (sym one) ∙
          (whole_at g readable (standing g p) (b ∷ []) n d u k e).1))
      by_front n one d (wrong r k) e = stays
          (on (with_more (standing g p) (b ∷ []))
          (peel_open g readable (with_more (standing g p) (b ∷ [])) (wrong_open _ r k e)))

      by_cases : (next_unit g (standing g p) ≡ begun)
          ⊎ ((r : R) × (k : ℕ) × (next_unit g (standing g p) ≡ wrong r k)) → ByteLeads p b
      by_cases (inl e) =
          elim (leaves_or_decides (g.unit_at (standing g p).situation (standing g p).from)
          (readable.reads (standing g p).situation (standing g p).from) (standing g p).begun
          (b ∷ []) e) [
            | inl l ↦ stays
                (on (with_more (standing g p) (b ∷ []))
                (leaves_all g readable (standing g p) (b ∷ []) l))
            | inr d ↦ by_front d.0 (let some = d.1.some in let within = d.1.within in omega arith)
                d.1 _ refl
          ]
      by_cases (inr (r, k, e)) =
          let more = (readable.reads (standing g p).situation (standing g p).from).wrong_stays
          (standing g p).begun (b ∷ []) r k e in
          stays (on (with_more (standing g p) (b ∷ []))
          (peel_open g readable (with_more (standing g p) (b ∷ [])) (wrong_open _ r k more)))

  module _ (ends : E → Bool) (tells : TellsItsEnd g ends) where
    -- no byte of an empty stream ends it
    pub not_over_first : is_over_at g [] ≡ false
    unfolding is_over_at
    not_over_first = ap (λ (s : Standing Z E R). g.is_over s.situation)
        (standing_nothing g readable) ∙ tells.start

    grown_begun : (p : List ℕ) (b : ℕ) → 0 < length ((standing g p).begun ++ b ∷ [])
    grown_begun p b = let n = length-append (standing g p).begun (b ∷ []) in omega (arith, n)

    -- a byte that completes no event doesn't end it
    pub not_over_more : (p : List ℕ) (b : ℕ) → is_over_at g p ≡ false → event_at g (p ++ b ∷ [])
        ≡ None → is_over_at g (p ++ b ∷ []) ≡ false
    unfolding is_over_at
    not_over_more p b o none =
        elim (byte_leads p b) [
          | stays e ↦ ap (λ (s : Standing Z E R). g.is_over s.situation) e ∙ o
          | closes u k w e ↦ ap (λ (s : Standing Z E R). g.is_over s.situation) e ∙ tells.untold
              (standing g p).situation (standing g p).from _ u k w o
              (sym (event_from g (p ++ b ∷ []) _ e) ∙ none)
        ]

    -- one that completes an event ends it where the event does
    pub over_at_event : (p : List ℕ) (b : ℕ) (v : E) → is_over_at g p ≡ false
        → event_at g (p ++ b ∷ []) ≡ Some v → is_over_at g (p ++ b ∷ []) ≡ ends v
    unfolding is_over_at
    over_at_event p b v o some =
        elim (byte_leads p b) [
          | stays e ↦ absurd (let none = event_from g (p ++ b ∷ []) _ e ∙ given_none
              ((standing g p).begun ++ b ∷ []) (standing g p).event (grown_begun p b) in cc)
          | closes u k w e ↦ ap (λ (s : Standing Z E R). g.is_over s.situation) e ∙ tells.told
              (standing g p).situation (standing g p).from _ u k v w o
              (sym (event_from g (p ++ b ∷ []) _ e) ∙ some)
        ]

    -- the same of more bytes, of which those before the last complete no event
    pub not_over_along : (y p : List ℕ) → is_over_at g p ≡ false
        → ((i : ℕ) → 0 < i → i ≤ length y → event_at g (p ++ take i y) ≡ None) → (i : ℕ) → i
        ≤ length y → is_over_at g (p ++ take i y) ≡ false
    not_over_along y p o none zero le = ap (is_over_at g) (append-nil p) ∙ o
    not_over_along [] p o none (suc i) le = absurd (omega arith)
    not_over_along (b ∷ y) p o none (suc i) le =
        ap (is_over_at g) (sym (append_assoc p (b ∷ []) (take i y)))
        ∙ not_over_along y (p ++ b ∷ []) (not_over_more p b o (none 1 (omega arith) (omega arith)))
        (λ j some less. ap (event_at g) (append_assoc p (b ∷ []) (take j y)) ∙ none (suc j)
        (omega arith) (omega arith)) i (omega arith)

    pub over_along_event : (y p : List ℕ) (v : E) → 0 < length y → is_over_at g p ≡ false
        → ((i : ℕ) → 0 < i → i < length y → event_at g (p ++ take i y) ≡ None) → event_at g (p ++ y)
        ≡ Some v
        → is_over_at g (p ++ y) ≡ ends v
    over_along_event [] p v some o none last = absurd (omega arith)
    over_along_event (b ∷ []) p v some o none last = over_at_event p b v o last
    over_along_event (b ∷ d ∷ y) p v some o none last =
        ap (is_over_at g) (sym (append_assoc p (b ∷ []) (d ∷ y)))
        ∙ over_along_event (d ∷ y) (p ++ b ∷ []) v (omega arith)
        (not_over_more p b o (none 1 (omega arith) (omega arith)))
        (λ i more lt. ap (event_at g) (append_assoc p (b ∷ []) (take i (d ∷ y))) ∙ none (suc i)
        (omega arith) (omega arith))
        (ap (event_at g) (append_assoc p (b ∷ []) (d ∷ y)) ∙ last)

  module _ (quiet : IsQuietWhenOver g) where
    -- what follows an end is begun and no more
    pub after_end : (p c : List ℕ) → is_over_at g p ≡ true → standing g (p ++ c)
        ≡ with_more (standing g p) c
    unfolding is_over_at resumed
    after_end p c o =
        standing_append g readable p c
        ∙ peel_open g readable (with_more (standing g p) c)
        (begun_open _ (quiet.unread (standing g p).situation (standing g p).from
        ((standing g p).begun ++ c) o))

    -- it goes on, and its length is never refused
    pub over_unrefused : (p : List ℕ) → is_over_at g p ≡ true → IsGoing g (standing g p)
        → refusal_at g p ≡ None
    unfolding is_over_at
    over_unrefused p o going = refusal_from g p (standing g p) refl ∙ going_refusal g (standing g p)
        (length p) going ∙ quiet.any_length (standing g p).situation (standing g p).from (length p)
        o

    over_stays : (p : List ℕ) (b : ℕ) → is_over_at g p ≡ true → is_over_at g (p ++ b ∷ []) ≡ true
    unfolding is_over_at
    over_stays p b o = ap (λ (s : Standing Z E R). g.is_over s.situation) (after_end p (b ∷ []) o) ∙
        o

    more_begun : (p : List ℕ) (b : ℕ) → 0 < length ((standing g p).begun ++ b ∷ [])
    more_begun p b = let n = length-append (standing g p).begun (b ∷ []) in omega (arith, n)

    over_eventless : (p : List ℕ) (b : ℕ) → is_over_at g p ≡ true → event_at g (p ++ b ∷ []) ≡ None
    over_eventless p b o = event_from g (p ++ b ∷ []) _ (after_end p (b ∷ []) o) ∙ given_none
        ((standing g p).begun ++ b ∷ []) (standing g p).event (more_begun p b)

    over_going : (p : List ℕ) (b : ℕ) → is_over_at g p ≡ true → IsGoing g (standing g (p ++ b ∷ []))
    unfolding is_over_at
    over_going p b o =
        subst (IsGoing g) (sym (after_end p (b ∷ []) o)) (record {
          next = quiet.unread (standing g p).situation (standing g p).from
              ((standing g p).begun ++ b ∷ []) o;
          last = given_none ((standing g p).begun ++ b ∷ []) (standing g p).refusal
              (more_begun p b);
        })

    over_ending : (p : List ℕ) → is_over_at g p ≡ true → ending_at g p ≡ None
    unfolding is_over_at ending_at
    over_ending p o = quiet.any_end (standing g p).situation (standing g p).from (length p) o

    -- a stream that has ended is closed, whatever follows
    pub over_closed : (y p : List ℕ) → is_over_at g p ≡ true → IsGoing g (standing g p)
        → history_from g p y ≡ only None
    over_closed [] p o going = history_ends g p (over_unrefused p o going) ∙ ap only
        (over_ending p o)
    over_closed (b ∷ y) p o going =
        history_next g p b y (over_unrefused p o going) ∙ rw (over_eventless p b o)
        (over_closed y (p ++ b ∷ []) (over_stays p b o) (over_going p b o))

  -- of each grammar
  pub ends_are_closed : (quiet : IsQuietWhenOver g) → EndsAreClosed g
  ends_are_closed quiet p y o none = over_closed quiet y p o (going_at g readable p none)
