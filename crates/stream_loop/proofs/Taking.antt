-- What was read of a stream that is followed to its end, and what was handled of it then.
use Rattle.std.proofs.Common.{◌≡◌, ℕ, ◌≤◌, Bool, ◌⊎◌, List, [], ◌∷◌, ◌++◌, length, map, Some, None}
use Rattle.std.proofs.Common.{Option, sym, refl}
use Rattle.std.proofs.Common.{ap, ◌∙◌, subst, inl, inr, append_assoc, append-nil, arith}
use Rattle.std.proofs.lemmas.List.{map-append}
use Rattle.io_edges.specs.Flow.{Told}
use Rattle.unit_streams.{proofs.Pending.pending_open, specs.Going.IsPending, specs.Grammar.Grammar}
use Rattle.unit_streams.specs.Judging.{events_of}
use Rattle.stream_loop.specs.declared.following.FollowEnding.{FollowEnding}
use Rattle.stream_loop.specs.declared.following.FollowEnding.TheVariants.{Judged, Memory, ReadFault}
use Rattle.stream_loop.specs.{Edges.Input, Resumed.Came, Resumed.IsOver, Resumed.NoEmptyTake}
use Rattle.stream_loop.specs.Followed.{AreFirst, AreHandled, Breaks, Decides, Follows, IsWhole}
use Rattle.stream_loop.specs.Followed.{Leaves, WasTaken}
use Rattle.stream_loop.specs.{Followed.Starves, Resumed.RanOut, Resumed.then_at, Resumed.WasCut}
use Rattle.stream_loop.specs.{Resumed.WasHalted, Resumed.WasJudged}
use Rattle.stream_loop.proofs.{Bringing.first_of_open, Reading.none_taken, Reading.told_both}
use Rattle.stream_loop.proofs.Writing.{told_as}

module _ {Z U E V R : Type 0} (g : Grammar Z U E R) (f : E → V) (H : List V → List V → Type 0)
    (i i' : Input) where
  abbrev HandledBy : List E → List E → Type 0
  HandledBy paused since = H (map f paused) (map f since)

  -- what was taken of the input, as one list
  all_taken : (before piece : List ℕ) → Came g i i' before piece
      → Told i.taken i'.taken (λ t t'. t' ≡ t ++ (before ++ piece))
  all_taken before piece came = told_as (λ t t'. t' ≡ t ++ before ++ piece)
      (λ t t'. t' ≡ t ++ (before ++ piece)) i.taken i'.taken came.took
      (λ t t' e. e ∙ append_assoc t before piece)

  -- a stream that was judged
  pub decided : (y : List ℕ) (judged : Option R) → WasJudged g i i' HandledBy y judged
      → Decides g (AreHandled f H) i i' judged
  decided y judged w = record {
    bytes = w.before ++ w.piece;
    events = events_of g w.before ++ w.since;
    handled = record {
      paused = events_of g w.before;
      since = w.since;
      joined = refl;
      handled = w.handled;
    };
    whole = w.whole;
    settled = elim w.settled [
      | inl over ↦ inl (pending over, over.once)
      | inr all ↦ inr all
    ];
    stream = elim w.settled [
      | inl over ↦ told_as (λ all rest. (all ≡ w.before ++ w.piece ++ rest) × (rest ≡ []))
          (λ all rest. (all ≡ (w.before ++ w.piece) ++ rest) × Ends rest) i.left i'.left
          (told_both (λ all rest. all ≡ w.before ++ w.piece ++ rest) (λ all rest. rest ≡ [])
          i.left i'.left w.came.stream over.over) (λ all rest e. (e.0, inl e.1))
      | inr all ↦ told_as (λ all rest. all ≡ w.before ++ w.piece ++ rest)
          (λ all rest. (all ≡ (w.before ++ w.piece) ++ rest) × Ends rest) i.left i'.left
          w.came.stream (λ bytes rest e. (e, inr all.0))
    ];
    took = all_taken w.before w.piece w.came;
  } where
    Ends : List ℕ → Type 0
    Ends rest = (rest ≡ []) ⊎ ((more : List ℕ) → IsWhole g (events_of g w.before ++ w.since) judged
        ((w.before ++ w.piece) ++ more))

    pending : IsOver g i i' w.piece → IsPending g (w.before ++ w.piece)
    pending over = subst (λ (y : List ℕ). IsPending g (w.before ++ y)) (sym over.nothing)
        (subst (IsPending g) (sym (append-nil w.before)) w.came.pending)

  -- what is left where it ended well
  pub left_behind : (y : List ℕ) (judged : Option R) → WasJudged g i i' HandledBy y judged
      → judged ≡ None → Leaves g i i' y
  left_behind y judged w good =
      let l = w.left good in
      record {
        read = l.0;
        ended = elim l.2 [
          | inl with_these ↦ inl with_these
          | inr cut ↦ inr (cut.0, cut.1, (cut.2.0, cut.2.1.over))
        ];
        stream = told_as (λ all rest. all ≡ w.before ++ w.piece ++ rest)
            (λ all rest. all ≡ l.0 ++ y ++ rest) i.left i'.left w.came.stream
            (λ all rest e. e ∙ ap (λ b. b ++ rest) l.1);
        took = told_as (λ t t'. t' ≡ t ++ w.before ++ w.piece) (λ t t'. t' ≡ t ++ l.0 ++ y)
            i.taken i'.taken w.came.took
            (λ t t' e. e ∙ append_assoc t w.before w.piece ∙ ap (λ b. t ++ b) l.1
            ∙ sym (append_assoc t l.0 y));
      }

  -- a read failed
  pub broken : (Waits : Type 0) → WasCut g i i' HandledBy Waits → Breaks g (AreHandled f H) i i'
  broken Waits w = record {
    bytes = w.before;
    pending = w.came.pending;
    handled = record {
      paused = events_of g w.before;
      since = [];
      joined = sym (append-nil (events_of g w.before));
      handled = w.handled;
    };
    stream = told_as (λ all rest. all ≡ w.before ++ [] ++ rest) (λ all rest. all ≡ w.before ++ rest)
        i.left i'.left w.came.stream
        (λ all rest e. e ∙ ap (λ l. l ++ rest) (append-nil w.before));
    took = told_as (λ t t'. t' ≡ t ++ w.before ++ []) (λ t t'. t' ≡ t ++ w.before) i.taken i'.taken
        w.came.took (λ t t' e. e ∙ append-nil (t ++ w.before));
    no_empty_take = w.no_empty_take;
  }

  -- memory ran out
  starved_at : (before piece : List ℕ) (since : List E) → Came g i i' before piece
      → HandledBy (events_of g before) since
      → ((more : List ℕ) → AreFirst g (events_of g before ++ since) ((before ++ piece) ++ more))
      → NoEmptyTake g i i' → Starves g (AreHandled f H) i i'
  starved_at before piece since came handled first no_empty_take = record {
    before = before;
    piece = piece;
    pending = came.pending;
    short = came.short;
    events = events_of g before ++ since;
    handled = record {
      paused = events_of g before;
      since = since;
      joined = refl;
      handled = handled;
    };
    first = first;
    stream = came.stream;
    took = came.took;
    no_empty_take = no_empty_take;
  }

  pub starved : RanOut g i i' HandledBy → Starves g (AreHandled f H) i i'
  starved w = starved_at w.before w.piece w.since w.came w.handled w.first w.no_empty_take

  -- the handler stopped, and hasn't handled the event
  pub starved_handling : (ends : E → Bool) (stands : List ℕ → Type 0) (Halts : Option E → List E → List E → Type 0)
      (y : List ℕ) → ((at : Option E) (paused since : List E) → Halts at paused since
      → HandledBy paused since) → WasHalted g i i' ends stands Halts y → Starves g (AreHandled f H) i i'
  starved_handling ends stands Halts y unheard w =
      starved_at w.before w.piece w.since w.came
      (unheard w.at (events_of g w.before) w.since w.halted)
      (λ more. fewer w.at ((w.before ++ w.piece) ++ more) (w.first more)) w.no_empty_take where
        fewer : (at : Option E) (bytes : List ℕ)
            → AreFirst g (then_at (events_of g w.before ++ w.since) at) bytes
            → AreFirst g (events_of g w.before ++ w.since) bytes
        fewer None bytes first = first
        fewer (Some event) bytes first = record {
          others = event ∷ first.others;
          joined = first.joined
              ∙ append_assoc (events_of g w.before ++ w.since) (event ∷ []) first.others;
        }

-- no memory to begin with, where these bytes were taken before
pub unbegun_held : {Z U E R : Type 0} (g : Grammar Z U E R) (Handled : List E → Type 0)
    (i i' : Input) (held : List ℕ) → IsPending g [] → length held ≤ 65536 → WasTaken held i i'
    → Handled (events_of g []) → Starves g Handled i i'
unbegun_held g Handled i i' held pending short taken handled = record {
  before = [];
  piece = held;
  pending = pending;
  short = short;
  events = events_of g [];
  handled = handled;
  first = λ more. first_of_open g [] (pending_open g [] pending) (held ++ more);
  stream = taken.stream;
  took = told_as (λ t t'. t' ≡ t ++ held) (λ t t'. t' ≡ t ++ [] ++ held) i.taken i'.taken taken.took
      (λ t t' e. e ∙ ap (λ l. l ++ held) (sym (append-nil t)));
  no_empty_take = taken.empty_takes;
}

pub unbegun : {Z U E R : Type 0} (g : Grammar Z U E R) (Handled : List E → Type 0) (i : Input)
    → IsPending g [] → Handled (events_of g []) → Starves g Handled i i
unbegun g Handled i pending handled =
    unbegun_held g Handled i i [] pending (omega arith) (none_taken i) handled

-- what was handled before the last pause and since then was handled
pub handled_whole : {E V : Type 0} (f : E → V) (P : List V → Type 0) (events : List E)
    → AreHandled f (λ paused since. P (paused ++ since)) events → P (map f events)
handled_whole f P events h =
    subst P (sym (ap (map f) h.joined ∙ map-append f h.paused h.since)) h.handled

-- what was handled says what follows from it
pub follows_as : {Z U E R : Type 0} (g : Grammar Z U E R) (Handled Said : List E → Type 0)
    (i i' : Input) (ending : FollowEnding R) → ((events : List E) → Handled events → Said events)
    → Follows g Handled i i' ending → Follows g Said i i' ending
follows_as g Handled Said i i' (Judged judged) weaker h = record {
  bytes = h.bytes;
  events = h.events;
  handled = weaker h.events h.handled;
  whole = h.whole;
  settled = h.settled;
  stream = h.stream;
  took = h.took;
}
follows_as g Handled Said i i' ReadFault weaker h = record {
  bytes = h.bytes;
  pending = h.pending;
  handled = weaker _ h.handled;
  stream = h.stream;
  took = h.took;
  no_empty_take = h.no_empty_take;
}
follows_as g Handled Said i i' Memory weaker h = record {
  before = h.before;
  piece = h.piece;
  pending = h.pending;
  short = h.short;
  events = h.events;
  handled = weaker h.events h.handled;
  first = h.first;
  stream = h.stream;
  took = h.took;
  no_empty_take = h.no_empty_take;
}
