-- One more session of a connection behind others.
use Rattle.std.proofs.Common.{All, ◌≡◌, ℕ, ◌<◌, true, false, List, [], ◌∷◌, ◌++◌, drop, length}
use Rattle.std.proofs.Common.{Some}
use Rattle.std.proofs.Common.{None, Ok, Err, Option, Result, Bool, append-nil}
use Rattle.stream_loop.proofs.Writing.{known_told}
use Rattle.std.proofs.Common.{sym, refl, ap, ◌∙◌, subst, append_assoc}
use Rattle.std.specs.Option.{option_map}
use Rattle.std.proofs.{Math.Seq.drop-append_seam, lemmas.List.Elements.All-head}
use Rattle.std.proofs.lemmas.List.Elements.{All-tail}
use Rattle.io_edges.specs.{declared.Failed.Failed, Faults.Rose, Flow.Told}
use Rattle.stream_reader.specs.Stream.{stream}
use Rattle.stream_loop.specs.{Edges.Input, Followed.EndsWith, Followed.WasTaken}
use Rattle.duplex_server.specs.declared.outcome.{Outcome.Outcome}
use Rattle.duplex_server.specs.{Carrying.FillsCarry, Carrying.GoesBehind, Carrying.ServesKept}
use Rattle.duplex_server.specs.{ServerStream.Answering, ServerStream.requests_to, Serving.Serves}
use Rattle.io_edges.specs.Views.{SinkView}
use Rattle.stream_loop.specs.declared.outbound.Outbound.TheVariants.{Done}
use Rattle.session_pool.specs.{SoFar.IsSoFar, Turns.Begins, Turns.behind_session, Turns.InTurn}
use Rattle.session_pool.specs.Turns.{IsWell, Rests, ServesTurns}
use Rattle.session_pool.specs.declared.turns.Turns.{Turns}
use Rattle.session_pool.specs.declared.turns.TurnsEnd.TheVariants as stops

-- no bytes are none in two parts
nothing_in : (a b : List ℕ) → a ++ b ≡ [] → a ≡ []
nothing_in [] b none = refl
nothing_in (c ∷ a) b none = cc

module _ (x : Answering) (endpoint : Option (List ℕ)) where
  -- one more session, behind those that were served in turn
  pub in_turn_more : (served : List Outcome) (i next : Input) (sink later : SinkView)
      → InTurn x endpoint i sink served next later → (session : List ℕ) (mid : Input)
      (last : SinkView) (outcome : Outcome) → IsWell outcome
      → Serves x endpoint next mid later last outcome
      → EndsWith (stream (requests_to x endpoint)) session → Begins session next
      → InTurn x endpoint i sink (served ++ outcome ∷ []) (behind_session session next mid) last
  unfolding InTurn
  in_turn_more [] i next sink later so_far session mid last outcome well serves ended begins = (
    session,
    mid,
    last,
    well,
    subst (λ (s : SinkView). Serves x endpoint i mid s last outcome) so_far.1
        (subst (λ (n : Input). Serves x endpoint n mid later last outcome) so_far.0 serves),
    ended,
    subst (Begins session) so_far.0 begins,
    (ap (λ (n : Input). behind_session session n mid) so_far.0, refl),
  )
  in_turn_more (one ∷ served) i next sink later so_far session mid last outcome well serves ended
      begins = (
        so_far.0,
        so_far.1,
        so_far.2,
        so_far.3,
        so_far.4,
        so_far.5,
        so_far.6,
        in_turn_more served (behind_session so_far.0 i so_far.1) next so_far.2 later so_far.7
            session mid last outcome well serves ended begins,
      )

  -- before the first session
  pub none_so_far : (i : Input) (sink : SinkView) → WasTaken [] i i
      → IsSoFar x endpoint i i sink sink [] []
  unfolding InTurn
  none_so_far i sink taken = record { next = i; in_turn = (refl, refl); taken = taken }

  -- what is behind a session is what was carried from it and what the input gives now
  module _ (next mid : Input) (carried : List ℕ) (h : GoesBehind x endpoint next mid carried) where
    pub begins_with : Begins h.session next
    begins_with all is = by mid.left (subst (λ (l : Option (List ℕ)). Told l mid.left
        (λ all rest. all ≡ h.session ++ carried ++ rest)) is h.stream) where
          by : (left : Option (List ℕ)) → Told (Some all) left
              (λ all rest. all ≡ h.session ++ carried ++ rest)
              → (rest : List ℕ) × (all ≡ h.session ++ rest)
          by None told = absurd told
          by (Some rest) told = (carried ++ rest, told ∙ append_assoc h.session carried rest)

    pub taken_behind : WasTaken carried (behind_session h.session next mid) mid
    taken_behind = record {
      stream = left_so next.left mid.left h.stream;
      took = taken_so next.taken mid.taken h.took;
      faults = refl;
      empty_takes = refl;
    } where
      left_so : (left left' : Option (List ℕ))
          → Told left left' (λ all rest. all ≡ h.session ++ carried ++ rest)
          → Told (option_map (drop (length h.session)) left) left'
          (λ all rest. all ≡ carried ++ rest)
      left_so None left' told = tt
      left_so (Some all) None told = told
      left_so (Some all) (Some rest) told =
          ap (drop (length h.session)) (told ∙ append_assoc h.session carried rest)
          ∙ drop-append_seam h.session (carried ++ rest)

      taken_so : (t t' : Option (List ℕ)) → Told t t' (λ t t'. t' ≡ t ++ h.session ++ carried)
          → Told (option_map (λ (taken : List ℕ). taken ++ h.session) t) t'
          (λ t t'. t' ≡ t ++ carried)
      taken_so None t' told = tt
      taken_so (Some t) None told = told
      taken_so (Some t) (Some t') told = told

  -- where more was taken, the next session begins with that too
  module _ (carried carried' : List ℕ) (next i i' : Input) (answer : Result Bool Failed)
      (f : FillsCarry i i' carried carried' answer) (t : WasTaken carried next i) where
    pub filled_stream : Told next.left i'.left (λ all rest. all ≡ carried' ++ rest)
    filled_stream = so next.left i.left i'.left t.stream f.moved where
      so : (a b c : Option (List ℕ)) → Told a b (λ all rest. all ≡ carried ++ rest)
          → Told b c (λ l l'. l ≡ f.taken ++ l') → Told a c (λ all rest. all ≡ carried' ++ rest)
      so None b c p q = tt
      so (Some a) None c p q = absurd p
      so (Some a) (Some b) None p q = absurd q
      so (Some a) (Some b) (Some c) p q = p ∙ ap (λ l. carried ++ l) q
          ∙ sym (append_assoc carried f.taken c) ∙ ap (λ l. l ++ c) (sym f.joined)

    pub filled_took : Told next.taken i'.taken (λ t t'. t' ≡ t ++ carried')
    filled_took = so next.taken i.taken i'.taken t.took f.took where
      so : (a b c : Option (List ℕ)) → Told a b (λ t t'. t' ≡ t ++ carried)
          → Told b c (λ t t'. t' ≡ t ++ f.taken) → Told a c (λ t t'. t' ≡ t ++ carried')
      so None b c p q = tt
      so (Some a) None c p q = absurd p
      so (Some a) (Some b) None p q = absurd q
      so (Some a) (Some b) (Some c) p q = q ∙ ap (λ l. l ++ f.taken) p
          ∙ append_assoc a carried f.taken ∙ ap (λ l. a ++ l) (sym f.joined)

  pub filled : (carried carried' : List ℕ) (next i i' : Input)
      → FillsCarry i i' carried carried' (Ok true) → WasTaken carried next i
      → WasTaken carried' next i'
  filled carried carried' next i i' f t = record {
    stream = filled_stream carried carried' next i i' (Ok true) f t;
    took = filled_took carried carried' next i i' (Ok true) f t;
    faults = f.counted.same (λ e. cc) ∙ t.faults;
    empty_takes = f.empty.same (λ e. cc) ∙ t.empty_takes;
  }

  -- ---- why no more are served

  -- there was no memory to begin with
  pub no_memory : (most : ℕ) (i : Input) (sink : SinkView) (turns : Turns) → turns.outcomes ≡ []
      → turns.end ≡ stops.Memory → ServesTurns x endpoint most i i sink sink turns
  unfolding InTurn
  no_memory most i sink turns none end = record {
    served = [];
    next = i;
    later = sink;
    in_turn = (refl, refl);
    ended = rw end (
      refl,
      record {
        joined = none;
        same = refl;
        carried = [];
        stream = known_told (λ all rest. all ≡ [] ++ rest) i.left i.left (λ l e. (l, e, refl));
        took = known_told (λ t t'. t' ≡ t ++ []) i.taken i.taken
            (λ t e. (t, e, sym (append-nil t)));
      },
      refl,
    );
  }

  module _ (most : ℕ) (i now i' : Input) (sink later : SinkView) (carried : List ℕ)
      (served : List Outcome) (h : IsSoFar x endpoint i now sink later carried served)
      (few : length served < most) (turns : Turns) (joined : turns.outcomes ≡ served) where
    -- what was taken between two sessions is carried
    rests : (carried' : List ℕ) (answer : Result Bool Failed)
        → FillsCarry now i' carried carried' answer
        → Rests served h.next i' later later turns.outcomes
    rests carried' answer f = record {
      joined = joined;
      same = refl;
      carried = carried';
      stream = filled_stream carried carried' h.next now i' answer f h.taken;
      took = filled_took carried carried' h.next now i' answer f h.taken;
    }

    -- the peer sends no more
    pub no_more : (carried' : List ℕ) → FillsCarry now i' carried carried' (Ok false)
        → turns.end ≡ stops.Done → ServesTurns x endpoint most i i' sink later turns
    no_more carried' f end = record {
      served = served;
      next = h.next;
      later = later;
      in_turn = h.in_turn;
      ended = rw end (
        few,
        rests carried' (Ok false) f,
        over h.next.left now.left i'.left h.taken.stream f.moved (f.over refl),
      );
    } where
      none : carried ≡ []
      none = nothing_in carried f.taken (sym f.joined ∙ f.some.0 refl)

      over : (a b c : Option (List ℕ)) → Told a b (λ all rest. all ≡ carried ++ rest)
          → Told b c (λ l l'. l ≡ f.taken ++ l') → Told b c (λ l l'. l ≡ [])
          → Told a c (λ all rest. all ≡ [])
      over None b c p q r = tt
      over (Some a) None c p q r = absurd p
      over (Some a) (Some b) None p q r = absurd q
      over (Some a) (Some b) (Some c) p q r = p ∙ ap (λ l. l ++ b) none ∙ r

    -- a read failed
    pub not_read : (carried' : List ℕ) (failed : Failed)
        → FillsCarry now i' carried carried' (Err failed)
        → turns.end ≡ stops.ReadFault → ServesTurns x endpoint most i i' sink later turns
    not_read carried' failed f end = record {
      served = served;
      next = h.next;
      later = later;
      in_turn = h.in_turn;
      ended = rw end (
        few,
        rests carried' (Err failed) f,
        subst (λ (n : ℕ). Rose n i'.faults) h.taken.faults (f.counted.rose refl),
      );
    }

  -- as many were served as may be
  pub as_many : (most : ℕ) (i now : Input) (sink later : SinkView) (carried : List ℕ)
      (served : List Outcome) → IsSoFar x endpoint i now sink later carried served
      → length served ≡ most → (turns : Turns) → turns.outcomes ≡ served → turns.end ≡ stops.Most
      → ServesTurns x endpoint most i now sink later turns
  as_many most i now sink later carried served h all turns joined end = record {
    served = served;
    next = h.next;
    later = later;
    in_turn = h.in_turn;
    ended = rw end (
      all,
      record {
        joined = joined;
        same = refl;
        carried = carried;
        stream = h.taken.stream;
        took = h.taken.took;
      },
    );
  }

  -- one more was served, and isn't well
  pub one_unwell : (most : ℕ) (i now i' : Input) (sink later last : SinkView)
      (carried carried' : List ℕ) (served : List Outcome) (outcome : Outcome)
      → IsSoFar x endpoint i now sink later carried served
      → ServesKept x endpoint now i' carried carried' later last outcome
      → (IsWell outcome → ⊥) → (carried ≡ [] → ⊥) → length served < most → (turns : Turns)
      → turns.outcomes ≡ served ++ outcome ∷ [] → turns.end ≡ stops.Stopped
      → ServesTurns x endpoint most i i' sink last turns
  one_unwell most i now i' sink later last carried carried' served outcome h kept unwell some few
      turns joined end = record {
        served = served;
        next = h.next;
        later = later;
        in_turn = h.in_turn;
        ended = rw end (
          few,
          record {
            last = outcome;
            joined = joined;
            unwell = unwell;
            some = λ none. some (empty now.left (subst (λ (l : Option (List ℕ)). Told l now.left
                (λ all rest. all ≡ carried ++ rest)) none h.taken.stream));
            serves = kept.serves h.next h.taken;
          },
        );
      } where
        empty : (left : Option (List ℕ)) → Told (Some []) left (λ all rest. all ≡ carried ++ rest)
            → carried ≡ []
        empty None told = absurd told
        empty (Some rest) told = nothing_in carried rest (sym told)

  -- one more was served well
  pub one_well : (i now i' : Input) (sink later last : SinkView) (carried carried' : List ℕ)
      (served : List Outcome) (outcome : Outcome)
      → IsSoFar x endpoint i now sink later carried served
      → ServesKept x endpoint now i' carried carried' later last outcome → IsWell outcome
      → IsSoFar x endpoint i i' sink last carried' (served ++ outcome ∷ [])
  one_well i now i' sink later last carried carried' served outcome h kept well =
      let g = kept.behind h.next h.taken well.inbound in
      record {
        next = behind_session g.session h.next i';
        in_turn = in_turn_more served i h.next sink later h.in_turn g.session i' last outcome well
            (kept.serves h.next h.taken) g.ended (begins_with h.next i' carried' g);
        taken = taken_behind h.next i' carried' g;
      }

  -- where more was taken
  pub filled_so_far : (i now i' : Input) (sink later : SinkView) (carried carried' : List ℕ)
      (served : List Outcome) → IsSoFar x endpoint i now sink later carried served
      → FillsCarry now i' carried carried' (Ok true)
      → IsSoFar x endpoint i i' sink later carried' served
  filled_so_far i now i' sink later carried carried' served h f = record {
    next = h.next;
    in_turn = h.in_turn;
    taken = filled carried carried' h.next now i' f h.taken;
  }

-- of outcomes that are all done the last is
pub last_done : (outcomes : List Outcome) (last : Outcome)
    → All (λ (o : Outcome). o.outbound ≡ Done) (outcomes ++ last ∷ []) → last.outbound ≡ Done
last_done [] last all = All-head (λ (o : Outcome). o.outbound ≡ Done) last [] all
last_done (one ∷ outcomes) last all = last_done outcomes last
    (All-tail (λ (o : Outcome). o.outbound ≡ Done) one (outcomes ++ last ∷ []) all)
