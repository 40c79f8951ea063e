-- One more connection behind others.
use Rattle.std.proofs.Common.{◌≡◌, ℕ, ◌+◌, List, [], ◌∷◌, ◌++◌, map, IfSome, Some, None}
use Rattle.std.proofs.Common.{Option, sym, refl, ap, ◌∙◌, subst, append_assoc, append-nil, arith}
use Rattle.std.proofs.lemmas.List.{map-append, Elements.All-nil, Elements.All-push}
use Rattle.io_edges.specs.{Flow.Told, Wires.added_up, Wires.Fresh, Wires.Network}
use Rattle.duplex_server.specs.{declared.outcome.Outcome.Outcome, ServerStream.Answering}
use Rattle.duplex_server.specs.{Along.ServesOne, Serving.Serves}
use Rattle.duplex_server.specs.Served.{Connection, Ends, ends_at, faults_along}
use Rattle.duplex_server.specs.Served.{IsServed, moved, ServesEach, told_pair, with_faults}
use Rattle.duplex_server.proofs.Meeting.{is_served, met, pair_told}
use Rattle.io_edges.specs.Views.{SinkView}
use Rattle.stream_loop.specs.Edges.{AreNew}

-- what the ends of ended connections left
abbrev Pairs : Type 0
Pairs = List (List ℕ × List ℕ)

-- ends that are fresh where a wire tells more are so where it told less
fresh_before : (before now : Option Pairs) (P : Pairs → Pairs → Type 0) (told : Option (List ℕ))
    → Told before now P → Fresh now told → Fresh before told
fresh_before None None P told is fresh = fresh
fresh_before None (Some now) P told is fresh = rw fresh refl
fresh_before (Some before) None P told is fresh = absurd is
fresh_before (Some before) (Some now) P told is fresh = fresh

new_before : (before now : Option Pairs) (P : Pairs → Pairs → Type 0) (ends : Ends)
    → Told before now P → AreNew now ends.input ends.sink → AreNew before ends.input ends.sink
new_before before now P ends is new = record {
  unread = new.unread;
  nothing_taken = fresh_before before now P ends.input.taken is new.nothing_taken;
  unwritten = new.unwritten;
  nothing_written = fresh_before before now P ends.sink.written is new.nothing_written;
  nothing_held = new.nothing_held;
}

-- counts of faults, connection by connection
faults_along-push : (count : ℕ) (connections : List Connection) (c : Connection)
    → faults_along count (connections ++ c ∷ []) ≡ with_faults (faults_along count connections) c
unfolding faults_along
faults_along-push count [] c = refl
faults_along-push count (d ∷ connections) c =
    faults_along-push (with_faults count d) connections c

-- what was handed out
module _ {R K : Type 0} (seen : R × K → Ends) where
  abbrev Hands : List Connection → List (R × K) → List (R × K) → Type 0
  Hands connections before after = (ends : List (R × K)) × (before ≡ ends ++ after)
      × (map seen ends ≡ map (λ (c : Connection). c.handed) connections)

  abbrev HandsOne : Connection → List (R × K) → List (R × K) → Type 0
  HandsOne c before after =
      (ends : R × K) × (before ≡ ends ∷ after) × (seen ends ≡ c.handed)

  hands_none : (w : Option (List (R × K))) → Told w w (Hands [])
  hands_none None = tt
  hands_none (Some w) = ([], refl, refl)

  hands_more : (connections : List Connection) (c : Connection) (u v w : Option (List (R × K)))
      → Told u v (Hands connections) → Told v w (HandsOne c)
      → Told u w (Hands (connections ++ c ∷ []))
  hands_more connections c None v w p q = tt
  hands_more connections c (Some u) None w p q = absurd p
  hands_more connections c (Some u) (Some v) None p q = absurd q
  hands_more connections c (Some u) (Some v) (Some w) p q = (
    p.0 ++ q.0 ∷ [],
    p.1 ∙ ap (λ (l : List (R × K)). p.0 ++ l) q.1 ∙ sym (append_assoc p.0 (q.0 ∷ []) w),
    map-append seen p.0 (q.0 ∷ [])
        ∙ ap (λ (l : List Ends). l ++ seen q.0 ∷ []) p.2
        ∙ ap (λ (e : Ends). map (λ (c : Connection). c.handed) connections ++ e ∷ []) q.2
        ∙ sym (map-append (λ (c : Connection). c.handed) connections (c ∷ [])),
  )

-- what ended connections left
abbrev Leaves : List Connection → Pairs → Pairs → Type 0
Leaves connections before after = (pairs : Pairs) × (after ≡ before ++ pairs)
    × (map told_pair pairs ≡ map moved connections)

abbrev LeavesOne : Connection → Pairs → Pairs → Type 0
LeavesOne c before after = (pair : List ℕ × List ℕ) × (after ≡ before ++ pair ∷ [])
    × (told_pair pair ≡ moved c)

leaves_none : (w : Option Pairs) → Told w w (Leaves [])
leaves_none None = tt
leaves_none (Some w) = ([], sym (append-nil w), refl)

leaves_more : (connections : List Connection) (c : Connection) (u v w : Option Pairs)
    → Told u v (Leaves connections) → Told v w (LeavesOne c)
    → Told u w (Leaves (connections ++ c ∷ []))
leaves_more connections c None v w p q = tt
leaves_more connections c (Some u) None w p q = absurd p
leaves_more connections c (Some u) (Some v) None p q = absurd q
leaves_more connections c (Some u) (Some v) (Some w) p q = (
  p.0 ++ q.0 ∷ [],
  q.1 ∙ ap (λ (l : Pairs). l ++ q.0 ∷ []) p.1 ∙ append_assoc u p.0 (q.0 ∷ []),
  map-append told_pair p.0 (q.0 ∷ [])
      ∙ ap (λ (l : List (Option (List ℕ) × Option (List ℕ))). l ++ told_pair q.0 ∷ []) p.2
      ∙ ap (λ (e : Option (List ℕ) × Option (List ℕ)). map moved connections ++ e ∷ []) q.2
      ∙ sym (map-append moved connections (c ∷ [])),
)

module _ (x : Answering) (endpoint : Option (List ℕ)) {R K : Type 0} (seen : R × K → Ends) where
  -- before the first
  pub each_none : (n : Network R K) → ServesEach x endpoint seen [] n n
  unfolding faults_along
  each_none n = record {
    handed = hands_none seen n.waiting;
    served = All-nil (IsServed x endpoint n.closed);
    closed = leaves_none n.closed;
    end_faults = refl;
    out = refl;
  }

  module _ (connections : List Connection) (n mid : Network R K)
      (h : ServesEach x endpoint seen connections n mid) (n' : Network R K) where
    -- one more
    pub each_more : (c : Connection) → ServesOne x endpoint seen mid n' c
        → ServesEach x endpoint seen (connections ++ c ∷ []) n n'
    each_more c one = record {
      handed = hands_more seen connections c n.waiting mid.waiting n'.waiting h.handed one.handed;
      served = All-push (IsServed x endpoint n.closed) connections c h.served (record {
        begins = new_before n.closed mid.closed (Leaves connections) c.handed h.closed
            one.served.begins;
        serves = one.served.serves;
        read_fault = one.served.read_fault;
        write_fault = one.served.write_fault;
        nothing_held = one.served.nothing_held;
      });
      closed = leaves_more connections c n.closed mid.closed n'.closed h.closed one.closed;
      end_faults = one.end_faults ∙ ap (λ (count : ℕ). with_faults count c) h.end_faults
          ∙ sym (faults_along-push n.end_faults connections c);
      out = one.out ∙ h.out;
    }

-- a connection that was handed out, served and closed, by what the wire and its ends tell
module _ (x : Answering) (endpoint : Option (List ℕ)) {R K : Type 0}
    (left taken : R → Option (List ℕ)) (reads empty_takes : R → ℕ) (view : K → SinkView) where
  abbrev seen_of : R × K → Ends
  seen_of = ends_at left taken reads empty_takes view

  -- what closing adds
  abbrev Closes : (ends : R × K) → Pairs → Pairs → Type 0
  Closes ends before after = IfSome (taken ends.0) (λ t. IfSome (view ends.1).written (λ w.
      after ≡ before ++ (t, w) ∷ []))

  pair_closed : (taken written : Option (List ℕ)) (pair : List ℕ × List ℕ)
      (before after : Pairs) → told_pair pair ≡ (taken, written)
      → IfSome taken (λ t. IfSome written (λ w. after ≡ before ++ (t, w) ∷ []))
      → after ≡ before ++ pair ∷ []
  pair_closed taken written pair before after is closes =
      let t : Some pair.0 ≡ taken =
      ap (λ (p : Option (List ℕ) × Option (List ℕ)). p.0) is in
      let w : Some pair.1 ≡ written =
      ap (λ (p : Option (List ℕ) × Option (List ℕ)). p.1) is in
      rw (← t, ← w) at closes

  module _ (ends ends' : R × K) (outcome : Outcome) (h : Serves x endpoint (seen_of ends).input
      (seen_of ends').input (view ends.1) (view ends'.1) outcome) where
    abbrev one_met : Connection
    one_met = met seen_of ends ends' outcome

    leaves_one : (u v : Option Pairs) → Fresh u (taken ends.0) → Fresh u (view ends.1).written
        → Told u v (Closes ends') → Told u v (LeavesOne one_met)
    leaves_one None v t w closes = tt
    leaves_one (Some u) None t w closes = absurd closes
    leaves_one (Some u) (Some v) t w closes =
        let p = pair_told x endpoint left taken reads empty_takes view
        ends ends' outcome h t w in
        (p.0, pair_closed (taken ends'.0) (view ends'.1).written p.0 u v p.1 closes, p.1)

    pub serves_one : (n mid n' : Network R K) → Told n.waiting mid.waiting (λ w w'. w ≡ ends ∷ w')
        → mid.out ≡ n.out + 1
        → (reads ends.0 ≡ 0) × Fresh n.closed (taken ends.0)
        → ((view ends.1).faults ≡ 0) × Fresh n.closed (view ends.1).written
        × ((view ends.1).held ≡ [])
        → mid.faults ≡ n.faults
        → (mid.closed ≡ n.closed) × (mid.end_faults ≡ n.end_faults)
        → Told mid.closed n'.closed (Closes ends') → mid.out ≡ n'.out + 1
        → n'.waiting ≡ mid.waiting
        → n'.end_faults ≡ added_up mid.end_faults (reads ends'.0) (view ends'.1).faults
        → n'.faults ≡ mid.faults
        → ServesOne x endpoint seen_of n n' one_met
    serves_one n mid n' handed out reader writer still ended closes back waiting counted kept =
        record {
          handed = subst (λ (w : Option (List (R × K))). Told n.waiting w
              (HandsOne seen_of one_met)) (sym waiting)
              (handed_so n.waiting mid.waiting handed);
          served = is_served x endpoint left taken reads empty_takes view
              ends ends' outcome h n.closed (record {
                unread = reader.0;
                nothing_taken = reader.1;
                unwritten = writer.0;
                nothing_written = writer.1;
                nothing_held = writer.2;
              });
          closed = leaves_one n.closed n'.closed reader.1 writer.1
              (subst (λ (w : Option Pairs). Told w n'.closed (Closes ends')) ended.0 closes);
          end_faults = counted ∙ ap (λ (k : ℕ). added_up k (reads ends'.0) (view ends'.1).faults)
              ended.1;
          out = omega (arith, out, back);
          faults = kept ∙ still;
        }
      where
        handed_so : (u v : Option (List (R × K))) → Told u v (λ w w'. w ≡ ends ∷ w')
            → Told u v (HandsOne seen_of one_met)
        handed_so None v p = tt
        handed_so (Some u) None p = absurd p
        handed_so (Some u) (Some v) p = (ends, p, refl)
