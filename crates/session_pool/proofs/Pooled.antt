-- Connections that are accepted, served and closed, one more behind others.
use Rattle.std.proofs.Common.{◌≡◌, ℕ, ◌+◌, All, List, [], ◌∷◌, ◌++◌, map, length, Some}
use Rattle.std.proofs.Common.{None}
use Rattle.std.proofs.Common.{IfSome, Option, sym, refl, ap, ◌∙◌, subst, inl, inr, append_assoc}
use Rattle.std.proofs.Common.{append-nil, arith, length-append}
use Rattle.std.proofs.lemmas.List.{length-map, map-append, Elements.All-head, Elements.All-nil}
use Rattle.std.proofs.lemmas.List.Elements.{All-push, All-tail}
use Rattle.io_edges.specs.{Faults.CountsFaults, Flow.Told, Views.SinkView, Wires.added_up}
use Rattle.io_edges.specs.Wires.{Fresh, Network}
use Rattle.stream_reader.specs.Sides.{endpoint_of}
use Rattle.stream_loop.specs.Edges.{AreNew}
use Rattle.action_dispatch.specs.Answers.{Serves}
use Rattle.duplex_server.specs.declared.connection.Server.{Server}
use Rattle.duplex_server.specs.ServerStream.{Answering, answering}
use Rattle.duplex_server.specs.Served.{Ends, ends_at, told_pair}
use Rattle.session_pool.specs.declared.pooling.{PoolReport.PoolReport, PoolWire.PoolWire}
use Rattle.session_pool.specs.declared.turning.Turning.{Turning}
use Rattle.session_pool.specs.declared.turns.Turns.{Turns}
use Rattle.session_pool.specs.Pooling.{faults_along, IsPooled, moved, Pooled, PoolsAll, StopsAfter}
use Rattle.session_pool.specs.Serving.{Accepts, AreServing, Closes, Hands, IsServing}
use Rattle.session_pool.specs.Turns.{ServesTurns}
use Rattle.session_pool.proofs.{Owing.turns_write, Telling.turns_taken, Telling.turns_written}
use Rattle.session_pool.specs.declared.pooling.PoolWire.TheVariants as wires

-- what was taken and written
abbrev Pairs : Type 0
Pairs = List (List ℕ × List ℕ)

-- what ended connections left
abbrev Leaves : List Pooled → Pairs → Pairs → Type 0
Leaves connections before after = (pairs : Pairs) × (after ≡ before ++ pairs)
    × (map told_pair pairs ≡ map moved connections)

abbrev LeavesOne : Pooled → Pairs → Pairs → Type 0
LeavesOne c before after = (pair : List ℕ × List ℕ) × (after ≡ before ++ pair ∷ [])
    × (told_pair pair ≡ moved c)

leaves_more : (connections : List Pooled) (c : Pooled) (u v w : Option Pairs)
    → Told u v (Leaves connections) → Told v w (LeavesOne c)
    → Told u w (Leaves (connections ++ c ∷ []))
leaves_more connections c None v w p q = tt
leaves_more connections c (Some u) None w p q = absurd p
leaves_more connections c (Some u) (Some v) None p q = absurd q
leaves_more connections c (Some u) (Some v) (Some w) p q = (
  p.0 ++ q.0 ∷ [],
  q.1 ∙ ap (λ (l : Pairs). l ++ q.0 ∷ []) p.1 ∙ append_assoc u p.0 (q.0 ∷ []),
  map-append told_pair p.0 (q.0 ∷ [])
      ∙ ap (λ (l : List (Option (List ℕ) × Option (List ℕ))). l ++ told_pair q.0 ∷ []) p.2
      ∙ ap (λ (e : Option (List ℕ) × Option (List ℕ)). map moved connections ++ e ∷ []) q.2
      ∙ sym (map-append moved connections (c ∷ [])),
)

-- what holds of all holds of each
pub all_at : {X : Type 0} (P : X → Type 0) (before : List X) (one : X) (more : List X)
    → All P (before ++ one ∷ more) → P one
all_at P [] one more all = All-head P one more all
all_at P (first ∷ before) one more all =
    all_at P before one more (All-tail P first (before ++ one ∷ more) all)

-- ---- what is handed out

module _ {R K : Type 0} (seen : R × K → Ends) where
  pub hands_none : (n : Network R K) → Hands seen [] n n
  hands_none n = record {
    handed = waits n.waiting;
    new = All-nil (λ (one : R × K). AreNew n.closed (seen one).input (seen one).sink);
    out = omega arith;
    closed = refl;
    end_faults = refl;
  } where
    waits : (w : Option (List (R × K))) → Told w w (λ before after. before ≡ [] ++ after)
    waits None = tt
    waits (Some w) = refl

  pub hands_more : (ends : List (R × K)) (one : R × K) (n mid n' : Network R K)
      → Hands seen ends n mid
      → Told mid.waiting n'.waiting (λ before after. before ≡ one ∷ after)
      → AreNew mid.closed (seen one).input (seen one).sink → n'.out ≡ mid.out + 1
      → n'.closed ≡ mid.closed → n'.end_faults ≡ mid.end_faults
      → Hands seen (ends ++ one ∷ []) n n'
  hands_more ends one n mid n' h waiting new out closed end_faults = record {
    handed = waits n.waiting mid.waiting n'.waiting h.handed waiting;
    new = All-push (λ (one : R × K). AreNew n.closed (seen one).input (seen one).sink) ends one
        h.new (subst (λ (told : Option Pairs). AreNew told (seen one).input (seen one).sink)
        h.closed new);
    out = let was = h.out in let size = length-append ends (one ∷ []) in
        omega (arith, was, out, size);
    closed = closed ∙ h.closed;
    end_faults = end_faults ∙ h.end_faults;
  } where
    waits : (u v w : Option (List (R × K))) → Told u v (λ before after. before ≡ ends ++ after)
        → Told v w (λ before after. before ≡ one ∷ after)
        → Told u w (λ before after. before ≡ (ends ++ one ∷ []) ++ after)
    waits None v w p q = tt
    waits (Some u) None w p q = absurd p
    waits (Some u) (Some v) None p q = absurd q
    waits (Some u) (Some v) (Some w) p q =
        p ∙ ap (λ l. ends ++ l) q ∙ sym (append_assoc ends (one ∷ []) w)

-- ---- what is being served

module _ {V S K : Type 0} (serves : V → Serves) (left taken : S → Option (List ℕ))
    (faults empty_takes : S → ℕ) (view : K → SinkView) (server : Server V) (most : ℕ) where
  abbrev Serving : List (S × K) → List (Turning V S K) → Type 0
  Serving = AreServing serves left taken faults empty_takes view server most

  pub serving_none : Serving [] []
  unfolding AreServing
  serving_none = refl

  pub serving_more : (ends : List (S × K)) (turnings : List (Turning V S K)) (one : S × K)
      (turning : Turning V S K) → Serving ends turnings
      → IsServing serves left taken faults empty_takes view server most one turning
      → Serving (ends ++ one ∷ []) (turnings ++ turning ∷ [])
  unfolding AreServing
  serving_more [] turnings one turning all is = (
    turning,
    [],
    ap (λ (l : List (Turning V S K)). l ++ turning ∷ []) all,
    is,
    refl,
  )
  serving_more (first ∷ ends) turnings one turning all is = (
    all.0,
    all.1 ++ turning ∷ [],
    ap (λ (l : List (Turning V S K)). l ++ turning ∷ []) all.2,
    all.3,
    serving_more ends all.1 one turning all.4 is,
  )

  -- the first of some
  pub record ServesFirst (ends : List (S × K)) (turning : Turning V S K)
      (rest : List (Turning V S K)) : Type 0 where
    pub one : S × K
    pub more : List (S × K)
    pub ends_are : ends ≡ one ∷ more
    pub is : IsServing serves left taken faults empty_takes view server most one turning
    pub others : Serving more rest

  pub serving_first : (ends : List (S × K)) (turnings : List (Turning V S K))
      (turning : Turning V S K) (rest : List (Turning V S K)) → turnings ≡ turning ∷ rest
      → Serving ends turnings → ServesFirst ends turning rest
  unfolding AreServing
  serving_first [] turnings turning rest is all = cc
  serving_first (one ∷ ends) turnings turning rest is all =
      let same : all.0 ∷ all.1 ≡ turning ∷ rest = sym all.2 ∙ is in record {
        one = one;
        more = ends;
        ends_are = refl;
        is = subst (λ (t : Turning V S K). IsServing serves left taken faults empty_takes view
            server most one t) (ap (head_of turning) same) all.3;
        others = subst (Serving ends) (ap tail_of same) all.4;
      }
    where
      head_of : Turning V S K → List (Turning V S K) → Turning V S K
      head_of other [] = other
      head_of other (t ∷ l) = t

      tail_of : List (Turning V S K) → List (Turning V S K)
      tail_of [] = []
      tail_of (t ∷ l) = l

  -- ---- what is closed

  abbrev seen : S × K → Ends
  seen = ends_at left taken faults empty_takes view

  abbrev x : Answering
  x = answering (serves server.service.now) server.statics.now server.quotas.now

  abbrev endpoint : Option (List ℕ)
  endpoint = endpoint_of server.endpoint.now

  abbrev ClosesSo : List (S × K) → Option Pairs → Network S K → Network S K → List Turns → Type 0
  ClosesSo = Closes serves left taken faults empty_takes view server most

  pub closes_none : (told : Option Pairs) (n : Network S K) → ClosesSo [] told n n []
  unfolding faults_along
  closes_none told n = record {
    connections = [];
    turns = refl;
    handed = refl;
    served = All-nil (IsPooled x endpoint most told);
    closed = leaves n.closed;
    end_faults = refl;
    out = omega arith;
    waiting = refl;
    faults_are = refl;
  } where
    leaves : (w : Option Pairs) → Told w w (Leaves [])
    leaves None = tt
    leaves (Some w) = ([], sym (append-nil w), refl)

  -- one more of those is closed
  module _ (ends : List (S × K)) (told : Option Pairs) (n mid n' : Network S K) (list : List Turns)
      (h : ClosesSo ends told n mid list) (one one' : S × K) (turns : Turns) where
    abbrev c : Pooled
    c = record { handed = seen one; closed = seen one'; turns = turns }

    pub is_pooled : AreNew told (seen one).input (seen one).sink
        → ServesTurns x endpoint most (seen one).input (seen one').input (seen one).sink
        (seen one').sink turns → IsPooled x endpoint most told c
    is_pooled new so = record {
      begins = new;
      serves = so;
      written = λ bytes w bytes_are was. turns_write x endpoint most (seen one).input
          (seen one').input (seen one).sink (seen one').sink turns so bytes w bytes_are was;
    }

    pub closes_more : IsPooled x endpoint most told c
        → ((was : Pairs) → n.closed ≡ Some was → Told mid.closed n'.closed (LeavesOne c))
        → n'.end_faults ≡ added_up mid.end_faults c.closed.input.faults c.closed.sink.faults
        → mid.out ≡ n'.out + 1 → n'.waiting ≡ mid.waiting → n'.faults ≡ mid.faults
        → ClosesSo (ends ++ one ∷ []) told n n' (list ++ turns ∷ [])
    unfolding faults_along
    closes_more is left end_faults out waiting faults_are = record {
      connections = h.connections ++ c ∷ [];
      turns = ap (λ (l : List Turns). l ++ turns ∷ []) h.turns
          ∙ sym (map-append (λ (c : Pooled). c.turns) h.connections (c ∷ []));
      handed = map-append seen ends (one ∷ [])
          ∙ ap (λ (l : List Ends). l ++ seen one ∷ []) h.handed
          ∙ sym (map-append (λ (c : Pooled). c.handed) h.connections (c ∷ []));
      served = All-push (IsPooled x endpoint most told) h.connections c h.served is;
      closed = leaves n.closed mid.closed n'.closed h.closed left;
      end_faults = end_faults ∙ ap (λ (count : ℕ). added_up count c.closed.input.faults
          c.closed.sink.faults) h.end_faults ∙ sym (along n.end_faults h.connections);
      out = let was = h.out in let size = length-append ends (one ∷ []) in
          omega (arith, was, out, size);
      waiting = waiting ∙ h.waiting;
      faults_are = faults_are ∙ h.faults_are;
    } where
      along : (count : ℕ) (connections : List Pooled) → faults_along count (connections ++ c ∷ [])
          ≡ added_up (faults_along count connections) c.closed.input.faults c.closed.sink.faults
      along count [] = refl
      along count (d ∷ connections) =
          along (added_up count d.closed.input.faults d.closed.sink.faults) connections

      leaves : (u v w : Option Pairs) → Told u v (Leaves h.connections)
          → ((was : Pairs) → u ≡ Some was → Told v w (LeavesOne c))
          → Told u w (Leaves (h.connections ++ c ∷ []))
      leaves None v w p q = tt
      leaves (Some u) v w p q = leaves_more h.connections c (Some u) v w p (q u refl)

  -- what was taken and written is told of a connection that was new where this is told
  pub closed_pair : (one one' : S × K) (turns : Turns)
      → ServesTurns x endpoint most (seen one).input (seen one').input (seen one).sink
      (seen one').sink turns → (told : Option Pairs) → AreNew told (seen one).input (seen one).sink
      → (was : Pairs) → told ≡ Some was → (before after : Option Pairs)
      → Told before after (λ c c'. IfSome (seen one').input.taken (λ t.
      IfSome (seen one').sink.written (λ w. c' ≡ c ++ (t, w) ∷ [])))
      → Told before after (LeavesOne
      (record { handed = seen one; closed = seen one'; turns = turns }))
  closed_pair one one' turns h told new was is before after closed =
      let fresh = subst (λ (t : Option Pairs). Fresh t (seen one).input.taken) is new.nothing_taken
      in let clear = subst (λ (t : Option Pairs). Fresh t (seen one).sink.written) is
      new.nothing_written in
      let t = turns_taken x endpoint most (seen one).input (seen one').input (seen one).sink
      (seen one').sink turns h [] fresh in
      let w = turns_written x endpoint most (seen one).input (seen one').input (seen one).sink
      (seen one').sink turns h [] clear in
      pair (seen one').input.taken (seen one').sink.written t.0 w.0 t.1 w.1 before after closed
    where
      pair : (taken written : Option (List ℕ)) (t w : List ℕ) → taken ≡ Some t → written ≡ Some w
          → (before after : Option Pairs) → Told before after (λ c c'. IfSome taken (λ t.
          IfSome written (λ w. c' ≡ c ++ (t, w) ∷ [])))
          → Told before after (λ c c'. (pair : List ℕ × List ℕ) × (c' ≡ c ++ pair ∷ [])
          × (told_pair pair ≡ (taken, written)))
      pair None written t w is its before after told = cc
      pair (Some taken) None t w is its before after told = cc
      pair (Some taken) (Some written) t w is its None after told = tt
      pair (Some taken) (Some written) t w is its (Some before) None told = told
      pair (Some taken) (Some written) t w is its (Some before) (Some after) told =
          ((taken, written), told, refl)

  -- ---- all of it

  -- connections that were accepted, and then closed
  pub pools_all : (asked : ℕ) (n mid n' : Network S K) (turnings : List (Turning V S K))
      (report : PoolReport)
      (a : Accepts serves left taken faults empty_takes view server most asked n mid turnings
      report.wire) → ClosesSo a.ends n.closed mid n' report.turns
      → PoolsAll x endpoint most seen asked n n' report
  pools_all asked n mid n' turnings report a k = record {
    connections = k.connections;
    turns = k.turns;
    handed = handed n.waiting mid.waiting n'.waiting a.hands.handed k.waiting;
    served = k.served;
    closed = subst (λ (told : Option Pairs). Told told n'.closed (λ before after. (pairs : Pairs)
        × (after ≡ before ++ pairs) × (map told_pair pairs ≡ map moved k.connections)))
        a.hands.closed k.closed;
    end_faults = k.end_faults ∙ ap (λ (count : ℕ). faults_along count k.connections)
        a.hands.end_faults;
    out = let taken = a.hands.out in let back = k.out in omega (arith, taken, back);
    few = let size = same_size in let few = a.few in omega (arith, size, few);
    stopped = subst (λ (size : ℕ). StopsAfter report.wire asked size n n') same_size
        (stops report.wire a.stopped);
    counted = subst (λ (count : ℕ). CountsFaults n.faults count (report.wire ≡ wires.Failed))
        (sym k.faults_are) a.counted;
  } where
    same_size : length a.ends ≡ length k.connections
    same_size = sym (length-map a.ends seen) ∙ ap length k.handed
        ∙ length-map k.connections (λ (c : Pooled). c.handed)

    handed : (u v w : Option (List (S × K))) → Told u v (λ before after. before ≡ a.ends ++ after)
        → w ≡ v → Told u w (λ before after. (ends : List (S × K)) × (before ≡ ends ++ after)
        × (map seen ends ≡ map (λ (c : Pooled). c.handed) k.connections))
    handed None v w p same = tt
    handed (Some u) None w p same = absurd p
    handed (Some u) (Some v) None p same = cc
    handed (Some u) (Some v) (Some w) p same =
        let is : w ≡ v = cc in (a.ends, p ∙ ap (λ l. a.ends ++ l) (sym is), k.handed)

    stops : (wire : PoolWire) → StopsAfter wire asked (length a.ends) n mid
        → StopsAfter wire asked (length a.ends) n n'
    stops wires.Done (inl all) = inl all
    stops wires.Done (inr none) = inr (subst (λ (w : Option (List (S × K))). Told n.waiting w
        (λ before after. after ≡ [])) (sym k.waiting) none)
    stops wires.Failed fewer = fewer
