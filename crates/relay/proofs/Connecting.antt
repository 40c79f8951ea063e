-- What is known of connections that were relayed, with one more, and when no more are.
use Rattle.std.proofs.Common.{◌≡◌, ℕ, ◌+◌, ◌<◌, List, [], ◌∷◌, ◌++◌, length, Some, None}
use Rattle.std.proofs.Common.{Ok, Err, Option, Result}
use Rattle.std.proofs.Common.{sym, refl, ap, ◌∙◌, subst, inl, inr, arith, append_assoc, append-nil}
use Rattle.std.proofs.Common.{length-append}
use Rattle.std.{specs.Prelude.⊤, proofs.lemmas.List.length-map, proofs.lemmas.List.map-append}
use Rattle.io_edges.proofs.Putting.{Puts-nothing, Puts-then}
use Rattle.io_edges.specs.{declared.SinkFault.SinkFault, Faults.CountsFaults, Gathering.with_room}
use Rattle.io_edges.specs.Flow.{GrowsByPrefix, Passes, Told}
use Rattle.stream_loop.proofs.Counts.{counts_as}
use Rattle.io_edges.specs.{Puts.Puts, Views.SinkView, Wires.Network}
use Rattle.relay.specs.declared.{outcome.RelayOutcome.RelayOutcome, stopping.RelayFault.RelayFault}
use Rattle.relay.specs.{Along.IsAlong, Relayed.Relay}
use Rattle.relay.specs.Connections.{Connection, Ends, HandsNone, HasLines, outcomes_of}
use Rattle.relay.specs.Connections.{RelaysAll, RelaysEach, RelaysOne, RelaysToEnd, RelaysToFault}
use Rattle.relay.specs.Connections.{RelaysToLine, stop_by, WireFails}
use Rattle.relay.specs.Lines.{lines_from, relay_line}
use Rattle.io_edges.specs.declared.SinkFault.TheVariants as sinks
use Rattle.relay.specs.declared.stopping.RelayFault.TheVariants as stops

-- the fault of a put that failed
is_failed : (fault : SinkFault) → ◌≡◌ {A = Result ⊤ SinkFault} (Err fault) (Err sinks.Failed)
    → fault ≡ sinks.Failed
is_failed sinks.Failed e = refl
is_failed sinks.Memory e = cc

counts_behind : {A : Type 0} (first mid last : ℕ) → mid ≡ first → CountsFaults mid last A
    → CountsFaults first last A
counts_behind first mid last same h = rw same at h

outcomes_of-push : (connections : List Connection) (c : Connection)
    → outcomes_of (connections ++ c ∷ []) ≡ outcomes_of connections ++ c.outcome ∷ []
outcomes_of-push connections c = map-append (λ (c : Connection). c.outcome) connections (c ∷ [])

length-outcomes : (connections : List Connection)
    → length (outcomes_of connections) ≡ length connections
length-outcomes connections = length-map connections (λ (c : Connection). c.outcome)

lines_from-push : (number : ℕ) (outcomes : List RelayOutcome) (o : RelayOutcome)
    → lines_from number (outcomes ++ o ∷ [])
    ≡ lines_from number outcomes ++ relay_line (number + length outcomes) o
unfolding lines_from
lines_from-push number [] o =
    append-nil (relay_line number o)
    ∙ ap (λ n. relay_line n o) (let e : number ≡ number + 0 = omega arith in e)
lines_from-push number (one ∷ outcomes) o =
    ap (λ l. relay_line number one ++ l) (lines_from-push (number + 1) outcomes o)
    ∙ ap (λ n. relay_line number one ++ (lines_from (number + 1) outcomes ++ relay_line n o))
    (let e : (number + 1) + length outcomes ≡ number + length (one ∷ outcomes) =
    omega arith in e)
    ∙ sym (append_assoc (relay_line number one) (lines_from (number + 1) outcomes)
    (relay_line (number + length (one ∷ outcomes)) o))

some_pushed : {T : Type 0} (list : List T) (one : T) → list ++ one ∷ [] ≡ [] → ⊥
some_pushed [] one e = cc
some_pushed (first ∷ list) one e = cc

-- behind connections nothing is held: their lines have left
pub lines_left : (connections : List Connection) (count : ℕ) (held : List ℕ)
    → length connections ≡ count → ((connections ≡ [] → ⊥) → held ≡ []) → 0 < count → held ≡ []
lines_left [] count held counted empty some = absurd (omega (arith, counted, some))
lines_left (c ∷ connections) count held counted empty some = empty (λ e. cc)

none_then : {A : Type 0} (connections : List Connection) → (connections ≡ [] → A)
    → outcomes_of connections ≡ [] → A
none_then [] then_a none = then_a refl
none_then (c ∷ connections) then_a none = cc

some_then : {A : Type 0} (connections : List Connection) → ((connections ≡ [] → ⊥) → A)
    → (outcomes_of connections ≡ [] → ⊥) → A
some_then [] then_a some = absurd (some refl)
some_then (c ∷ connections) then_a some = then_a (λ e. cc)

module _ (x : Relay) {R K : Type 0} (seen : R × K → Ends) where
  each_more : (connections : List Connection) (n mid n' : Network R K) (c : Connection)
      → RelaysEach x seen connections n mid → RelaysOne x seen c mid n'
      → RelaysEach x seen (connections ++ c ∷ []) n n'
  unfolding RelaysEach
  each_more [] n mid n' c each one =
      (n', subst (λ (m : Network R K). RelaysOne x seen c m n') each one, refl)
  each_more (first ∷ connections) n mid n' c each one =
      (each.0, each.1, each_more connections each.0 mid n' c each.2 one)

  -- before the first
  pub along_none : (n : Network R K) (first : SinkView) {Same : Type 0} → Same
      → IsAlong x seen n n first first Same 0
  unfolding RelaysEach lines_from
  along_none n first same = record {
    connections = [];
    counted = refl;
    each = refl;
    puts = Puts-nothing first;
    emptied = λ some. absurd (some refl);
    untouched = λ none. same;
  }

  module _ (most : ℕ) (n mid : Network R K) (first now : SinkView) (Same : Type 0) (count : ℕ)
      (h : IsAlong x seen n mid first now Same count) where
    lines : HasLines first now Same (outcomes_of h.connections)
    lines = record {
      lines = h.puts.written;
      emptied = some_then h.connections h.emptied;
      faults_are = h.puts.counted.same (λ e. cc);
      untouched = none_then h.connections h.untouched;
    }

    -- no more
    pub relayed_all : count ≡ most → RelaysToEnd x seen most n mid first now Same
    relayed_all all = record {
      connections = h.connections;
      last = mid;
      each = h.each;
      few = let k = h.counted in omega (arith, k, all);
      stopped = inl (h.counted ∙ all, refl);
      lines = lines;
    }

    pub relayed_few : (n' : Network R K) → count < most → HandsNone x seen mid n' ⊥
        → Told mid.waiting n'.waiting (λ before after. after ≡ [])
        → RelaysToEnd x seen most n n' first now Same
    relayed_few n' below none over = record {
      connections = h.connections;
      last = mid;
      each = h.each;
      few = let k = h.counted in omega (arith, k, below);
      stopped = inr (none, over);
      lines = lines;
    }

    pub wire_failed : (n' : Network R K) → count < most → WireFails x seen mid n'
        → RelaysToFault x seen most n n' first now Same
    wire_failed n' below fails = record {
      connections = h.connections;
      last = mid;
      each = h.each;
      few = let k = h.counted in omega (arith, k, below);
      fails = fails;
      lines = lines;
    }

    module _ (n' : Network R K) (c : Connection) (one : RelaysOne x seen c mid n')
        (new : SinkView) (empty : new.held ≡ []) where
      number_is : length (outcomes_of h.connections) ≡ count
      number_is = length-outcomes h.connections ∙ h.counted

      -- one more
      pub along_more : (Still : Type 0) → Puts now new (relay_line count c.outcome) (Ok tt)
          → IsAlong x seen n n' first new Still (count + 1)
      along_more Still puts = record {
        connections = h.connections ++ c ∷ [];
        counted = length-append h.connections (c ∷ []) ∙ ap (λ (k : ℕ). k + 1) h.counted;
        each = each_more h.connections n mid n' c h.each one;
        puts = subst (λ l. Puts first new l (Ok tt))
            (sym (ap (lines_from 0) (outcomes_of-push h.connections c)
            ∙ lines_from-push 0 (outcomes_of h.connections) c.outcome
            ∙ ap (λ k. lines_from 0 (outcomes_of h.connections) ++ relay_line k c.outcome)
            (let k = number_is in
            let e : 0 + length (outcomes_of h.connections) ≡ count = omega (arith, k) in e)))
            (Puts-then _ h.puts puts);
        emptied = λ some. empty;
        untouched = λ none. absurd (some_pushed h.connections c none);
      }

      -- its line couldn't be written
      pub line_failed : count < most → (fault : SinkFault)
          → Puts now new (relay_line count c.outcome) (Err fault) → (Still : Type 0)
          → RelaysToLine x seen most n n' first new Still fault
      line_failed below fault puts Still = record {
        connections = h.connections ++ c ∷ [];
        each = each_more h.connections n mid n' c h.each one;
        few = let k = h.counted in let l = length-append h.connections (c ∷ []) in
            omega (arith, k, l, below);
        lines = record {
          before = outcomes_of h.connections;
          last = c.outcome;
          joined = outcomes_of-push h.connections c;
          mid = now;
          whole = h.puts.written;
          emptied = some_then h.connections h.emptied;
          cut = subst (λ k. Told now.written new.written
              (λ w w'. GrowsByPrefix w w' (now.held ++ relay_line k c.outcome))) (sym number_is)
              puts.refused;
          counted = counts_behind first.faults now.faults new.faults
              (h.puts.counted.same (λ e. cc)) (counts_as now.faults new.faults _ _
              (λ e. is_failed fault e) (λ e. ap Err e) puts.counted);
        };
      }

  pub failed_by : (most : ℕ) (n n' : Network R K) (first new : SinkView) (Same : Type 0)
      (fault : SinkFault) → RelaysToLine x seen most n n' first new Same fault
      → RelaysAll x seen most n n' first new Same (Err (stop_by fault))
  failed_by most n n' first new Same sinks.Failed h = h
  failed_by most n n' first new Same sinks.Memory h = inr h

  -- ---- what is known is of the output that a gathering sink stood over

  no_rest : (a b : List ℕ) → a ++ b ≡ [] → a ≡ []
  no_rest [] b e = refl
  no_rest (n ∷ a) b e = cc

  module _ (first last : SinkView) (gathered rest : List ℕ) (none : gathered ≡ [])
      (Untouched Same : Type 0) (same : Untouched → Same) (is : Same → last ≡ first) where
    plain : first.held ++ gathered ≡ first.held
    plain = ap (λ l. first.held ++ l) none ∙ append-nil first.held

    passes_none : (held : List ℕ) (w : Option (List ℕ))
        → Told w w (λ w w'. Passes w w' held held [])
    passes_none held None = tt
    passes_none held (Some w) =
        record { put = []; split = append-nil held; grown = sym (append-nil w) }

    lines_under : (outcomes : List RelayOutcome)
        → HasLines (with_room gathered first) (with_room rest last) Untouched outcomes
        → HasLines first last Same outcomes
    unfolding lines_from
    lines_under [] h = record {
      lines = subst (λ (k : SinkView). Told first.written k.written
          (λ w w'. Passes w w' first.held k.held [])) (sym (is (same (h.untouched refl))))
          (passes_none first.held first.written);
      emptied = λ some. absurd (some refl);
      faults_are = h.faults_are;
      untouched = λ e. same (h.untouched refl);
    }
    lines_under (o ∷ outcomes) h =
        let all = h.emptied (λ e. cc) in
        let empty = no_rest last.held rest all in record {
          lines = subst (λ (held : List ℕ). Told first.written last.written
              (λ w w'. Passes w w' first.held held (lines_from 0 (o ∷ outcomes))))
              (all ∙ sym empty)
              (subst (λ (held : List ℕ). Told first.written last.written
              (λ w w'. Passes w w' held (last.held ++ rest) (lines_from 0 (o ∷ outcomes)))) plain
              h.lines);
          emptied = λ some. empty;
          faults_are = h.faults_are;
          untouched = λ e. cc;
        }

    line_under : (most : ℕ) (n n' : Network R K) (fault : SinkFault)
        → RelaysToLine x seen most n n' (with_room gathered first) (with_room rest last) Untouched
        fault
        → RelaysToLine x seen most n n' first last Same fault
    line_under most n n' fault h = record {
      connections = h.connections;
      each = h.each;
      few = h.few;
      lines = record {
        before = h.lines.before;
        last = h.lines.last;
        joined = h.lines.joined;
        mid = h.lines.mid;
        whole = rw plain at h.lines.whole;
        emptied = h.lines.emptied;
        cut = h.lines.cut;
        counted = h.lines.counted;
      };
    }

    pub relayed_under : (most : ℕ) (n n' : Network R K) (result : Result ⊤ RelayFault)
        → RelaysAll x seen most n n' (with_room gathered first) (with_room rest last) Untouched
        result
        → RelaysAll x seen most n n' first last Same result
    relayed_under most n n' (Ok u) h = record {
      connections = h.connections;
      last = h.last;
      each = h.each;
      few = h.few;
      stopped = h.stopped;
      lines = lines_under (outcomes_of h.connections) h.lines;
    }
    relayed_under most n n' (Err stops.Wire) h = record {
      connections = h.connections;
      last = h.last;
      each = h.each;
      few = h.few;
      fails = h.fails;
      lines = lines_under (outcomes_of h.connections) h.lines;
    }
    relayed_under most n n' (Err stops.Output) h = line_under most n n' sinks.Failed h
    relayed_under most n n' (Err stops.Memory) (inl h) = inl (h.0, same h.1)
    relayed_under most n n' (Err stops.Memory) (inr h) = inr (line_under most n n' sinks.Memory h)
