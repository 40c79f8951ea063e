-- What is known of connections that were served, by why no more are.
use Rattle.std.proofs.Common.{◌≡◌, ℕ, ◌+◌, ◌<◌, true, List, [], ◌∷◌, ◌++◌, map, length}
use Rattle.std.proofs.Common.{Some, None, Ok, Err, Option, Result, sym, refl, ap, ◌∙◌, subst, inl}
use Rattle.std.proofs.Common.{inr}
use Rattle.std.proofs.Common.{append-nil, arith, length-append}
use Rattle.std.proofs.lemmas.List.{length-map, map-append}
use Rattle.io_edges.specs.{declared.SinkFault.SinkFault, Flow.Told, Wires.Network}
use Rattle.stream_loop.proofs.Writing.{counted_none, counted_with}
use Rattle.io_edges.specs.Gathering.{with_room}
use Rattle.duplex_server.specs.declared.{outcome.Outcome.Outcome, stopping.ServeFault.ServeFault}
use Rattle.duplex_server.specs.Along.{HasLines, IsAlong, ServesOne}
use Rattle.duplex_server.specs.{Lines.connection_line, ServerStream.Answering, Served.WritesLines}
use Rattle.duplex_server.specs.Served.{Connection, CutsLast, Ends, held_behind, ServesAll, stop_by}
use Rattle.duplex_server.proofs.Reporting.{cut_lines, more_lines, no_lines}
use Rattle.duplex_server.proofs.Turns.{each_more, each_none}
use Rattle.io_edges.specs.Views.{SinkView}
use Rattle.io_edges.specs.Puts.{Puts}
use Rattle.io_edges.specs.declared.SinkFault.TheVariants as sinks
use Rattle.duplex_server.specs.declared.stopping.ServeFault.TheVariants as stops

abbrev outcomes_of : List Connection → List Outcome
outcomes_of connections = map (λ (c : Connection). c.outcome) connections

outcomes_of-push : (connections : List Connection) (c : Connection)
    → outcomes_of (connections ++ c ∷ []) ≡ outcomes_of connections ++ c.outcome ∷ []
outcomes_of-push connections c = map-append (λ (c : Connection). c.outcome) connections (c ∷ [])

length-outcomes : (connections : List Connection)
    → length (outcomes_of connections) ≡ length connections
length-outcomes connections = length-map connections (λ (c : Connection). c.outcome)

-- behind connections nothing is held: their lines have left
pub lines_left : (connections : List Connection) (count : ℕ) (first now : List ℕ)
    → length connections ≡ count → now ≡ held_behind first (outcomes_of connections) → 0 < count
    → now ≡ []
lines_left [] count first now counted is some = absurd (omega (arith, counted, some))
lines_left (c ∷ connections) count first now counted is some = is

some_served : (connections : List Connection) (c : Connection) → connections ++ c ∷ [] ≡ [] → ⊥
some_served [] c e = cc
some_served (d ∷ connections) c e = cc

-- where nothing stands in two lists, none stands in the first
no_rest : (a b : List ℕ) → a ++ b ≡ [] → a ≡ []
no_rest [] b e = refl
no_rest (n ∷ a) b e = cc

-- want of memory for the last line
told_cut : (held : List ℕ) (outcomes : List Outcome) (u v : Option (List ℕ))
    → Told u v (CutsLast held outcomes)
    → Told u v (WritesLines (Err stops.Memory) held outcomes)
told_cut held outcomes None v cut = tt
told_cut held outcomes (Some u) None cut = absurd cut
told_cut held outcomes (Some u) (Some v) cut = inr cut

-- a server that stops for want of memory behind a line has an output that may run out of it
pub output_may_run_out : (first now new : SinkView) (line : List ℕ) (fault : SinkFault)
    → now.may_run_out ≡ first.may_run_out → Puts now new line (Err fault)
    → ◌≡◌ {A = Result (Unit {0}) ServeFault} (Err (stop_by fault)) (Err stops.Memory)
    → first.may_run_out ≡ true
output_may_run_out first now new line sinks.Failed same puts e = cc
output_may_run_out first now new line sinks.Memory same puts e =
    sym same ∙ puts.memory refl

module _ (x : Answering) (endpoint : Option (List ℕ)) {R K : Type 0} (seen : R × K → Ends) where
  -- before the first
  pub along_none : (n : Network R K) (first : SinkView) {Same : Type 0} → Same
      → IsAlong x endpoint seen n n first first Same 0
  along_none n first same = record {
    connections = [];
    counted = refl;
    each = each_none x endpoint seen n;
    faults_are = refl;
    lines = no_lines first same;
  }

  module _ (most : ℕ) (n mid : Network R K) (first now : SinkView) (Same : Type 0) (count : ℕ)
      (h : IsAlong x endpoint seen n mid first now Same count) (n' : Network R K) where
    module _ (c : Connection) (one : ServesOne x endpoint seen mid n' c) (new : SinkView)
        (empty : new.held ≡ []) where
      line_at : length (outcomes_of h.connections) ≡ count
      line_at = length-outcomes h.connections ∙ h.counted

      -- one more
      pub along_more : (Still : Type 0) → Puts now new (connection_line count c.outcome) (Ok tt)
          → IsAlong x endpoint seen n n' first new Still (count + 1)
      along_more Still puts = record {
        connections = h.connections ++ c ∷ [];
        counted = length-append h.connections (c ∷ []) ∙ ap (λ (k : ℕ). k + 1) h.counted;
        each = each_more x endpoint seen h.connections n mid h.each n' c one;
        faults_are = one.faults ∙ h.faults_are;
        lines = subst (HasLines first new Still) (sym (outcomes_of-push h.connections c))
            (more_lines first now new Same (outcomes_of h.connections) h.lines c.outcome
            (subst (λ (k : ℕ). Puts now new
            (connection_line k c.outcome) (Ok tt)) (sym line_at) puts) empty);
      }

      cut_at : (fault : SinkFault) → Puts now new (connection_line count c.outcome) (Err fault)
          → Told first.written new.written
          (CutsLast first.held (outcomes_of (h.connections ++ c ∷ [])))
      cut_at fault puts =
          subst (λ (l : List Outcome). Told first.written new.written
          (CutsLast first.held l)) (sym (outcomes_of-push h.connections c))
          (cut_lines first now new Same (outcomes_of h.connections) h.lines c.outcome fault
          (subst (λ (k : ℕ). Puts now new
          (connection_line k c.outcome) (Err fault)) (sym line_at) puts))

      held_at : new.held ≡ held_behind first.held (outcomes_of (h.connections ++ c ∷ []))
      held_at = none_behind h.connections
        where
          none_behind : (connections : List Connection) → new.held
              ≡ held_behind first.held (outcomes_of (connections ++ c ∷ []))
          none_behind [] = empty
          none_behind (d ∷ connections) = empty

      -- the output failed, or wanted memory
      pub output_failed : count < most → (fault : SinkFault)
          → Puts now new (connection_line count c.outcome)
          (Err fault)
          → (Still : Type 0)
          → ServesAll x endpoint seen most n n' first new Still (Err (stop_by fault))
      output_failed below sinks.Failed puts Still = record {
        connections = h.connections ++ c ∷ [];
        each = each_more x endpoint seen h.connections n mid h.each n' c one;
        few = let few = h.counted in
            let all = length-append h.connections (c ∷ []) in
            omega (arith, below, few, all);
        stopped = tt;
        wire_counted = counted_none _ _ _ (one.faults ∙ h.faults_are) (λ e. cc);
        lines = cut_at sinks.Failed puts;
        held = held_at;
        untouched = λ none. absurd (some_served h.connections c none);
        output_counted = counted_with _ _ _ _ _ h.lines.faults_are puts.counted (λ e. refl)
            (λ e. refl);
      }
      output_failed below sinks.Memory puts Still = record {
        connections = h.connections ++ c ∷ [];
        each = each_more x endpoint seen h.connections n mid h.each n' c one;
        few = let few = h.counted in
            let all = length-append h.connections (c ∷ []) in
            omega (arith, below, few, all);
        stopped = tt;
        wire_counted = counted_none _ _ _ (one.faults ∙ h.faults_are) (λ e. cc);
        lines = told_cut first.held (outcomes_of (h.connections ++ c ∷ [])) first.written
            new.written (cut_at sinks.Memory puts);
        held = held_at;
        untouched = λ none. absurd (some_served h.connections c none);
        output_counted = counted_none _ _ _
            (puts.counted.same (λ e. cc) ∙ h.lines.faults_are) (λ e. cc);
      }

  -- there was no memory to begin with
  pub none_served : (most : ℕ) (n : Network R K) (first : SinkView) {Same : Type 0} → Same
      → ServesAll x endpoint seen most n n first first Same (Err stops.Memory)
  none_served most n first same = record {
    connections = [];
    each = each_none x endpoint seen n;
    few = omega arith;
    stopped = tt;
    wire_counted = counted_none _ _ _ refl (λ e. cc);
    lines = nothing first.written;
    held = refl;
    untouched = λ e. same;
    output_counted = counted_none _ _ _ refl (λ e. cc);
  }
    where
      nothing : (w : Option (List ℕ)) → Told w w (WritesLines (Err stops.Memory) first.held [])
      nothing None = tt
      nothing (Some w) = inl (refl, refl)

  -- what is known is of the output that a gathering sink stood over
  module _ (most : ℕ) (n n' : Network R K) (result : Result (Unit {0}) ServeFault) where
    abbrev All : SinkView → SinkView → Type 0 → Type 0
    All o o' Same = ServesAll x endpoint seen most n n' o o' Same result

    pub served_under : (first last : SinkView) (gathered rest : List ℕ) (Untouched Same : Type 0)
        → gathered ≡ [] → (Untouched → Same) → (Same → last ≡ first)
        → All (with_room gathered first) (with_room rest last) Untouched → All first last Same
    served_under first last gathered rest Untouched Same none same is e = record {
      connections = e.connections;
      each = e.each;
      few = e.few;
      stopped = e.stopped;
      wire_counted = e.wire_counted;
      lines = rw plain at e.lines;
      held = held_last e.connections (rw plain at e.held) e.untouched;
      untouched = λ empty. same (e.untouched empty);
      output_counted = e.output_counted;
    }
      where
        plain : first.held ++ gathered ≡ first.held
        plain = ap (λ l. first.held ++ l) none ∙ append-nil first.held

        held_last : (connections : List Connection) → last.held ++ rest
            ≡ held_behind first.held (outcomes_of connections)
            → (connections ≡ [] → Untouched)
            → last.held ≡ held_behind first.held (outcomes_of connections)
        held_last [] held untouched =
            ap (λ (k : SinkView). k.held) (is (same (untouched refl)))
        held_last (c ∷ connections) held untouched = no_rest last.held rest held
