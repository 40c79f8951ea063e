-- What is left of the counts where sessions were joined.
use Rattle.std.proofs.Common.{◌≡◌, ℕ, List, [], ◌∷◌, Ok, Err, Result, sym, refl, ap, ◌∙◌}
use Rattle.std.proofs.Common.{subst, inl, inr, arith}
use Rattle.io_edges.specs.{Faults.CountsFaults, Faults.Rose, Views.SinkView, Wires.Network}
use Rattle.relay.specs.{declared.stopping.RelayFault.RelayFault, Relayed.Relay}
use Rattle.relay.specs.Connections.{Connection, Ends, RelaysAll, RelaysEach, RelaysToEnd}
use Rattle.relay.specs.Connections.{RelaysToFault}
use Rattle.relay.specs.declared.stopping.RelayFault.TheVariants as stops

-- a count that stays, whatever failed
stays : (count count' : ℕ) (failed : Type 0) → (failed → ⊥) → count' ≡ count
    → CountsFaults count count' failed
stays count count' failed none same = record {
  rose = λ f. absurd (none f);
  same = λ _. same;
  grows = omega (arith, same);
}

module _ (x : Relay) {R K : Type 0} (seen : R × K → Ends) where
  each_faults : (connections : List Connection) (n n' : Network R K)
      → RelaysEach x seen connections n n' → n'.faults ≡ n.faults
  unfolding RelaysEach
  each_faults [] n n' h = ap (λ (w : Network R K). w.faults) h
  each_faults (c ∷ connections) n n' h =
      each_faults connections h.0 n' h.2 ∙ h.1.ends_back.faults ∙ h.1.ends_front.faults
      ∙ h.1.connects.faults ∙ h.1.accepts.faults

  each_out : (connections : List Connection) (n n' : Network R K)
      → RelaysEach x seen connections n n' → n'.out ≡ n.out
  unfolding RelaysEach
  each_out [] n n' h = ap (λ (w : Network R K). w.out) h
  each_out (c ∷ connections) n n' h = each_out connections h.0 n' h.2 ∙ h.1.out

  module _ (most : ℕ) (n n' : Network R K) (o o' : SinkView) where
    -- less is known of the output where none came
    pub relays_less : (Same Less : Type 0) → (Same → Less) → (stop : Result (Unit {0}) RelayFault)
        → RelaysAll x seen most n n' o o' Same stop → RelaysAll x seen most n n' o o' Less stop
    relays_less Same Less less (Ok v) h = record {
      connections = h.connections;
      last = h.last;
      each = h.each;
      few = h.few;
      stopped = h.stopped;
      lines = record {
        lines = h.lines.lines;
        emptied = h.lines.emptied;
        faults_are = h.lines.faults_are;
        untouched = λ none. less (h.lines.untouched none);
      };
    }
    relays_less Same Less less (Err stops.Wire) h = record {
      connections = h.connections;
      last = h.last;
      each = h.each;
      few = h.few;
      fails = h.fails;
      lines = record {
        lines = h.lines.lines;
        emptied = h.lines.emptied;
        faults_are = h.lines.faults_are;
        untouched = λ none. less (h.lines.untouched none);
      };
    }
    relays_less Same Less less (Err stops.Output) h = record {
      connections = h.connections;
      each = h.each;
      few = h.few;
      lines = h.lines;
    }
    relays_less Same Less less (Err stops.Memory) (inl h) = inl (h.0, less h.1)
    relays_less Same Less less (Err stops.Memory) (inr h) = inr (record {
      connections = h.connections;
      each = h.each;
      few = h.few;
      lines = h.lines;
    })

    module _ (Same : Type 0) where
      end_faults_same : RelaysToEnd x seen most n n' o o' Same → n'.faults ≡ n.faults
      end_faults_same h = elim h.stopped [
        | inl all ↦ ap (λ (w : Network R K). w.faults) all.1
            ∙ each_faults h.connections n h.last h.each
        | inr none ↦ none.0.counted.same (λ e. e) ∙ each_faults h.connections n h.last h.each
      ]

      end_out : RelaysToEnd x seen most n n' o o' Same → n'.out ≡ n.out
      end_out h = elim h.stopped [
        | inl all ↦ ap (λ (w : Network R K). w.out) all.1 ∙ each_out h.connections n h.last h.each
        | inr none ↦ none.0.out ∙ each_out h.connections n h.last h.each
      ]

      fault_counted : (failed : Type 0) → failed → RelaysToFault x seen most n n' o o' Same
          → CountsFaults n.faults n'.faults failed
      fault_counted failed is h =
          let same = each_faults h.connections n h.last h.each in
          elim h.fails [
            | inl none ↦
                let grows = none.counted.grows in record {
                  rose = λ _. subst (λ (count : ℕ). Rose count n'.faults) same
                      (none.counted.rose tt);
                  same = λ not. absurd (not is);
                  grows = omega (arith, same, grows);
                }
            | inr one ↦
                let before = one.accepts.faults ∙ same in
                let after = one.ends_front.faults in
                let grows = one.connects.counted.grows in record {
                  rose = λ _. subst (λ (count : ℕ). Rose n.faults count) (sym after)
                      (subst (λ (count : ℕ). Rose count one.failed.faults) before
                      (one.connects.counted.rose tt));
                  same = λ not. absurd (not is);
                  grows = omega (arith, before, after, grows);
                }
          ]

      fault_out : RelaysToFault x seen most n n' o o' Same → n'.out ≡ n.out
      fault_out h = elim h.fails [
        | inl none ↦ none.out ∙ each_out h.connections n h.last h.each
        | inr one ↦ one.out ∙ each_out h.connections n h.last h.each
      ]

      pub wire_counted : (stop : Result (Unit {0}) RelayFault)
          → RelaysAll x seen most n n' o o' Same stop
          → CountsFaults n.faults n'.faults (stop ≡ Err stops.Wire)
      wire_counted (Ok v) h = stays n.faults n'.faults _ (λ e. cc) (end_faults_same h)
      wire_counted (Err stops.Wire) h = fault_counted _ refl h
      wire_counted (Err stops.Output) h =
          stays n.faults n'.faults _ (λ e. cc) (each_faults h.connections n n' h.each)
      wire_counted (Err stops.Memory) (inl h) =
          stays n.faults n'.faults _ (λ e. cc) (ap (λ (w : Network R K). w.faults) h.0)
      wire_counted (Err stops.Memory) (inr h) =
          stays n.faults n'.faults _ (λ e. cc) (each_faults h.connections n n' h.each)

      pub relay_out : (stop : Result (Unit {0}) RelayFault)
          → RelaysAll x seen most n n' o o' Same stop → n'.out ≡ n.out
      relay_out (Ok v) h = end_out h
      relay_out (Err stops.Wire) h = fault_out h
      relay_out (Err stops.Output) h = each_out h.connections n n' h.each
      relay_out (Err stops.Memory) (inl h) = ap (λ (w : Network R K). w.out) h.0
      relay_out (Err stops.Memory) (inr h) = each_out h.connections n n' h.each

    pub lines_counted : (stop : Result (Unit {0}) RelayFault)
        → RelaysAll x seen most n n' o o' (o' ≡ o) stop
        → CountsFaults o.faults o'.faults (stop ≡ Err stops.Output)
    lines_counted (Ok v) h = stays o.faults o'.faults _ (λ e. cc) h.lines.faults_are
    lines_counted (Err stops.Wire) h = stays o.faults o'.faults _ (λ e. cc) h.lines.faults_are
    lines_counted (Err stops.Output) h =
        let counted = h.lines.counted in record {
          rose = λ _. counted.rose refl;
          same = λ not. absurd (not refl);
          grows = counted.grows;
        }
    lines_counted (Err stops.Memory) (inl h) =
        stays o.faults o'.faults _ (λ e. cc) (ap (λ (v : SinkView). v.faults) h.1)
    lines_counted (Err stops.Memory) (inr h) =
        stays o.faults o'.faults _ (λ e. cc) (h.lines.counted.same (λ e. cc))
