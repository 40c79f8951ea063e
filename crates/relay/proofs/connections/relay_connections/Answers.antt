use Rattle.std.proofs.Common.{◌≡◌, sym, refl, ap, subst, inl}
use Rattle.io_edges.specs.{Gathering.Gathering, Wires.Network, Wires.network_at}
use Rattle.relay.specs.{Connections.Ends, Connections.ends_at, Connections.RelaysAll}
use Rattle.relay.specs.{Opening.relay_by, Relayed.Relay}
use Rattle.relay.proofs.Connecting.{relayed_under}
use Rattle.relay.proofs.connections.relay_connections.Given.{Over}
use Rattle.relay.proofs.connections.relay_connections.Goals as goal

module _ (g : Over) where
  abbrev seen : g.row.W.Denot → Network g.row.W-Reader.Denot g.row.W-Writer.Denot
  seen wire = network_at g.W.Wire.waiting g.W.Wire.closed g.W.Wire.out g.W.Wire.faults
      g.W.Wire.end_faults wire

  abbrev ends : g.row.W-Reader.Denot × g.row.W-Writer.Denot → Ends
  ends both = ends_at g.W.Reader.Source.left g.W.Reader.Source.taken g.W.Reader.Source.faults
      g.W.Reader.Source.empty_takes g.W.Writer.Sink.view both

pub returns-in_default : goal.returns-in_default
returns-in_default g c = record { relayed = inl (refl, refl) }

pub returns : goal.returns
returns g c = record {
  relayed =
      let x : Relay = relay_by c.args.settings in
      let first = c.new-lines.result in
      let run = c.relay_each-relayed in
      let last = run.new.output in
      let view = g.O.Sink.view in
      let n = seen g c.args.wire.now in
      let n' = seen g run.new.wire in
      let result = c.into_sink.result in
      let beneath = relayed_under x (ends g) (view first.sink) (view last.sink) first.gathered
      last.gathered c.new-lines.ensures.nothing (last ≡ first) (last.sink ≡ first.sink)
      (λ same. ap (λ (k : Gathering g.row.O.Denot). k.sink) same) (λ same. ap view same)
      c.args.connections n n' run.result run.ensures.relayed in
      let given = subst (λ (o : g.row.O.Denot). RelaysAll x (ends g) c.args.connections n n'
      (view first.sink) (view o) (o ≡ first.sink) run.result) (sym c.into_sink.ensures) beneath in
      subst (λ (o : g.row.O.Denot). RelaysAll x (ends g) c.args.connections n n' (view o)
      (view result) (result ≡ o) run.result) c.new-lines.ensures.sink given;
}
