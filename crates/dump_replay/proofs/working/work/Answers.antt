use Rattle.std.proofs.Common.{◌≡◌, sym, refl, subst, inl, inr}
use Rattle.command_words.specs.Asking.{opening_of, relaying_of, serving_of, two_of}
use Rattle.dump_replay.specs.{Outside.seen, Working.Leaves}
use Rattle.dump_replay.proofs.CallLeaves.{calls_leaves, second_leaves}
use Rattle.dump_replay.proofs.RunSteps.{pool_works, relay_works, serve_works}
use Rattle.dump_replay.proofs.Works.{file_leaves, pool_leaves, relay_leaves, serve_leaves}
use Rattle.dump_replay.proofs.Seen.{input_by, network_by, output_by, Says, seen_by, shelf_by}
use Rattle.dump_replay.proofs.working.work.Goals as goal

pub returns-in-Serve-clause-leaves : goal.returns-in-Serve-clause-leaves
returns-in-Serve-clause-leaves g c =
    let ran = c.serve_wire-status in
    let s = shelf_by g.F.Shelf c.args.shelf.now in
    let s' = shelf_by g.F.Shelf ran.new.shelf in
    let i = input_by g.I.Source c.args.input in
    let o = output_by g.O.Sink c.args.output in
    let n = network_by g.W.Wire c.args.wire.now in
    let n' = network_by g.W.Wire ran.new.wire in
    elim (ran.ensures.answers i) [
      | inl h ↦ serve_leaves s s' i i o (output_by g.O.Sink ran.result.1) n n'
          (Says g.N.Sink c.args.notes.now ran.new.notes) (input_by g.W.Reader.Source)
          (output_by g.W.Writer.Sink) c.args.statics.now (two_of c.args.quotas.now) ran.result.0
          c.in-Serve.connections (serving_of c.in-Serve.serving) h
      | inr h ↦ subst (λ (sink : g.row.O.Denot). Leaves (seen s i o n)
          (seen s' i (output_by g.O.Sink sink) n') ran.result.0) (sym h.2.untouched.0)
          (file_leaves h.2.fault s s' i o n n' ran.result.0 h.2.status_is h.2.rose)
    ]

pub returns-in-Serve-clause-works : goal.returns-in-Serve-clause-works
returns-in-Serve-clause-works g c =
    let ran = c.serve_wire-status in
    let input = c.args.input in
    let all = seen_by g.F.Shelf g.I.Source g.O.Sink g.W.Wire in
    rw c.in-Serve.is (serve_works (Says g.N.Sink c.args.notes.now ran.new.notes)
    ((ran.result.1 ≡ c.args.output) × (ran.new.wire ≡ c.args.wire.now))
    ((input ≡ input) × (ran.result.1 ≡ c.args.output) × (ran.new.wire ≡ c.args.wire.now))
    (λ same. (refl, same.0, same.1)) (input_by g.W.Reader.Source) (output_by g.W.Writer.Sink)
    c.in-Serve.listen.now c.in-Serve.connections (serving_of c.in-Serve.serving)
    c.args.statics.now (two_of c.args.quotas.now)
    (all c.args.shelf.now input c.args.output c.args.wire.now)
    (all ran.new.shelf input ran.result.1 ran.new.wire) ran.result.0
    (ran.ensures.answers (input_by g.I.Source input)))

pub returns-in-Serve-clause-notes_faults : goal.returns-in-Serve-clause-notes_faults
returns-in-Serve-clause-notes_faults g c =
    elim (c.serve_wire-status.ensures.answers (input_by g.I.Source c.args.input)) [
      | inl h ↦ h.says.0.faults
      | inr h ↦ h.2.says.0.faults
    ]

pub returns-in-Relay-clause-leaves : goal.returns-in-Relay-clause-leaves
returns-in-Relay-clause-leaves g c =
    let ran = c.relay_wire-status in
    let s = shelf_by g.F.Shelf c.args.shelf.now in
    let s' = shelf_by g.F.Shelf ran.new.shelf in
    let i = input_by g.I.Source c.args.input in
    let o = output_by g.O.Sink c.args.output in
    let n = network_by g.W.Wire c.args.wire.now in
    let n' = network_by g.W.Wire ran.new.wire in
    elim (ran.ensures.relays i) [
      | inl h ↦ relay_leaves s s' i i o (output_by g.O.Sink ran.result.1) n n'
          (Says g.N.Sink c.args.notes.now ran.new.notes) (input_by g.W.Reader.Source)
          (output_by g.W.Writer.Sink) c.args.statics.now (two_of c.args.quotas.now) ran.result.0
          (relaying_of c.in-Relay.relaying) h
      | inr h ↦ subst (λ (sink : g.row.O.Denot). Leaves (seen s i o n)
          (seen s' i (output_by g.O.Sink sink) n') ran.result.0) (sym h.2.untouched.0)
          (file_leaves h.2.fault s s' i o n n' ran.result.0 h.2.status_is h.2.rose)
    ]

pub returns-in-Relay-clause-works : goal.returns-in-Relay-clause-works
returns-in-Relay-clause-works g c =
    let ran = c.relay_wire-status in
    let input = c.args.input in
    let all = seen_by g.F.Shelf g.I.Source g.O.Sink g.W.Wire in
    rw c.in-Relay.is (relay_works (Says g.N.Sink c.args.notes.now ran.new.notes)
    ((ran.result.1 ≡ c.args.output) × (ran.new.wire ≡ c.args.wire.now))
    ((input ≡ input) × (ran.result.1 ≡ c.args.output) × (ran.new.wire ≡ c.args.wire.now))
    (λ same. (refl, same.0, same.1)) (input_by g.W.Reader.Source) (output_by g.W.Writer.Sink)
    (relaying_of c.in-Relay.relaying) c.args.statics.now (two_of c.args.quotas.now)
    (all c.args.shelf.now input c.args.output c.args.wire.now)
    (all ran.new.shelf input ran.result.1 ran.new.wire) ran.result.0
    (ran.ensures.relays (input_by g.I.Source input)))

pub returns-in-Relay-clause-notes_faults : goal.returns-in-Relay-clause-notes_faults
returns-in-Relay-clause-notes_faults g c =
    elim (c.relay_wire-status.ensures.relays (input_by g.I.Source c.args.input)) [
      | inl h ↦ h.joined.says.0.faults
      | inr h ↦ h.2.says.0.faults
    ]

pub returns-in-Pool-clause-leaves : goal.returns-in-Pool-clause-leaves
returns-in-Pool-clause-leaves g c =
    let ran = c.pool_wire-status in
    let s = shelf_by g.F.Shelf c.args.shelf.now in
    let s' = shelf_by g.F.Shelf ran.new.shelf in
    let i = input_by g.I.Source c.args.input in
    let o = output_by g.O.Sink c.args.output in
    let n = network_by g.W.Wire c.args.wire.now in
    let n' = network_by g.W.Wire ran.new.wire in
    elim (ran.ensures.pools i) [
      | inl h ↦ pool_leaves s s' i i o (output_by g.O.Sink ran.result.1) n n'
          (Says g.N.Sink c.args.notes.now ran.new.notes) (input_by g.W.Reader.Source)
          (output_by g.W.Writer.Sink) c.args.statics.now (two_of c.args.quotas.now) ran.result.0
          c.in-Pool.connections c.in-Pool.sessions (serving_of c.in-Pool.serving) h
      | inr h ↦ subst (λ (sink : g.row.O.Denot). Leaves (seen s i o n)
          (seen s' i (output_by g.O.Sink sink) n') ran.result.0) (sym h.2.untouched.0)
          (file_leaves h.2.fault s s' i o n n' ran.result.0 h.2.status_is h.2.rose)
    ]

pub returns-in-Pool-clause-works : goal.returns-in-Pool-clause-works
returns-in-Pool-clause-works g c =
    let ran = c.pool_wire-status in
    let input = c.args.input in
    let all = seen_by g.F.Shelf g.I.Source g.O.Sink g.W.Wire in
    rw c.in-Pool.is (pool_works (Says g.N.Sink c.args.notes.now ran.new.notes)
    ((ran.result.1 ≡ c.args.output) × (ran.new.wire ≡ c.args.wire.now))
    ((input ≡ input) × (ran.result.1 ≡ c.args.output) × (ran.new.wire ≡ c.args.wire.now))
    (λ same. (refl, same.0, same.1)) (input_by g.W.Reader.Source) (output_by g.W.Writer.Sink)
    c.in-Pool.listen.now c.in-Pool.connections c.in-Pool.sessions (serving_of c.in-Pool.serving)
    c.args.statics.now (two_of c.args.quotas.now)
    (all c.args.shelf.now input c.args.output c.args.wire.now)
    (all ran.new.shelf input ran.result.1 ran.new.wire) ran.result.0
    (ran.ensures.pools (input_by g.I.Source input)))

pub returns-in-Pool-clause-notes_faults : goal.returns-in-Pool-clause-notes_faults
returns-in-Pool-clause-notes_faults g c =
    elim (c.pool_wire-status.ensures.pools (input_by g.I.Source c.args.input)) [
      | inl h ↦ h.says.0.faults
      | inr h ↦ h.2.says.0.faults
    ]

pub returns-in-Call-clause-leaves : goal.returns-in-Call-clause-leaves
returns-in-Call-clause-leaves g c =
    let ran = c.call_peer-status in
    let s = shelf_by g.F.Shelf c.args.shelf.now in
    let s' = shelf_by g.F.Shelf ran.new.shelf in
    let i = input_by g.I.Source c.args.input in
    let i' = input_by g.I.Source ran.new.input in
    let o = output_by g.O.Sink c.args.output in
    let n = network_by g.W.Wire c.args.wire.now in
    let n' = network_by g.W.Wire ran.new.wire in
    elim ran.ensures.calls [
      | inl h ↦ calls_leaves (Says g.N.Sink c.args.notes.now ran.new.notes)
          (two_of c.args.quotas.now) i i' o (output_by g.O.Sink ran.result.1) ran.result.0
          (input_by g.W.Reader.Source) (output_by g.W.Writer.Sink) (opening_of c.in-Call.opening)
          c.args.statics.now h.second n n' s s' h.does
      | inr h ↦ subst (λ (sink : g.row.O.Denot). Leaves (seen s i o n)
          (seen s' i' (output_by g.O.Sink sink) n') ran.result.0) (sym h.2.untouched.1)
          (subst (λ (input : g.row.I.Denot). Leaves (seen s i o n)
          (seen s' (input_by g.I.Source input) o n') ran.result.0) (sym h.2.untouched.0)
          (second_leaves (Says g.N.Sink c.args.notes.now ran.new.notes) _ h.0 s s' i o n n'
          ran.result.0 h.2))
    ]

pub returns-in-Call-clause-works : goal.returns-in-Call-clause-works
returns-in-Call-clause-works g c = rw c.in-Call.is c.call_peer-status.ensures.calls
