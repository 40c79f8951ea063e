-- What the command that calls a peer leaves, whatever it did.
use Rattle.std.proofs.Common.{◌≡◌, ℕ, List, take, Err, sym, refl, ap, subst, inl, inr}
use Rattle.{std.proofs.Common.arith, io_edges.specs.Wires.Network}
use Rattle.{string_tables.specs.StaticStrings.Entry, command_words.specs.Tasks.Opening}
use Rattle.{nbfx_values.specs.declared.content.Item.Item, command_words.specs.Requests.TwoLimits}
use Rattle.stream_loop.specs.Edges.{Input}
use Rattle.two_lanes.specs.Merges.{merge}
use Rattle.client.specs.{Sent.Sending, Statuses.status_of, Tags.sent_line}
use Rattle.dump_replay.specs.{Building.status_of_building, Running.CountsWire, Working.Leaves}
use Rattle.dump_replay.specs.Calling.{CalledOrNot, CalledPlace, ending_of_list, status_of_documents}
use Rattle.dump_replay.specs.Calling.{sending_on, TookNone, UnreadSecond}
use Rattle.dump_replay.specs.Outside.{seen, SeenShelf}
use Rattle.dump_replay.proofs.CallEnds.{called_cause, called_out, called_wire, called_writes}
use Rattle.dump_replay.proofs.CallEnds.{list_cause, report_rose, second_cause}
use Rattle.dump_replay.proofs.Causes.{leaves_by, wires_by}
use Rattle.io_edges.specs.Views.{SinkView}

-- a file that isn't read leaves input and output
pub second_leaves : (Says : List ℕ → Type 0) (Untouched : Type 0) (name : List ℕ)
    (s s' : SeenShelf) (i : Input) (o : SinkView) {R K : Type 0} (n n' : Network R K) (status : ℕ)
    → UnreadSecond Says Untouched name s s' status → Leaves (seen s i o n) (seen s' i o n') status
second_leaves Says Untouched name s s' i o n n' status h =
    subst (Leaves (seen s i o n) (seen s' i o n')) (sym h.status_is)
    (leaves_by (seen s i o n) (seen s' i o n') (status_of_documents h.fault)
    (second_cause h.fault) (λ failed. inr (h.rose failed)) (λ none. absurd none) (inl refl)
    (omega arith) (omega arith))

module _ (Says : List ℕ → Type 0) (limits : TwoLimits) (i i' : Input) (o o' : SinkView) (status : ℕ)
    {R K : Type 0} (reader : R → Input) (writer : K → SinkView) (opening : Opening)
    (statics : List Entry) (second : List (List Item)) (n n' : Network R K) where
  -- ---- what is left of the wire

  abbrev Left : Type 0
  Left = CalledOrNot Says limits i i' o o' status reader writer opening statics second n n'

  pub calls_wire : Left → CountsWire n.faults n'.faults n.end_faults n'.end_faults status
  calls_wire (inl h) = called_wire reader writer
      (sending_on opening statics limits (merge h.first second h.order)) opening.via
      (λ sent. sent_line (take sent h.order)) n n' o o' h.called
      status h.status_is h.calls
  calls_wire (inr h) = subst (λ (status : ℕ). CountsWire n.faults n'.faults n.end_faults
      n'.end_faults status) (sym h.status_is) (record {
        rose = λ eight. absurd (wires_by (status_of_building (ending_of_list h.fault))
            (list_cause h.fault) eight);
        same = λ not. ap (λ (w : Network R K). w.faults) h.same;
        grows = let e = ap (λ (w : Network R K). w.faults) h.same in omega (arith, e);
      })

  pub calls_out : Left → n'.out ≡ n.out
  calls_out (inl h) = called_out reader writer
      (sending_on opening statics limits (merge h.first second h.order)) opening.via
      (λ sent. sent_line (take sent h.order)) n n' o o' h.called
      h.calls
  calls_out (inr h) = ap (λ (w : Network R K). w.out) h.same

  -- ---- what is left of the ends

  module _ (s s' : SeenShelf) where
    placed_leaves : CalledPlace Says limits i i' o o' status reader writer opening statics second
        n n' → Leaves (seen s i o n) (seen s' i' o' n') status
    placed_leaves h =
        let x : Sending = sending_on opening statics limits (merge h.first second h.order) in
        let line : ℕ → List ℕ = λ sent. sent_line (take sent h.order) in
        subst (Leaves (seen s i o n) (seen s' i' o' n')) (sym h.status_is)
        (leaves_by (seen s i o n) (seen s' i' o' n') (status_of h.called) (called_cause h.called)
        (λ none. absurd none)
        (report_rose reader writer x opening.via line n n' o o' h.called h.calls)
        h.taken.one_empty_take h.taken.counted.grows
        (called_writes reader writer x opening.via line n n' o o' h.called h.calls))

    none_leaves : TookNone Says limits i i' o o' status (n' ≡ n)
        → Leaves (seen s i o n) (seen s' i' o' n') status
    none_leaves h =
        let written = ap (λ (v : SinkView). v.faults) h.unwritten in
        subst (Leaves (seen s i o n) (seen s' i' o' n')) (sym h.status_is)
        (leaves_by (seen s i o n) (seen s' i' o' n') (status_of_building (ending_of_list h.fault))
        (list_cause h.fault) (λ failed. inl (h.taken.counted.rose (ap Err failed)))
        (λ none. absurd none) h.taken.one_empty_take h.taken.counted.grows (omega (arith, written)))

    pub calls_leaves : Left → Leaves (seen s i o n) (seen s' i' o' n') status
    calls_leaves (inl h) = placed_leaves h
    calls_leaves (inr h) = none_leaves h
