-- What is seen of the ends that a function is handed, by the members of their traits, and what is
-- known of the note.
use Rattle.std.proofs.Common.{◌≡◌, ℕ, List, []}
use Rattle.io_edges.specs.declared.{Shelf.Ghosts as ShelfMembers, Sink.Ghosts as SinkMembers}
use Rattle.io_edges.specs.declared.{Source.Ghosts as SourceMembers, wire.Wire.Ghosts as WireMembers}
use Rattle.io_edges.specs.Wires.{Network, network_at}
use Rattle.stream_loop.specs.Edges.{Input, input_at}
use Rattle.dump_replay.specs.Noting.{Notes}
use Rattle.dump_replay.specs.Outside.{Outside, seen, SeenShelf, shelf_at}
use Rattle.io_edges.specs.Views.{SinkView}

abbrev pub shelf_by : {F : Type 0} → ShelfMembers F → F → SeenShelf
shelf_by given shelf = shelf_at given.files given.faults shelf

abbrev pub input_by : {I : Type 0} → SourceMembers I → I → Input
input_by given input = input_at given.left given.taken given.faults given.empty_takes input

abbrev pub output_by : {O : Type 0} → SinkMembers O → O → SinkView
output_by given output = given.view output

abbrev pub network_by : {W R K : Type 0} → WireMembers W R K → W → Network R K
network_by given wire = network_at given.waiting given.closed given.out given.faults
    given.end_faults wire

abbrev pub seen_by : {F I O W R K : Type 0} → ShelfMembers F → SourceMembers I → SinkMembers O
    → WireMembers W R K → F → I → O → W → Outside R K
seen_by of_shelf of_input of_output of_wire shelf input output wire =
    seen (shelf_by of_shelf shelf) (input_by of_input input) (output_by of_output output)
    (network_by of_wire wire)

-- this text was put into the notes, or nothing where there is none
abbrev pub Says : {N : Type 0} → SinkMembers N → (old new : N) → List ℕ → Type 0
Says given old new text =
    Notes (given.view old) (given.view new) text × (text ≡ [] → new ≡ old)
