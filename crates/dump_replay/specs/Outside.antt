-- What is seen of the outside at one moment.
use Rattle.{std.specs.Prelude.ℕ, std.specs.Prelude.Option, duplex_server.specs.Served.Ends}
use Rattle.io_edges.specs.{Store.Store, Wires.Network}
use Rattle.stream_loop.specs.Edges.{Input}
use Rattle.io_edges.specs.Views.{SinkView}

-- of a shelf: its files, where it tells them, and how many calls met a fault
pub record SeenShelf : Type 0 where
  pub files : Option Store
  pub faults : ℕ

-- R and K are where the bytes of a connection come from and where they go
pub record Outside (R K : Type 0) : Type 0 where
  pub shelf : SeenShelf
  pub input : Input
  pub output : SinkView
  pub wire : Network R K

-- a shelf, by what it tells
abbrev pub shelf_at : {F : Type 0} → (files : F → Option Store) → (faults : F → ℕ) → F → SeenShelf
shelf_at files faults shelf = record { files = files shelf; faults = faults shelf }

abbrev pub seen : {R K : Type 0} → SeenShelf → Input → SinkView → Network R K → Outside R K
seen shelf input output wire =
    record { shelf = shelf; input = input; output = output; wire = wire }

-- this holds of what is seen of shelf, input, output and wire before and after
abbrev pub Across : {F I O W R K : Type 0} → (of_shelf : F → SeenShelf) → (of_input : I → Input)
    → (of_output : O → SinkView) → (of_wire : W → Network R K) → F → I → O → W → F → I → O → W
    → (Outside R K → Outside R K → Type 0) → Type 0
Across of_shelf of_input of_output of_wire shelf input output wire shelf' input' output' wire'
    Holds = Holds (seen (of_shelf shelf) (of_input input) (of_output output) (of_wire wire))
    (seen (of_shelf shelf') (of_input input') (of_output output') (of_wire wire'))

-- the ends of a connection, by what is seen of each
abbrev pub ends_seen : {R K : Type 0} → (reader : R → Input) → (writer : K → SinkView) → R × K
    → Ends
ends_seen reader writer ends = record { input = reader ends.0; sink = writer ends.1 }
