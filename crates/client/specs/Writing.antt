-- How the opening of a call is put to a sink, and how its writing ends.
use Rattle.std.specs.Prelude.{◌≡◌, ℕ, List, [], Ok}
use Rattle.stream_loop.specs.{declared.outbound.Outbound.Outbound, Writing.IsCut}
use Rattle.client.specs.declared.outcome.ClientOut.{ClientOut}
use Rattle.client.specs.declared.outcome.ClientOut.TheVariants.{Done, Memory, WriteFault}
use Rattle.io_edges.specs.Views.{SinkView}
use Rattle.io_edges.specs.Puts.{Puts}
use Rattle.stream_loop.specs.declared.outbound.Outbound.TheVariants as outbounds

abbrev pub out_of : Outbound → ClientOut
out_of outbounds.Done = Done
out_of outbounds.WriteFault = WriteFault
out_of outbounds.Memory = Memory

-- bytes were put and are written, or the writing ended so at them
abbrev pub WritesOut : Outbound → List ℕ → SinkView → SinkView → Type 0
WritesOut outbounds.Done bytes old new = Puts old new bytes (Ok tt) × (new.held ≡ [])
WritesOut outbounds.WriteFault bytes old new = IsCut outbounds.WriteFault bytes old new
WritesOut outbounds.Memory bytes old new = IsCut outbounds.Memory bytes old new
