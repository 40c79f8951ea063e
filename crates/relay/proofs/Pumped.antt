-- What was read and written of a direction that went on to its end.
use Rattle.std.proofs.Common.{◌≡◌, ℕ, Bool, List, ◌++◌, Some, None, Err, sym, ap}
use Rattle.std.proofs.Common.{subst}
use Rattle.io_edges.specs.Views.{SinkView}
use Rattle.unit_streams.specs.declared.Memory.{Memory as Want}
use Rattle.nbfx_values.specs.declared.refusals.Offence.{Offence}
use Rattle.stream_reader.specs.Stream.{ends, Settings, stream}
use Rattle.stream_loop.proofs.Taking.{follows_as}
use Rattle.stream_loop.specs.declared.resuming.ReadOn.{ReadOn}
use Rattle.stream_loop.specs.{Edges.Input, Resumed.ReadsOn}
use Rattle.session_report.specs.declared.reading.Event.{Event}
use Rattle.relay.specs.declared.{carrier.Carrier.Carrier, outcome.Pump.Pump, outcome.PumpIn.PumpIn}
use Rattle.relay.specs.Carried.{carried_by, Carries, Carrying, last_of}
use Rattle.relay.specs.{Events.said, Outcomes.ending_of, Outcomes.inbound_by, Outcomes.read_by}
use Rattle.relay.specs.{Pumping.HasPumped, Writing.carrying_of, Writing.HasCarried}
use Rattle.relay.proofs.Reading.{ends_by, follows_by}
use Rattle.stream_loop.specs.declared.resuming.ReadOn.TheVariants as reads

module _ (y : Settings) (i i' : Input) (x : Carrying) (first : SinkView) (c : Carrier)
    (mid : SinkView) (set : carrying_of c ≡ x) (stands : List ℕ → Type 0) (Waits : Type 0)
    (left : List ℕ) (r : ReadOn Offence Want) where
  abbrev Reads : ReadOn Offence Want → Type 0
  Reads = ReadsOn (stream y) i i' ends stands
      (λ paused since. HasCarried (carrying_of c) first (said paused ++ said since) c mid)
      (λ halt at paused since. ⊥) Waits left

  -- a carrier never stops the reading
  answered : (r : ReadOn Offence Want) (faulted : Bool) (read : PumpIn) → Reads r
      → read ≡ inbound_by r faulted → read_by r faulted ≡ Err read
  answered (reads.Judged (Some offence)) faulted read h is = ap Err (sym is)
  answered (reads.Judged None) faulted read h is = ap Err (sym is)
  answered reads.ReadFault faulted read h is = ap Err (sym is)
  answered reads.Memory faulted read h is = ap Err (sym is)
  answered (reads.Halted halt) faulted read h is = absurd h.halted

  pub pumped_so : Reads r → (p : Pump) (now : SinkView) → p.read ≡ inbound_by r c.faulted
      → ((x : Carrying) (first : SinkView) (events : List Event)
      → HasCarried x first events c mid
      → Carries x (last_of p.read (carried_by x events)) events first now p)
      → HasPumped y i x first i' now p
  pumped_so h p now read_is closes =
      let is = answered r c.faulted p.read h read_is in
      follows_as (stream y) _ _ i i' (ending_of p.read) (λ all carried.
      let k : HasCarried x first (said all) c mid =
      subst (λ (z : Carrying). HasCarried z first (said all) c mid) set carried in record {
        carries = closes x first (said all) k;
        ends = ends_by r c.faulted p.read (said all) is k.1;
        opened = k.0.opened;
        named = k.0.named;
      })
      (follows_by y i i' (λ events. HasCarried (carrying_of c) first events c mid) stands
      (λ halt at paused since. ⊥) Waits left r c.faulted p.read is h)
