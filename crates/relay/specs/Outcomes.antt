-- How the reading and the writing of one direction ended, by the answers of what reads and writes.
use Rattle.std.specs.Prelude.{ℕ, Bool, true, false, List, [], Some, None, Ok, Err, Option, Result}
use Rattle.nmf_records.specs.{declared.frame.Frame.TheVariants.End, Writing.frame_bytes_of}
use Rattle.nbfx_values.specs.declared.refusals.Offence.{Offence}
use Rattle.nbfx_encoder.specs.declared.faults.EncodeFault.{EncodeFault}
use Rattle.unit_streams.specs.declared.Memory.{Memory as Want}
use Rattle.stream_loop.specs.declared.following.FollowEnding.{FollowEnding}
use Rattle.stream_loop.specs.declared.outbound.Outbound.{Outbound}
use Rattle.stream_loop.specs.declared.resuming.ReadOn.{ReadOn}
use Rattle.relay.specs.declared.outcome.{PumpIn.PumpIn, PumpOut.PumpOut}
use Rattle.stream_loop.specs.declared.following.FollowEnding.TheVariants as endings
use Rattle.stream_loop.specs.declared.outbound.Outbound.TheVariants as outbounds
use Rattle.stream_loop.specs.declared.resuming.ReadOn.TheVariants as reads
use Rattle.relay.specs.declared.outcome.PumpIn.TheVariants as ins
use Rattle.relay.specs.declared.outcome.PumpOut.TheVariants as outs

-- of a stream that ended well, whose last event may have been a Fault
abbrev pub ended_by : (faulted : Bool) → PumpIn
ended_by true = ins.PeerFault
ended_by false = ins.Ended

abbrev pub read_by : {H : Type 0} → ReadOn Offence H → (faulted : Bool) → Result H PumpIn
read_by (reads.Judged (Some offence)) faulted = Err (ins.Offended offence)
read_by (reads.Judged None) faulted = Err (ended_by faulted)
read_by reads.ReadFault faulted = Err ins.ReadFault
read_by reads.Memory faulted = Err ins.Memory
read_by (reads.Halted halt) faulted = Ok halt

abbrev pub read_or_memory : {H : Type 0} → Result H PumpIn → PumpIn
read_or_memory (Ok halt) = ins.Memory
read_or_memory (Err read) = read

abbrev pub inbound_by : ReadOn Offence Want → (faulted : Bool) → PumpIn
inbound_by read faulted = read_or_memory (read_by read faulted)

-- how the reading of the stream ended; one that isn't opened stopped where it was, as for want of
-- memory
abbrev pub ending_of : PumpIn → FollowEnding Offence
ending_of ins.Ended = endings.Judged None
ending_of (ins.Offended offence) = endings.Judged (Some offence)
ending_of ins.PeerFault = endings.Judged None
ending_of ins.NotOpened = endings.Memory
ending_of ins.ReadFault = endings.ReadFault
ending_of ins.Memory = endings.Memory

abbrev pub written_by : Outbound → (unfit : Option EncodeFault) → (documents : ℕ) → PumpOut
written_by outbounds.Done None documents = outs.Done
written_by outbounds.Done (Some fault) documents = outs.Unfit documents fault
written_by outbounds.WriteFault unfit documents = outs.WriteFault
written_by outbounds.Memory unfit documents = outs.Memory

-- how it ended at the sink
abbrev pub outbound_of : PumpOut → Outbound
outbound_of outs.Done = outbounds.Done
outbound_of (outs.Unfit number fault) = outbounds.Done
outbound_of outs.WriteFault = outbounds.WriteFault
outbound_of outs.Memory = outbounds.Memory

-- the bytes that are written at last, where a reading ended so, and a document didn't fit
abbrev pub last_by : PumpIn → (unfit : Option EncodeFault) → List ℕ
last_by ins.Ended None = frame_bytes_of End []
last_by read unfit = []
