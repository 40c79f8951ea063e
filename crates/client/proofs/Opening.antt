-- What is written of the opening.
use Rattle.std.proofs.Common.{◌≡◌, ℕ, List, [], Ok, Err, Result, refl, subst, inr}
use Rattle.{std.proofs.Common.append-nil, client.specs.Writing.WritesOut}
use Rattle.io_edges.{proofs.Putting.Puts-then, specs.declared.SinkFault.SinkFault}
use Rattle.stream_loop.{proofs.Written.cut_of, specs.declared.outbound.Outbound.Outbound}
use Rattle.stream_loop.specs.Writing.{Goes, IsCut, outbound_by}
use Rattle.io_edges.specs.Views.{SinkView}
use Rattle.io_edges.specs.Puts.{Puts}
use Rattle.io_edges.specs.declared.SinkFault.TheVariants as sinks
use Rattle.stream_loop.specs.declared.outbound.Outbound.TheVariants as outbounds

-- bytes that weren't put end the writing at them
pub writes_out : (o : Outbound) (bytes : List ℕ) (old new : SinkView) → (o ≡ outbounds.Done → ⊥)
    → Goes o bytes old new
    → WritesOut o bytes old new
writes_out outbounds.Done bytes old new never goes = absurd (never refl)
writes_out outbounds.WriteFault bytes old new never goes = goes
writes_out outbounds.Memory bytes old new never goes = goes

-- bytes were put, and then what is held is written
pub flushes_out : (answer : Result (Unit {0}) SinkFault) (bytes : List ℕ) (old mid new : SinkView)
    → Puts old mid bytes (Ok tt) → Puts mid new [] answer → new.held ≡ []
    → WritesOut (outbound_by answer) bytes old new
flushes_out (Ok u) bytes old mid new puts flushed emptied = (
  subst (λ l. Puts old new l (Ok tt)) (append-nil bytes) (Puts-then _ puts flushed),
  emptied,
)
flushes_out (Err sinks.Failed) bytes old mid new puts flushed emptied =
    cut_of sinks.Failed bytes bytes old new
    (subst (λ l. Puts old new l (Err sinks.Failed)) (append-nil bytes)
    (Puts-then _ puts flushed)) (inr refl)
flushes_out (Err sinks.Memory) bytes old mid new puts flushed emptied =
    cut_of sinks.Memory bytes bytes old new
    (subst (λ l. Puts old new l (Err sinks.Memory)) (append-nil bytes)
    (Puts-then _ puts flushed)) (inr refl)

-- there was no memory for the bytes
pub starved_out : (o : Outbound) (bytes : List ℕ) (old new : SinkView) → IsCut o bytes old new
    → WritesOut o bytes old new
starved_out outbounds.Done bytes old new cut = absurd cut.ends
starved_out outbounds.WriteFault bytes old new cut = cut
starved_out outbounds.Memory bytes old new cut = cut
