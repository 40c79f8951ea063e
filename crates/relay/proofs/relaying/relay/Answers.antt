use Rattle.std.proofs.Common.{◌≡◌, ℕ, List, [], refl, ◌∙◌, sym, ap, subst}
use Rattle.io_edges.specs.Faults.{CountsFaults}
use Rattle.nbfx_encoder.specs.declared.sender.Side.TheVariants.{Initiator}
use Rattle.relay.specs.declared.outcome.PumpIn.{PumpIn}
use Rattle.relay.specs.Events.{has_begun}
use Rattle.relay.specs.{Beginning.EndsBefore, Carried.Carries, Relayed.refusal_of}
use Rattle.session_report.proofs.Streams.{ends_within}
use Rattle.stream_loop.proofs.LoopSteps.{first_pending}
use Rattle.stream_loop.specs.Edges.{Input, input_at}
use Rattle.stream_reader.specs.{Sides.endpoint_of, Stream.ends, Stream.stream}
use Rattle.relay.specs.{Opening.relaying, Relayed.back_by, Relayed.front_of}
use Rattle.relay.specs.{Relayed.Relay, Relayed.to_back, Relayed.to_front}
use Rattle.relay.proofs.{Accepting.front_unended, Known.both_unopened, Known.unread_counted}
use Rattle.relay.proofs.Known.{writes_are_counted}
use Rattle.relay.proofs.relaying.relay.{Given.Over}
use Rattle.relay.specs.declared.outcome.PumpIn.TheVariants as ins
use Rattle.relay.proofs.relaying.relay.Goals as goal

module _ (g : Over) where
  abbrev front_at : g.row.S.Denot → Input
  front_at source = input_at g.S.Source.left g.S.Source.taken g.S.Source.faults
      g.S.Source.empty_takes source

  abbrev back_at : g.row.A.Denot → Input
  back_at source = input_at g.A.Source.left g.A.Source.taken g.A.Source.faults
      g.A.Source.empty_takes source

pub relay_opened-requires-clause-begun : goal.relay_opened-requires-clause-begun
relay_opened-requires-clause-begun g c = λ lives outlives.
    (front_at g c.args.front_in.now, c.in-Ok.ensures.begun)

pub returns-in-Ok-clause-relayed : goal.returns-in-Ok-clause-relayed
returns-in-Ok-clause-relayed g c =
    let a = c.args in
    let x : Relay = relaying a.front.now a.back.now a.quotas.now (endpoint_of a.endpoint.now)
    a.via.now in
    let r = c.relay_opened in
    let follows = r.ensures.follows (front_at g a.front_in.now) c.in-Ok.ensures.begun in
    let w = writes_are_counted x (front_at g a.front_in.now) (front_at g r.new.front_in)
    (back_at g a.back_in.now) (back_at g r.new.back_in) (g.K.Sink.view a.front_out.now)
    (g.K.Sink.view r.new.front_out) (g.B.Sink.view a.back_out.now) (g.B.Sink.view r.new.back_out)
    r.result follows in record {
      follows = follows;
      front_reads = rw c.in-Ok.ensures.uncounted at r.ensures.front_reads;
      back_reads = r.ensures.back_reads;
      front_writes = w.0;
      back_writes = w.1;
    }

-- the front's preamble didn't come
pub returns-in-Err-clause-relayed : goal.returns-in-Err-clause-relayed
unfolding has_begun
returns-in-Err-clause-relayed g c =
    let a = c.args in
    let x : Relay = relaying a.front.now a.back.now a.quotas.now (endpoint_of a.endpoint.now)
    a.via.now in
    let f = c.close_unopened-forward in
    let b = c.close_unopened-backward in
    let s = c.begin_front in
    let e = c.in-Err.ensures in
    let ended = subst (λ (r : PumpIn). EndsBefore (front_of x) (front_at g a.front_in.now)
    (front_at g s.new.source) Initiator r) (sym f.ensures.read) e.ended in
    let follows = both_unopened x (front_at g a.front_in.now) (front_at g s.new.source)
    (back_at g a.back_in.now) (back_at g a.back_in.now) (g.K.Sink.view a.front_out.now)
    (g.K.Sink.view b.new.sink) (g.B.Sink.view a.back_out.now) (g.B.Sink.view f.new.sink)
    (record { forward = f.result; backward = b.result }) ended
    (λ is. e.opened (sym f.ensures.read ∙ is)) b.ensures.read refl
    (λ mode kind. first_pending (stream (back_by x mode kind)) ends x.backward.session
    (ends_within (back_by x mode kind) a.quotas.now.back.good))
    (λ mode kind events unbegun. f.ensures.carries (to_back x mode kind) events unbegun)
    (λ mode kind. subst (λ (l : List ℕ). Carries (to_front x mode kind) l []
    (g.K.Sink.view a.front_out.now) (g.K.Sink.view b.new.sink) b.result)
    (c.refusal_record-refusal.ensures ∙ ap refusal_of (sym f.ensures.read))
    (b.ensures.carries (to_front x mode kind) [] refl))
    (front_unended (front_of x) a.quotas.now.forward.good (endpoint_of a.endpoint.now) refl
    (front_at g a.front_in.now) (front_at g s.new.source) f.result.read ended)
    f.ensures.none b.ensures.none in
    let w = writes_are_counted x (front_at g a.front_in.now) (front_at g s.new.source)
    (back_at g a.back_in.now) (back_at g a.back_in.now) (g.K.Sink.view a.front_out.now)
    (g.K.Sink.view b.new.sink) (g.B.Sink.view a.back_out.now) (g.B.Sink.view f.new.sink)
    (record { forward = f.result; backward = b.result }) follows in record {
      follows = follows;
      front_reads = subst (λ (r : PumpIn). CountsFaults (g.S.Source.faults a.front_in.now)
          (g.S.Source.faults s.new.source) (r ≡ ins.ReadFault))
          (sym f.ensures.read) e.counted;
      back_reads = unread_counted _ b.result.read b.ensures.read;
      front_writes = w.0;
      back_writes = w.1;
    }
