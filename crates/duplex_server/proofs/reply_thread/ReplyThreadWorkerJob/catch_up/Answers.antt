use Rattle.std.proofs.Common.{refl, inl, inr}
use Rattle.duplex_server.proofs.Done.{done_still}
use Rattle.duplex_server.proofs.reply_thread.ReplyThreadWorkerJob.catch_up.Goals as goal

pub returns-then-not-self : goal.returns-then-not-self
returns-then-not-self g c = record {
  may_wait = inl c.if-not-self.true;
  did = λ first done go h. h;
}

pub returns : goal.returns
returns g c = record {
  may_wait = inr c.pause.ensures.may_wait;
  did = λ first done go h.
      let e = c.pause.ensures in
      done_still g.K.Sink.view g.K.Sink.ended first done
      c.args.self.now _ h refl refl go (e.given (g.K.Sink.view first.sink) _) e.same_end e.little
      (λ stopped. (e.stopped stopped).0) refl c.if-not-self.false c.if-not-self.false;
}
