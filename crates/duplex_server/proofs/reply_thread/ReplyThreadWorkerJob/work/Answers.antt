use Rattle.std.proofs.Common.{true, refl}
use Rattle.duplex_server.proofs.{Crossed.goes_on, Done.done_back, Done.done_last, Done.done_more}
use Rattle.duplex_server.proofs.reply_thread.ReplyThreadWorkerJob.work.Goals as goal

pub returns-in-Last : goal.returns-in-Last
returns-in-Last g c = record {
  did = λ first done go h.
      let e = c.close.ensures in
      rw c.in-Last.is (done_last g.K.Sink.view g.K.Sink.ended first done c.args.self.now _ h refl
      refl c.in-Last.ending
      (λ given. rw c.last_bytes.ensures at (e.closed (g.K.Sink.view first.sink) _ given)) e.same_end
      (λ stopped. (e.stopped stopped).0) refl);
}

pub returns-in-Back : goal.returns-in-Back
returns-in-Back g c = record {
  did = λ first done go h.
      rw c.in-Back.is (done_back g.K.Sink.view g.K.Sink.ended first done c.args.self.now
      record {
        writer = c.args.self.now.writer;
        sink = c.args.self.now.sink;
        begun = true;
        spent = c.args.self.now.spent;
      } h refl
      refl refl refl refl);
}

pub returns-in_default : goal.returns-in_default
returns-in_default g c = record {
  did = λ first done go h.
      let w = c.work-spent.ensures in
      done_more g.K.Sink.view g.K.Sink.ended first done c.args.self.now _ h w.kept.statics_are
      w.kept.quotas_are c.args.job
      (goes_on c.args.job (λ ending is. c.in_default.not-Last ending is) c.in_default.not-Back)
      (w.stands (g.K.Sink.view first.sink) _ _) w.kept refl;
}
