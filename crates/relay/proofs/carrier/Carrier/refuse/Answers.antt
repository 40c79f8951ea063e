use Rattle.std.proofs.Common.{refl}
use Rattle.relay.proofs.Putting.{put_starved, put_unfit}
use Rattle.relay.proofs.carrier.Carrier.refuse.Goals as goal

pub returns-in-Memory-clause-carried : goal.returns-in-Memory-clause-carried
returns-in-Memory-clause-carried g c = λ x first events received set ready refuses h.
    let e = c.run_out.ensures in
    put_starved x first events received c.args.self.now (g.K.Sink.view c.args.sink.now) h
    c.requires.going c.requires.fits set _ (g.K.Sink.view c.run_out.new.sink)
    (λ parts next given. e.given first parts next given) e.stopped e.little

pub returns-in_default : goal.returns-in_default
returns-in_default g c = record {
  carried = λ x first events received set ready refuses h.
      put_unfit x first events received c.args.self.now (g.K.Sink.view c.args.sink.now) h
      c.requires.going c.requires.fits set ready c.args.fault c.in_default.not-Memory refuses _ refl
      refl refl;
  set = refl;
  same_end = refl;
  faulted = refl;
  over = refl;
}
