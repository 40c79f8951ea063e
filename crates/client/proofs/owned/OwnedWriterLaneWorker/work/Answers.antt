use Rattle.std.proofs.Common.{◌≡◌, ℕ, List, [], ◌∷◌, ◌++◌, length, Some, None, refl, sym, ap, ◌∙◌, subst}
use Rattle.std.proofs.lemmas.Option.{slice_get_past, slice_get_read}
use Rattle.std.specs.List.{slice_get}
use Rattle.two_lanes.specs.declared.jobs.{Lane.Lane, LaneJob.LaneJob}
use Rattle.two_lanes.specs.declared.jobs.LaneJob.TheVariants.{Back, Last, Send}
use Rattle.two_lanes.specs.Merges.{named, of_lane, steps}
use Rattle.client.specs.LaneWriting.{HasDone}
use Rattle.client.proofs.LaneDone.{done_none, done_one}
use Rattle.client.proofs.owned.OwnedWriterLaneWorker.work.Goals.{in-A, in-B}
use Rattle.client.proofs.owned.OwnedWriterLaneWorker.work.Goals as goal

not_send : {T : Type 0} (a b : List T) (x : LaneJob)
    → ((lane : Lane) (n : ℕ) → x ≡ Send lane n → ⊥) → steps a b (x ∷ []) ≡ []
not_send a b (Send lane n) never = absurd (never lane n refl)
not_send a b (Last lane) never = refl
not_send a b Back never = refl

pub returns-in_default : goal.returns-in_default
returns-in_default g c = record {
  did = λ first jobs h. done_none g.K.Sink.view first jobs c.args.job c.args.self.now
      (not_send first.a.now first.b.now c.args.job c.in_default.not-Send) h;
}

pub returns-in-Some : goal.returns-in-Some
returns-in-Some g c = record {
  did = λ first jobs h.
      let l = c.in-Some.ensures.lookup in
      let n = c.in-Send.number in
      let d = c.in-Some.doc.now in
      let found = rw c.as_slice.ensures at (slice_get_read c.as_slice.result.now
      (length c.as_slice.result.now) n d refl l.3.0 l.1) in
      let there : slice_get (of_lane c.in-Send.lane first.a.now first.b.now) n ≡ Some d =
      elim c.match-lane.branch [
        | in-A w ↦ rw (w.in-A.is, ← h.first_is, ← w.docs-is) found
        | in-B w ↦ rw (w.in-B.is, ← h.second_is, ← w.docs-is) found
      ] in
      subst (λ (j : LaneJob). HasDone g.K.Sink.view first (jobs ++ j ∷ [])
      (record {
        a = c.args.self.now.a;
        b = c.args.self.now.b;
        writer = c.send.new.self;
        sink = c.send.new.sink;
      })) (sym c.in-Send.is) (done_one g.K.Sink.view first jobs c.in-Send.lane n d c.args.self.now _
      there c.send.ensures.set refl refl
      (λ all so_far. c.send.ensures.writing (g.K.Sink.view first.sink) all so_far) h);
}

pub returns-in_default-get : goal.returns-in_default-get
returns-in_default-get g c = record {
  did = λ first jobs h.
      let l = c.in_default-get.ensures.lookup in
      let n = c.in-Send.number in
      let past = rw c.as_slice.ensures at (slice_get_past c.as_slice.result.now n l.3) in
      let gone : slice_get (of_lane c.in-Send.lane first.a.now first.b.now) n ≡ None =
      elim c.match-lane.branch [
        | in-A w ↦ rw (w.in-A.is, ← h.first_is, ← w.docs-is) past
        | in-B w ↦ rw (w.in-B.is, ← h.second_is, ← w.docs-is) past
      ] in
      done_none g.K.Sink.view first jobs c.args.job c.args.self.now
      (ap (λ (j : LaneJob). steps first.a.now first.b.now (j ∷ [])) c.in-Send.is
      ∙ ap (λ o. named c.in-Send.lane o ++ []) gone) h;
}
