use Rattle.std.proofs.Common.{refl, ◌∙◌}
use Rattle.client.proofs.LaneWriting.{first_ready}
use Rattle.client.proofs.lane_writer.LaneWriter.new.Goals as goal

pub returns-clause-unwritten : goal.returns-clause-unwritten
returns-clause-unwritten c =
    let e = c.new.ensures in
    let s = c.args.settings in record {
      set = record { limits = e.limits; kind = e.kind ∙ c.kind.ensures; mode = e.mode };
      ready = e.state ∙ first_ready s.mode;
      names = e.names;
      fits = refl;
      untagged = c.new-2.ensures.items;
      fresh = c.new-3.ensures.fresh;
    }
