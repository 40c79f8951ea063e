use Rattle.{nbfx_values.specs.Measures.scalar_content, nbfx_decoder.specs.Meant.table_of}
use Rattle.nbfx_records.specs.Contents.{scalar_is_text, scalar_value}
use Rattle.nbfx_records.specs.{Meaning.meant_scalar, Views.listed, Views.scalar_seen}
use Rattle.nbfx_decoder.proofs.MeasureFacts.{all_weighed, leaves, none_yet, one_more, one_wrong}
use Rattle.nbfx_decoder.proofs.meaning.Lookup.list_size.Goals as goal

pub loop-part-init : goal.loop-part-init
loop-part-init c = record {
  list = c.requires;
  so_far = none_yet scalar_is_text scalar_value
      (meant_scalar (table_of c.args.self.now)) scalar_content (listed c.args.list.now);
}

pub returns-in_err-raw : goal.returns-in_err-raw
returns-in_err-raw c =
    let means = meant_scalar (table_of c.args.self.now) in
    leaves _ c.from_residual.ensures.1
    (one_wrong scalar_is_text scalar_value means scalar_content (listed c.args.list.now)
    (listed c.loop-part.rest.now) c.loop-part.content c.loop-part.invariant.so_far
    (scalar_seen c.in-Some.part) (listed c.in-Some.behind.now) c.in-Some.ensures.value _
    c.in_err-raw.ensures)

pub loop-part-preserved : goal.loop-part-preserved
loop-part-preserved c =
    let means = meant_scalar (table_of c.args.self.now) in
    record {
      list = c.in-Some.ensures.rest;
      so_far = one_more scalar_is_text scalar_value means scalar_content (listed c.args.list.now)
          (listed c.loop-part.rest.now) c.loop-part.content c.loop-part.invariant.so_far
          (scalar_seen c.in-Some.part) (listed c.in-Some.behind.now) c.in-Some.ensures.value
          c.in_ok-raw.raw c.in_ok-raw.ensures.made _ _ c.scalar_size.ensures
          c.together-content.ensures;
    }

pub returns : goal.returns
returns c =
    record {
      told = all_weighed scalar_is_text scalar_value (meant_scalar (table_of c.args.self.now))
          scalar_content (listed c.args.list.now) (listed c.loop-part.rest.now) c.loop-part.content
          c.loop-part.invariant.so_far c.in_default.ensures.none;
    }
