use Rattle.nbfx_values.specs.Measures.{attribute_content}
use Rattle.nbfx_records.specs.Contents.{attribute_is_text, attribute_value}
use Rattle.nbfx_records.specs.{Meaning.meant_part, Views.attribute_seen, Views.parts_of}
use Rattle.nbfx_decoder.specs.{Meant.table_of, Measuring.weigh_part}
use Rattle.nbfx_decoder.proofs.MeasureFacts.{all_weighed, leaves, none_yet, one_more, one_wrong}
use Rattle.nbfx_decoder.proofs.MeasureFacts.{unmade_so}
use Rattle.nbfx_decoder.proofs.meaning.Lookup.parts_size.Goals as goal

pub loop-part-init : goal.loop-part-init
loop-part-init c = record {
  are = c.requires;
  so_far = none_yet attribute_is_text attribute_value
      (meant_part (table_of c.args.self.now)) attribute_content (parts_of c.args.parts.now);
}

pub returns-in_err-size_before : goal.returns-in_err-size_before
returns-in_err-size_before c =
    let means = meant_part (table_of c.args.self.now) in
    leaves _ c.from_residual.ensures.1
    (one_wrong attribute_is_text attribute_value means attribute_content (parts_of c.args.parts.now)
    (parts_of c.loop-part.rest.now) c.loop-part.content c.loop-part.invariant.so_far
    (attribute_seen c.in-Some.part) (parts_of c.in-Some.behind.now) c.in-Some.ensures.part _
    (unmade_so _ (weigh_part (table_of c.args.self.now)) _ c.in_err-size_before.ensures.told))

pub loop-part-preserved : goal.loop-part-preserved
loop-part-preserved c =
    let means = meant_part (table_of c.args.self.now) in
    let it = c.in_ok-size_before.ensures.told in
    record {
      are = c.in-Some.ensures.rest;
      so_far = one_more attribute_is_text attribute_value means attribute_content
          (parts_of c.args.parts.now) (parts_of c.loop-part.rest.now) c.loop-part.content
          c.loop-part.invariant.so_far
          (attribute_seen c.in-Some.part) (parts_of c.in-Some.behind.now) c.in-Some.ensures.part
          it.0 it.1 _ _ it.2 c.together-content.ensures;
    }

pub returns : goal.returns
returns c =
    record {
      told = all_weighed attribute_is_text attribute_value (meant_part (table_of c.args.self.now))
          attribute_content (parts_of c.args.parts.now) (parts_of c.loop-part.rest.now)
          c.loop-part.content c.loop-part.invariant.so_far c.in_default.ensures.none;
    }
