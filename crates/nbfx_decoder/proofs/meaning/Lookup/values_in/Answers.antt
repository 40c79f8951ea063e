use Rattle.std.proofs.Common.{List, sym, subst}
use Rattle.{nbfx_values.specs.declared.scalars.Scalar.Scalar, nbfx_decoder.specs.Meant.table_of}
use Rattle.nbfx_records.specs.Views.{listed, scalar_seen}
use Rattle.nbfx_decoder.proofs.Listing.{one_further, peeled, SoFar}
use Rattle.nbfx_decoder.proofs.meaning.Lookup.values_in.Goals as goal

pub value_in-requires : goal.value_in-requires
value_in-requires c =
    let both =
    peeled (table_of c.args.self.now) (listed c.loop-part.rest.now) (scalar_seen c.in-Some.part)
    (listed c.in-Some.behind.now) c.in-Some.ensures.value c.loop-part.invariant.so_far.left in
    both.0

pub loop-part-preserved : goal.loop-part-preserved
loop-part-preserved c =
    let table = table_of c.args.self.now in
    let says = c.in_ok-value_in.ensures.says in
    let far =
    one_further table (listed c.args.list.now) (listed c.loop-part.rest.now) c.loop-part.values
    c.loop-part.invariant.so_far (scalar_seen c.in-Some.part) (listed c.in-Some.behind.now)
    c.in-Some.ensures.value says.0 says.1 c.in_ok-value_in.field-0 says.2
    c.in_ok-value_in.ensures.valid in
    record {
      list = c.in-Some.ensures.rest;
      so_far =
          subst
          (λ (ys : List Scalar).
          SoFar table (listed c.args.list.now) (listed c.in-Some.behind.now) ys)
          (sym c.in_ok-push.ensures.pushed) far;
    }
