use Rattle.std.proofs.Common.{◌≡◌, ℕ, ◌≤◌, List, length, sym, refl, ap, ◌∙◌, subst, take_all}
use Rattle.{unit_streams.specs.Front.begun, multibyte_ints.proofs.IntegerBytes.int_peels}
use Rattle.multibyte_ints.specs.{Integer.int_at, Reader.StandsFor}
use Rattle.multibyte_ints.proofs.FrontSteps.{one_more, whole_there, wrong_there}
use Rattle.multibyte_ints.proofs.front.read_int.Goals as goal

pub loop-at-init : goal.loop-at-init
loop-at-init c = record { stands = c.new-reader.ensures; begins = int_peels.nothing }

pub returns-in-Done : goal.returns-in-Done
returns-in-Done c = (
  whole_there c.args.bytes.now c.loop-at.at c.loop-at-test.true c.in-Done.value
      (c.in-Done.ensures.answers _ c.loop-at.invariant.stands),
  ((c.in-Done.ensures.done _ c.in-Done.value c.loop-at.invariant.stands).0 refl).in_31_bits,
)

pub returns-in-Bad : goal.returns-in-Bad
returns-in-Bad c = wrong_there c.args.bytes.now c.loop-at.at c.loop-at-test.true
    (c.in-Bad.ensures.answers _ c.loop-at.invariant.stands)

pub loop-at-preserved : goal.loop-at-preserved
loop-at-preserved c =
    let next = one_more c.args.bytes.now c.loop-at.at c.loop-at-test.true in
    record {
      stands = subst (StandsFor c.feed.new.self) next
          (c.in-More.ensures.stands _ c.loop-at.invariant.stands);
      begins = subst (λ (b : List ℕ). int_at b ≡ begun) next
          (c.in-More.ensures.answers _ c.loop-at.invariant.stands);
    }

pub returns : goal.returns
returns c =
    let past : length c.args.bytes.now ≤ c.loop-at.at = c.loop-at-test.false in
    ap int_at (sym (take_all c.loop-at.at c.args.bytes.now past)) ∙ c.loop-at.invariant.begins
