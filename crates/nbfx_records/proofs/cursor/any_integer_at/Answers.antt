use Rattle.std.proofs.Common.{◌≡◌, ℕ, ◌-◌, List, refl, subst, arith}
use Rattle.{unit_streams.specs.Front.begun, multibyte_ints.proofs.IntegerBytes.int_peels}
use Rattle.multibyte_ints.specs.{Integer.int_at, Reader.StandsFor}
use Rattle.nbfx_records.proofs.CursorFacts.{integer_whole, integer_wrong, one_more}
use Rattle.nbfx_records.proofs.cursor.any_integer_at.Goals as goal

pub loop-at-init : goal.loop-at-init
loop-at-init c = let none : c.args.from - c.args.from ≡ 0 = omega arith in rw none
    (record { stands = c.new-reader.ensures; begins = int_peels.nothing })

pub returns-in-Done-clause-tells : goal.returns-in-Done-clause-tells
returns-in-Done-clause-tells c = record {
  told =
      integer_whole c.args.bytes.now c.args.from c.loop-at.at c.loop-at.auto.at c.loop-at-test.true
      c.in-Done.n (c.in-Done.ensures.answers _ c.loop-at.invariant.stands);
}

pub returns-in-Done-clause-small : goal.returns-in-Done-clause-small
returns-in-Done-clause-small c =
    ((c.in-Done.ensures.done _ c.in-Done.n c.loop-at.invariant.stands).0 refl).in_31_bits

pub returns-in-Bad-clause-tells : goal.returns-in-Bad-clause-tells
returns-in-Bad-clause-tells c = record {
  told = record {
    why =
        integer_wrong c.args.bytes.now c.args.from c.loop-at.at c.loop-at.auto.at
        c.loop-at-test.true c.loop-at.invariant.begins
        (c.in-Bad.ensures.answers _ c.loop-at.invariant.stands);
    asks = tt;
  };
}

pub loop-at-preserved : goal.loop-at-preserved
loop-at-preserved c =
    let next = one_more c.args.bytes.now c.args.from c.loop-at.at c.loop-at.auto.at
    c.loop-at-test.true in
    record {
      stands = subst (StandsFor c.feed.new.self) next
          (c.in-More.ensures.stands _ c.loop-at.invariant.stands);
      begins = subst (λ (b : List ℕ). int_at b ≡ begun) next
          (c.in-More.ensures.answers _ c.loop-at.invariant.stands);
    }
