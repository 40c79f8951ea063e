use Rattle.std.proofs.Common.{arith, ap, length}
use Rattle.nbfx_values.proofs.Positions.{open-most}
use Rattle.nbfx_values.proofs.builder.DocBuilder.position.Goals as goal

pub returns-clause-few : goal.returns-clause-few
returns-clause-few c =
    omega (
      arith,
      ap length c.as_slice-items.ensures,
      open-most c.self.inside.items
          c.self.inside.position c.self.invariant.leads,
    )
