use Rattle.std.proofs.Common.{◌∙◌, inl, arith}
use Rattle.nbfx_decoder.specs.Payload.{table_size}
use Rattle.nbfx_decoder.proofs.UnitSteps.{integer_size, size_unrefused, size_whole, size_bad}
use Rattle.nbfx_decoder.proofs.UnitSteps.{size_waits, behind_size}
use Rattle.nbfx_decoder.proofs.units.UnitReader.table_size.Goals as goal

pub advance-requires : goal.advance-requires
advance-requires c =
    let size = integer_size c.args.bytes.now c.in-Done.value c.in-Done.used c.in-Done.ensures.0 in
    let few = c.requires.few in
    omega (arith, size.1, few)

pub returns-in-More-clause-answers : goal.returns-in-More-clause-answers
returns-in-More-clause-answers c x z from at =
    (size_waits c.args.self.now x z from at c.requires.here c.args.bytes.now c.in-More.ensures, at)

pub returns-in-Done-clause-answers : goal.returns-in-Done-clause-answers
returns-in-Done-clause-answers c x z from at =
    let kept = c.advance.ensures.kept in
    rw c.advance.ensures.done (
      table_size c.in-Done.value,
      size_whole c.args.self.now x z from at c.requires.here c.args.bytes.now c.in-Done.value
          c.in-Done.used c.in-Done.ensures.0,
      size_unrefused x z c.in-Done.value,
      behind_size c.args.self.now x z from at c.requires.here c.args.bytes.now c.advance.new.self
          c.in-Done.value c.in-Done.used
          (record {
            statics = kept.statics;
            quotas = kept.quotas;
            kind = kept.kind;
            table =
                kept.table;
          }) c.advance.ensures.from (c.advance.ensures.section ∙ c.behind-self.ensures)
          c.advance.ensures.items,
    )

pub returns-in-Done-clause-counts : goal.returns-in-Done-clause-counts
returns-in-Done-clause-counts c = rw c.advance.ensures.done
    (integer_size c.args.bytes.now c.in-Done.value c.in-Done.used c.in-Done.ensures.0)

pub returns-in-Bad-clause-answers : goal.returns-in-Bad-clause-answers
returns-in-Bad-clause-answers c x z from at =
    rw c.refused.ensures (
      inl (size_bad c.args.self.now x z from at c.requires.here c.args.bytes.now c.in-Bad.ensures),
      at.set,
    )
