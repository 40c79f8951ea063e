use Rattle.{std.proofs.Common.refl, std.proofs.Common.arith, nbfx_records.specs.Views.record_seen}
use Rattle.nbfx_decoder.specs.{declared.faults.UnitFault.TheVariants.Memory, Units.place_in}
use Rattle.nbfx_decoder.proofs.Keeping.{keeps_settings, stays_at}
use Rattle.nbfx_decoder.proofs.Saying.{added_said, judged_said, made_fits, reads_done, reads_fault}
use Rattle.nbfx_decoder.proofs.Saying.{record_few, shape_size, shape_stands, shape_valid}
use Rattle.nbfx_decoder.proofs.units.UnitReader.pass_record.Goals as goal

pub returns-in_err-judge : goal.returns-in_err-judge
returns-in_err-judge c bytes has =
    reads_fault c.args.self.now c.args.self.now bytes _ _ c.from_residual.ensures.1
    (λ x z from at. judged_said c.args.self.now x z from at c.requires.here bytes
    (record_seen c.args.part.now) c.args.used has _ c.in_err-judge.ensures.judged)
    (record { statics = refl; quotas = refl; kind = refl })

pub said-requires-clause-valid : goal.said-requires-clause-valid
said-requires-clause-valid c = λ n e.
    let it = c.requires.stands in
    shape_valid (place_in c.args.self.now) it.bytes (record_seen c.args.part.now) c.args.used it.has
    n e it.are

pub returns-in_err-meant : goal.returns-in_err-meant
returns-in_err-meant c bytes has =
    reads_fault c.args.self.now c.args.self.now bytes Memory _
    c.from_residual-in_err-meant.ensures.1
    (λ x z from at. at.set)
    (record { statics = refl; quotas = refl; kind = refl })

pub add-requires-clause-follows : goal.add-requires-clause-follows
add-requires-clause-follows c =
    let it = c.requires.stands in
    let said = c.in_ok-meant.ensures.said in
    record {
      made = said.made;
      stands = shape_stands (place_in c.args.self.now) it.bytes (record_seen c.args.part.now)
          c.args.used it.has said.made said.is;
      means = said.means;
      fits = made_fits c.args.self.now (record_seen c.args.part.now) said.made said.is
          c.in_ok-judge.ensures.judged;
    }

pub returns-in_err-add : goal.returns-in_err-add
returns-in_err-add c bytes has =
    reads_fault c.args.self.now c.add.new.self bytes Memory _ c.from_residual-in_err-add.ensures.1
    (λ x z from at. (stays_at c.in_err-add.ensures.stays at).set)
    (keeps_settings c.add.ensures.kept)

pub advance-requires : goal.advance-requires
advance-requires c =
    let few = record_few c.args.self.now (record_seen c.args.part.now) c.args.used c.requires.stands
    in
    let same = c.add.ensures.from in
    omega (arith, few, same)

pub returns : goal.returns
returns c bytes has =
    let said = c.in_ok-meant.ensures.said in
    let read = reads_done c.args.self.now c.add.new.self c.advance.new.self bytes c.args.used
    (λ x z from at. added_said c.args.self.now x z from at c.requires.here bytes
    (record_seen c.args.part.now) c.args.used has said.made said.is c.add.new.self
    (c.in_ok-add.ensures.answers x z from said.made at said.means))
    (shape_size (place_in c.args.self.now) bytes (record_seen c.args.part.now) c.args.used
    has.whole) (keeps_settings c.add.ensures.kept) c.add.ensures.from c.advance.ensures.kept
    c.advance.ensures.from c.advance.ensures.section c.advance.ensures.items in
    rw c.advance.ensures.done read
