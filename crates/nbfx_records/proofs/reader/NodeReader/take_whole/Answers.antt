use Rattle.std.proofs.Common.{◌++◌, refl, ap, sym}
use Rattle.nbfx_records.specs.Views.{record_seen}
use Rattle.nbfx_records.proofs.ReaderFacts.{fed_fault, fed_first, fed_more, fed_unfit, fed_valid}
use Rattle.nbfx_records.proofs.reader.NodeReader.take_whole.Goals as goal

pub returns-in_err-node-in-Ok-clause-answers : goal.returns-in_err-node-in-Ok-clause-answers
returns-in_err-node-in-Ok-clause-answers c =
    fed_unfit c.args.place c.args.self.now.begun c.args.piece.now c.args.piece.now
    (sym (ap (λ b. b ++ c.args.piece.now) c.requires)) (record_seen c.in-Ok.part) c.in-Ok.used
    c.in-Ok.ensures.tells.told _ c.from_residual.result c.from_residual.ensures.1
    c.in_err-node-in-Ok.ensures

pub returns-in_ok-node-in-Ok-clause-answers : goal.returns-in_ok-node-in-Ok-clause-answers
returns-in_ok-node-in-Ok-clause-answers c =
    fed_first c.args.place c.args.self.now.begun c.args.piece.now c.args.piece.now
    (sym (ap (λ b. b ++ c.args.piece.now) c.requires)) (record_seen c.in-Ok.part) c.in-Ok.used
    c.in-Ok.ensures.tells.told c.requires c.in_ok-node-in-Ok.node c.in_ok-node-in-Ok.ensures.made

pub returns-in_ok-node-in-Ok-clause-valid : goal.returns-in_ok-node-in-Ok-clause-valid
returns-in_ok-node-in-Ok-clause-valid c =
    fed_valid c.args.place c.args.self.now.begun c.args.piece.now c.args.piece.now
    (sym (ap (λ b. b ++ c.args.piece.now) c.requires)) (record_seen c.in-Ok.part) c.in-Ok.used
    c.in-Ok.ensures.tells.told c.in_ok-node-in-Ok.node c.in_ok-node-in-Ok.ensures.made
    (λ i. (c.type_inv.piece i).fits)

pub returns-in_ok-keep-in-Err-More-clause-answers :
    goal.returns-in_ok-keep-in-Err-More-clause-answers
returns-in_ok-keep-in-Err-More-clause-answers c =
    let told = rw c.in-Err-More.field-0-is at c.in-Err-More.ensures.tells.told in (
      refl,
      fed_more c.args.place c.args.self.now.begun c.args.piece.now c.args.piece.now
          (sym (ap (λ b. b ++ c.args.piece.now) c.requires)) _ told,
    )

pub returns-in-Err-Fault-clause-answers : goal.returns-in-Err-Fault-clause-answers
returns-in-Err-Fault-clause-answers c =
    let told = rw c.in-Err-Fault.field-0-is at c.in-Err-Fault.ensures.tells.told in
    fed_fault c.args.place c.args.self.now.begun c.args.piece.now c.args.piece.now
    (sym (ap (λ b. b ++ c.args.piece.now) c.requires)) c.in-Err-Fault.fault _ told
