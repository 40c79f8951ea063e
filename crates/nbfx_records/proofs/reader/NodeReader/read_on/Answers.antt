use Rattle.std.proofs.Common.{refl, arith}
use Rattle.nbfx_records.{specs.Views.record_seen, proofs.ReaderFacts.fed_valid}
use Rattle.nbfx_records.proofs.ReaderFacts.{fed_behind, fed_fault, fed_later, fed_more, fed_unfit}
use Rattle.nbfx_records.proofs.reader.NodeReader.read_on.Goals as goal

pub returns-in_err-node-in-Ok-clause-answers : goal.returns-in_err-node-in-Ok-clause-answers
returns-in_err-node-in-Ok-clause-answers c =
    fed_unfit c.args.place c.args.self.now.begun c.args.piece.now c.keep.new.self
    c.in_ok-keep.ensures.kept (record_seen c.in-Ok.part) c.in-Ok.used
    c.in-Ok.ensures.tells.told _ c.from_residual-in_err-node-in-Ok.result
    c.from_residual-in_err-node-in-Ok.ensures.1 c.in_err-node-in-Ok.ensures

pub overflow_sub-result : goal.overflow_sub-result
overflow_sub-result c =
    let later =
    fed_later c.args.place c.args.self.now.begun c.args.piece.now c.keep.new.self
    c.in_ok-keep.ensures.kept (record_seen c.in-Ok.part) c.in-Ok.used
    c.in-Ok.ensures.tells.told c.requires c.in_ok-node-in-Ok.node
    c.in_ok-node-in-Ok.ensures.made in
    let same = c.len-before.ensures in
    omega (arith, later, same)

pub returns-in_ok-node-in-Ok-clause-answers : goal.returns-in_ok-node-in-Ok-clause-answers
returns-in_ok-node-in-Ok-clause-answers c =
    fed_behind c.args.place c.args.self.now.begun c.args.piece.now c.keep.new.self
    c.in_ok-keep.ensures.kept (record_seen c.in-Ok.part) c.in-Ok.used
    c.in-Ok.ensures.tells.told c.requires c.in_ok-node-in-Ok.node c.in_ok-node-in-Ok.ensures.made
    c.len-before.result c.len-before.ensures

pub returns-in_ok-node-in-Ok-clause-valid : goal.returns-in_ok-node-in-Ok-clause-valid
returns-in_ok-node-in-Ok-clause-valid c =
    fed_valid c.args.place c.args.self.now.begun c.args.piece.now c.keep.new.self
    c.in_ok-keep.ensures.kept (record_seen c.in-Ok.part) c.in-Ok.used
    c.in-Ok.ensures.tells.told c.in_ok-node-in-Ok.node c.in_ok-node-in-Ok.ensures.made
    c.parts.ensures.bytes

pub returns-in-Err-More-clause-answers : goal.returns-in-Err-More-clause-answers
returns-in-Err-More-clause-answers c =
    let told = rw c.in-Err-More.field-0-is at c.in-Err-More.ensures.tells.told in (
      refl,
      fed_more c.args.place c.args.self.now.begun c.args.piece.now c.keep.new.self
          c.in_ok-keep.ensures.kept _ told,
    )

pub returns-in-Err-Fault-clause-answers : goal.returns-in-Err-Fault-clause-answers
returns-in-Err-Fault-clause-answers c =
    let told = rw c.in-Err-Fault.field-0-is at c.in-Err-Fault.ensures.tells.told in
    fed_fault c.args.place c.args.self.now.begun c.args.piece.now c.keep.new.self
    c.in_ok-keep.ensures.kept c.in-Err-Fault.fault _ told
