use Rattle.dump_replay.proofs.Noting.{note_of_file_some}
use Rattle.dump_replay.proofs.notes.note_file.Goals as goal

pub returns-in-Missing-clause-none : goal.returns-in-Missing-clause-none
returns-in-Missing-clause-none g c = λ none. absurd
    (note_of_file_some g.K.RowKind.name_of c.args.name.now c.args.fault none)
