use Rattle.dump_replay.proofs.Noting.{note_of_documents_some}
use Rattle.dump_replay.proofs.notes.note_documents.Goals as goal

pub returns-in-Missing-clause-none : goal.returns-in-Missing-clause-none
returns-in-Missing-clause-none g c = λ none. absurd
    (note_of_documents_some c.args.name.now c.args.fault none)

pub returns-in-Refused-clause-none : goal.returns-in-Refused-clause-none
returns-in-Refused-clause-none g c = λ none. absurd
    (note_of_documents_some c.args.name.now c.args.fault none)
