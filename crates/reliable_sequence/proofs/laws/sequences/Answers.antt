use Rattle.reliable_sequence.proofs.laws.sequences.Goals as goal
use Rattle.reliable_sequence.proofs.RehearsalLaws.{acknowledges, counts, delivers, holds, takes_acks}
use Rattle.reliable_sequence.proofs.RehearsalLaws.{takes_documents}

pub returns-clause-in_order : goal.returns-clause-in_order
returns-clause-in_order c = delivers

pub returns-clause-held : goal.returns-clause-held
returns-clause-held c = holds

pub returns-clause-acknowledged : goal.returns-clause-acknowledged
returns-clause-acknowledged c = acknowledges

pub returns-clause-documents_taken : goal.returns-clause-documents_taken
returns-clause-documents_taken c = takes_documents

pub returns-clause-acknowledgements_taken : goal.returns-clause-acknowledgements_taken
returns-clause-acknowledgements_taken c = takes_acks

pub returns-clause-counted : goal.returns-clause-counted
returns-clause-counted c = counts
