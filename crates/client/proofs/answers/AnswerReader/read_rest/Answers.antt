use Rattle.client.proofs.answers.AnswerReader.read_rest.Goals as goal

pub returns-clause-followed : goal.returns-clause-followed
returns-clause-followed g c = λ y i first p come.
    rw (c.in-Some.is, c.requires.acked) at (c.read-reader.ensures.followed y i first p come)
