use Rattle.std.proofs.Common.{refl, arith}
use Rattle.nmf_records.{specs.Reader.pending_of, specs.Reader.StandsFor, proofs.Short.begun_short}
use Rattle.nmf_records.proofs.reader.FrameReader.pending.Goals as goal

pub returns-clause-counted : goal.returns-clause-counted
unfolding pending_of
returns-clause-counted c = refl

pub returns-clause-stands : goal.returns-clause-stands
unfolding StandsFor
returns-clause-stands c = λ expect p h. h.counted

pub returns-clause-within : goal.returns-clause-within
unfolding StandsFor
returns-clause-within c = λ expect p h. omega (arith, h.counted, begun_short _ expect p h.begun)
