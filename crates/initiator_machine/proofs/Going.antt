-- An initiator that stands for some bytes hasn't failed, so the end of its input may be said.
use Rattle.std.proofs.Common.{◌≡◌, ℕ, List, Some}
use Rattle.stream_reader.specs.declared.reader.{ReadRefusal.ReadRefusal, StreamReader.StreamReader}
use Rattle.stream_reader.specs.StreamReaderState.{failure_of, StandsFor}

pub no_failure : (r : StreamReader) (p : List ℕ) (refusal : ReadRefusal) → StandsFor r p
    → failure_of r ≡ Some refusal → ⊥
unfolding StandsFor failure_of
no_failure r p refusal stands failed = let none = stands.unfailed in cc
