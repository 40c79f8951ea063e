-- What a function returns that makes something of a whole part: what the part says, unless there is
-- no memory.
use Rattle.std.specs.Prelude.{◌≡◌, Ok, Err, Result, ⊤}
use Rattle.nbfx_records.specs.declared.nodes.{NodeFault.NodeFault, RecordFault.RecordFault}
use Rattle.nbfx_records.specs.declared.nodes.NodeFault.TheVariants.{Memory, Record}

abbrev pub Made : {X : Type 0} → Result X NodeFault → Result X RecordFault → Type 0
Made (Ok x) judged = judged ≡ Ok x
Made (Err (Record fault)) judged = judged ≡ Err fault
Made (Err Memory) judged = ⊤

pub record Makes {X : Type 0} (result : Result X NodeFault) (judged : Result X RecordFault) : Type 0
  where
    pub made : Made result judged
