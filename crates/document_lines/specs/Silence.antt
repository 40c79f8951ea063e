-- A line that is refused completes no document: the law of the reader of all lines.
use Rattle.std.proofs.lemmas.Option.{none-some}
use Rattle.std.specs.Prelude.{◌≡◌, ℕ, List, Some, None, Ok, Err, Result, refl}
use Rattle.nbfx_encoder.specs.{Placing.Placed, Spelling.Unfit}
use Rattle.line_notation.specs.declared.reader.{LineFault.LineFault, LineStep.LineStep}
use Rattle.line_notation.specs.declared.reader.LineFault.TheVariants.{Bad, Memory}
use Rattle.line_notation.specs.declared.reader.LineStep.TheVariants.{Done, More}
use Rattle.line_notation.specs.LineReaderState.{after, answer, Standing}
use Rattle.line_streams.specs.LineRules.{IsSilent}
use Rattle.document_lines.specs.declared.InputFault.{InputFault}
use Rattle.document_lines.specs.Input.{completed_line, document_rules, envelope_of, fault_of}
use Rattle.document_lines.specs.Input.{payload_at, refused_line, Settings, Situation}

module _ (x : Settings) (z : Situation) where
  unwritten : (v : Result (Placed (List ℕ)) Unfit) (fault : InputFault)
      → fault_of x z.documents v ≡ Some fault → envelope_of x v ≡ None
  unwritten (Ok payload) fault e = absurd (none-some fault e)
  unwritten (Err why) fault e = refl

  incomplete : (behind : Standing) (a : Result LineStep LineFault) (fault : InputFault)
      → refused_line x z behind a ≡ Some fault → completed_line x z a ≡ None
  incomplete behind (Ok (Done doc)) fault e = unwritten (payload_at x z doc) fault e
  incomplete behind (Ok More) fault e = refl
  incomplete behind (Err (Bad n kind)) fault e = refl
  incomplete behind (Err Memory) fault e = refl

pub silent : (x : Settings) → IsSilent (document_rules x)
silent x z line fault e = incomplete x z (after z.lines line) (answer z.lines line) fault e
