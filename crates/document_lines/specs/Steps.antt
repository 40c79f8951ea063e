-- What lines of documents bring, one by one, where the documents themselves are wanted.
use Rattle.std.specs.Prelude.{◌≡◌, ℕ, not, ◌||◌, List, flat_map, if◌then◌else◌, Some, None, Ok, Err}
use Rattle.std.specs.Prelude.{Result}
use Rattle.nbfx_values.specs.declared.content.Item.{Item}
use Rattle.line_notation.specs.declared.reader.{LineFault.LineFault, LineKind.TheVariants.Cut}
use Rattle.line_notation.specs.declared.reader.LineFault.TheVariants.{Bad, Memory}
use Rattle.line_notation.specs.declared.reader.LineStep.{LineStep, TheVariants.More}
use Rattle.line_notation.specs.Between.{is_between, IsUnrefused, next_line}
use Rattle.line_notation.specs.LineReaderState.{after, answer, at_start, document_of, Standing}
use Rattle.line_streams.specs.LineRules.{each_brings, LineRules}
use Rattle.document_lines.specs.declared.InputFault.{InputFault}
use Rattle.document_lines.specs.declared.InputFault.TheVariants.{Line, TooLong}

-- the documents that steps complete
abbrev pub documents_of_steps : List LineStep → List (List Item)
documents_of_steps = flat_map (λ (step : LineStep). document_of (Ok step))

-- what a line brings that is answered so, behind which a reader stands so
abbrev pub brought : Standing → Result LineStep LineFault → Result (Standing × LineStep) InputFault
brought behind (Ok step) = Ok (behind, step)
brought behind (Err (Bad n kind)) = Err (Line n kind)
brought behind (Err Memory) = Ok (behind, More)

-- the reader of lines stands there, and no line was refused
abbrev pub IsIn : (held z : Standing) → Type 0
IsIn held z = (held ≡ z) × IsUnrefused z

-- what the lines of documents mean, of which so many bytes are too many
abbrev pub step_rules : (quota : ℕ) → LineRules Standing LineStep InputFault
step_rules quota = each_brings at_start (λ z line. brought (after z line) (answer z line))
    (λ within_line z.
    if within_line || not (is_between z) then Some (Line (next_line z) Cut) else None) quota TooLong
