-- What lines of documents are read as: all their documents, or the first refusal.
use Rattle.std.specs.Prelude.{ℕ, List, [], ◌∷◌, length, take, if◌then◌else◌, nat_le, Some, None, Ok}
use Rattle.std.specs.Prelude.{Err, Option, Result}
use Rattle.nbfx_values.specs.declared.content.Item.{Item}
use Rattle.line_notation.specs.declared.reader.LineFault.TheVariants.{Bad, Memory}
use Rattle.line_notation.specs.{declared.reader.LineKind.TheVariants.Cut, Lines.cut}
use Rattle.line_notation.specs.Between.{is_between, next_line}
use Rattle.line_notation.specs.LineReaderState.{documents_of, failed, going, Standing, standing}
use Rattle.document_lines.specs.declared.InputFault.{InputFault}
use Rattle.document_lines.specs.declared.InputFault.TheVariants.{Line, TooLong}

-- the refusal of the lines behind which a reader stands so, if one is refused
abbrev pub refusal_in : Standing → Option InputFault
refusal_in (failed (Bad n kind)) = Some (Line n kind)
refusal_in (failed Memory) = None
refusal_in (going n items array) = None

-- why bytes may not end there, behind what is left of them after the last line feed
abbrev pub refusal_at_end : (left : List ℕ) → Standing → Option InputFault
refusal_at_end [] z = if is_between z then None else Some (Line (next_line z) Cut)
refusal_at_end (b ∷ left) z = Some (Line (next_line z) Cut)

-- a refusal goes before what comes after it
abbrev pub unless : {T : Type 0} → Option InputFault → Result T InputFault → Result T InputFault
unless (Some fault) later = Err fault
unless None later = later

-- the documents of all lines of some bytes
abbrev pub documents_in : List ℕ → Result (List (List Item)) InputFault
documents_in bytes =
    let lines = (cut bytes).0 in
    unless (refusal_in (standing lines))
    (unless (refusal_at_end (cut bytes).1 (standing lines)) (Ok (documents_of lines)))

-- the same of bytes that are fewer than a quota; as many are too long, unless a line is refused
-- that is whole within so many
abbrev pub documents_within : (quota : ℕ) → List ℕ → Result (List (List Item)) InputFault
documents_within quota bytes =
    if nat_le quota (length bytes)
    then unless (refusal_in (standing (cut (take quota bytes)).0)) (Err TooLong)
    else documents_in bytes
