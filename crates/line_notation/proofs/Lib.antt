-- literal lines and items: what unfolds there, and worked cases
pub mod OnLiterals
pub mod Worked
pub mod WorkedLines
pub mod WorkedRefusals
-- putting: several puts as one (PutsFacts), numbers (DecimalFacts), quoted texts (EscapeFacts,
-- QuotedFacts), items' texts (PrintFacts)
pub mod DecimalFacts
pub mod EscapeFacts
pub mod PrintFacts
pub mod PutsFacts
pub mod QuotedFacts
-- reading and judging at once: words (WordsFacts), texts (TextsFacts), those that stand in the line
-- itself
-- (PlainFacts), numbers (NumeralsFacts), values
-- (PartsFacts, TokenFacts, ValuesFacts, ValueFacts), all values of a line (GatherFacts,
-- GatherSteps), the
-- words behind a keyword (ReadingFacts), what records can hold (ValidFacts, HeldFacts), and where a
-- line
-- leads (PlacingFacts)
pub mod ArgumentFacts
pub mod GatherFacts
pub mod GatherSteps
pub mod HeldFacts
pub mod NumeralsFacts
pub mod PartsFacts
pub mod PlacingFacts
pub mod PlainFacts
pub mod ReadingFacts
pub mod TextsFacts
pub mod TokenFacts
pub mod ValidFacts
pub mod ValueFacts
pub mod ValuesFacts
pub mod WordsFacts
-- what is written is what is read: lines and words (SpacedFacts), texts (PiecesFacts), numbers
-- (NaturalFacts, HexFacts), identifiers (IdentifierFacts, IdentifierCase), values (ScalarFacts,
-- WrittenFacts),
-- forms (FormFacts), whose words
-- are solid or quoted (LineWords), with no space outside quotes (ClosedFacts)
pub mod ClosedFacts
pub mod FormFacts
pub mod HexFacts
pub mod IdentifierCase
pub mod IdentifierFacts
pub mod LineWords
pub mod NaturalFacts
pub mod PiecesFacts
pub mod ScalarFacts
pub mod SpacedFacts
pub mod WrittenFacts
-- documents: the lines that are put have their forms (PutForms), where lines lead (StepFacts), the
-- lines
-- of documents are read (LinesRead), documents are read from their lines alone (LinesAre), why a
-- line is
-- refused (RefusalFacts), no line holds a line feed (ShownFacts), each line
-- leads on (StandingFacts), how many were read (Counting)
pub mod Counting
pub mod LinesAre
pub mod LinesRead
pub mod PutForms
pub mod RefusalFacts
pub mod ShownFacts
pub mod StandingFacts
pub mod StepFacts
