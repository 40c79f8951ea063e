-- Why a line refuses input, behind lines that don't.
use Rattle.std.specs.Prelude.{◌≡◌, ℕ, ◌+◌, true, false, ◌⊎◌, List, [], ◌∷◌, length, Ok, Err}
use Rattle.{nbfx_values.specs.declared.session.Mode.Mode, line_notation.specs.Between.is_between}
use Rattle.line_notation.specs.declared.reader.{LineFault.TheVariants.Bad, LineKind.LineKind}
use Rattle.line_notation.specs.declared.reader.LineKind.TheVariants.{Cut, WrongCount}
use Rattle.line_notation.specs.{declared.reader.LineStep.TheVariants.More, Lines.cut}
use Rattle.line_notation.specs.LineReaderState.{after, answer, documents_of, standing}
use Rattle.document_lines.specs.Input.{is_singleton}

-- the next line is refused for what it says, or for its place
pub record IsBadLine (lines more : List (List ℕ)) (kind : LineKind) : Type 0 where
  pub line : List ℕ
  pub rest : List (List ℕ)
  pub next : more ≡ line ∷ rest
  pub bad : answer (standing lines) line ≡ Err (Bad (length lines + 1) kind)

-- in singleton mode, behind a document, the next line begins another
pub record BeginsAnother (mode : Mode) (lines more : List (List ℕ)) : Type 0 where
  pub line : List ℕ
  pub rest : List (List ℕ)
  pub next : more ≡ line ∷ rest
  pub alone : is_singleton mode ≡ true
  pub one : length (documents_of lines) ≡ 1
  pub between : is_between (standing lines) ≡ true
  pub good : answer (standing lines) line ≡ Ok More
  pub begins : is_between (after (standing lines) line) ≡ false

-- in singleton mode the input ends behind its last line, and no document has begun
pub record HasNoDocument (mode : Mode) (bytes : List ℕ) (lines more : List (List ℕ)) : Type 0 where
  pub none_left : more ≡ []
  pub no_bytes : (cut bytes).1 ≡ []
  pub alone : is_singleton mode ≡ true
  pub none : length (documents_of lines) ≡ 0
  pub between : is_between (standing lines) ≡ true

-- the input ends within a document, or within a line
pub record EndsWithin (bytes : List ℕ) (lines more : List (List ℕ)) : Type 0 where
  pub none_left : more ≡ []
  pub within : (is_between (standing lines) ≡ false) ⊎ ((cut bytes).1 ≡ [] → ⊥)

-- what is known by the kind of the refusal. `line_notation` has which lines are bad, and of which
-- kind: of no other than those that are left here
abbrev pub RefusesLine : Mode → (bytes : List ℕ) → (lines more : List (List ℕ)) → LineKind → Type 0
RefusesLine mode bytes lines more Cut = EndsWithin bytes lines more
RefusesLine mode bytes lines more WrongCount =
    BeginsAnother mode lines more ⊎ HasNoDocument mode bytes lines more
RefusesLine mode bytes lines more kind = IsBadLine lines more kind
