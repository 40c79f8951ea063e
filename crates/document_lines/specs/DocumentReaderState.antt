-- What a reader of lines of documents stands for, and what its parts answer.
use Rattle.std.specs.Prelude.{◌≡◌, ℕ, List, length, Some, None, Ok, Err, Option, Result, ⊤}
use Rattle.std.proofs.Common.{subst, sym}
use Rattle.nbfx_values.specs.Limits.{IsGood}
use Rattle.stream_loop.specs.declared.reading_end.FeedFault.{FeedFault, TheVariants.Refused}
use Rattle.line_streams.specs.LineStreamState.{Reached}
use Rattle.document_lines.specs.declared.InputFault.{InputFault}
use Rattle.document_lines.specs.declared.reader.DocumentReader.{DocumentReader}
use Rattle.document_lines.specs.Input.{document_rules, Settings}
use Rattle.document_lines.specs.LineEncoderState.{IsIn, settings_in}

-- what the reader is set to
unfoldable pub settings_of : DocumentReader → Settings
settings_of r = settings_in r.stream.lines

-- the refusal that it answers from now on
unfoldable pub failure_of : DocumentReader → Option (FeedFault InputFault)
failure_of r = r.failure

-- how many bytes it has used
unfoldable pub taken_of : DocumentReader → ℕ
taken_of r = r.stream.taken

-- it has come as far as p, and isn't refused
pub record Stands (r : DocumentReader) (p : List ℕ) : Type 0 where
  pub most : (settings_in r.stream.lines).limits.session ≡ r.stream.most
  pub reached : Reached (document_rules (settings_in r.stream.lines)) (IsIn r.stream.lines)
      r.stream.begun.items r.stream.taken p
  pub unfailed : r.failure ≡ None

-- the bytes used, of input that isn't refused
unfoldable pub StandsFor : DocumentReader → List ℕ → Type 0
StandsFor r p = Stands r p

-- it has used the bytes that it stands for
pub counts_taken : (r : DocumentReader) (p : List ℕ) → StandsFor r p → taken_of r ≡ length p
unfolding StandsFor taken_of
counts_taken r p stands = stands.reached.taken_is

-- its quotas may be
pub has_good_quotas : (r : DocumentReader) → IsGood (settings_of r).limits
unfolding settings_of settings_in
has_good_quotas r = subst IsGood (sym r.limits) r.quotas.good

-- this holds wherever it stands
abbrev pub WhereItStands : DocumentReader → (List ℕ → Type 0) → Type 0
WhereItStands r Holds = (p : List ℕ) → StandsFor r p → Holds p

-- what the end of the input is answered with
abbrev pub said_at_end : Option InputFault → Result ⊤ (FeedFault InputFault)
said_at_end None = Ok tt
said_at_end (Some fault) = Err (Refused fault)
