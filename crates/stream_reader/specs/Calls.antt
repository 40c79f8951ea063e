-- What the calls of a reader answer and leave, one record for each. A machine that is a reader set
-- to
-- one side cites them of its reader.
use Rattle.std.specs.Prelude.{◌≡◌, ℕ, ◌+◌, ◌≤◌, true, false, List, ◌++◌, length, take, IfOk, IfErr}
use Rattle.std.specs.Prelude.{OnOk, Some, None, Ok, Err, Option, Result, IsErrOf, ⊤}
use Rattle.{unit_streams.specs.Grammar.standing, string_tables.specs.SessionStrings.used_cost}
use Rattle.unit_streams.specs.Judging.{answer, ending_at, event_at, is_over_at}
use Rattle.nbfx_values.specs.declared.{limits.Kept.Kept, refusals.Offence.Offence}
use Rattle.nbfx_values.specs.Measures.{content_of}
use Rattle.stream_reader.specs.declared.reader.{ReadRefusal.ReadRefusal, StreamStep.StreamStep}
use Rattle.stream_reader.specs.declared.reader.StreamReader.{StreamReader}
use Rattle.stream_reader.specs.Saying.{Repeats, Says}
use Rattle.stream_reader.specs.Stream.{Situation, stream, strings_in}
use Rattle.stream_reader.specs.StreamReaderState.{begun_in, content_held_of, FailedBehind, FailsBy}
use Rattle.stream_reader.specs.StreamReaderState.{failure_of, HasPayloads, held_of, items_in}
use Rattle.stream_reader.specs.StreamReaderState.{settings_of, ShowsStrings, ShowsText, StandsFor}
use Rattle.stream_reader.specs.StreamReaderState.{taken_of, texts_within, WhereItFailed}
use Rattle.stream_reader.specs.StreamReaderState.{WhereItStands}
use Rattle.stream_reader.specs.declared.reader.ReadRefusal.TheVariants as refusals

-- the situation behind the bytes p
abbrev pub situation_at : StreamReader → List ℕ → Situation
situation_at r p = (standing (stream (settings_of r)) p).situation

-- a piece is fed
pub record Feeds (old : StreamReader) (piece : List ℕ) (new : StreamReader)
    (result : Result (ℕ × StreamStep) ReadRefusal) : Type 0 where
  pub within : IfOk result (λ answer. answer.0 ≤ length piece)
  -- it is answered at the first byte that completes an event or shows a refusal
  pub answers : WhereItStands old (λ p. is_over_at (stream (settings_of old)) p ≡ false
      → Says (length piece) (answer (stream (settings_of old)) p piece) result)
  -- memory is wanted only where payloads may come
  pub wanted : WhereItStands old (λ p. IsErrOf result refusals.Memory
      → HasPayloads (situation_at old p).stage)
  -- the event that ended the session is repeated, and so is a refusal
  pub ended : WhereItStands old (λ p. is_over_at (stream (settings_of old)) p ≡ true
      → Repeats (event_at (stream (settings_of old)) p) result)
  pub repeated : (refusal : ReadRefusal) → failure_of old ≡ Some refusal → result ≡ Err refusal
  pub unchanged : (refusal : ReadRefusal) → failure_of old ≡ Some refusal → new ≡ old
  -- what it has read then, or shows of what is refused
  pub stands : WhereItStands old (λ p. IfOk result (λ step. StandsFor new (p ++ take step.0 piece)))
  pub failed : WhereItStands old (λ p. is_over_at (stream (settings_of old)) p ≡ false
      → IfErr result (FailsBy new p piece (answer (stream (settings_of old)) p piece)))
  pub refused : IfErr result (λ refusal. failure_of new ≡ Some refusal)
  pub settings : settings_of new ≡ settings_of old

-- what the end of the input is answered with where no memory was wanted before
abbrev pub told_at_end : Option Offence → Result ⊤ Offence
told_at_end None = Ok tt
told_at_end (Some o) = Err o

-- the input ends
pub record EndsInput (old new : StreamReader) (result : Result ⊤ Offence) : Type 0 where
  pub answers : WhereItStands old (λ p.
      result ≡ told_at_end (ending_at (stream (settings_of old)) p))
  pub repeated : (o : Offence) → failure_of old ≡ Some (refusals.Offence o) → result ≡ Err o
  pub unchanged : (refusal : ReadRefusal) → failure_of old ≡ Some refusal → new ≡ old
  pub failed : WhereItStands old (λ p.
      IfErr result (λ o. FailedBehind new (refusals.Offence o) (length p) p))
  pub refused : IfErr result (λ o. failure_of new ≡ Some (refusals.Offence o))
  pub kept : OnOk result (new ≡ old)
  pub settings : settings_of new ≡ settings_of old

-- the room of a document is handed back: what it has read, or shows where it has failed, stays
pub record Reuses (old new : StreamReader) : Type 0 where
  pub stands : WhereItStands old (StandsFor new)
  pub failed : WhereItFailed old (FailedBehind new)
  pub settings : settings_of new ≡ settings_of old

-- the text of the last Via or Fault
pub record HasText (r : StreamReader) (text : List ℕ) : Type 0 where
  pub shown : (other : List ℕ) → ShowsText r other → text ≡ other
  pub stands : WhereItStands r (λ p. text ≡ (situation_at r p).text)
  pub failed : WhereItFailed r (λ refusal taken p. text ≡ (situation_at r p).text)

-- how many bytes were used, or show its offence
pub record HasTaken (r : StreamReader) (n : ℕ) : Type 0 where
  pub counted : n ≡ taken_of r
  pub stands : WhereItStands r (λ p. n ≡ length p)
  pub failed : WhereItFailed r (λ refusal taken p. n ≡ taken)
  pub within : WhereItStands r (λ p. length p ≤ (settings_of r).limits.session)

-- the strings of the direction
pub record HasStrings (r : StreamReader) (strings : List (List ℕ)) : Type 0 where
  pub shown : (others : List (List ℕ)) → ShowsStrings r others → strings ≡ others
  pub stands : WhereItStands r (λ p. strings ≡ strings_in (situation_at r p))
  pub failed : WhereItFailed r (λ refusal taken p. strings ≡ strings_in (situation_at r p))
  pub within : WhereItStands r (λ p. used_cost strings ≤ (settings_of r).limits.dictionary)
  pub failed_within : WhereItFailed r (λ refusal taken p.
      used_cost strings ≤ (settings_of r).limits.dictionary)

-- what is held is within the quotas
abbrev pub IsHeldWithin : StreamReader → Kept → Type 0
IsHeldWithin r kept =
    (kept.raw ≤ (settings_of r).limits.payload + texts_within (settings_of r).limits)
    × (kept.content ≤ (settings_of r).limits.content)

-- what it holds of the input
pub record Holds (r : StreamReader) (kept : Kept) : Type 0 where
  pub held : kept.raw ≡ held_of r
  pub content_held : kept.content ≡ content_held_of r
  pub raw : WhereItStands r (λ p. kept.raw
      ≤ length (begun_in (situation_at r p).stage) + texts_within (settings_of r).limits)
  pub content : WhereItStands r (λ p. kept.content
      ≡ content_of (items_in (situation_at r p).stage))
  pub within : WhereItStands r (λ p. IsHeldWithin r kept)
  pub failed : WhereItFailed r (λ refusal taken p. IsHeldWithin r kept)
