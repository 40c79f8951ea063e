use Rattle.std.proofs.Common.{◌≡◌, ℕ, ◌≤◌, ◌⊎◌, List, sym, ap, ◌∙◌, subst, inl, inr}
use Rattle.{string_tables.specs.SessionStrings.used_cost, nbfx_values.specs.Limits.Limits}
use Rattle.{session_dictionary.specs.Strings.LimitedStrings}
use Rattle.nbfx_decoder.specs.declared.{decoder.Decoder.Decoder, faults.DecodeFault.DecodeFault}
use Rattle.nbfx_decoder.specs.DecoderState.{FailedBehind as DecoderFailedBehind}
use Rattle.nbfx_decoder.specs.DecoderState.{StandsFor as DecoderStandsFor, table_at}
use Rattle.nbfx_decoder.specs.DecoderState.{WhereItFailed as WhereDecoderFailed}
use Rattle.nbfx_decoder.specs.DecoderState.{WhereItStands as WhereDecoderStands}
use Rattle.stream_reader.specs.StreamReaderState.{FailedBehind, settings_of, ShowsStrings}
use Rattle.stream_reader.specs.StreamReaderState.{ShowsTable, StandsFor}
use Rattle.stream_reader.proofs.{ReaderFacts.shows_in, reader.StreamReader.table.Goals.After-table}
use Rattle.stream_reader.proofs.reader.StreamReader.table.Goals as goal

-- the table that a decoder has
has_strings : (d : Decoder) (table : LimitedStrings) → WhereDecoderStands d
    (λ before bytes. table ≡ table_at d before bytes) → WhereDecoderFailed d
    (λ fault before bytes. table ≡ table_at d before bytes)
    → (strings : List (List ℕ)) → ShowsTable d strings → table.strings ≡ strings
has_strings d table stands failed strings h = ap (λ (t : LimitedStrings). t.strings)
    (by_there h.there) ∙ h.same where
      by_there : DecoderStandsFor d h.before h.bytes
          ⊎ ((fault : DecodeFault) × DecoderFailedBehind d fault h.before h.bytes) → table
          ≡ table_at d h.before h.bytes
      by_there (inl s) = stands h.before h.bytes s
      by_there (inr f) = failed f.0 h.before h.bytes f.1

pub returns-clause-shown : goal.returns-clause-shown
unfolding ShowsStrings
returns-clause-shown c = λ strings h. has_strings c.args.self.now.decoder _ c.table.ensures.strings
    c.table.ensures.failed strings h

pub returns-clause-stands : goal.returns-clause-stands
unfolding StandsFor
returns-clause-stands c = λ p h. has_strings c.args.self.now.decoder _ c.table.ensures.strings
    c.table.ensures.failed _ (shows_in c.args.self.now _ _ h.at)

pub returns-clause-failed : goal.returns-clause-failed
unfolding FailedBehind ShowsStrings
returns-clause-failed c = λ refusal taken p h. has_strings c.args.self.now.decoder _
    c.table.ensures.strings c.table.ensures.failed _ h.strings

module _ (c : After-table) where
  shown_within : (strings : List (List ℕ)) → ShowsStrings c.args.self.now strings
      → used_cost c.table.result.now.strings ≤ (settings_of c.args.self.now).limits.dictionary
  unfolding ShowsStrings settings_of
  shown_within strings h =
      let same = has_strings c.args.self.now.decoder _ c.table.ensures.strings
      c.table.ensures.failed strings h in
      subst (λ (s : List (List ℕ)). used_cost s ≤ (settings_of c.args.self.now).limits.dictionary)
      (sym same)
      (subst (λ (l : Limits). used_cost strings ≤ l.dictionary) c.args.self.now.decodes h.within)

pub returns-clause-within : goal.returns-clause-within
unfolding StandsFor ShowsStrings
returns-clause-within c = λ p h. shown_within c _ (shows_in c.args.self.now _ _ h.at)

pub returns-clause-failed_within : goal.returns-clause-failed_within
unfolding FailedBehind
returns-clause-failed_within c = λ refusal taken p h. shown_within c _ h.strings
