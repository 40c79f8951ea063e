-- Lines of documents as a stream: its units are lines, its events the envelopes of documents.
use Rattle.std.specs.Prelude.{ℕ, ◌+◌, Bool, true, false, not, ◌&&◌, ◌||◌, List, [], ◌∷◌}
use Rattle.std.specs.Prelude.{Result, if◌then◌else◌, ◌==◌, Some, None, Ok, Err, Option}
use Rattle.unit_streams.specs.{Grammar.Grammar, Tellers.Teller}
use Rattle.string_tables.specs.{StaticStrings.Entry, StringTable.StringTable}
use Rattle.nbfx_values.specs.{declared.content.Item.Item, Limits.Limits}
use Rattle.nbfx_values.specs.declared.session.{Kind.Kind, Mode.Mode, Mode.TheVariants.Singleton}
use Rattle.nbfx_encoder.specs.{Envelopes.envelope, Placing.Placed, Refusals.told}
use Rattle.nbfx_encoder.specs.Spelling.{encoded, Unfit}
use Rattle.line_notation.specs.declared.reader.{LineFault.LineFault, LineStep.LineStep}
use Rattle.line_notation.specs.declared.reader.LineFault.TheVariants.{Bad, Memory}
use Rattle.line_notation.specs.declared.reader.LineKind.TheVariants.{Cut, WrongCount}
use Rattle.line_notation.specs.declared.reader.LineStep.TheVariants.{Done, More}
use Rattle.line_notation.specs.Between.{is_between, next_line}
use Rattle.line_notation.specs.LineReaderState.{after, answer, at_start, Standing}
use Rattle.line_streams.specs.LineRules.{LineRules, lines_by}
use Rattle.document_lines.specs.declared.InputFault.{InputFault}
use Rattle.document_lines.specs.declared.InputFault.TheVariants.{Line, TooLong, Unfit as DoesNotFit}

-- how the documents are written, and how long the input may be
pub record Settings : Type 0 where
  pub limits : Limits
  pub kind : Kind
  pub mode : Mode
  pub statics : List Entry

-- what the lines so far have left: where the reader of lines stands, the static strings and those
-- of the session, and how many documents there were
pub record Situation : Type 0 where
  pub lines : Standing
  pub table : StringTable
  pub documents : ℕ

abbrev pub is_singleton : Mode → Bool
is_singleton Singleton = true
is_singleton _ = false

module _ (x : Settings) where
  -- the payload of a document, or why it can't be written
  abbrev pub payload_at : Situation → List Item → Result (Placed (List ℕ)) Unfit
  payload_at z doc = encoded x.limits x.kind z.table doc

  -- a line may begin a document: in singleton mode there is one alone
  abbrev pub is_full : Situation → Bool
  is_full z = is_singleton x.mode && not (z.documents == 0)

  -- by the payload of a document that a line completes
  abbrev pub envelope_of : Result (Placed (List ℕ)) Unfit → Option (List ℕ)
  envelope_of (Ok payload) = Some (envelope x.mode payload.0)
  envelope_of (Err why) = None

  abbrev pub fault_of : ℕ → Result (Placed (List ℕ)) Unfit → Option InputFault
  fault_of number (Ok payload) = None
  fault_of number (Err why) = Some (DoesNotFit number (told why))

  abbrev pub table_of : StringTable → Result (Placed (List ℕ)) Unfit → StringTable
  table_of table (Ok payload) = payload.1
  table_of table (Err why) = table

  -- a line leads from between documents into one
  abbrev pub begins : Standing → Standing → Bool
  begins lines behind = is_between lines && not (is_between behind)

  -- what refuses a line that is read so
  abbrev pub refused_line : Situation → Standing → Result LineStep LineFault → Option InputFault
  refused_line z behind (Err (Bad n kind)) = Some (Line n kind)
  refused_line z behind (Err Memory) = None
  refused_line z behind (Ok (Done doc)) = fault_of z.documents (payload_at z doc)
  refused_line z behind (Ok More) =
      if is_full z && begins z.lines behind then Some (Line (next_line z.lines) WrongCount)
      else None

  -- the event that it completes: an envelope
  abbrev pub completed_line : Situation → Result LineStep LineFault → Option (List ℕ)
  completed_line z (Ok (Done doc)) = envelope_of (payload_at z doc)
  completed_line z _ = None

  -- the situation after it
  abbrev pub behind_line : Situation → Standing → Result LineStep LineFault → Situation
  behind_line z behind (Ok (Done doc)) = record {
    lines = behind;
    table = table_of z.table (payload_at z doc);
    documents = z.documents + 1;
  }
  behind_line z behind _ = record { lines = behind; table = z.table; documents = z.documents }

  -- why the input may not end: within a line or a document, or in singleton mode without one
  abbrev pub ending_fault : (within_line : Bool) → Situation → Option InputFault
  ending_fault within_line z =
      if within_line || not (is_between z.lines) then Some (Line (next_line z.lines) Cut)
      else if is_singleton x.mode && (z.documents == 0)
      then Some (Line (next_line z.lines) WrongCount) else None

  -- before the first line
  abbrev pub start_of : Situation
  start_of = record {
    lines = at_start;
    table = record { statics = x.statics; strings = [] };
    documents = 0;
  }

  -- what lines of documents mean, and their grammar
  abbrev pub document_rules : LineRules Situation (List ℕ) InputFault
  document_rules = record {
    start = start_of;
    after = λ z line. behind_line z (after z.lines line) (answer z.lines line);
    refused = λ z line. refused_line z (after z.lines line) (answer z.lines line);
    brings = λ z line. completed_line z (answer z.lines line);
    at_end = ending_fault;
    most = x.limits.session;
    too_long = TooLong;
  }

  abbrev pub lines_of_documents : Grammar Situation (List ℕ) (List ℕ) InputFault
  lines_of_documents = lines_by document_rules

-- what is written of them: each envelope, and at last, where nothing is refused, an End record
abbrev pub envelopes_and_end : Teller (Unit {0}) (List ℕ) InputFault
envelopes_and_end = record {
  start = tt;
  told = λ s bytes. bytes;
  next = λ s bytes. s;
  ends = λ s fault. ending fault;
} where
  ending : Option InputFault → List ℕ
  ending None = 7 ∷ []
  ending (Some fault) = []
