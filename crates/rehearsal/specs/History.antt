-- A history as a stream of lines, what is told of it, and what is said of it at all its bytes.
use Rattle.std.specs.Prelude.{◌≡◌, ℕ, ◌+◌, ◌<◌, ◌≤◌, ◌↔◌, ◌⊎◌, List, [], ◌∷◌, ◌++◌, length, map}
use Rattle.std.specs.Prelude.{take, codes, decimal, flat_map, if◌then◌else◌, Some, None, Ok, Err}
use Rattle.std.specs.Prelude.{Option, Result}
use Rattle.unit_streams.specs.{Grammar.Grammar, Judging.offence, Tellers.report, Tellers.Teller}
use Rattle.nbfx_values.specs.declared.content.Item.{Item, TheVariants.Text as TextItem}
use Rattle.nbfx_values.specs.declared.scalars.{Scalar.TheVariants.Text, Value.TheVariants.One}
use Rattle.line_notation.specs.declared.reader.LineKind.{LineKind, TheVariants.NotALine}
use Rattle.line_notation.specs.{Lines.cut, Lines.with_line_feed, Quoted.quoted, Words.spaced}
use Rattle.reliable_sequence.specs.declared.events.{Counts.Counts, Event.Event}
use Rattle.reliable_sequence.specs.{Laws.DeliversInOrder, Sent.submitted_count}
use Rattle.reliable_sequence.specs.Rehearsal.{counts_of, delivered_by, Kept, kept_after}
use Rattle.reliable_sequence.specs.Rehearsal.{new_rehearsal, nothing_kept, Rehearsal, rehearsal}
use Rattle.rehearsal.specs.declared.fault.HistoryFault.{HistoryFault, TheVariants.Line}
use Rattle.rehearsal.specs.declared.fault.HistoryFault.TheVariants.{TooLong}
use Rattle.rehearsal.specs.declared.{played.Played.Played, TheConstants.MOST_BYTES}
use Rattle.line_streams.specs.LineRules.{each_brings, LineRules, lines_by}
use Rattle.rehearsal.specs.{Forms.event_of}

-- the sequence whose history it is
pub record Settings : Type 0 where
  pub identifier : List ℕ
  pub window : ℕ

-- what the lines so far have left, and how many there were
pub record Situation : Type 0 where
  pub kept : Kept
  pub lines : ℕ

abbrev pub first_situation : Settings → Situation
first_situation x = record { kept = nothing_kept x.identifier x.window; lines = 0 }

-- how many bodies were submitted, where anything is kept
abbrev pub submitted_in : Option Kept → ℕ
submitted_in None = 0
submitted_in (Some kept) = submitted_count kept.sender

-- what an event leaves, and what it delivers, with the counts then
abbrev pub played : Kept → Event → Played
played k event = record { body = delivered_by k event; counts = counts_of (kept_after k event) }

abbrev pub situation_after : Situation → Event → Situation
situation_after z event = record { kept = kept_after z.kept event; lines = z.lines + 1 }

abbrev pub brought : Situation → Result Event LineKind → Result (Situation × Played) HistoryFault
brought z (Ok event) = Ok (situation_after z event, played z.kept event)
brought z (Err kind) = Err (Line (z.lines + 1) kind)

abbrev pub history_rules : Settings → LineRules Situation Played HistoryFault
history_rules x = each_brings (first_situation x) (λ z line. brought z (event_of line))
    (λ within_line z. if within_line then Some (Line (z.lines + 1) NotALine) else None) MOST_BYTES
    TooLong

-- the grammar of the lines of a history
abbrev pub history : Settings → Grammar Situation (List ℕ) Played HistoryFault
history x = lines_by (history_rules x)

-- ---- what is written

-- the text of a body, which is one text
abbrev pub text_of : List Item → List ℕ
text_of (TextItem (One (Text text)) ∷ []) = text
text_of _ = []

abbrev pub delivered_line : List Item → List ℕ
delivered_line body =
    with_line_feed (spaced (codes "delivered" ∷ quoted (text_of body) ∷ []))

abbrev pub delivered_lines : List (List Item) → List ℕ
delivered_lines = flat_map delivered_line

abbrev pub delivered_if : Option (List Item) → List ℕ
delivered_if None = []
delivered_if (Some body) = delivered_line body

-- at last, unless the input is refused, how many bodies were submitted and delivered, and how many
-- numbers are acknowledged
abbrev pub counts_line : Counts → List ℕ
counts_line counts = with_line_feed (spaced (codes "submitted" ∷ decimal counts.submitted
    ∷ codes "delivered" ∷ decimal counts.delivered
    ∷ codes "acknowledged" ∷ decimal counts.acknowledged ∷ []))

abbrev pub last_line : Counts → Option HistoryFault → List ℕ
last_line counts None = counts_line counts
last_line counts (Some fault) = []

abbrev pub no_counts : Counts
no_counts = record { submitted = 0; delivered = 0; acknowledged = 0 }

abbrev pub told : Teller Counts Played HistoryFault
told = record {
  start = no_counts;
  told = λ counts played. delivered_if played.body;
  next = λ counts played. played.counts;
  ends = last_line;
}

-- ---- what that says of all the bytes

-- the sequence, behind these events
abbrev pub run_over : Settings → List Event → Rehearsal
run_over x events = rehearsal (new_rehearsal x.identifier x.window) events

module _ (x : Settings) where
  -- why the input is refused behind these lines, or that it isn't
  abbrev pub Explains : (bytes : List ℕ) → (lines more : List (List ℕ)) → Option HistoryFault
      → Type 0
  Explains bytes lines more None =
      (more ≡ []) × ((cut bytes).1 ≡ []) × (length bytes < MOST_BYTES)
  Explains bytes lines more (Some (Line n kind)) = (n ≡ length lines + 1)
      × (((line : List ℕ) × (rest : List (List ℕ)) × (more ≡ line ∷ rest)
      × (event_of line ≡ Err kind))
      ⊎ ((more ≡ []) × ((cut bytes).1 ≡ [] → ⊥) × (kind ≡ NotALine)))
  Explains bytes lines more (Some TooLong) =
      (MOST_BYTES ≤ length bytes) × ((cut (take MOST_BYTES bytes)).0 ≡ lines)

  -- What is written of any input: a line for each body that is delivered in the run over the events
  -- of its first lines, and where nothing is refused the counts behind all of them. These bodies
  -- are the first of those that the lines submit, in their order.
  pub record IsPlayed (bytes : List ℕ) : Type 0 where
    pub lines : List (List ℕ)
    pub more : List (List ℕ)
    pub lines_are : (cut bytes).0 ≡ lines ++ more
    pub events : List Event
    pub events_are : map event_of lines ≡ map Ok events
    pub written : report (history x) told bytes
        ≡ delivered_lines (run_over x events).delivered
        ++ last_line (counts_of (run_over x events).kept) (offence (history x) bytes)
    pub in_order : DeliversInOrder (run_over x events)
    pub why : Explains bytes lines more (offence (history x) bytes)

-- any input is played so
abbrev pub InputIsPlayed : Type 0
InputIsPlayed = (x : Settings) (bytes : List ℕ) → IsPlayed x bytes

-- each line says an event, the last one has a line feed, and there are fewer bytes than may be read
pub record IsInForm (bytes : List ℕ) : Type 0 where
  pub events : List Event
  pub events_are : map event_of (cut bytes).0 ≡ map Ok events
  pub whole : (cut bytes).1 ≡ []
  pub short : length bytes < MOST_BYTES

-- exactly such input isn't refused
abbrev pub AcceptedIsInForm : Type 0
AcceptedIsInForm = (x : Settings) (bytes : List ℕ)
    → (offence (history x) bytes ≡ None) ↔ IsInForm bytes
