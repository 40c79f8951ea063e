-- The line of the session of documents, and what is written of it, however that ends. The output
-- may have held bytes before, which are written before what is put.
use Rattle.std.specs.Prelude.{◌≡◌, ℕ, List, [], ◌∷◌, ◌++◌, length, None, Ok, Err, codes, decimal}
use Rattle.std.specs.Prelude.{Result, ⊤}
use Rattle.io_edges.specs.{Faults.CountsFaults, Flow.GrowsByPrefix, Flow.Told}
use Rattle.string_tables.specs.{SessionStrings.used_cost, StaticStrings.Entry}
use Rattle.nbfx_values.specs.{declared.content.Item.Item, Limits.Limits}
use Rattle.nbfx_encoder.specs.{Envelopes.UnfitAt, Placing.Placed}
use Rattle.stream_reader.specs.{Judging.offence, Stream.any_initiators}
use Rattle.{session_generator.specs.Generated.session_of}
use Rattle.session_report.specs.Report.{line, string_words}
use Rattle.session_generator.specs.{declared.summary.Summary.Summary, Ends.IsTooLong}
use Rattle.session_generator.specs.declared.summary.Summary.TheVariants.{Memory, TooLong}
use Rattle.session_generator.specs.declared.summary.Summary.TheVariants.{WriteFault, Written}
use Rattle.io_edges.specs.Views.{SinkView}

-- how many documents and bytes a session has, and how many strings it leaves, of which cost
abbrev pub summary_line : (documents bytes strings used : ℕ) → List ℕ
summary_line documents bytes strings used = line (codes "gen")
    (codes "documents" ∷ decimal documents ∷ codes "bytes" ∷ decimal bytes
    ∷ string_words strings used)

-- the line of a session of so many documents, by its bytes and the strings that it leaves
abbrev pub line_of : (documents : ℕ) → Result (Placed (List ℕ)) UnfitAt → List ℕ
line_of documents (Ok session) = summary_line documents (length session.0)
    (length session.1.strings) (used_cost session.1.strings)
line_of documents (Err unfit) = []

-- the line of the session of these documents
abbrev pub summary_of : Limits → List Entry → List (List Item) → List ℕ
summary_of limits statics documents =
    line_of (length documents) (session_of limits statics documents)

-- the session of these documents is within the session quota: its reader refuses nothing of it
pub record IsWithinQuota (limits : Limits) (statics : List Entry) (documents : List (List Item))
    : Type 0 where
  pub session : Placed (List ℕ)
  pub session_is : session_of limits statics documents ≡ Ok session
  pub unrefused : offence (any_initiators statics limits) session.0 ≡ None

-- the session is within the session quota, and the line is written, behind what was held; or it
-- isn't, since the session is longer; or, where the writing ended before, first bytes of it are
abbrev pub Writes : Limits → List Entry → List (List Item) → (o o' : SinkView) → Summary → Type 0
Writes limits statics documents o o' Written =
    IsWithinQuota limits statics documents × Told o.written o'.written
    (λ w w'. w' ≡ w ++ o.held ++ summary_of limits statics documents)
Writes limits statics documents o o' (TooLong offence) =
    IsTooLong limits statics documents offence × (o' ≡ o)
Writes limits statics documents o o' summary = Told o.written o'.written
    (λ w w'. GrowsByPrefix w w' (o.held ++ summary_of limits statics documents))

-- that, and what calls that failed by the outside left of the output's count
pub record Summarizes (limits : Limits) (statics : List Entry) (documents : List (List Item))
    (o o' : SinkView) (summary : Summary) : Type 0 where
  pub writes : Writes limits statics documents o o' summary
  pub counted : CountsFaults o.faults o'.faults (summary ≡ WriteFault)

-- the status of a run that ends so
abbrev pub status_of : Summary → ℕ
status_of Written = 0
status_of (TooLong offence) = 10
status_of WriteFault = 4
status_of Memory = 5
