-- What answers requests, and what a file of actions on a shelf gives.
use Rattle.std.specs.Prelude.{ℕ, Bool, false, List, Ok, Err, Option, Result}
use Rattle.io_edges.specs.{declared.fault.FileFault.FileFault, Store.Store}
use Rattle.io_edges.specs.Files.{bad, Has, Reading, ShelfFile, whole}
use Rattle.csv_rows.specs.Rows.{rows_of}
use Rattle.action_dispatch.specs.declared.fault.{ActionFault.ActionFault, ActionKind.ActionKind}
use Rattle.action_dispatch.specs.{declared.service.BodyUse.BodyUse, Answers.Serves}
use Rattle.action_dispatch.specs.declared.service.BodyUse.TheVariants.{Returned, Unused}
use Rattle.action_dispatch.specs.Actions.{Fault, text_for, Texts as ActionTexts, texts_of}
use Rattle.action_dispatch.specs.Services.{echoed, is_text_above, reply_with}
use Rattle.duplex_server.specs.declared.responding.Responder.{Responder}
use Rattle.duplex_server.specs.declared.responding.Responder.TheVariants.{Echo, Texts}
use Rattle.io_edges.specs.declared.fault.FileFault.TheVariants as faults
use Rattle.action_dispatch.specs.declared.fault.ActionFault.TheVariants as acts

-- what a responder says to an action with this content of Body
abbrev pub served_by : Responder → Serves
served_by Echo = echoed
served_by (Texts texts) = λ action body. reply_with (text_for texts action)

-- what it does with that content
abbrev pub body_use_of : Responder → BodyUse
body_use_of Echo = Returned
body_use_of (Texts texts) = Unused

-- whether it has a text for an action that alone counts more than a quota on content
abbrev pub has_text_above : (quota : ℕ) → (action : List ℕ) → Responder → Bool
has_text_above quota action Echo = false
has_text_above quota action (Texts texts) = is_text_above quota (text_for texts action)

-- what the rows of a file of actions say
abbrev pub file_by : Result ActionTexts Fault → ShelfFile ActionTexts ActionKind
file_by (Ok texts) = whole texts
file_by (Err fault) = bad fault.0 fault.1

-- and its bytes
abbrev pub reading_actions : Reading ActionTexts ActionKind
reading_actions bytes = file_by (texts_of (rows_of bytes))

-- the responder has the texts of the file
abbrev pub GivesTexts : Option Store → List ℕ → Responder → Type 0
GivesTexts files name Echo = ⊥
GivesTexts files name (Texts texts) = Has reading_actions files name (whole texts)

-- a fault of a file's rows
abbrev pub file_fault : ActionFault → FileFault ActionKind
file_fault (acts.Bad row kind) = faults.Bad row kind
file_fault acts.Memory = faults.Memory
