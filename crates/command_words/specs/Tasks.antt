-- What the program may be asked to do: tasks on sessions, and to play the history of a sequence.
use Rattle.{std.specs.Prelude.ℕ, std.specs.Prelude.Option, command_words.specs.Options.Text}
use Rattle.nbfx_values.specs.declared.session.{Encoding.Encoding, Mode.Mode}
use Rattle.command_words.specs.declared.task.{Detail.Detail, Origin.Origin}

-- what an initiator opens a session with
pub record Opening : Type 0 where
  pub via : Text
  pub mode : Mode
  pub encoding : Encoding

-- what sessions are served with
pub record Serving : Type 0 where
  -- the Via that is served alone, or None where any is
  pub endpoint : Option Text
  -- the name of the file of texts by action, or None where the service is the echo
  pub actions : Option Text

-- what the sessions of peers are joined with
pub record Relaying : Type 0 where
  pub listen : Text
  pub connect : Text
  pub via : Text
  -- the name of the file of the static strings of the sessions that are opened, or None where they
  -- are those of the peers
  pub back_statics : Option Text
  pub connections : ℕ
  -- the Via that peers are served alone, or None where any is
  pub endpoint : Option Text

-- a reliable sequence
pub record Rehearsal : Type 0 where
  pub id : Text
  pub window : ℕ

pub data Task : Type 0 where
  -- a stream is read and reported
  report : Detail → Origin → Task
  -- documents are written as an initiator's session
  build : Opening → Task
  -- an initiator's stream is answered
  replay : Serving → Task
  -- so many connections are answered
  serve : (listen : Text) → (connections : ℕ) → Serving → Task
  -- a server is called, with the documents of a second file too where there is one
  call : (connect : Text) → Opening → (second : Option Text) → Task
  -- the sessions of peers are joined with sessions of a server
  relay : Relaying → Task
  -- so many connections are answered at once, and so many sessions of each
  pool : (listen : Text) → (connections sessions : ℕ) → Serving → Task
  -- so many documents are made, and read
  generate : (seed count : ℕ) → Task
