-- The status of a run in which nothing of the outside fails, by the files and lines that are read
-- (specs/Complete).
use Rattle.std.proofs.Common.{◌≡◌, ℕ, ◌⊎◌, List, [], Some, None, Err, Option, Result, sym, refl, ap}
use Rattle.std.proofs.Common.{subst, inl, inr}
use Rattle.io_edges.specs.{declared.fault.FileFault.FileFault, Faults.Rose, Store.Store}
use Rattle.io_edges.specs.Files.{file_in, Reading, Tells, whole}
use Rattle.nbfx_values.specs.declared.content.Item.{Item}
use Rattle.document_lines.specs.declared.{InputFault.InputFault, reading.ListFault.ListFault}
use Rattle.document_lines.specs.declared.fetching.DocumentsFault.{DocumentsFault}
use Rattle.document_lines.specs.{Files.Answers, Taking.Says}
use Rattle.duplex_server.specs.declared.responding.Responder.{Responder}
use Rattle.duplex_server.specs.declared.responding.Responder.TheVariants.{Echo, Texts}
use Rattle.duplex_server.specs.Responding.{GivesTexts, reading_actions}
use Rattle.dump_replay.specs.{Answering.IsAskedFor, Working.Unread}
use Rattle.dump_replay.specs.{Building.status_of_building, Outside.SeenShelf}
use Rattle.dump_replay.specs.Calling.{ending_of_list, IsSecond, status_of_documents}
use Rattle.dump_replay.specs.Complete.{with_actions, with_back, with_documents, with_file}
use Rattle.dump_replay.specs.{Complete.with_lines, Relaying.IsBack, Statics.reading_statics}
use Rattle.string_tables.specs.StaticStrings.{Entry}
use Rattle.dump_replay.specs.{Complete.with_second, Running.status_of_file}
use Rattle.io_edges.specs.declared.fault.FileFault.TheVariants as faults
use Rattle.document_lines.specs.declared.fetching.DocumentsFault.TheVariants as lists
use Rattle.document_lines.specs.declared.reading.ListFault.TheVariants as reads

-- a status is this one, or 5
abbrev pub IsOr : (expected status : ℕ) → Type 0
IsOr expected status = (status ≡ expected) ⊎ (status ≡ 5)

pub as_other : (expected other status : ℕ) → expected ≡ other → IsOr expected status
    → IsOr other status
as_other expected other status same h = subst (λ (n : ℕ). IsOr n status) same h

pub by_status : (expected status status' : ℕ) → status ≡ status' → IsOr expected status'
    → IsOr expected status
by_status expected status status' is h = subst (λ (n : ℕ). IsOr expected n) (sym is) h

-- ---- files

module _ {X K : Type 0} (reading : Reading X K) (store : Store) (name : List ℕ) (next : X → ℕ) where
  abbrev behind_file : ℕ
  behind_file = with_file (file_in reading store name) next

  file_unread : (fault : FileFault K) → Tells reading (Some store) name fault
      → (fault ≡ faults.Failed → ⊥) → IsOr behind_file (status_of_file fault)
  file_unread faults.Missing tells well = inl (sym (ap (λ f. with_file f next) tells))
  file_unread (faults.Bad row kind) tells well = inl (sym (ap (λ f. with_file f next) tells))
  file_unread faults.Failed tells well = absurd (well refl)
  file_unread faults.Memory tells well = inr refl

  pub file_read : (says : X) (status : ℕ) → file_in reading store name ≡ whole says
      → IsOr (next says) status → IsOr behind_file status
  file_read says status is h =
      as_other (next says) behind_file status (sym (ap (λ f. with_file f next) is)) h

  module _ (Says : List ℕ → Type 0) (Untouched : Type 0) (kind_name : K → List ℕ)
      (old new : SeenShelf) (status : ℕ) (files : old.files ≡ Some store)
      (fetched : Rose old.faults new.faults → ⊥) where
    pub unread : Unread Says Untouched reading kind_name name old new status
        → IsOr behind_file status
    unread h = by_status behind_file status (status_of_file h.fault) h.status_is
        (file_unread h.fault
        (subst (λ (f : Option Store). Tells reading f name h.fault) files h.tells)
        (λ failed. fetched (h.rose failed)))

-- the file of actions
module _ (store : Store) (next : ℕ) where
  gives_texts : (name : List ℕ) (responder : Responder) (status : ℕ)
      → GivesTexts (Some store) name responder → IsOr next status
      → IsOr (with_actions store (Some name) next) status
  gives_texts name Echo status gives h = absurd gives
  gives_texts name (Texts texts) status gives h =
      file_read reading_actions store name (λ texts. next) texts status gives h

  pub actions_read : (named : Option (List ℕ)) (responder : Responder) (status : ℕ)
      → IsAskedFor (Some store) named responder → IsOr next status
      → IsOr (with_actions store named next) status
  actions_read None responder status asked h = h
  actions_read (Some name) responder status asked h = gives_texts name responder status asked h

-- the file of the static strings of sessions that are opened for others
pub back_read : (store : Store) (next : ℕ) (named : Option (List ℕ)) (front back : List Entry)
    (status : ℕ) → IsBack (Some store) named front back → IsOr next status
    → IsOr (with_back store named next) status
back_read store next None front back status is h = h
back_read store next (Some name) front back status is h =
    file_read reading_statics store name (λ says. next) back status is h

-- the file of the second list
module _ (store : Store) (next : List (List Item) → ℕ) where
  pub second_read : (named : Option (List ℕ)) (second : List (List Item)) (status : ℕ)
      → IsSecond (Some store) named second → IsOr (next second) status
      → IsOr (with_second store named next) status
  second_read None second status is h =
      as_other (next second) (next []) status (ap next is) h
  second_read (Some name) second status is h =
      as_other (next second) (with_second store (Some name) next) status
      (sym (ap (λ read. with_documents read next) is)) h

  pub second_unread : (name : List ℕ) (fault : DocumentsFault)
      → Answers (Some store) name (Err fault)
      → (fault ≡ lists.Failed → ⊥)
      → IsOr (with_second store (Some name) next) (status_of_documents fault)
  second_unread name lists.Missing answers well =
      inl (sym (ap (λ read. with_documents read next) answers))
  second_unread name (lists.Refused fault) answers well =
      inl (sym (ap (λ read. with_documents read next) answers))
  second_unread name lists.Failed answers well = absurd (well refl)
  second_unread name lists.Memory answers well = inr refl

-- the lines of the input
pub lines_unread : (read : Result (List (List Item)) InputFault) (next : List (List Item) → ℕ)
    (fault : ListFault) → Says read (Err fault) → (fault ≡ reads.ReadFault → ⊥)
    → IsOr (with_lines read next) (status_of_building (ending_of_list fault))
lines_unread read next (reads.Refused fault) says well =
    inl (sym (ap (λ r. with_lines r next) says))
lines_unread read next reads.ReadFault says well = absurd (well refl)
lines_unread read next reads.Memory says well = inr refl
