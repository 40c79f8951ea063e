-- What has to be in order for a run to end with 0: the files on the shelf, the input, and what the
-- peer of a call sends.
use Rattle.std.specs.Prelude.{◌≡◌, ℕ, ◌↔◌, List, Some, None, Ok, Option, ⊤}
use Rattle.io_edges.specs.{Files.file_in, Files.Reading, Files.whole, Store.Store}
use Rattle.{string_tables.specs.StaticStrings.Entry, nbfx_encoder.specs.Placing.Placed}
use Rattle.nbfx_values.specs.declared.content.Item.{Item}
use Rattle.{stream_reader.specs.Sessions.IsClosed, session_ends.specs.Sent.MayBeSent}
use Rattle.document_lines.specs.{Documents.documents_within, Laws.MayBeBuilt}
use Rattle.command_words.specs.Requests.{AreGood, AskedOfSessions, TwoLimits}
use Rattle.command_words.specs.Tasks.{build, call, generate, Opening, pool, relay, replay, report}
use Rattle.command_words.specs.Tasks.{serve, Task}
use Rattle.session_generator.specs.{Documents.documents, Summary.IsWithinQuota}
use Rattle.duplex_server.specs.Responding.{reading_actions}
use Rattle.two_lanes.specs.declared.jobs.Lane.{Lane}
use Rattle.client.specs.{Called.answers_to, Sent.envelopes}
use Rattle.dump_replay.specs.{Building.settings_for_building, Calling.IsSecond, Reporting.IsEnded}
use Rattle.dump_replay.specs.Complete.{in_order, sending_with, settings_to_answer, status_for}
use Rattle.dump_replay.specs.Statics.{reading_statics, settings_for}

module _ (store : Store) where
  -- a file is read, if one is named
  abbrev pub HasNamed : {X K : Type 0} → Reading X K → Option (List ℕ) → Type 0
  HasNamed reading None = ⊤
  HasNamed {X} reading (Some name) = (says : X) × (file_in reading store name ≡ whole says)

  -- that of actions
  abbrev pub HasActions : Option (List ℕ) → Type 0
  HasActions = HasNamed reading_actions

  module _ (input peer : List ℕ) (order : List Lane) where
    -- the documents of both lists are read, may be sent in one session and fit in this order, and
    -- the peer ends its session without a Fault
    pub record IsCallInOrder (opening : Opening) (named : Option (List ℕ)) (statics : List Entry)
        (limits : TwoLimits) : Type 0 where
      pub first : List (List Item)
      pub second : List (List Item)
      pub first_is : documents_within limits.forward.session input ≡ Ok first
      pub second_is : IsSecond (Some store) named second
      pub admitted : MayBeSent opening.mode (in_order first second order)
      pub sent : Placed (List ℕ)
      pub all_fit : envelopes (sending_with opening statics limits first second order)
          (in_order first second order) ≡ Ok sent
      pub ended : IsEnded (answers_to (sending_with opening statics limits first second order)) peer

    -- by the task, with these static strings: a session closes a stream that is reported, without a
    -- Fault; lines that are written are those of documents that fit, fewer bytes than the session
    -- quota; a session closes a stream that is answered; one that is made is within its quota
    abbrev pub IsTaskInOrder : Task → List Entry → TwoLimits → Type 0
    IsTaskInOrder (report detail origin) statics limits =
        IsEnded (settings_for origin statics limits) input
    IsTaskInOrder (build opening) statics limits =
        MayBeBuilt (settings_for_building opening statics limits.forward) input
    IsTaskInOrder (replay serving) statics limits = HasActions serving.actions
        × IsClosed (settings_to_answer serving statics limits.forward) input
    IsTaskInOrder (serve listen connections serving) statics limits = HasActions serving.actions
    IsTaskInOrder (call connect opening second) statics limits =
        IsCallInOrder opening second statics limits
    IsTaskInOrder (relay relaying) statics limits =
        HasNamed reading_statics relaying.back_statics
    IsTaskInOrder (pool listen connections sessions serving) statics limits =
        HasActions serving.actions
    IsTaskInOrder (generate seed count) statics limits =
        IsWithinQuota limits.forward statics (documents seed count)

    -- the file of static strings is read too
    abbrev pub IsInOrder : AskedOfSessions → Type 0
    IsInOrder asked = (statics : List Entry)
        × (file_in reading_statics store asked.statics ≡ whole statics)
        × IsTaskInOrder asked.task statics asked.limits

-- The status that is determined is 0 exactly where all is in order, the documents of a call's two
-- lists in the order in which they are sent.
abbrev pub ZeroInOrder : Type 0
ZeroInOrder = (store : Store) (input peer : List ℕ) (order : List Lane) (asked : AskedOfSessions)
    → AreGood asked.limits
    → (status_for store input peer order asked ≡ 0) ↔ IsInOrder store input peer order asked
