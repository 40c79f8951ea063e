use Rattle.std.proofs.Common.{◌≡◌, ℕ, ◌⊎◌, map, Err, string_bytes, sym, refl, ap, ◌∙◌, subst, inl, arith}
use Rattle.{std.proofs.Common.inr, io_edges.specs.Faults.Rose}
use Rattle.command_words.specs.Asking.{rehearsal_of, session_of}
use Rattle.dump_replay.specs.Outside.{Outside, seen, SeenShelf}
use Rattle.dump_replay.specs.{Running.files_of, Working.Works}
use Rattle.dump_replay.proofs.{Complete.completes, RunSteps.words_two}
use Rattle.dump_replay.proofs.Rehearsals.{not_eight, rehearsal_left}
use Rattle.dump_replay.proofs.RunSteps.{asked-history, asked-sessions, fetched_first, fetched_more}
use Rattle.dump_replay.proofs.RunSteps.{not_read, playable, possible, same_shelf}
use Rattle.dump_replay.proofs.Seen.{input_by, network_by, output_by, Says, seen_by, shelf_by}
use Rattle.dump_replay.proofs.run.run.{Given.Over, Goals.After-drop-table-inside-5}
use Rattle.dump_replay.proofs.run.run.Goals as goal

module _ (g : Over) where
  abbrev all : g.row.F.Denot → g.row.I.Denot → g.row.O.Denot → g.row.W.Denot
      → Outside g.row.W-Reader.Denot g.row.W-Writer.Denot
  all = seen_by g.F.Shelf g.I.Source g.O.Sink g.W.Wire

-- the words aren't read
pub returns-in-Err-clause-words : goal.returns-in-Err-clause-words
returns-in-Err-clause-words g c = λ two asked is. c.in-Err.ensures.refused (ap Err
    (words_two c.in-Err.fault (sym c.words_status-status.ensures ∙ two))) asked is

pub returns-in-Err-clause-runs : goal.returns-in-Err-clause-runs
returns-in-Err-clause-runs g c = inl (
  not_read c.in-Err.fault (map string_bytes c.args.words.now) c.words_status-status.result
      c.words_status-status.ensures (λ not. c.in-Err.ensures.refused (ap Err not)),
  (c.note_status.ensures.notes, c.note_status.ensures.none),
  (refl, refl, refl),
  refl,
)

pub returns-in-Err-clause-complete : goal.returns-in-Err-clause-complete
returns-in-Err-clause-complete g c =
    let same = all g c.args.shelf.now c.args.input c.args.output c.args.wire.now in
    completes (Says g.N.Sink c.args.notes.now c.note_status.new.notes)
    ((c.args.input ≡ c.args.input) × (c.args.output ≡ c.args.output)
    × (c.args.wire.now ≡ c.args.wire.now)) (input_by g.W.Reader.Source) (output_by g.W.Writer.Sink)
    (c.args.shelf.now ≡ c.args.shelf.now) (c.args.wire.now ≡ c.args.wire.now)
    (map string_bytes c.args.words.now) same same c.words_status-status.result
    (returns-in-Err-clause-runs g c)

-- a history is played
pub rehearse_input-ending-requires-clause-some : goal.rehearse_input-ending-requires-clause-some
rehearse_input-ending-requires-clause-some g c =
    (playable (map string_bytes c.args.words.now) (rehearsal_of c.in-Rehearse.asked)
    (asked-history (map string_bytes c.args.words.now) c.in-Ok.request c.in-Ok.ensures.understood
    c.in-Rehearse.asked c.in-Rehearse.is)).0

pub rehearse_input-ending-requires-clause-most : goal.rehearse_input-ending-requires-clause-most
rehearse_input-ending-requires-clause-most g c =
    (playable (map string_bytes c.args.words.now) (rehearsal_of c.in-Rehearse.asked)
    (asked-history (map string_bytes c.args.words.now) c.in-Ok.request c.in-Ok.ensures.understood
    c.in-Rehearse.asked c.in-Rehearse.is)).1

pub rehearse_input-ending-requires-clause-named : goal.rehearse_input-ending-requires-clause-named
rehearse_input-ending-requires-clause-named g c =
    (playable (map string_bytes c.args.words.now) (rehearsal_of c.in-Rehearse.asked)
    (asked-history (map string_bytes c.args.words.now) c.in-Ok.request c.in-Ok.ensures.understood
    c.in-Rehearse.asked c.in-Rehearse.is)).2

pub returns-in-Rehearse-clause-statuses : goal.returns-in-Rehearse-clause-statuses
returns-in-Rehearse-clause-statuses g c =
    let e = c.rehearse_input-ending in let s = c.rehearse_status in
    (rehearsal_left (rehearsal_of c.in-Rehearse.asked) (input_by g.I.Source c.args.input)
    (input_by g.I.Source e.new.input) (output_by g.O.Sink c.args.output)
    (output_by g.O.Sink e.result.1) e.result.0 e.ensures s.result s.ensures
    (shelf_by g.F.Shelf c.args.shelf.now) (network_by g.W.Wire c.args.wire.now)).is_status

pub returns-in-Rehearse-clause-words : goal.returns-in-Rehearse-clause-words
returns-in-Rehearse-clause-words g c =
    let e = c.rehearse_input-ending in let s = c.rehearse_status in
    λ two. absurd ((rehearsal_left (rehearsal_of c.in-Rehearse.asked)
    (input_by g.I.Source c.args.input)
    (input_by g.I.Source e.new.input) (output_by g.O.Sink c.args.output)
    (output_by g.O.Sink e.result.1) e.result.0 e.ensures s.result s.ensures
    (shelf_by g.F.Shelf c.args.shelf.now) (network_by g.W.Wire c.args.wire.now)).not_two two)

pub returns-in-Rehearse-clause-untouched : goal.returns-in-Rehearse-clause-untouched
returns-in-Rehearse-clause-untouched g c =
    let e = c.rehearse_input-ending in let s = c.rehearse_status in
    λ two. absurd ((rehearsal_left (rehearsal_of c.in-Rehearse.asked)
    (input_by g.I.Source c.args.input)
    (input_by g.I.Source e.new.input) (output_by g.O.Sink c.args.output)
    (output_by g.O.Sink e.result.1) e.result.0 e.ensures s.result s.ensures
    (shelf_by g.F.Shelf c.args.shelf.now) (network_by g.W.Wire c.args.wire.now)).not_two two)

pub returns-in-Rehearse-clause-one_empty_take : goal.returns-in-Rehearse-clause-one_empty_take
returns-in-Rehearse-clause-one_empty_take g c =
    let e = c.rehearse_input-ending in let s = c.rehearse_status in
    (rehearsal_left (rehearsal_of c.in-Rehearse.asked) (input_by g.I.Source c.args.input)
    (input_by g.I.Source e.new.input) (output_by g.O.Sink c.args.output)
    (output_by g.O.Sink e.result.1) e.result.0 e.ensures s.result s.ensures
    (shelf_by g.F.Shelf c.args.shelf.now) (network_by g.W.Wire c.args.wire.now)).one_empty_take

pub returns-in-Rehearse-clause-read_fault : goal.returns-in-Rehearse-clause-read_fault
returns-in-Rehearse-clause-read_fault g c =
    let e = c.rehearse_input-ending in let s = c.rehearse_status in
    (rehearsal_left (rehearsal_of c.in-Rehearse.asked) (input_by g.I.Source c.args.input)
    (input_by g.I.Source e.new.input) (output_by g.O.Sink c.args.output)
    (output_by g.O.Sink e.result.1) e.result.0 e.ensures s.result s.ensures
    (shelf_by g.F.Shelf c.args.shelf.now) (network_by g.W.Wire c.args.wire.now)).read_fault

pub returns-in-Rehearse-clause-write_fault : goal.returns-in-Rehearse-clause-write_fault
returns-in-Rehearse-clause-write_fault g c =
    let e = c.rehearse_input-ending in let s = c.rehearse_status in
    (rehearsal_left (rehearsal_of c.in-Rehearse.asked) (input_by g.I.Source c.args.input)
    (input_by g.I.Source e.new.input) (output_by g.O.Sink c.args.output)
    (output_by g.O.Sink e.result.1) e.result.0 e.ensures s.result s.ensures
    (shelf_by g.F.Shelf c.args.shelf.now) (network_by g.W.Wire c.args.wire.now)).write_fault

pub returns-in-Rehearse-clause-input_faults : goal.returns-in-Rehearse-clause-input_faults
returns-in-Rehearse-clause-input_faults g c =
    let e = c.rehearse_input-ending in let s = c.rehearse_status in
    (rehearsal_left (rehearsal_of c.in-Rehearse.asked) (input_by g.I.Source c.args.input)
    (input_by g.I.Source e.new.input) (output_by g.O.Sink c.args.output)
    (output_by g.O.Sink e.result.1) e.result.0 e.ensures s.result s.ensures
    (shelf_by g.F.Shelf c.args.shelf.now) (network_by g.W.Wire c.args.wire.now)).reads

pub returns-in-Rehearse-clause-output_faults : goal.returns-in-Rehearse-clause-output_faults
returns-in-Rehearse-clause-output_faults g c =
    let e = c.rehearse_input-ending in let s = c.rehearse_status in
    (rehearsal_left (rehearsal_of c.in-Rehearse.asked) (input_by g.I.Source c.args.input)
    (input_by g.I.Source e.new.input) (output_by g.O.Sink c.args.output)
    (output_by g.O.Sink e.result.1) e.result.0 e.ensures s.result s.ensures
    (shelf_by g.F.Shelf c.args.shelf.now) (network_by g.W.Wire c.args.wire.now)).writes

pub returns-in-Rehearse-clause-wire_fault : goal.returns-in-Rehearse-clause-wire_fault
returns-in-Rehearse-clause-wire_fault g c =
    record {
      rose = λ eight. absurd (not_eight c.rehearse_input-ending.result.0
          (sym c.rehearse_status.ensures ∙ eight));
      same = λ e. refl;
      grows = omega arith;
    }

pub returns-in-Rehearse-clause-runs : goal.returns-in-Rehearse-clause-runs
returns-in-Rehearse-clause-runs g c =
    inr (inr (
      rehearsal_of c.in-Rehearse.asked,
      asked-history (map string_bytes c.args.words.now) c.in-Ok.request c.in-Ok.ensures.understood
          c.in-Rehearse.asked c.in-Rehearse.is,
      record {
        ending = c.rehearse_input-ending.result.0;
        status_is = c.rehearse_status.ensures;
        plays = c.rehearse_input-ending.ensures;
        says = (c.note_rehearsal.ensures.notes, c.note_rehearsal.ensures.none);
      },
      refl,
      refl,
    ))

pub returns-in-Rehearse-clause-complete : goal.returns-in-Rehearse-clause-complete
returns-in-Rehearse-clause-complete g c =
    completes (Says g.N.Sink c.args.notes.now c.note_rehearsal.new.notes)
    ((c.rehearse_input-ending.new.input ≡ c.args.input)
    × (c.rehearse_input-ending.result.1 ≡ c.args.output) × (c.args.wire.now ≡ c.args.wire.now))
    (input_by g.W.Reader.Source) (output_by g.W.Writer.Sink)
    (c.args.shelf.now ≡ c.args.shelf.now) (c.args.wire.now ≡ c.args.wire.now)
    (map string_bytes c.args.words.now)
    (all g c.args.shelf.now c.args.input c.args.output c.args.wire.now)
    (all g c.args.shelf.now c.rehearse_input-ending.new.input c.rehearse_input-ending.result.1
    c.args.wire.now) c.rehearse_status.result (returns-in-Rehearse-clause-runs g c)

-- the file isn't read
pub returns-in-Err-read_statics-clause-runs : goal.returns-in-Err-read_statics-clause-runs
returns-in-Err-read_statics-clause-runs g c = inr (inl (
  session_of c.in-Sessions.request,
  asked-sessions (map string_bytes c.args.words.now) c.in-Ok.request
      c.in-Ok.ensures.understood c.in-Sessions.request c.in-Sessions.is,
  inl (record {
    fault = c.in-Err-read_statics.fault;
    tells = c.in-Err-read_statics.ensures.fault;
    rose = λ failed. c.in-Err-read_statics.ensures.counted.rose (ap Err failed);
    status_is = c.note_file-status.ensures.status;
    says = (c.note_file-status.ensures.notes, c.note_file-status.ensures.none);
    untouched = (refl, refl, refl);
  }),
))

pub returns-in-Err-read_statics-clause-complete : goal.returns-in-Err-read_statics-clause-complete
returns-in-Err-read_statics-clause-complete g c =
    completes (Says g.N.Sink c.args.notes.now c.note_file-status.new.notes)
    ((c.args.input ≡ c.args.input) × (c.args.output ≡ c.args.output)
    × (c.args.wire.now ≡ c.args.wire.now)) (input_by g.W.Reader.Source) (output_by g.W.Writer.Sink)
    (c.read_statics.new.shelf ≡ c.args.shelf.now) (c.args.wire.now ≡ c.args.wire.now)
    (map string_bytes c.args.words.now)
    (all g c.args.shelf.now c.args.input c.args.output c.args.wire.now)
    (all g c.read_statics.new.shelf c.args.input c.args.output c.args.wire.now)
    c.note_file-status.result
    (returns-in-Err-read_statics-clause-runs g c)

pub returns-in-Err-read_statics-clause-fetched : goal.returns-in-Err-read_statics-clause-fetched
returns-in-Err-read_statics-clause-fetched g c =
    let asked = session_of c.in-Sessions.request in
    inr (
      asked,
      asked-sessions (map string_bytes c.args.words.now) c.in-Ok.request
          c.in-Ok.ensures.understood c.in-Sessions.request c.in-Sessions.is,
      fetched_first asked.statics (files_of asked.task)
          (g.F.Shelf.fetches c.args.shelf.now) (g.F.Shelf.fetches c.read_statics.new.shelf)
          c.in-Err-read_statics.ensures.fetched,
    )

-- the task is done
pub work-status-requires-clause-possible : goal.work-status-requires-clause-possible
work-status-requires-clause-possible g c = λ κs lives.
    possible (map string_bytes c.args.words.now) (session_of c.in-Sessions.request)
    (asked-sessions (map string_bytes c.args.words.now) c.in-Ok.request
    c.in-Ok.ensures.understood c.in-Sessions.request c.in-Sessions.is)

module _ (g : Over) (c : After-drop-table-inside-5 g) where
  -- the shelf is seen as before the file of static strings was fetched
  same : shelf_by g.F.Shelf c.read_statics.new.shelf ≡ shelf_by g.F.Shelf c.args.shelf.now
  same = same_shelf g.F.Shelf.files g.F.Shelf.faults c.args.shelf.now c.read_statics.new.shelf
      c.in-Ok-read_statics.ensures.kept (c.in-Ok-read_statics.ensures.counted.same (λ e. cc))

  abbrev new : Outside g.row.W-Reader.Denot g.row.W-Writer.Denot
  new = all g c.work-status.new.shelf c.work-status.result.1 c.work-status.result.2
      c.work-status.new.wire

  abbrev Untouched : Type 0
  Untouched = (c.work-status.result.1 ≡ c.args.input) × (c.work-status.result.2 ≡ c.args.output)
      × (c.work-status.new.wire ≡ c.args.wire.now)

  abbrev Done : SeenShelf → Type 0
  Done s = Works (Says g.N.Sink c.args.notes.now c.work-status.new.notes) Untouched
      (input_by g.W.Reader.Source) (output_by g.W.Writer.Sink)
      (session_of c.in-Sessions.request).task c.in-Ok-read_statics.table
      (session_of c.in-Sessions.request).limits
      (seen s (input_by g.I.Source c.args.input) (output_by g.O.Sink c.args.output)
      (network_by g.W.Wire c.args.wire.now)) new c.work-status.result.0

  own : Done (shelf_by g.F.Shelf c.read_statics.new.shelf)
  own = c.work-status.ensures.works

pub returns-clause-runs : goal.returns-clause-runs
returns-clause-runs g c = inr (inl (
  session_of c.in-Sessions.request,
  asked-sessions (map string_bytes c.args.words.now) c.in-Ok.request
      c.in-Ok.ensures.understood c.in-Sessions.request c.in-Sessions.is,
  inr (record {
    entries = c.in-Ok-read_statics.table;
    has = c.in-Ok-read_statics.ensures.table;
    holds = (subst (Done g c) (same g c) (own g c), c.work-status.ensures.offline);
  }),
))

pub returns-clause-complete : goal.returns-clause-complete
returns-clause-complete g c =
    completes (Says g.N.Sink c.args.notes.now c.work-status.new.notes) (Untouched g c)
    (input_by g.W.Reader.Source) (output_by g.W.Writer.Sink)
    (c.work-status.new.shelf ≡ c.args.shelf.now) (c.work-status.new.wire ≡ c.args.wire.now)
    (map string_bytes c.args.words.now)
    (all g c.args.shelf.now c.args.input c.args.output c.args.wire.now) (new g c)
    c.work-status.result.0 (returns-clause-runs g c)

pub returns-clause-fetched : goal.returns-clause-fetched
returns-clause-fetched g c =
    let asked = session_of c.in-Sessions.request in
    inr (
      asked,
      asked-sessions (map string_bytes c.args.words.now) c.in-Ok.request
          c.in-Ok.ensures.understood c.in-Sessions.request c.in-Sessions.is,
      fetched_more asked.statics (files_of asked.task)
          (g.F.Shelf.fetches c.args.shelf.now) (g.F.Shelf.fetches c.read_statics.new.shelf)
          (g.F.Shelf.fetches c.work-status.new.shelf) c.in-Ok-read_statics.ensures.fetched
          c.work-status.ensures.fetched,
    )

pub returns-clause-read_fault : goal.returns-clause-read_fault
returns-clause-read_fault g c = λ three.
    let was = c.in-Ok-read_statics.ensures.counted.same (λ e. cc) in
    subst (λ (n : ℕ). Rose (g.I.Source.faults c.args.input)
    (g.I.Source.faults c.work-status.result.1)
    ⊎ Rose n (g.F.Shelf.faults c.work-status.new.shelf)) was
    (c.work-status.ensures.leaves.read_fault three)

pub returns-clause-untouched : goal.returns-clause-untouched
returns-clause-untouched g c = λ two. absurd (c.work-status.ensures.leaves.not_two two)
