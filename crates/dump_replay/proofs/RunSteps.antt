-- The words of a run, the files that it fetches, the shelf, and a file that isn't read.
use Rattle.std.proofs.Common.{◌≡◌, ℕ, ◌<◌, ◌≤◌, false, ◌⊎◌, List, [], ◌∷◌, Option, sym, refl, ap, ◌∙◌, subst, inl, arith}
use Rattle.command_words.specs.Values.{is_blank}
use Rattle.{std.proofs.Common.inr, string_tables.specs.StaticStrings.Entry}
use Rattle.io_edges.specs.{Faults.one_more, Store.Store}
use Rattle.command_words.specs.Requests.{TwoLimits}
use Rattle.stream_loop.specs.Edges.{Input}
use Rattle.command_words.specs.declared.{action.Action.Action, words.WordsFault.WordsFault}
use Rattle.command_words.specs.declared.action.Action.TheVariants.{Build, Call, Check, Dump, Gen}
use Rattle.command_words.specs.declared.action.Action.TheVariants.{Pool, Rehearse, Relay}
use Rattle.command_words.specs.declared.action.Action.TheVariants.{Replay, Serve}
use Rattle.command_words.specs.{Options.given_for, Tasks.Rehearsal, Tasks.Relaying, Tasks.Serving}
use Rattle.command_words.specs.Tasks.{pool, relay, serve, Task}
use Rattle.command_words.specs.Requests.{AskedOfSessions, AskForTask, IsRequest}
use Rattle.command_words.specs.Requests.{of_sessions, rehearsal, Values}
use Rattle.command_words.specs.Asking.{asked_of, rehearsal_of, session_of}
use Rattle.command_words.specs.declared.request.{Request.Request, SessionRequest.SessionRequest}
use Rattle.command_words.specs.declared.task.Rehearsal.{Rehearsal as RehearsalTaken}
use Rattle.dump_replay.specs.Outside.{Outside, SeenShelf, shelf_at}
use Rattle.dump_replay.specs.Running.{HasFetched, WhereAsked}
use Rattle.io_edges.specs.Files.{Reading}
use Rattle.duplex_server.specs.Responding.{reading_actions}
use Rattle.dump_replay.specs.{Answering.action_kind_name, Pooling.PooledAll, Relaying.RelayedAll}
use Rattle.dump_replay.specs.{Serving.AnsweredAll, Statuses.status_of_words}
use Rattle.dump_replay.specs.Statics.{reading_statics, table_kind_name}
use Rattle.dump_replay.specs.Working.{AreNotRead, HasNoActions, HasNoBack, IsPossible, Unread}
use Rattle.dump_replay.specs.Working.{Works}
use Rattle.io_edges.specs.Views.{SinkView}
use Rattle.command_words.specs.declared.words.WordsFault.TheVariants as words
use Rattle.command_words.specs.declared.request.Request.TheVariants as requests

-- what words ask for can be done
possible_so : (a : Action) (value : Values) (t : Task) → AskForTask a value t → IsPossible t
possible_so Check value t h = subst IsPossible (sym h.is) tt
possible_so Dump value t h = subst IsPossible (sym h.is) tt
possible_so Build value t h = subst IsPossible (sym h.is) h.opens.short
possible_so Replay value t h = subst IsPossible (sym h) tt
possible_so Serve value t h = subst IsPossible (sym h.is) tt
possible_so Call value t h = subst IsPossible (sym h.is) h.opens.short
possible_so Relay value t h = subst IsPossible (sym h.is) h.short
possible_so Pool value t h =
    subst IsPossible (sym h.is) ((h.least, h.most), (h.least_turns, h.most_turns))
possible_so Gen value t h = subst IsPossible (sym h.is) tt
possible_so Rehearse value t h = absurd h

pub possible : (words : List (List ℕ)) (asked : AskedOfSessions)
    → IsRequest words (of_sessions asked) → IsPossible asked.task
possible words asked h = possible_so h.action (given_for h.given) asked.task h.meant.task

-- a sequence that is asked for has an identifier and a window that may be
pub playable : (words : List (List ℕ)) (asked : Rehearsal) → IsRequest words (rehearsal asked)
    → (0 < asked.window) × (asked.window ≤ 1024) × (is_blank asked.id ≡ false)
playable words asked h =
    let asks = h.meant.1 in
    let least = asks.least in
    (omega (arith, least), asks.most, asks.named)

-- what is asked for, by the request that was read
module _ (words : List (List ℕ)) (request : Request) (is : IsRequest words (asked_of request)) where
  pub asked-sessions : (on : SessionRequest) → request ≡ requests.Sessions on
      → IsRequest words (of_sessions (session_of on))
  asked-sessions on e = subst (λ (r : Request). IsRequest words (asked_of r)) e is

  pub asked-history : (taken : RehearsalTaken) → request ≡ requests.Rehearse taken
      → IsRequest words (rehearsal (rehearsal_of taken))
  asked-history taken e = subst (λ (r : Request). IsRequest words (asked_of r)) e is

-- words that aren't read
pub not_read : (fault : WordsFault) (names : List (List ℕ)) (n : ℕ) → n ≡ status_of_words fault
    → (fault ≡ words.NotUnderstood → WhereAsked names (λ asked. ⊥)) → AreNotRead names n
not_read words.NotUnderstood names n is none = inl (is, none refl)
not_read words.Memory names n is none = inr is

pub words_two : (fault : WordsFault) → status_of_words fault ≡ 2 → fault ≡ words.NotUnderstood
words_two words.NotUnderstood e = refl
words_two words.Memory e = cc

-- no file was fetched
fetched_none : (names : List (List ℕ)) (n : ℕ) → HasFetched names n n
fetched_none [] n = refl
fetched_none (name ∷ names) n = inl refl

-- the first was fetched alone
pub fetched_first : (first : List ℕ) (names : List (List ℕ)) (n n' : ℕ) → n' ≡ one_more n
    → HasFetched (first ∷ names) n n'
fetched_first first names n n' one = inr (subst (λ (m : ℕ). HasFetched names (one_more n) m)
    (sym one) (fetched_none names (one_more n)))

-- and then others
pub fetched_more : (first : List ℕ) (names : List (List ℕ)) (n mid n' : ℕ) → mid ≡ one_more n
    → HasFetched names mid n' → HasFetched (first ∷ names) n n'
fetched_more first names n mid n' one more =
    inr (subst (λ (m : ℕ). HasFetched names m n') one more)

-- a shelf whose files and count of faults are as before
pub same_shelf : {F : Type 0} (files : F → Option Store) (faults : F → ℕ) (first now : F)
    → files now ≡ files first → faults now ≡ faults first
    → shelf_at files faults now ≡ shelf_at files faults first
same_shelf files faults first now kept same =
    let with_files : Option Store → SeenShelf = λ v. record { files = v; faults = faults now } in
    let with_faults : ℕ → SeenShelf = λ v. record { files = files first; faults = v } in
    ap with_files kept ∙ ap with_faults same

-- where a file isn't read, more is as before
unread_more : {X K : Type 0} (reading : Reading X K) (kind_name : K → List ℕ)
    (Says : List ℕ → Type 0) (Less More : Type 0) → (Less → More) → (name : List ℕ)
    (s s' : SeenShelf) (n : ℕ)
    → Unread Says Less reading kind_name name s s' n
    → Unread Says More reading kind_name name s s' n
unread_more reading kind_name Says Less More more name s s' n h = record {
  fault = h.fault;
  tells = h.tells;
  rose = h.rose;
  status_is = h.status_is;
  says = h.says;
  untouched = more h.untouched;
}

-- where no file of actions is read, more is as before
pub no_actions : (Says : List ℕ → Type 0) (Less More : Type 0) → (Less → More)
    → (serving : Serving) (s s' : SeenShelf) (n : ℕ) → HasNoActions Says Less serving s s' n
    → HasNoActions Says More serving s s' n
no_actions Says Less More more serving s s' n h = (
  h.0,
  h.1,
  unread_more reading_actions action_kind_name Says Less More more h.0 s s' n h.2,
)

-- connections were answered, or no file of actions is read
pub serve_works : (Says : List ℕ → Type 0) (Less More : Type 0) → (Less → More)
    → {R K : Type 0} (reader : R → Input) (writer : K → SinkView) (listen : List ℕ)
    (connections : ℕ) (serving : Serving) (statics : List Entry) (limits : TwoLimits)
    (old new : Outside R K) (n : ℕ)
    → AnsweredAll Says reader writer connections serving statics limits old new n
    ⊎ HasNoActions Says Less serving old.shelf new.shelf n
    → Works Says More reader writer (serve listen connections serving) statics limits old new n
serve_works Says Less More more reader writer listen connections serving statics limits old new n
    (inl h) = inl h
serve_works Says Less More more reader writer listen connections serving statics limits old new n
    (inr h) = inr (no_actions Says Less More more serving old.shelf new.shelf n h)

-- sessions were joined, or no file of static strings of those that are opened is read
pub relay_works : (Says : List ℕ → Type 0) (Less More : Type 0) → (Less → More)
    → {R K : Type 0} (reader : R → Input) (writer : K → SinkView) (relaying : Relaying)
    (statics : List Entry) (limits : TwoLimits) (old new : Outside R K) (n : ℕ)
    → RelayedAll Says reader writer relaying statics limits old new n
    ⊎ HasNoBack Says Less relaying.back_statics old.shelf new.shelf n
    → Works Says More reader writer (relay relaying) statics limits old new n
relay_works Says Less More more reader writer relaying statics limits old new n (inl h) = inl h
relay_works Says Less More more reader writer relaying statics limits old new n (inr h) = inr (
  h.0,
  h.1,
  unread_more reading_statics table_kind_name Says Less More more h.0 old.shelf new.shelf n h.2,
)

-- connections were answered at once, or no file of actions is read
pub pool_works : (Says : List ℕ → Type 0) (Less More : Type 0) → (Less → More)
    → {R K : Type 0} (reader : R → Input) (writer : K → SinkView) (listen : List ℕ)
    (connections sessions : ℕ) (serving : Serving) (statics : List Entry) (limits : TwoLimits)
    (old new : Outside R K) (n : ℕ)
    → PooledAll Says reader writer connections sessions serving statics limits old new n
    ⊎ HasNoActions Says Less serving old.shelf new.shelf n
    → Works Says More reader writer (pool listen connections sessions serving) statics limits old
    new n
pool_works Says Less More more reader writer listen connections sessions serving statics limits old
    new n (inl h) = inl h
pool_works Says Less More more reader writer listen connections sessions serving statics limits old
    new n (inr h) = inr (no_actions Says Less More more serving old.shelf new.shelf n h)
