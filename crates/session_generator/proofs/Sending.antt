-- What the steps of a session answer, by what its ends do.
use Rattle.std.proofs.Common.{◌≡◌, ℕ, ◌≤◌, false, List, [], ◌∷◌, ◌++◌, length, IfErr, OnOk, Ok, Err}
use Rattle.std.proofs.Common.{Result, sym, refl, ap, ◌∙◌, subst, append-nil}
use Rattle.{std.specs.Prelude.⊤, receiver_machine.specs.declared.receiver.Receiver.Receiver}
use Rattle.unit_streams.specs.{Grammar.standing, Judging.answer, Judging.is_over_at}
use Rattle.string_tables.specs.StaticStrings.{Entry, IsStaticMap}
use Rattle.nbfx_values.specs.declared.{content.Item.Item, session.Mode.TheVariants.Duplex}
use Rattle.nbfx_values.specs.declared.session.Kind.TheVariants.{Session as WithStrings}
use Rattle.nbfx_values.specs.Limits.{IsGood, Limits}
use Rattle.nbfx_encoder.specs.declared.sender.{SendFault.SendFault, SendState.SendState}
use Rattle.nbfx_encoder.specs.declared.sender.SendFault.TheVariants.{Refused, WrongMoment}
use Rattle.nbfx_encoder.specs.declared.sender.SendState.TheVariants.{Closed, Ready}
use Rattle.nbfx_encoder.specs.{declared.sender.Side.TheVariants.Initiator, Placing.Placed}
use Rattle.nbfx_encoder.specs.Sending.{behind_message, KeepsSettings, kind_in, limits_in, mode_in}
use Rattle.nbfx_encoder.specs.Sending.{names_in, RefusesMessage, Sends, side_in, state_in}
use Rattle.nbfx_encoder.specs.Spelling.{encoded, Unfit}
use Rattle.stream_reader.specs.{Judging.offence, Stream.any_initiators, Stream.stream}
use Rattle.receiver_machine.specs.ReceiverState.{settings_of, StandsFor}
use Rattle.{session_ends.specs.Sent.first_table, session_generator.proofs.Whole.opening_taken}
use Rattle.session_generator.specs.declared.ends.{Ends.Ends, GenFault.GenFault}
use Rattle.session_generator.specs.declared.ends.GenFault.TheVariants.{Memory, SessionTooLong}
use Rattle.session_generator.specs.{declared.session.Session.Session, Generated.opening}
use Rattle.session_generator.specs.{Ends.HaveSession, Ends.IsWhyNone, Faults.IsWantOfMemory}
use Rattle.session_generator.specs.UnderWay.{CanSend, IsReadSo, IsUnderWay, Stops, WhereUnderWay}
use Rattle.session_generator.proofs.Answered.{first_going, has_read, HasReadSo}
use Rattle.session_generator.proofs.Carrying.{end_is_taken, end_stopped, ended, front, is_taken}
use Rattle.session_generator.proofs.Carrying.{sent_on, short, still_going, stopped}
use Rattle.nbfx_encoder.specs.declared.faults.EncodeFault.TheVariants as refusals

-- a document that fits is refused for want of memory alone
pub only_memory : (answer : Result (Placed (List ℕ)) Unfit) (state : SendState) (fault : SendFault)
    (payload : Placed (List ℕ)) → RefusesMessage answer state fault → state ≡ Ready
    → answer ≡ Ok payload → IsWantOfMemory fault
only_memory answer state fault payload h ready fits =
    by fault (subst (λ a. RefusesMessage a Ready fault) fits
    (subst (λ s. RefusesMessage answer s fault) ready h))
  where
    by : (fault : SendFault) → RefusesMessage (Ok payload) Ready fault → IsWantOfMemory fault
    by (WrongMoment state) h = absurd h
    by (Refused refusals.Memory) h = tt
    by (Refused (refusals.TooDeep depth)) h = absurd h
    by (Refused (refusals.TooMuchContent size)) h = absurd h
    by (Refused (refusals.NoIdForQName item)) h = absurd h
    by (Refused (refusals.TooLarge size)) h = absurd h

-- what a call of `read` says of a receiver
abbrev pub ReadSays : Receiver → List ℕ → Receiver → Result ⊤ GenFault → Type 0
ReadSays old bytes new result = (p : List ℕ) → StandsFor old p
    → is_over_at (stream (settings_of old)) p ≡ false
    → IsReadSo (answer (stream (settings_of old)) p bytes) p bytes new result

-- no more bytes were read than the quota admits
abbrev pub IsShort : Receiver → Type 0
IsShort r = (p : List ℕ) → StandsFor r p → length p ≤ (settings_of r).limits.session

module _ (s : Session) (d : List Item) (can : CanSend s d) (cleared out bytes : List ℕ)
    (t : Session) (none : cleared ≡ []) (same : bytes ≡ out)
    (sends : Sends (encoded (limits_in s.sender) (kind_in s.sender) (names_in s.sender) d)
    (mode_in s.sender) cleared out (names_in t.sender)) (few : IsShort s.receiver)
    (result : Result ⊤ GenFault) (says : ReadSays s.receiver bytes t.receiver result) where
  sends_bytes : Sends (encoded (limits_in s.sender) (kind_in s.sender) (names_in s.sender) d)
      (mode_in s.sender) [] bytes (names_in t.sender)
  sends_bytes =
      subst (λ b. Sends (encoded (limits_in s.sender) (kind_in s.sender) (names_in s.sender) d)
      (mode_in s.sender) [] b (names_in t.sender)) (sym same)
      (subst (λ c. Sends (encoded (limits_in s.sender) (kind_in s.sender) (names_in s.sender) d)
      (mode_in s.sender) c out (names_in t.sender)) none sends)

  module _ (l : Limits) (statics : List Entry) (done : List (List Item)) (good : IsGood l)
      (is_map : IsStaticMap statics) (u : IsUnderWay l statics done s) where
    read_on : HasReadSo (any_initiators statics l) (front statics l good is_map done s u) bytes
        t.receiver result
    read_on =
        has_read (any_initiators statics l) (front statics l good is_map done s u) bytes t.receiver
        s.receiver result u.settings_are u.read (still_going statics l good is_map done s u)
        (is_taken statics l good is_map done s u (short statics l good is_map done s u few) d can
        bytes (names_in t.sender) sends_bytes)
        says

  pub sent_says : KeepsSettings s.sender t.sender
      → state_in t.sender ≡ behind_message (mode_in s.sender)
      → settings_of t.receiver ≡ settings_of s.receiver
      → OnOk result (WhereUnderWay s (λ l statics done. IsUnderWay l statics (done ++ d ∷ []) t))
  sent_says kept state settings = by result refl
    where
      by : (v : Result ⊤ GenFault) → result ≡ v
          → OnOk v (WhereUnderWay s (λ l statics done. IsUnderWay l statics (done ++ d ∷ []) t))
      by (Ok v) is = λ l statics done good is_map u.
          sent_on statics l good is_map done s u (short statics l good is_map done s u few) d can
          bytes (names_in t.sender) sends_bytes t refl kept state settings
          (subst (HasReadSo (any_initiators statics l) (front statics l good is_map done s u) bytes
          t.receiver) is (read_on l statics done good is_map u))
      by (Err fault) is = tt

  pub stopped_says : IfErr result (λ fault. WhereUnderWay s (λ l statics done.
      Stops l statics (done ++ d ∷ []) fault))
  stopped_says = by result refl
    where
      by : (v : Result ⊤ GenFault) → result ≡ v → IfErr v (λ fault. WhereUnderWay s
          (λ l statics done. Stops l statics (done ++ d ∷ []) fault))
      by (Ok v) is = tt
      by (Err fault) is = λ l statics done good is_map u.
          stopped statics l good is_map done s u (short statics l good is_map done s u few) d can
          bytes (names_in t.sender) sends_bytes t.receiver fault
          (subst (HasReadSo (any_initiators statics l) (front statics l good is_map done s u) bytes
          t.receiver) is (read_on l statics done good is_map u))

-- the End record
module _ (s : Session) (end : ℕ) (is_end : end ≡ 7) (new : Receiver) (few : IsShort s.receiver)
  where
    module _ (l : Limits) (statics : List Entry) (done : List (List Item)) (good : IsGood l)
        (is_map : IsStaticMap statics) (u : IsUnderWay l statics done s)
        (result : Result ⊤ GenFault)
        (says : ReadSays s.receiver (end ∷ []) new result) where
      end_read : HasReadSo (any_initiators statics l) (front statics l good is_map done s u)
          (7 ∷ [])
          new result
      end_read =
          has_read (any_initiators statics l) (front statics l good is_map done s u) (7 ∷ []) new
          s.receiver result u.settings_are u.read (still_going statics l good is_map done s u)
          (end_is_taken statics l good is_map done s u (short statics l good is_map done s u few))
          (subst (λ e. ReadSays s.receiver (e ∷ []) new result) is_end says)

    pub ended_says : ReadSays s.receiver (end ∷ []) new (Ok tt) → (ends : Ends)
        → ends.receiver ≡ new → state_in ends.sender ≡ Closed
        → names_in ends.sender ≡ names_in s.sender
        → KeepsSettings s.sender ends.sender
        → settings_of new ≡ settings_of s.receiver
        → ((p : List ℕ) → StandsFor new p
        → ends.documents ≡ (standing (stream (settings_of new)) p).situation.messages)
        → ((p : List ℕ) → StandsFor new p → ends.bytes ≡ length p)
        → IsShort new
        → WhereUnderWay s (λ l statics done. HaveSession l statics done ends)
    ended_says says ends same closed names kept settings messages bytes low =
        λ l statics done good is_map u.
        let stands = end_read l statics done good is_map u (Ok tt) says in
        ended statics l good is_map done s u (short statics l good is_map done s u few) ends closed
        names kept (ap settings_of same ∙ settings)
        (subst (λ r. StandsFor r (front statics l good is_map done s u ++ 7 ∷ [])) (sym same)
        stands)
        (messages _ stands
        ∙ ap (λ r.
        (standing (stream (settings_of r)) (front statics l good is_map done s u ++ 7
        ∷ [])).situation.messages)
        (sym same))
        (bytes _ stands)
        (subst (λ r. length (front statics l good is_map done s u ++ 7 ∷ [])
        ≤ (settings_of r).limits.session)
        (sym same) (low _ stands))

    pub end_stopped_says : (fault : GenFault) → ReadSays s.receiver (end ∷ []) new (Err fault)
        → WhereUnderWay s (λ l statics done. IsWhyNone l statics done fault)
    end_stopped_says fault says = λ l statics done good is_map u.
        end_stopped statics l good is_map done s u (short statics l good is_map done s u few) new
        fault (end_read l statics done good is_map u (Err fault) says)

-- the opening
module _ (statics : List Entry) (l : Limits) (good : IsGood l) (is_map : IsStaticMap statics)
    (old new : Receiver) (bytes : List ℕ) (is_opening : bytes ≡ opening)
    (stands : StandsFor old []) (settings : settings_of old ≡ any_initiators statics l)
    (result : Result ⊤ GenFault) (says : ReadSays old bytes new result) where
  opening_read : HasReadSo (any_initiators statics l) [] opening new result
  opening_read =
      has_read (any_initiators statics l) [] opening new old result settings stands
      (first_going (any_initiators statics l)) (opening_taken statics l good is_map)
      (subst (λ b. ReadSays old b new result) is_opening says)

  pub opened_says : (t : Session) → result ≡ Ok tt → t.receiver ≡ new
      → limits_in t.sender ≡ l → kind_in t.sender ≡ WithStrings → mode_in t.sender ≡ Duplex
      → side_in t.sender ≡ Initiator → state_in t.sender ≡ Ready
      → names_in t.sender ≡ first_table statics
      → settings_of new ≡ settings_of old → IsUnderWay l statics [] t
  opened_says t is same limits kind mode side state names kept = record {
    sent = ([], first_table statics);
    all_fit = refl;
    are_documents = tt;
    names = names;
    limits_are = limits;
    kind_is = kind;
    mode_is = mode;
    side_is = side;
    state_is = state;
    settings_are = ap settings_of same ∙ kept ∙ settings;
    read = subst (λ r. StandsFor r (opening ++ [])) (sym same)
        (subst (StandsFor new) (sym (append-nil opening))
        (subst (HasReadSo (any_initiators statics l) [] opening new) is opening_read));
  }

  pub opening_stops : (fault : GenFault) → result ≡ Err fault → Stops l statics [] fault
  opening_stops fault is =
      by fault (subst (HasReadSo (any_initiators statics l) [] opening new) is opening_read)
    where
      by : (fault : GenFault) → HasReadSo (any_initiators statics l) [] opening new (Err fault)
          → Stops l statics [] fault
      by (SessionTooLong o) (reason, follows) = record {
        sent = ([], first_table statics);
        all_fit = refl;
        refused = (
          reason,
          λ rest. ap (λ b. offence (any_initiators statics l) (b ++ rest)) (append-nil opening)
              ∙ follows rest,
        );
      }
      by Memory h = tt

-- want of memory stops anything
pub memory_stops : (l : Limits) (statics : List Entry) (done : List (List Item)) (fault : GenFault)
    → fault ≡ Memory → Stops l statics done fault
memory_stops l statics done fault is = subst (Stops l statics done) (sym is) tt

pub memory_is_why : (l : Limits) (statics : List Entry) (documents : List (List Item))
    (fault : GenFault) → fault ≡ Memory → IsWhyNone l statics documents fault
memory_is_why l statics documents fault is = subst (IsWhyNone l statics documents) (sym is) tt
