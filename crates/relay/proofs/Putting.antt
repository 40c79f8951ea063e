-- What a carrier has put of events, with one more, and when its direction begins and ends.
use Rattle.std.proofs.Common.{◌≡◌, ℕ, true, false, List, [], ◌∷◌, ◌++◌}
use Rattle.std.proofs.Common.{Some, None, Ok, Err, Option, Result, sym, refl, ap}
use Rattle.std.proofs.Common.{◌∙◌, subst}
use Rattle.std.proofs.Common.{inl, inr, is_some}
use Rattle.std.specs.Option.{option_map}
use Rattle.nbfx_values.specs.declared.{content.Item.Item, session.Mode.Mode}
use Rattle.nbfx_encoder.specs.declared.faults.EncodeFault.{EncodeFault}
use Rattle.nbfx_encoder.specs.declared.sender.{SendState.SendState, Sender.Sender, Side.Side}
use Rattle.nbfx_encoder.specs.declared.sender.SendState.TheVariants.{Closed, Ready, Spent}
use Rattle.nbfx_encoder.specs.{EncoderState.Refuses, Envelopes.envelope, Placing.Placed}
use Rattle.nbfx_encoder.specs.{Refusals.told, Spelling.encoded, Spelling.Unfit}
use Rattle.nbfx_encoder.specs.Sending.{behind_message, KeepsSettings, kind_in, limits_in, mode_in}
use Rattle.nbfx_encoder.specs.Sending.{names_in, RefusesMessage, Sends, state_in}
use Rattle.nbfx_encoder.specs.declared.sender.SendFault.TheVariants.{Refused as SendRefused}
use Rattle.nbfx_encoder.specs.declared.sender.SendFault.TheVariants.{WrongMoment}
use Rattle.stream_loop.proofs.Parts.{given_stopped}
use Rattle.stream_loop.specs.declared.outbound.Outbound.{Outbound}
use Rattle.stream_loop.specs.declared.outbound.Outbound.TheVariants.{Done, Memory, WriteFault}
use Rattle.stream_loop.specs.Parts.{Part, part, with_part}
use Rattle.stream_loop.specs.PartsGiven.{IsLittle, WasGiven}
use Rattle.io_edges.specs.Views.{SinkView}
use Rattle.session_report.specs.declared.{reading.Event.Event, reading.Received.Received}
use Rattle.relay.specs.declared.carrier.Carrier.{Carrier}
use Rattle.stream_loop.specs.PartsDue.{IsDue}
use Rattle.relay.specs.Events.{has_begun}
use Rattle.relay.specs.Carried.{behind, behind_document, behind_envelope, Carried, carried_by}
use Rattle.relay.specs.Carried.{carries, Carrying, encoded_at, envelope_with, payload_at, sent_at}
use Rattle.relay.specs.Carried.{start, told_for, unfit_at}
use Rattle.relay.specs.Writing.{carrying_of, carrying_with, HasPut, HasStopped, IsAt, IsGoing}
use Rattle.relay.proofs.{Begun.carried_more, Begun.named_more, Begun.still_begun}
use Rattle.stream_loop.proofs.PartsDue.{due_more, due_quietly}
use Rattle.nbfx_encoder.specs.declared.faults.EncodeFault.TheVariants as faults
use Rattle.session_report.specs.declared.reading.Event.TheVariants as heard

-- ---- what is due for a document

-- the part of an envelope counts
abbrev part_of : Mode → Option (Placed (List ℕ)) → Part
part_of mode None = part [] false
part_of mode (Some payload) = part (envelope mode payload.0) true

part_told : (mode : Mode) (payload : Option (Placed (List ℕ)))
    → (part_of mode payload).bytes ≡ envelope_with mode payload
part_told mode None = refl
part_told mode (Some payload) = refl

part_counts : (mode : Mode) (payload : Option (Placed (List ℕ))) (s : Carried)
    → with_part s.documents (part_of mode payload) ≡ (behind_envelope mode payload s).documents
part_counts mode None s = refl
part_counts mode (Some payload) s = refl

same_begun : (mode : Mode) (payload : Option (Placed (List ℕ))) (s : Carried)
    → (behind_envelope mode payload s).begun ≡ s.begun
same_begun mode None s = refl
same_begun mode (Some payload) s = refl

-- where nothing is sent
none_sent : (moment : SendState) (unfit : Option Unfit) (answer : Result (Placed (List ℕ)) Unfit)
    → (moment ≡ Ready → unfit ≡ None → ⊥)
    → (sent_at moment unfit answer ≡ None) × (unfit_at moment unfit answer ≡ unfit)
none_sent Ready None answer never = absurd (never refl refl)
none_sent Ready (Some why) answer never = (refl, refl)
none_sent Spent unfit answer never = (refl, refl)
none_sent Closed unfit answer never = (refl, refl)

told_none : (unfit : Option Unfit) → option_map told unfit ≡ None → unfit ≡ None
told_none None is = refl
told_none (Some why) is = cc

unrefused : (fault : EncodeFault) (payload : Placed (List ℕ)) → (fault ≡ faults.Memory → ⊥)
    → Refuses (Ok payload) fault → ⊥
unrefused faults.Memory payload never refused = never refl
unrefused (faults.TooDeep depth) payload never refused = refused
unrefused (faults.TooMuchContent size) payload never refused = refused
unrefused (faults.NoIdForQName item) payload never refused = refused
unrefused (faults.TooLarge size) payload never refused = refused

told_is : (fault : EncodeFault) (why : Unfit) → (fault ≡ faults.Memory → ⊥)
    → Refuses (Err why) fault → fault ≡ told why
told_is faults.Memory why never refused = absurd (never refl)
told_is (faults.TooDeep depth) why never refused = refused
told_is (faults.TooMuchContent size) why never refused = refused
told_is (faults.NoIdForQName item) why never refused = refused
told_is (faults.TooLarge size) why never refused = refused

module _ (x : Carrying) (first : SinkView) (events : List Event) (received : Received) where
  abbrev message : Event
  message = heard.Message received

  abbrev s : Carried
  s = carried_by x events

  abbrev s' : Carried
  s' = carried_by x (events ++ message ∷ [])

  abbrev behind_is : s' ≡ behind_document x s received.doc
  behind_is = carried_more x events message

  message_due : (payload : Option (Placed (List ℕ))) → payload ≡ payload_at x s received.doc
      → IsDue (carries x) (λ s. s.documents) s message (part_of x.mode payload)
  message_due payload is = (
    part_told x.mode payload ∙ ap (envelope_with x.mode) is,
    part_counts x.mode payload s ∙ ap (λ p. (behind_envelope x.mode p s).documents) is,
  )

  begun_still : s.begun ≡ true → s'.begun ≡ true
  begun_still begun = ap (λ (z : Carried). z.begun) behind_is
      ∙ same_begun x.mode (payload_at x s received.doc) s ∙ begun

  module _ (old new : Carrier) (was now : SinkView) (h : HasPut x first events old was) where
    -- a part was given for it
    put_one : (payload : Option (Placed (List ℕ))) → payload ≡ payload_at x s received.doc
        → WasGiven first (h.parts ++ part_of x.mode payload ∷ []) new.parts now
        → IsLittle new.parts → (IsGoing new → IsAt s' new)
        → HasPut x first (events ++ message ∷ []) new now
    put_one payload is given little at = record {
      parts = h.parts ++ part_of x.mode payload ∷ [];
      due = due_more (carries x) (λ s. s.documents) (start x) events h.parts message
          (part_of x.mode payload) h.due (message_due payload is);
      given = given;
      little = little;
      begun = begun_still h.begun;
      opened = still_begun x.side events (message ∷ []) h.opened;
      named = λ is. let n = named_more events (message ∷ [])
          (subst (λ (e : Side). has_begun e events ≡ true) is h.opened) in
          (n.0 ∙ (h.named is).0, n.1 ∙ (h.named is).1);
      is_at = at;
    }

    -- nothing is due for it
    put_none : payload_at x s received.doc ≡ None → WasGiven first h.parts new.parts now
        → IsLittle new.parts → (IsGoing new → IsAt s' new)
        → HasPut x first (events ++ message ∷ []) new now
    put_none none given little at = record {
      parts = h.parts;
      due = due_quietly (carries x) (λ s. s.documents) (start x) events h.parts message h.due (
        ap (envelope_with x.mode) none,
        ap (λ p. (behind_envelope x.mode p s).documents) none,
      );
      given = given;
      little = little;
      begun = begun_still h.begun;
      opened = still_begun x.side events (message ∷ []) h.opened;
      named = λ is. let n = named_more events (message ∷ [])
          (subst (λ (e : Side). has_begun e events ≡ true) is h.opened) in
          (n.0 ∙ (h.named is).0, n.1 ∙ (h.named is).1);
      is_at = at;
    }

  module _ (c : Carrier) (now : SinkView) (h : HasPut x first events c now) where
    -- the writing had ended
    pub put_stopped : (IsGoing c → ⊥) → HasPut x first (events ++ message ∷ []) c now
    put_stopped never = put_one c c now now h (payload_at x s received.doc) refl
        (given_stopped first h.parts c.parts.whole c.parts.gathered.items c.parts.ends.items now
        c.parts.outbound (part_of x.mode (payload_at x s received.doc)) never h.given) h.little
        (λ going. absurd (never going))

    module _ (new : Carrier) (out : SinkView)
        (gives : (parts : List Part) → WasGiven first parts c.parts now
        → WasGiven first parts new.parts out)
        (little : IsLittle new.parts) (went : IsGoing new → IsGoing c)
        (e_state : state_in new.sender ≡ state_in c.sender)
        (e_names : names_in new.sender ≡ names_in c.sender) (e_unfit : new.unfit ≡ c.unfit) where
      same_at : (z : Carried) → (IsGoing c → IsAt z c) → IsGoing new → IsAt z new
      same_at z is going = let k = is (went going) in record {
        moment_is = e_state ∙ k.moment_is;
        table_is = e_names ∙ k.table_is;
        unfit_is = e_unfit ∙ k.unfit_is;
      }

      -- the mode admits none, or a document before didn't fit
      pub put_nothing : (s.moment ≡ Ready → s.unfit ≡ None → ⊥)
          → HasPut x first (events ++ message ∷ []) new out
      put_nothing never =
          let none = none_sent s.moment s.unfit (encoded_at x s received.doc) never in
          let same : s' ≡ s = behind_is
          ∙ ap (λ p. record (behind_envelope x.mode p s) {
            unfit = unfit_at s.moment s.unfit (encoded_at x s received.doc);
          }) none.0 ∙ ap (λ u. record s { unfit = u }) none.1 in
          put_none c new now out h none.0 (gives h.parts h.given) little
          (λ going. rw same (same_at s h.is_at going))

    -- ---- where one is due

    module _ (going : IsGoing c) (fits : c.unfit ≡ None) (set : x ≡ carrying_of c) where
      abbrev here : IsAt s c
      here = h.is_at going

      fitted : s.unfit ≡ None
      fitted = told_none s.unfit (sym here.unfit_is ∙ fits)

      answer_is : encoded (limits_in c.sender) (kind_in c.sender) (names_in c.sender) received.doc
          ≡ encoded_at x s received.doc
      answer_is = ap (λ t. encoded (limits_in c.sender) (kind_in c.sender) t received.doc)
          here.table_is
          ∙ sym (ap (λ (y : Carrying). encoded y.limits y.kind s.table received.doc) set)

      -- there was no memory
      pub put_starved : (new : Carrier) (out : SinkView)
          → ((parts : List Part) (next : Part) → WasGiven first parts c.parts now
          → WasGiven first (parts ++ next ∷ []) new.parts out)
          → (IsGoing new → ⊥) → IsLittle new.parts
          → HasPut x first (events ++ message ∷ []) new out
      put_starved new out gives stopped little = put_one c new now out h
          (payload_at x s received.doc) refl
          (gives h.parts (part_of x.mode (payload_at x s received.doc)) h.given) little
          (λ going. absurd (stopped going))

      module _ (ready : state_in c.sender ≡ Ready) where
        ready_is : s.moment ≡ Ready
        ready_is = sym here.moment_is ∙ ready

        -- it doesn't fit
        pub put_unfit : (fault : EncodeFault) → (fault ≡ faults.Memory → ⊥)
            → Refuses (encoded (limits_in c.sender) (kind_in c.sender) (names_in c.sender)
            received.doc) fault
            → (new : Carrier) → new.parts ≡ c.parts → new.sender ≡ c.sender
            → new.unfit ≡ Some fault → HasPut x first (events ++ message ∷ []) new now
        put_unfit fault never refuses new e_parts e_sender e_unfit =
            by (encoded_at x s received.doc) refl (rw answer_is at refuses) where
              by : (answer : Result (Placed (List ℕ)) Unfit) → encoded_at x s received.doc ≡ answer
                  → Refuses answer fault → HasPut x first (events ++ message ∷ []) new now
              by (Ok payload) is refused = absurd (unrefused fault payload never refused)
              by (Err why) is refused =
                  let none : payload_at x s received.doc ≡ None =
                  rw (ready_is, fitted, is) refl in
                  let s_is : s' ≡ record s { unfit = Some why } = behind_is
                  ∙ ap (λ p. record (behind_envelope x.mode p s) {
                    unfit = unfit_at s.moment s.unfit (encoded_at x s received.doc);
                  }) none
                  ∙ ap (λ u. record s { unfit = u }) (rw (ready_is, fitted, is) refl) in
                  put_none c new now now h none (rw e_parts h.given) (rw e_parts h.little)
                  (λ going. rw s_is (record {
                    moment_is = ap state_in e_sender ∙ here.moment_is;
                    table_is = ap names_in e_sender ∙ here.table_is;
                    unfit_is = e_unfit ∙ ap Some (told_is fault why never refused);
                  }))

        -- its envelope was appended
        pub put_envelope : (new : Carrier) (sender : Sender) (out : SinkView) (gathered : List ℕ)
            → Sends (encoded (limits_in c.sender) (kind_in c.sender) (names_in c.sender)
            received.doc) (mode_in c.sender) c.parts.gathered.items gathered (names_in sender)
            → state_in sender ≡ behind_message (mode_in c.sender)
            → new.sender ≡ sender → new.unfit ≡ c.unfit
            → ((parts : List Part) (next : Part) → WasGiven first parts c.parts now
            → gathered ≡ c.parts.gathered.items ++ next.bytes → next.counts ≡ true
            → WasGiven first (parts ++ next ∷ []) new.parts out)
            → IsLittle new.parts
            → HasPut x first (events ++ message ∷ []) new out
        put_envelope new sender out gathered sends moved e_sender e_unfit gives little =
            let payload = sends.payload in
            let answer : encoded_at x s received.doc ≡ Ok payload =
            sym answer_is ∙ sends.answer_is in
            let one : payload_at x s received.doc ≡ Some payload =
            rw (ready_is, fitted, answer) refl in
            let mode : x.mode ≡ mode_in c.sender = ap (λ (y : Carrying). y.mode) set in
            let none : unfit_at s.moment s.unfit (encoded_at x s received.doc) ≡ None =
            rw (ready_is, fitted, answer) refl in
            put_one c new now out h (Some payload) (sym one)
            (gives h.parts (part_of x.mode (Some payload)) h.given
            (sends.written ∙ ap (λ m. c.parts.gathered.items ++ envelope m payload.0) (sym mode))
            refl) little
            (λ going. rw behind_is (rw (one, none) (record {
              moment_is = ap state_in e_sender ∙ moved ∙ ap behind_message (sym mode);
              table_is = ap names_in e_sender ∙ sends.table;
              unfit_is = e_unfit ∙ fits;
            })))

-- ---- any other event

module _ (x : Carrying) (first : SinkView) (events : List Event) (c : Carrier) (now : SinkView)
    (h : HasPut x first events c now) where
  pub put_other : (event : Event) → ((received : Received) → event ≡ heard.Message received → ⊥)
      → HasPut x first (events ++ event ∷ []) c now
  put_other event never = record {
    parts = h.parts;
    due = due_quietly (carries x) (λ s. s.documents) (start x) events h.parts event h.due
        ((still event never).1, ap (λ (s : Carried). s.documents) (still event never).0);
    given = h.given;
    little = h.little;
    begun = ap (λ (s : Carried). s.begun) same ∙ h.begun;
    opened = still_begun x.side events (event ∷ []) h.opened;
    named = λ is. let n = named_more events (event ∷ [])
        (subst (λ (e : Side). has_begun e events ≡ true) is h.opened) in
        (n.0 ∙ (h.named is).0, n.1 ∙ (h.named is).1);
    is_at = λ going. rw same (h.is_at going);
  } where
    still : (event : Event) → ((received : Received) → event ≡ heard.Message received → ⊥)
        → (behind x (carried_by x events) event ≡ carried_by x events)
        × (told_for x (carried_by x events) event ≡ [])
    still (heard.Opened mode kind via) never = rw h.begun (refl, refl)
    still heard.Accepted never = rw h.begun (refl, refl)
    still (heard.Message received) never = absurd (never received refl)
    still (heard.Ended n) never = rw h.begun (refl, refl)
    still (heard.PeerFault n text) never = rw h.begun (refl, refl)

    same : carried_by x (events ++ event ∷ []) ≡ carried_by x events
    same = carried_more x events event ∙ (still event never).0

  -- no event more
  pub put_same : (new : Carrier) (out : SinkView)
      → ((parts : List Part) → WasGiven first parts c.parts now
      → WasGiven first parts new.parts out)
      → IsLittle new.parts → (IsGoing new → IsGoing c)
      → state_in new.sender ≡ state_in c.sender → names_in new.sender ≡ names_in c.sender
      → new.unfit ≡ c.unfit → HasPut x first events new out
  put_same new out gives little went e_state e_names e_unfit = record {
    parts = h.parts;
    due = h.due;
    given = gives h.parts h.given;
    little = little;
    begun = h.begun;
    opened = h.opened;
    named = h.named;
    is_at = λ going. let k = h.is_at (went going) in record {
      moment_is = e_state ∙ k.moment_is;
      table_is = e_names ∙ k.table_is;
      unfit_is = e_unfit ∙ k.unfit_is;
    };
  }

  -- a document behind one that didn't fit
  pub put_unable : (received : Received) → (c.unfit ≡ None → ⊥)
      → HasPut x first (events ++ heard.Message received ∷ []) c now
  put_unable received unfit = by c.parts.outbound refl
    where
      by : (o : Outbound) → c.parts.outbound ≡ o
          → HasPut x first (events ++ heard.Message received ∷ []) c now
      by Done going = put_nothing x first events received c now h c now (λ parts given. given)
          h.little (λ on. on) refl refl refl
          (λ ready fits. unfit ((h.is_at going).unfit_is ∙ ap (option_map told) fits))
      by WriteFault is = put_stopped x first events received c now h (λ going. cc)
      by Memory is = put_stopped x first events received c now h (λ going. cc)

-- ---- what a sending half answers

pub none_is : {T : Type 0} (x : Option T) → is_some x ≡ false → x ≡ None
none_is None none = refl
none_is (Some y) none = cc

pub none_or : {T : Type 0} (x : Option T) → is_some x ≡ true → x ≡ None → ⊥
none_or None some none = cc
none_or (Some y) some none = cc

refused_ready : (answer : Result (Placed (List ℕ)) Unfit) (state : SendState) (fault : EncodeFault)
    → RefusesMessage answer state (SendRefused fault)
    → (state ≡ Ready) × Refuses answer fault
refused_ready answer Ready fault refuses = (refl, refuses)
refused_ready answer Spent fault refuses = absurd refuses
refused_ready answer Closed fault refuses = absurd refuses

pub refuses_same : (old new : Sender) (d : List Item) (fault : EncodeFault)
    → KeepsSettings old new → names_in new ≡ names_in old → state_in new ≡ state_in old
    → RefusesMessage (encoded (limits_in old) (kind_in old) (names_in old) d) (state_in old)
    (SendRefused fault)
    → (state_in new ≡ Ready)
    × Refuses (encoded (limits_in new) (kind_in new) (names_in new) d) fault
refuses_same old new d fault keeps names state refuses =
    let r = refused_ready (encoded (limits_in old) (kind_in old) (names_in old) d) (state_in old)
    fault refuses in (
      state ∙ r.0,
      rw (keeps.limits, keeps.kind, names) r.1,
    )

pub late : (answer : Result (Placed (List ℕ)) Unfit) (state other : SendState)
    → RefusesMessage answer state (WrongMoment other) → state ≡ Ready → ⊥
late answer Ready other refuses is = refuses
late answer Spent other refuses is = cc
late answer Closed other refuses is = cc

-- what a message leaves of how a direction is written
pub carrying_same : (old new : Sender) (opening : List ℕ) → KeepsSettings old new
    → carrying_with new opening ≡ carrying_with old opening
carrying_same old new opening keeps =
    rw (keeps.side, keeps.limits, keeps.statics, keeps.mode, keeps.kind) refl

-- nothing has stopped where more may be written
pub unstopped : (c : Carrier) → IsGoing c → c.unfit ≡ None → HasStopped c → ⊥
unstopped c going fits (inl never) = never going
unstopped c going fits (inr over) = c.noted over fits
