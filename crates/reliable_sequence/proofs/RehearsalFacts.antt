-- A rehearsal is the world of numbers, bodies and ranges, with a document for each that is sent.
use Rattle.std.proofs.Common.{◌≡◌, ℕ, ◌-◌, ◌^◌, ◌<◌, true, List, [], ◌∷◌, ◌++◌, length, map}
use Rattle.std.proofs.Common.{slice_get, Some, None, Option, Ok, Err, Result, option_map, refl, sym, ap, ◌∙◌}
use Rattle.std.proofs.Common.{subst, arith, append-nil, inl, inr, length-append}
use Rattle.std.proofs.lemmas.List.{map-append}
use Rattle.std.proofs.lemmas.Option.{slice_get-map, slice_get_within}
use Rattle.std.specs.Option.{option_to_list}
use Rattle.nbfx_values.specs.declared.content.Item.{Item}
use Rattle.reliable_sequence.specs.declared.{parts.Data.Data, parts.Taken.Taken, ranges.Range.Range}
use Rattle.reliable_sequence.specs.declared.events.Event.{Event, TheVariants.Ack, TheVariants.Data as Hand}
use Rattle.reliable_sequence.specs.declared.events.Event.TheVariants.{Deliver, Send, SendAck, Submit}
use Rattle.reliable_sequence.specs.declared.faults.{RmFault.RmFault, SubmitFault.SubmitFault}
use Rattle.reliable_sequence.specs.DocumentLaws.{IsFit}
use Rattle.reliable_sequence.specs.Made.{data_items, ranges_items}
use Rattle.reliable_sequence.specs.Ranges.{rise_from}
use Rattle.reliable_sequence.specs.Reading.{acknowledged_from, received_from, then_by}
use Rattle.reliable_sequence.specs.Received.{Received, received, received_ranges}
use Rattle.reliable_sequence.specs.Rehearsal.{after_ack, after_acknowledgement, after_document}
use Rattle.reliable_sequence.specs.Rehearsal.{after_receipt, after_submission, if_submitted, IsBody}
use Rattle.reliable_sequence.specs.Rehearsal.{IsReached, Kept, kept_after, MayGo, MayHappen}
use Rattle.reliable_sequence.specs.Rehearsal.{new_rehearsal, Rehearsal, rehearsal, rehearsed}
use Rattle.reliable_sequence.specs.Sent.{acknowledged, data_of, Sent, submitted}
use Rattle.reliable_sequence.proofs.NumberFacts.{below-more}
use Rattle.reliable_sequence.specs.{Exchange.in_documents, Ranges.Below}
use Rattle.reliable_sequence.specs.Soundness.{IsFaithful, IsSound}
use Rattle.reliable_sequence.proofs.PlaceFacts.{slice_get-push}
use Rattle.reliable_sequence.proofs.{ReadData.data-read, ReadRanges.ranges-read, RangeLaws.rising}
use Rattle.reliable_sequence.specs.PlainWorld.{after_arrival, after_receipt as received_then}
use Rattle.reliable_sequence.specs.PlainWorld.{after_acknowledgement as acknowledged_then}
use Rattle.reliable_sequence.specs.PlainWorld.{after_submission as submitted_then, happens, new_world}
use Rattle.reliable_sequence.specs.PlainWorld.{with_sender, World}
use Rattle.reliable_sequence.proofs.WorldFacts.{faithful-happens, faithful-new}

-- so are those of a world with the same bodies and ranges
same-sound : (w next : World) → IsSound w → IsFaithful next → next.bodies ≡ w.bodies
    → next.ranges_sent ≡ w.ranges_sent → IsSound next
same-sound w next s faithful bodies ranges = record {
  faithful = faithful;
  bodies = λ at body e.
      s.bodies at body (ap (λ (xs : List (List Item)). slice_get xs at) (sym bodies) ∙ e);
  few = let long = ap length bodies in let few = s.few in omega arith;
  rising = λ at rs e.
      s.rising at rs (ap (λ (xs : List (List Range)). slice_get xs at) (sym ranges) ∙ e);
}

pub sound-new : (window : ℕ) → IsSound (new_world window)
sound-new window = record {
  faithful = faithful-new window;
  bodies = λ at body e. cc;
  few = omega arith;
  rising = λ at rs e. cc;
}

-- one more at the end, if there is one
pub one-more : {X Y : Type 0} (f : X → Y) (xs : List X) (o : Option X)
    → map f xs ++ option_to_list (option_map f o) ≡ map f (xs ++ option_to_list o)
one-more f xs None = append-nil (map f xs) ∙ ap (map f) (sym (append-nil xs))
one-more f xs (Some x) = sym (map-append f xs (x ∷ []))

module _ (identifier : List ℕ) (w : World) (s : IsSound w) where
  -- what is sent may stand in a document, which is taken as what it sends
  pub fit : (at : ℕ) (d : Data) → slice_get w.data_sent at ≡ Some d → IsFit d
  fit at d e =
      let sent = s.faithful.data_sent at d e in
      let some = sent.counted in
      let within = slice_get_within w.bodies (d.number - 1) d.body sent.body in
      let body = s.bodies (d.number - 1) d.body sent.body in
      let few = s.few in
      record { content = body.content; named = body.named; some = omega arith; small = omega arith }

  pub taken-from : (d : Data) → IsFit d → (r : Received)
      → received_from identifier r (data_items identifier d) ≡ received r d
  taken-from d fits r =
      ap (λ x. then_by x (received r))
      (data-read identifier d fits.content fits.named fits.some fits.small)

  -- and ranges
  small : (at : ℕ) (ranges : List Range) → slice_get w.ranges_sent at ≡ Some ranges
      → Below (2 ^ 63 - 1) ranges
  small at ranges e =
      let few = s.few in
      let newest = s.faithful.holds.few in
      below-more _ (2 ^ 63 - 1) ranges (omega arith) (s.faithful.ranges_sent at ranges e).below

  pub counted-from : (at : ℕ) (ranges : List Range) → slice_get w.ranges_sent at ≡ Some ranges
      → (end : Sent)
      → acknowledged_from identifier end (ranges_items identifier ranges)
      ≡ acknowledged end ranges
  counted-from at ranges e end =
      ap (λ x. then_by x (acknowledged end))
      (ranges-read identifier ranges (s.rising at ranges e) (small at ranges e))

  -- the rehearsal with another end
  abbrev with_receiving : Received → Rehearsal
  with_receiving r =
      record (in_documents identifier w) {
        kept = record (in_documents identifier w).kept
            { receiver = r };
      }

  abbrev with_sending : Sent → Rehearsal
  with_sending end =
      record (in_documents identifier w) {
        kept = record (in_documents identifier w).kept
            { sender = end };
      }

  arrival : (sent : Option Data) → ((d : Data) → sent ≡ Some d → IsFit d)
      → with_receiving (after_document identifier w.receiver (option_map (data_items identifier)
      sent))
      ≡ in_documents identifier (after_arrival w sent)
  arrival None fits = refl
  arrival (Some d) fits =
      ap (λ a. with_receiving (after_receipt w.receiver a)) (taken-from d (fits d refl) w.receiver)
      ∙ go (received w.receiver d)
    where
      go : (answer : Result (Taken × Received) RmFault)
          → with_receiving (after_receipt w.receiver answer)
          ≡ in_documents identifier (received_then w answer)
      go (Ok taken) = refl
      go (Err fault) = refl

  arrival-keeps : (sent : Option Data)
      → ((after_arrival w sent).bodies ≡ w.bodies)
      × ((after_arrival w sent).ranges_sent ≡ w.ranges_sent)
  arrival-keeps None = (refl, refl)
  arrival-keeps (Some d) = go (received w.receiver d)
    where
      go : (answer : Result (Taken × Received) RmFault)
          → ((received_then w answer).bodies ≡ w.bodies)
          × ((received_then w answer).ranges_sent ≡ w.ranges_sent)
      go (Ok taken) = (refl, refl)
      go (Err fault) = (refl, refl)

  answer : (at : ℕ) (ranges : Option (List Range)) → slice_get w.ranges_sent at ≡ ranges
      → with_sending (after_ack identifier w.sender (option_map (ranges_items identifier) ranges))
      ≡ in_documents identifier (acknowledged_then w ranges)
  answer at None e = refl
  answer at (Some ranges) e =
      ap (λ a. with_sending (after_acknowledgement w.sender a)) (counted-from at ranges e w.sender)
      ∙ go (acknowledged w.sender ranges)
    where
      go : (next : Result Sent RmFault)
          → with_sending (after_acknowledgement w.sender next)
          ≡ in_documents identifier (with_sender w next)
      go (Ok end) = refl
      go (Err fault) = refl

  answer-keeps : (ranges : Option (List Range))
      → ((acknowledged_then w ranges).bodies ≡ w.bodies)
      × ((acknowledged_then w ranges).ranges_sent ≡ w.ranges_sent)
  answer-keeps None = (refl, refl)
  answer-keeps (Some ranges) = go (acknowledged w.sender ranges)
    where
      go : (next : Result Sent RmFault)
          → ((with_sender w next).bodies ≡ w.bodies)
          × ((with_sender w next).ranges_sent ≡ w.ranges_sent)
      go (Ok end) = (refl, refl)
      go (Err fault) = (refl, refl)

  -- an event that submits and delivers nothing
  nothing-more : (k : Kept)
      → let here = in_documents identifier w in
      record here { kept = k; bodies = w.bodies ++ []; delivered = w.delivered ++ [] }
      ≡ record here { kept = k }
  nothing-more k =
      ap (λ (bodies : List (List Item)). record (in_documents identifier w) {
        kept = k;
        bodies = bodies;
        delivered = w.delivered ++ [];
      }) (append-nil w.bodies)
      ∙ ap (λ (delivered : List (List Item)). record (in_documents identifier w) {
        kept = k;
        delivered = delivered;
      }) (append-nil w.delivered)

  submission : (body : List Item) (answer : Result (ℕ × Sent) SubmitFault)
      → let here = in_documents identifier w in
      record here {
        kept = record here.kept { sender = after_submission w.sender answer };
        bodies = w.bodies ++ option_to_list (if_submitted body answer);
        delivered = w.delivered ++ [];
      }
      ≡ in_documents identifier (submitted_then w body answer)
  submission body (Ok accepted) =
      ap (λ (delivered : List (List Item)). in_documents identifier (record w {
        sender = accepted.1;
        bodies = w.bodies ++ body ∷ [];
        delivered = delivered;
      })) (append-nil w.delivered)
  submission body (Err fault) = nothing-more (in_documents identifier w).kept

  submission-sound : (body : List Item) → IsBody body → length w.bodies < 2 ^ 63 - 1
      → (answer : Result (ℕ × Sent) SubmitFault) → IsFaithful (submitted_then w body answer)
      → IsSound (submitted_then w body answer)
  submission-sound body fits few (Err fault) faithful = s
  submission-sound body fits few (Ok accepted) faithful = record {
    faithful = faithful;
    bodies = λ at found e.
        elim (slice_get-push w.bodies body at found e) [
          | inl before ↦ s.bodies at found before
          | inr this ↦ subst IsBody this.1 fits
        ];
    few = let long = length-append w.bodies (body ∷ []) in omega arith;
    rising = s.rising;
  }

  -- each event happens in documents as it does without
  pub rehearsed-as : (event : Event)
      → rehearsed (in_documents identifier w) event ≡ in_documents identifier (happens w event)
  rehearsed-as (Submit body last) = submission body (submitted w.sender body last)
  rehearsed-as (Send number) =
      nothing-more (kept_after (in_documents identifier w).kept (Send number))
      ∙ ap (λ (documents : List (List Item)). record (in_documents identifier w) {
        kept = record (in_documents identifier w).kept { documents = documents };
      }) (one-more (data_items identifier) w.data_sent (data_of w.sender number))
  rehearsed-as (Hand at) =
      nothing-more (kept_after (in_documents identifier w).kept (Hand at))
      ∙ ap (λ o. with_receiving (after_document identifier w.receiver o))
      (slice_get-map (data_items identifier) w.data_sent at)
      ∙ arrival (slice_get w.data_sent at) (λ d e. fit at d e)
  rehearsed-as Deliver =
      ap (λ (bodies : List (List Item)). record (in_documents identifier (happens w Deliver)) {
        bodies = bodies;
      }) (append-nil w.bodies)
  rehearsed-as SendAck =
      nothing-more (kept_after (in_documents identifier w).kept SendAck)
      ∙ ap (λ (acknowledgements : List (List Item)). record (in_documents identifier w) {
        kept = record (in_documents identifier w).kept { acknowledgements = acknowledgements };
      }) (sym (map-append (ranges_items identifier) w.ranges_sent
      (received_ranges w.receiver ∷ [])))
  rehearsed-as (Ack at) =
      nothing-more (kept_after (in_documents identifier w).kept (Ack at))
      ∙ ap (λ o. with_sending (after_ack identifier w.sender o))
      (slice_get-map (ranges_items identifier) w.ranges_sent at)
      ∙ answer at (slice_get w.ranges_sent at) refl

  pub sound-happens : (event : Event) → MayHappen (in_documents identifier w).kept event
      → IsSound (happens w event)
  sound-happens (Submit body last) may =
      let counted = s.faithful.keeps.counted in
      let few = may.few in
      submission-sound body may.fits (omega arith) (submitted w.sender body last)
      (faithful-happens w s.faithful (Submit body last))
  sound-happens (Send number) may =
      same-sound w (happens w (Send number)) s (faithful-happens w s.faithful (Send number)) refl
      refl
  sound-happens (Hand at) may =
      let keeps = arrival-keeps (slice_get w.data_sent at) in
      same-sound w (happens w (Hand at)) s (faithful-happens w s.faithful (Hand at)) keeps.0 keeps.1
  sound-happens Deliver may =
      same-sound w (happens w Deliver) s (faithful-happens w s.faithful Deliver) refl refl
  sound-happens SendAck may = record {
    faithful = faithful-happens w s.faithful SendAck;
    bodies = s.bodies;
    few = s.few;
    rising = λ at ranges e.
        elim (slice_get-push w.ranges_sent (received_ranges w.receiver) at ranges e) [
          | inl before ↦ s.rising at ranges before
          | inr this ↦ subst (λ (rs : List Range). rise_from 1 rs ≡ true) this.1 (rising w.receiver)
        ];
  }
  sound-happens (Ack at) may =
      let keeps = answer-keeps (slice_get w.ranges_sent at) in
      same-sound w (happens w (Ack at)) s (faithful-happens w s.faithful (Ack at)) keeps.0 keeps.1

-- so do all events, one after the other
pub record IsPlayed (identifier : List ℕ) (r : Rehearsal) : Type 0 where
  pub world : World
  pub sound : IsSound world
  pub same : in_documents identifier world ≡ r

played-on : (identifier : List ℕ) (events : List Event) (w : World) → IsSound w
    → MayGo (in_documents identifier w) events
    → IsPlayed identifier (rehearsal (in_documents identifier w) events)
played-on identifier [] w s may = record { world = w; sound = s; same = refl }
played-on identifier (event ∷ more) w s may =
    let is = rehearsed-as identifier w s event in
    subst (λ (r : Rehearsal). IsPlayed identifier (rehearsal r more)) (sym is)
    (played-on identifier more (happens w event) (sound-happens identifier w s event may.0)
    (subst (λ (r : Rehearsal). MayGo r more) is may.1))

pub played : (identifier : List ℕ) (window : ℕ) (events : List Event)
    → MayGo (new_rehearsal identifier window) events
    → IsPlayed identifier (rehearsal (new_rehearsal identifier window) events)
played identifier window events may =
    played-on identifier events (new_world window) (sound-new window) may

-- a rehearsal goes on by an event
go-on : (r : Rehearsal) (events : List Event) (event : Event) → MayGo r events
    → MayHappen (rehearsal r events).kept event → MayGo r (events ++ event ∷ [])
go-on r [] event went may = (may, tt)
go-on r (first ∷ more) event went may = (went.0, go-on (rehearsed r first) more event went.1 may)

gone-on : (r : Rehearsal) (events : List Event) (event : Event)
    → rehearsal r (events ++ event ∷ []) ≡ rehearsed (rehearsal r events) event
gone-on r [] event = refl
gone-on r (first ∷ more) event = gone-on (rehearsed r first) more event

reached-on : (identifier : List ℕ) (window : ℕ) (events : List Event) (k next : Kept)
    (event : Event)
    → MayGo (new_rehearsal identifier window) events
    → (rehearsal (new_rehearsal identifier window) events).kept ≡ k → MayHappen k event
    → kept_after k event ≡ next → next.identifier ≡ identifier → IsReached next
reached-on identifier window events k next event went here may is same =
    let new = new_rehearsal identifier window in
    let all = events ++ event ∷ [] in
    let there : (rehearsal new all).kept ≡ next =
    ap (λ (r : Rehearsal). r.kept) (gone-on new events event)
    ∙ ap (λ (b : Kept). kept_after b event) here ∙ is in
    record {
      window = window;
      events = all;
      went = subst (λ (i : List ℕ). MayGo (new_rehearsal i window) all) (sym same)
          (go-on new events event went (subst (λ (b : Kept). MayHappen b event) (sym here) may));
      here = subst (λ (i : List ℕ). (rehearsal (new_rehearsal i window) all).kept ≡ next) (sym same)
          there;
    }

pub reached-new : (identifier : List ℕ) (window : ℕ)
    → IsReached (new_rehearsal identifier window).kept
reached-new identifier window = record { window = window; events = []; went = tt; here = refl }

same-identifier : (k : Kept) (event : Event) → (kept_after k event).identifier ≡ k.identifier
same-identifier k (Submit body last) = refl
same-identifier k (Send number) = refl
same-identifier k (Hand at) = refl
same-identifier k Deliver = refl
same-identifier k SendAck = refl
same-identifier k (Ack at) = refl

pub reached-after : (k : Kept) (event : Event) → IsReached k → MayHappen k event
    → IsReached (kept_after k event)
reached-after k event reached may =
    reached-on k.identifier reached.window reached.events k (kept_after k event) event reached.went
    reached.here may refl (same-identifier k event)
