-- What holds of each rehearsal.
use Rattle.std.proofs.Common.{◌≡◌, ℕ, false, List, ◌++◌, length, drop, slice_get, Some}
use Rattle.std.proofs.Common.{None, Option, Ok, option_map, sym, ap, ◌∙◌, subst, arith, refl}
use Rattle.std.proofs.lemmas.List.{length-take-le, take-append-drop}
use Rattle.std.proofs.lemmas.Option.{same_Some, slice_get-map}
use Rattle.nbfx_values.specs.declared.content.Item.{Item}
use Rattle.reliable_sequence.specs.declared.{parts.Data.Data, ranges.Range.Range}
use Rattle.reliable_sequence.specs.Laws.{AcknowledgesWhatWasReceived, Always, AreCounted, DeliversInOrder}
use Rattle.reliable_sequence.specs.Laws.{HoldsWhatWasSubmitted, TakesAcknowledgements, TakesDocuments}
use Rattle.reliable_sequence.specs.Made.{data_items, ranges_items}
use Rattle.reliable_sequence.specs.Reading.{acknowledged_from, received_from}
use Rattle.reliable_sequence.specs.Received.{breaks_the_end, Received, received, taken}
use Rattle.reliable_sequence.specs.{Exchange.in_documents, Rehearsal.Rehearsal, Soundness.IsSound}
use Rattle.reliable_sequence.specs.Sent.{acknowledged_among, acknowledged_unless, Sent, sent_without}
use Rattle.reliable_sequence.proofs.{CountFacts.acknowledged-counted, PlaceFacts.body_at_within}
use Rattle.reliable_sequence.proofs.RehearsalFacts.{counted-from, fit, played}
use Rattle.reliable_sequence.proofs.RehearsalFacts.{taken-from}
use Rattle.reliable_sequence.specs.PlainWorld.{World}
use Rattle.reliable_sequence.proofs.WorldFacts.{acknowledged-received, data-accepted, ranges-accepted}

-- a fact of each sound world, after any events
always : (P : Rehearsal → Type 0)
    → ((identifier : List ℕ) (w : World) → IsSound w → P (in_documents identifier w)) → Always P
always P holds identifier window events may =
    let p = played identifier window events may in subst P p.same (holds identifier p.world p.sound)

pub delivers : Always DeliversInOrder
delivers = always DeliversInOrder in-order
  where
    in-order : (identifier : List ℕ) (w : World) → IsSound w
        → DeliversInOrder (in_documents identifier w)
    in-order identifier w s =
        let rest = drop w.receiver.delivered w.bodies in (
          rest,
          ap (λ (xs : List (List Item)). xs ++ rest) s.faithful.holds.in_order
              ∙ take-append-drop w.receiver.delivered w.bodies,
        )

pub holds : Always HoldsWhatWasSubmitted
holds = always HoldsWhatWasSubmitted held
  where
    held : (identifier : List ℕ) (w : World) → IsSound w
        → HoldsWhatWasSubmitted (in_documents identifier w)
    held identifier w s place body found =
        let near = s.faithful.holds.near in
        let within = body_at_within w.receiver.held place body found in
        (s.faithful.holds.held place body found, omega arith)

pub acknowledges : Always AcknowledgesWhatWasReceived
acknowledges =
    always AcknowledgesWhatWasReceived
    (λ identifier w s. acknowledged-received w s.faithful)

pub counts : Always AreCounted
counts = always AreCounted counted
  where
    counted : (identifier : List ℕ) (w : World) → IsSound w → AreCounted (in_documents identifier w)
    counted identifier w s =
        let few = s.faithful.holds.few in
        record {
          submitted = s.faithful.keeps.counted;
          delivered = sym (ap length s.faithful.holds.in_order
              ∙ length-take-le w.receiver.delivered w.bodies (omega arith));
          acknowledged =
              acknowledged-counted w.sender
              ∙ ap (acknowledged_among w.sender) s.faithful.keeps.counted;
        }

-- what is sent
sent-there : {X Y : Type 0} (f : X → Y) (o : Option X) (y : Y) → option_map f o ≡ Some y
    → (x : X) × (o ≡ Some x) × (f x ≡ y)
sent-there f None y e = cc
sent-there f (Some x) y e = (x, refl, same_Some (f x) y e)

taken-whole : (r : Received) (d : Data) → breaks_the_end r d ≡ false
    → received r d ≡ Ok (taken r d)
taken-whole r d e = rw e refl

counted-whole : (s : Sent) (ranges : List Range) (above : Option ℕ) → above ≡ None
    → acknowledged_unless above ranges s ≡ Ok (sent_without s ranges)
counted-whole s ranges above e = rw e refl

pub takes_documents : Always TakesDocuments
takes_documents = always TakesDocuments all
  where
    all : (identifier : List ℕ) (w : World) → IsSound w
        → TakesDocuments (in_documents identifier w)
    all identifier w s at doc e =
        let found = sent-there (data_items identifier) (slice_get w.data_sent at) doc
        (sym (slice_get-map (data_items identifier) w.data_sent at) ∙ e) in
        let d = found.0 in (
          taken w.receiver d,
          subst (λ (x : List Item). received_from identifier w.receiver x ≡ Ok (taken w.receiver d))
              found.2
              (taken-from identifier w s d (fit identifier w s at d found.1) w.receiver
              ∙ taken-whole w.receiver d (data-accepted w s.faithful at d found.1)),
        )

pub takes_acks : Always TakesAcknowledgements
takes_acks = always TakesAcknowledgements all
  where
    all : (identifier : List ℕ) (w : World) → IsSound w
        → TakesAcknowledgements (in_documents identifier w)
    all identifier w s at doc e =
        let found = sent-there (ranges_items identifier) (slice_get w.ranges_sent at) doc
        (sym (slice_get-map (ranges_items identifier) w.ranges_sent at) ∙ e) in
        let ranges = found.0 in (
          sent_without w.sender ranges,
          subst (λ (x : List Item).
              acknowledged_from identifier w.sender x ≡ Ok (sent_without w.sender ranges))
              found.2
              (counted-from identifier w s at ranges found.1 w.sender
              ∙ counted-whole w.sender ranges _ (ranges-accepted w s.faithful at ranges found.1)),
        )
