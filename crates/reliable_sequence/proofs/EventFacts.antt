-- An event submits one body at most.
use Rattle.std.proofs.Common.{ℕ, ◌+◌, ◌==◌, ◌≤◌, Bool, true, false, List, [], ◌∷◌, length}
use Rattle.std.proofs.Common.{Some, None, Option, Ok, Err, Result, slice_get, arith, if◌then◌else◌}
use Rattle.std.proofs.Common.{length-append, length-drop}
use Rattle.nbfx_values.specs.declared.content.Item.{Item}
use Rattle.reliable_sequence.specs.declared.ranges.Range.{Range}
use Rattle.reliable_sequence.specs.declared.events.Event.{Event, TheVariants.Ack, TheVariants.Data as Hand}
use Rattle.reliable_sequence.specs.declared.events.Event.TheVariants.{Deliver, Send, SendAck, Submit}
use Rattle.reliable_sequence.specs.declared.faults.RmFault.{RmFault}
use Rattle.reliable_sequence.specs.declared.faults.SubmitFault.{TheVariants.Closed}
use Rattle.reliable_sequence.specs.declared.faults.SubmitFault.TheVariants.{WindowFull}
use Rattle.reliable_sequence.specs.Ranges.{first_above}
use Rattle.reliable_sequence.specs.Reading.{ranges_in, then_by}
use Rattle.reliable_sequence.specs.Rehearsal.{after_ack, after_acknowledgement, after_submission, Kept}
use Rattle.reliable_sequence.specs.Rehearsal.{kept_after}
use Rattle.reliable_sequence.specs.Sent.{acknowledged, acknowledged_unless, Sent, sent_with, submitted}
use Rattle.reliable_sequence.specs.Sent.{submitted_count, without_all}
use Rattle.reliable_sequence.specs.Slots.{leading_free}
use Rattle.reliable_sequence.proofs.{SentFacts.length-without_all, SlotFacts.leading_free-le}

one-submitted : (s : Sent) (body : List Item) (last : Bool)
    → submitted_count (after_submission s (submitted s body last)) ≤ submitted_count s + 1
one-submitted s body last = go s.closed (length s.unacknowledged == s.window)
  where
    go : (closed full : Bool)
        → submitted_count (after_submission s (if closed then Err Closed
        else if full then Err (WindowFull (length s.unacknowledged))
        else Ok (submitted_count s + 1, sent_with s body last)))
        ≤ submitted_count s + 1
    go true full = omega arith
    go false true = omega arith
    go false false =
        let long = length-append s.unacknowledged (Some body ∷ []) in omega arith

same-acknowledged : (s : Sent) (ranges : List Range) (above : Option ℕ)
    → submitted_count (after_acknowledgement s (acknowledged_unless above ranges s))
    ≤ submitted_count s + 1
same-acknowledged s ranges None =
    let slots = without_all s.front s.unacknowledged ranges in
    let long = length-without_all s.front s.unacknowledged ranges in
    let few = leading_free-le slots in
    let left = length-drop (leading_free slots) slots in
    omega arith
same-acknowledged s ranges (Some upper) = omega arith

same-after_ack : (identifier : List ℕ) (s : Sent) (doc : Option (List Item))
    → submitted_count (after_ack identifier s doc) ≤ submitted_count s + 1
same-after_ack identifier s None = omega arith
same-after_ack identifier s (Some doc) = go (ranges_in identifier doc)
  where
    go : (read : Result (List Range) RmFault)
        → submitted_count (after_acknowledgement s (then_by read (acknowledged s)))
        ≤ submitted_count s + 1
    go (Err fault) = omega arith
    go (Ok ranges) = same-acknowledged s ranges (first_above (submitted_count s) ranges)

pub one-more-at-most : (k : Kept) (event : Event)
    → submitted_count (kept_after k event).sender ≤ submitted_count k.sender + 1
one-more-at-most k (Submit body last) = one-submitted k.sender body last
one-more-at-most k (Send number) = omega arith
one-more-at-most k (Hand at) = omega arith
one-more-at-most k Deliver = omega arith
one-more-at-most k SendAck = omega arith
one-more-at-most k (Ack at) =
    same-after_ack k.identifier k.sender (slice_get k.acknowledgements at)
