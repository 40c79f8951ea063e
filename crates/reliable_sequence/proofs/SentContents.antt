-- Each body that isn't acknowledged may stand inside an element.
use Rattle.std.proofs.Common.{◌≡◌, ℕ, ◌+◌, ◌==◌, Bool, true, false, List, [], ◌∷◌, ◌++◌, length}
use Rattle.std.proofs.Common.{Some, None, Option, Ok, Err, Result, IfOk, OnErr, OnOk, sym, ap, ◌∙◌, subst}
use Rattle.std.proofs.Common.{inl, inr, if◌then◌else◌}
use Rattle.nbfx_values.specs.declared.content.Item.{Item}
use Rattle.soap_envelope.specs.Making.{IsContent}
use Rattle.reliable_sequence.specs.declared.ranges.Range.{Range}
use Rattle.reliable_sequence.specs.declared.faults.RmFault.{RmFault}
use Rattle.reliable_sequence.specs.declared.faults.SubmitFault.{SubmitFault, TheVariants.Closed}
use Rattle.reliable_sequence.specs.declared.faults.SubmitFault.TheVariants.{WindowFull}
use Rattle.reliable_sequence.specs.Ends.{AreContents}
use Rattle.reliable_sequence.specs.Ranges.{first_above}
use Rattle.reliable_sequence.specs.Sent.{acknowledged, acknowledged_unless, Sent, sent_with, sent_without}
use Rattle.reliable_sequence.specs.Sent.{submitted, submitted_count, without_all}
use Rattle.reliable_sequence.specs.Slots.{leading_free, Slots}
use Rattle.reliable_sequence.proofs.NumberFacts.{kept-without_all}
use Rattle.reliable_sequence.proofs.PlaceFacts.{body_at-drop, body_at-push}

pushed : (slots : Slots) (body : List Item) → AreContents slots → IsContent body
    → AreContents (slots ++ Some body ∷ [])
pushed slots body are content place found e =
    elim (body_at-push slots body place found e) [
      | inl before ↦ are place found before
      | inr this ↦ subst IsContent this.1 content
    ]

-- what is sent after a submission that is accepted
accepted : (s : Sent) → Result (ℕ × Sent) SubmitFault → Sent
accepted s (Ok answer) = answer.1
accepted s (Err fault) = s

contents-accepted : (s : Sent) (body : List Item) (last : Bool) → AreContents s.unacknowledged
    → IsContent body → AreContents (accepted s (submitted s body last)).unacknowledged
unfolding accepted
contents-accepted s body last are content =
    go s.closed (length s.unacknowledged == s.window)
  where
    go : (closed full : Bool)
        → AreContents (accepted s (if closed then Err Closed
        else if full then Err (WindowFull (length s.unacknowledged))
        else Ok (submitted_count s + 1, sent_with s body last))).unacknowledged
    go true full = are
    go false true = are
    go false false = pushed s.unacknowledged body are content

pub contents-submitted : (s next : Sent) (body : List Item) (last : Bool)
    (result : Result ℕ SubmitFault) → AreContents s.unacknowledged → IsContent body
    → IfOk result (λ number. submitted s body last ≡ Ok (number, next))
    → OnErr result (next ≡ s) → AreContents next.unacknowledged
unfolding accepted
contents-submitted s next body last (Ok number) are content is unchanged =
    subst (λ (end : Sent). AreContents end.unacknowledged) (ap (accepted s) is)
    (contents-accepted s body last are content)
contents-submitted s next body last (Err fault) are content is unchanged =
    subst (λ (end : Sent). AreContents end.unacknowledged) (sym unchanged) are

-- what is sent after an acknowledgement that is taken
taken : (s : Sent) → Result Sent RmFault → Sent
taken s (Ok next) = next
taken s (Err fault) = s

left : (s : Sent) (ranges : List Range) → AreContents s.unacknowledged
    → AreContents (sent_without s ranges).unacknowledged
left s ranges are place body e =
    let slots = without_all s.front s.unacknowledged ranges in
    are (leading_free slots + place) body
    (kept-without_all s.front s.unacknowledged ranges (leading_free slots + place) body
    (sym (body_at-drop (leading_free slots) slots place) ∙ e))

contents-acknowledged : (s next : Sent) (ranges : List Range) → AreContents s.unacknowledged
    → acknowledged s ranges ≡ Ok next → AreContents next.unacknowledged
unfolding taken
contents-acknowledged s next ranges are is =
    subst (λ (end : Sent). AreContents end.unacknowledged) (ap (taken s) is)
    (go (first_above (submitted_count s) ranges))
  where
    go : (above : Option ℕ)
        → AreContents (taken s (acknowledged_unless above ranges s)).unacknowledged
    go None = left s ranges are
    go (Some upper) = are

pub contents-taken : {X : Type 0} (s next : Sent) (ranges : List Range) (result : Result X RmFault)
    → AreContents s.unacknowledged → OnOk result (acknowledged s ranges ≡ Ok next)
    → OnErr result (next ≡ s) → AreContents next.unacknowledged
contents-taken s next ranges (Ok none) are is unchanged =
    contents-acknowledged s next ranges are is
contents-taken s next ranges (Err fault) are is unchanged =
    subst (λ (end : Sent). AreContents end.unacknowledged) (sym unchanged) are
