use Rattle.std.proofs.Common.{◌≡◌, ℕ, ◌-◌, List, length, slice_get, Some, sym, ap, ◌∙◌, subst}
use Rattle.std.proofs.lemmas.Option.{slice_get_within}
use Rattle.reliable_sequence.specs.declared.ranges.Range.{Range}
use Rattle.reliable_sequence.specs.Received.{received_ranges}
use Rattle.reliable_sequence.proofs.receipts.Receipts.acknowledge.Goals as goal
use Rattle.reliable_sequence.proofs.ReceiptLists.{below-pushed, below-still, sent-pushed}

-- the last place of some lists
last_place : (lists : List (List Range)) (one : List Range) (count place : ℕ)
    → count ≡ length lists → place ≡ count - 1 → slice_get lists (length lists - 1) ≡ Some one
    → slice_get lists place ≡ Some one
last_place lists one count place counted is there =
    subst (λ (p : ℕ). slice_get lists p ≡ Some one) (sym (is ∙ ap (λ n. n - 1) counted)) there

pub invariant_of-self : goal.invariant_of-self
invariant_of-self c =
    let r = c.self.inside in
    let there = c.self.invariant.1 c.if-self.true in
    let ranges : List Range = received_ranges r.incoming in
    let last = last_place r.lists ranges c.len.result c.saturating_sub.result c.len.ensures
    c.saturating_sub.ensures there in (
      below-pushed (length r.lists) r.places c.push.new.self c.saturating_sub.result c.push.result
          c.push.ensures.pushed c.push.ensures.unchanged c.self.invariant.0
          (slice_get_within r.lists c.saturating_sub.result ranges last),
      c.self.invariant.1,
    )

pub invariant_of-self-2 : goal.invariant_of-self-2
invariant_of-self-2 c =
    let r = c.self.inside in
    let lists : List (List Range) = c.list.new.lists in
    let there = c.in_ok-list.ensures.last in
    let ranges : List Range = received_ranges r.incoming in
    let last = last_place lists ranges c.len-2.result c.saturating_sub-2.result c.len-2.ensures
    c.saturating_sub-2.ensures there in (
      below-pushed (length lists) r.places c.push-2.new.self c.saturating_sub-2.result
          c.push-2.result c.push-2.ensures.pushed c.push-2.ensures.unchanged
          (below-still r.lists lists ranges r.places c.in_ok-list.ensures.grown c.self.invariant.0)
          (slice_get_within lists c.saturating_sub-2.result ranges last),
      λ listed. there,
    )

pub returns-clause-sent : goal.returns-clause-sent
returns-clause-sent c =
    let r = c.self.inside in
    let lists : List (List Range) = c.list.new.lists in
    let ranges : List Range = received_ranges r.incoming in
    let last = last_place lists ranges c.len-2.result c.saturating_sub-2.result c.len-2.ensures
    c.saturating_sub-2.ensures c.in_ok-list.ensures.last in
    rw (← c.self.view_is)
    (sent-pushed r.lists lists ranges r.places c.push-2.new.self c.saturating_sub-2.result
    c.in_ok-list.ensures.grown c.self.invariant.0 last c.push-2.result c.push-2.ensures.pushed)
