-- What ranges acknowledge, and what the ranges that are sent have.
use Rattle.std.proofs.Common.{◌≡◌, ℕ, ◌+◌, ◌<◌, ◌≤◌, ◌⊎◌, Bool, true, false, ◌==◌}
use Rattle.std.proofs.Common.{List, length, drop, is_some, IsTrue, nat_le, Some, None, Option}
use Rattle.std.proofs.Common.{inl, inr, refl, sym, ap, ◌∙◌, subst, arith, if◌then◌else◌, length-drop, eqb-true}
use Rattle.std.proofs.lemmas.Bool.{cases_lt, eqb-false, leb-true}
use Rattle.nbfx_values.specs.declared.content.Item.{Item}
use Rattle.reliable_sequence.specs.declared.ranges.Range.{Range}
use Rattle.reliable_sequence.specs.Laws.{RangesAreCounted, RangesAreReceived, RangesRise}
use Rattle.reliable_sequence.specs.Ranges.{begun_at, first_above, is_in, runs}
use Rattle.reliable_sequence.specs.Received.{has_number, place_of, Received, received_ranges}
use Rattle.reliable_sequence.specs.Sent.{is_acknowledged, Sent, sent_without, submitted_count}
use Rattle.reliable_sequence.specs.{Sent.without_all, Slots.body_at, Slots.leading_free, Slots.Slots}
use Rattle.reliable_sequence.proofs.AckFacts.{acknowledged-from, acknowledged-parts, IsAcknowledged}
use Rattle.reliable_sequence.proofs.AckFacts.{received-at, received-before}
use Rattle.reliable_sequence.proofs.NumberFacts.{BegunAre, BegunBy, either-true, free-in, free-without_all}
use Rattle.reliable_sequence.proofs.NumberFacts.{in-bound, runs-are, runs-begun, runs-bodies, runs-rise}
use Rattle.reliable_sequence.proofs.NumberFacts.{StartsFrom, stays-free}
use Rattle.reliable_sequence.proofs.PlaceFacts.{body_at-drop, free_in_front}
use Rattle.reliable_sequence.proofs.SentFacts.{length-without_all}
use Rattle.reliable_sequence.proofs.SlotFacts.{leading_free-le}

-- what is acknowledged once ranges are
module _ (s : Sent) (ranges : List Range) (number : ℕ) where
  abbrev left : Slots
  left = without_all s.front s.unacknowledged ranges

  abbrev place : ℕ
  place = place_of s.front number

  -- a number behind the front whose place is left free
  from-left : 0 < number → number ≤ submitted_count s → s.front < number
      → body_at left place ≡ None → IsAcknowledged (sent_without s ranges) number
  from-left some low above free =
      let long = length-without_all s.front s.unacknowledged ranges in
      let few = leading_free-le left in
      let rest = length-drop (leading_free left) left in
      record {
        some = some;
        submitted = omega arith;
        free =
            elim (cases_lt (s.front + leading_free left) number) [
              | inl behind ↦
                  let here : leading_free left + place_of (s.front + leading_free left) number
                  ≡ place =
                  omega arith in
                  inr (
                    behind,
                    body_at-drop (leading_free left) left (place_of (s.front + leading_free left)
                        number)
                        ∙ ap (body_at left) here ∙ free,
                  )
              | inr passed ↦ inl passed
            ];
      }

  -- a number of the front
  passed-still : 0 < number → number ≤ submitted_count s → number ≤ s.front
      → IsAcknowledged (sent_without s ranges) number
  passed-still some low passed =
      let long = length-without_all s.front s.unacknowledged ranges in
      let few = leading_free-le left in
      let rest = length-drop (leading_free left) left in
      record { some = some; submitted = omega arith; free = inl (omega arith) }

  abbrev Counts : ℕ → Type 0
  Counts n = 0 < n → IsTrue (is_acknowledged s n) ⊎ ((0 < n) × IsTrue (is_in ranges n))

  counted-there : IsTrue (is_acknowledged (sent_without s ranges) number)
      → IsTrue (is_acknowledged s number) ⊎ ((0 < number) × IsTrue (is_in ranges number))
  counted-there holds =
      let a = acknowledged-parts (sent_without s ranges) number holds in
      let long = length-without_all s.front s.unacknowledged ranges in
      let few = leading_free-le left in
      let rest = length-drop (leading_free left) left in
      let low = a.submitted in
      elim (cases_lt s.front number) [
        | inl above ↦ behind above (omega arith) a.some a.free
        | inr passed ↦
            inl (acknowledged-from s number
            (record { some = a.some; submitted = omega arith; free = inl passed }))
      ]
    where
      old : (at : ℕ) → at < length s.unacknowledged → body_at s.unacknowledged at ≡ None
          → Counts (s.front + at + 1)
      old at within free some =
          let here : place_of s.front (s.front + at + 1) ≡ at = omega arith in
          inl (acknowledged-from s (s.front + at + 1) (record {
            some = some;
            submitted = omega arith;
            free = inr (omega arith, ap (body_at s.unacknowledged) here ∙ free);
          }))

      counts : s.front < number → number ≤ submitted_count s → body_at left place ≡ None
          → Counts number
      counts above low free =
          let here : s.front + place + 1 ≡ number = omega arith in
          let long = length-without_all s.front s.unacknowledged ranges in
          subst Counts here
          (free-without_all Counts s.front s.unacknowledged ranges old
          (λ n found some. inr (some, found)) place (omega arith) free)

      behind : s.front < number → number ≤ submitted_count s → 0 < number
          → (number ≤ s.front + leading_free left) ⊎ ((s.front + leading_free left < number)
          × (body_at (drop (leading_free left) left) (place_of (s.front + leading_free left) number)
          ≡ None))
          → IsTrue (is_acknowledged s number) ⊎ ((0 < number) × IsTrue (is_in ranges number))
      behind above low some (inl passed) =
          counts above low (free_in_front left place (omega arith)) some
      behind above low some (inr found) =
          let far = found.0 in
          let here : leading_free left + place_of (s.front + leading_free left) number ≡ place =
          omega arith in
          counts above low
          (ap (body_at left) (sym here)
          ∙ sym (body_at-drop (leading_free left) left (place_of (s.front + leading_free left)
          number))
          ∙ found.1)
          some

  counted-back : first_above (submitted_count s) ranges ≡ None
      → IsTrue (is_acknowledged s number) ⊎ ((0 < number) × IsTrue (is_in ranges number))
      → IsTrue (is_acknowledged (sent_without s ranges) number)
  counted-back accepted (inl before) =
      let a = acknowledged-parts s number before in
      acknowledged-from (sent_without s ranges) number (go a.some a.submitted a.free)
    where
      go : 0 < number → number ≤ submitted_count s
          → (number ≤ s.front) ⊎ ((s.front < number) × (body_at s.unacknowledged place ≡ None))
          → IsAcknowledged (sent_without s ranges) number
      go some low (inl passed) = passed-still some low passed
      go some low (inr found) =
          from-left some low found.0
          (stays-free s.front s.unacknowledged ranges place found.1)
  counted-back accepted (inr found) =
      let low = in-bound (submitted_count s) ranges number accepted found.1 in
      acknowledged-from (sent_without s ranges) number
      (elim (cases_lt s.front number) [
        | inl above ↦
            let here : number ≡ s.front + place + 1 = omega arith in
            from-left found.0 low above
            (free-in s.front s.unacknowledged ranges place (ap (is_in ranges) (sym here) ∙ found.1))
        | inr passed ↦ passed-still found.0 low passed
      ])

pub counted : RangesAreCounted
counted s ranges number accepted =
    (counted-there s ranges number, counted-back s ranges number accepted)

-- a number was received
abbrev Is : Received → ℕ → Type 0
Is r n = (0 < n) × IsTrue (has_number r n)

-- the ranges that are sent
pub received-are : RangesAreReceived
received-are r number = (there number, back)
  where
    begun-are : (none : Bool) → BegunAre (Is r) (if none then None else Some 1) r.delivered
    begun-are true = tt
    begun-are false = λ n low high. (omega arith, received-before r n high)

    there : (n : ℕ) → IsTrue (is_in (received_ranges r) n) → Is r n
    there =
        runs-are (Is r) r.held (begun_at r.delivered) r.delivered (begun-are (r.delivered == 0))
        (λ at body found. (omega arith, received-at r at body found))

    begun-by : (none : Bool) → (r.delivered == 0) ≡ none
        → BegunBy (if none then None else Some 1) r.delivered
    begun-by true is = tt
    begun-by false is = let some = eqb-false r.delivered 0 is in omega arith

    delivered-in : number ≤ r.delivered → 0 < number → (none : Bool) → (r.delivered == 0) ≡ none
        → is_in (runs (if none then None else Some 1) r.delivered r.held) number ≡ true
    delivered-in le some true is = absurd (let zero_is = eqb-true r.delivered 0 is in omega arith)
    delivered-in le some false is = runs-begun r.held 1 r.delivered number (omega arith) le

    held-in : (o : Option (List Item)) → body_at r.held (place_of r.delivered number) ≡ o
        → r.delivered < number → is_some o ≡ true → IsTrue (is_in (received_ranges r) number)
    held-in None is above some = cc
    held-in (Some body) is above some =
        let at = place_of r.delivered number in
        let here : r.delivered + at + 1 ≡ number = omega arith in
        ap (is_in (received_ranges r)) (sym here)
        ∙ runs-bodies r.held (begun_at r.delivered) r.delivered at body
        (begun-by (r.delivered == 0) refl) is

    back : Is r number → IsTrue (is_in (received_ranges r) number)
    back is =
        elim (cases_lt r.delivered number) [
          | inl above ↦
              elim (either-true (nat_le number r.delivered)
              (is_some (body_at r.held (place_of r.delivered number))) is.1) [
                | inl low ↦ absurd (let le = leb-true number r.delivered low in omega arith)
                | inr some ↦
                    held-in (body_at r.held (place_of r.delivered number)) refl above some
              ]
          | inr low ↦ delivered-in low is.0 (r.delivered == 0) refl
        ]

pub rising : RangesRise
rising r = runs-rise r.held 1 (begun_at r.delivered) r.delivered (from (r.delivered == 0) refl)
  where
    from : (none : Bool) → (r.delivered == 0) ≡ none
        → StartsFrom 1 (if none then None else Some 1) r.delivered
    from true is = omega arith
    from false is = let some = eqb-false r.delivered 0 is in (omega arith, omega arith)
