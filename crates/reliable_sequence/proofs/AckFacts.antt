-- Which numbers are acknowledged.
use Rattle.std.proofs.Common.{◌≡◌, ℕ, ◌+◌, ◌<◌, ◌≤◌, ◌⊎◌, Bool, true, false, ◌&&◌}
use Rattle.std.proofs.Common.{List, [], ◌∷◌, length, is_none, is_some, IsTrue, nat_le, nat_lt, Some, None}
use Rattle.std.proofs.Common.{inl, inr, refl, sym, ap, ◌∙◌, arith, if◌then◌else◌, lt-ltb}
use Rattle.std.proofs.lemmas.Bool.{le-leb, leb-false, leb-true, ltb-true, false_from_ne_true}
use Rattle.nbfx_values.specs.declared.content.Item.{Item}
use Rattle.reliable_sequence.specs.Received.{has_number, place_of, Received}
use Rattle.reliable_sequence.specs.Sent.{body_of, is_acknowledged, Sent, submitted_count}
use Rattle.reliable_sequence.specs.Slots.{body_at, leading_free, Slots}
use Rattle.reliable_sequence.proofs.NumberFacts.{both-true, none_of_is_none, or-true}

-- a number is acknowledged: it is one of the front's, or its place is free
pub record IsAcknowledged (s : Sent) (number : ℕ) : Type 0 where
  pub some : 0 < number
  pub submitted : number ≤ submitted_count s
  pub free : (number ≤ s.front) ⊎ ((s.front < number)
      × (body_at s.unacknowledged (place_of s.front number) ≡ None))

pub acknowledged-parts : (s : Sent) (number : ℕ) → IsTrue (is_acknowledged s number)
    → IsAcknowledged s number
acknowledged-parts s number holds =
    let parts = both-true (nat_lt 0 number)
    (nat_le number (submitted_count s) && is_none (body_of s number)) holds in
    let more = both-true (nat_le number (submitted_count s)) (is_none (body_of s number)) parts.1 in
    record {
      some = ltb-true 0 number parts.0;
      submitted = leb-true number (submitted_count s) more.0;
      free = go (nat_le number s.front) refl more.1;
    }
  where
    go : (old : Bool) → nat_le number s.front ≡ old
        → is_none (if old then None else body_at s.unacknowledged (place_of s.front number)) ≡ true
        → (number ≤ s.front) ⊎ ((s.front < number)
        × (body_at s.unacknowledged (place_of s.front number) ≡ None))
    go true is none = inl (leb-true number s.front is)
    go false is none =
        inr (
          leb-false number s.front is,
          none_of_is_none (body_at s.unacknowledged (place_of s.front number)) none,
        )

pub acknowledged-from : (s : Sent) (number : ℕ) → IsAcknowledged s number
    → IsTrue (is_acknowledged s number)
acknowledged-from s number a =
    rw (lt-ltb 0 number a.some, le-leb number (submitted_count s) a.submitted)
    (go (nat_le number s.front) refl a.free)
  where
    go : (old : Bool) → nat_le number s.front ≡ old
        → (number ≤ s.front) ⊎ ((s.front < number)
        × (body_at s.unacknowledged (place_of s.front number) ≡ None))
        → is_none (if old then None else body_at s.unacknowledged (place_of s.front number)) ≡ true
    go true is free = refl
    go false is (inl low) = absurd (let above = leb-false number s.front is in omega arith)
    go false is (inr found) = rw found.1 refl

-- where the first place isn't free, the number behind the front isn't acknowledged
pub behind-front : (s : Sent) → leading_free s.unacknowledged ≡ 0
    → is_acknowledged s (s.front + 1) ≡ false
behind-front s tight =
    false_from_ne_true (is_acknowledged s (s.front + 1))
    (λ holds. let a = acknowledged-parts s (s.front + 1) holds in go a.submitted a.free)
  where
    first : (slots : Slots) → leading_free slots ≡ 0 → 0 < length slots → body_at slots 0 ≡ None → ⊥
    first [] none some free = absurd (omega arith)
    first (None ∷ more) none some free = absurd (omega arith)
    first (Some body ∷ more) none some free = cc

    go : s.front + 1 ≤ submitted_count s
        → (s.front + 1 ≤ s.front) ⊎ ((s.front < s.front + 1)
        × (body_at s.unacknowledged (place_of s.front (s.front + 1)) ≡ None)) → ⊥
    go some (inl low) = absurd (omega arith)
    go some (inr found) =
        let here : place_of s.front (s.front + 1) ≡ 0 = omega arith in
        first s.unacknowledged tight (omega arith)
        (ap (body_at s.unacknowledged) (sym here) ∙ found.1)

-- a number was received: it was delivered, or its place has a body
pub received-at : (r : Received) (place : ℕ) (body : List Item) → body_at r.held place ≡ Some body
    → IsTrue (has_number r (r.delivered + place + 1))
received-at r place body found =
    let number = r.delivered + place + 1 in
    let same : place_of r.delivered number ≡ place = omega arith in
    or-true (nat_le number r.delivered) (is_some (body_at r.held (place_of r.delivered number)))
    (ap is_some (ap (body_at r.held) same ∙ found))

pub received-before : (r : Received) (number : ℕ) → number ≤ r.delivered
    → IsTrue (has_number r number)
received-before r number le = rw (le-leb number r.delivered le) refl
