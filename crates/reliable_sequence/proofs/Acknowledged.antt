-- Which numbers are acknowledged at first, and where a body more was submitted.
use Rattle.std.proofs.Common.{◌≡◌, ℕ, zero, suc, ◌+◌, ◌<◌, ◌≤◌, Bool, true, false, ◌&&◌, List, [], ◌∷◌, ◌++◌}
use Rattle.std.proofs.Common.{length, is_none, nat_le, nat_lt, if◌then◌else◌, Some, None, refl, sym, ap, ◌∙◌}
use Rattle.std.proofs.Common.{inl, inr, arith, length-append, le-leb}
use Rattle.std.proofs.lemmas.Bool.{cases_lt, leb-false, lt-leb}
use Rattle.nbfx_values.specs.declared.content.Item.{Item}
use Rattle.reliable_sequence.specs.Acknowledged.{NoneAtFirst, SameWithMore}
use Rattle.reliable_sequence.specs.Received.{place_of}
use Rattle.reliable_sequence.specs.Sent.{body_of, is_acknowledged, nothing_sent, Sent, sent_with}
use Rattle.reliable_sequence.specs.Sent.{submitted_count}
use Rattle.reliable_sequence.specs.Slots.{body_at, Slots}

-- a number that isn't submitted
none-past : (s : Sent) (number : ℕ) → submitted_count s < number → is_acknowledged s number ≡ false
none-past s number past = go (nat_lt 0 number)
  where
    go : (some : Bool)
        → some && (nat_le number (submitted_count s) && is_none (body_of s number)) ≡ false
    go true = rw (lt-leb number (submitted_count s) past) refl
    go false = refl

pub none-at-first : NoneAtFirst
none-at-first window zero = refl
none-at-first window (suc number) = none-past (nothing_sent window) (suc number) (omega arith)

-- the places in front of one more
before : (slots : Slots) (body : List Item) (at : ℕ) → at < length slots
    → body_at (slots ++ Some body ∷ []) at ≡ body_at slots at
before [] body at low = absurd (omega arith)
before (slot ∷ slots) body zero low = refl
before (slot ∷ slots) body (suc at) low = before slots body at (omega arith)

behind : (slots : Slots) (body : List Item)
    → body_at (slots ++ Some body ∷ []) (length slots) ≡ Some body
behind [] body = refl
behind (slot ∷ slots) body = behind slots body

module _ (s : Sent) (body : List Item) (last : Bool) (number : ℕ) where
  abbrev more : Sent
  more = sent_with s body last

  one-more : submitted_count more ≡ submitted_count s + 1
  one-more = let long = length-append s.unacknowledged (Some body ∷ []) in omega arith

  -- one that was submitted before
  same-body : number ≤ submitted_count s → body_of more number ≡ body_of s number
  same-body low = go (nat_le number s.front) refl
    where
      go : (old : Bool) → nat_le number s.front ≡ old
          → (if old then None else body_at more.unacknowledged (place_of s.front number))
          ≡ (if old then None else body_at s.unacknowledged (place_of s.front number))
      go true is = refl
      go false is =
          let above = leb-false number s.front is in
          before s.unacknowledged body (place_of s.front number) (omega arith)

  same-low : number ≤ submitted_count s → is_acknowledged more number ≡ is_acknowledged s number
  same-low low =
      let count = one-more in
      let wide = le-leb number (submitted_count more) (omega arith) in
      let narrow = le-leb number (submitted_count s) low in
      ap (λ (fits : Bool). nat_lt 0 number && (fits && is_none (body_of more number)))
      (wide ∙ sym narrow)
      ∙ ap (λ o. nat_lt 0 number && (nat_le number (submitted_count s) && is_none o))
      (same-body low)

  -- the body's own
  none-own : number ≡ submitted_count s + 1 → is_acknowledged more number ≡ false
  none-own is = go (nat_lt 0 number) (nat_le number (submitted_count more))
    where
      new : body_of more number ≡ Some body
      new =
          let above : s.front < number = omega arith in
          let place : place_of s.front number ≡ length s.unacknowledged = omega arith in
          ap (λ (old : Bool). if old then None else body_at more.unacknowledged
          (place_of s.front number))
          (lt-leb number s.front above)
          ∙ ap (body_at more.unacknowledged) place ∙ behind s.unacknowledged body

      go : (some fits : Bool) → some && (fits && is_none (body_of more number)) ≡ false
      go true true = ap is_none new
      go true false = refl
      go false fits = refl

pub same-with-more : SameWithMore
same-with-more s body last number =
    let count = one-more s body last number in
    elim (cases_lt (submitted_count s) number) [
      | inl past ↦
          elim (cases_lt (submitted_count s + 1) number) [
            | inl far ↦
                none-past (sent_with s body last) number (omega arith)
                ∙ sym (none-past s number past)
            | inr near ↦
                none-own s body last number (omega arith) ∙ sym (none-past s number past)
          ]
      | inr low ↦ same-low s body last number low
    ]
