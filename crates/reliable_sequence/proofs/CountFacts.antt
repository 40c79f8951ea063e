-- The numbers that are counted as acknowledged.
use Rattle.std.proofs.Common.{◌≡◌, ℕ, zero, suc, ◌+◌, ◌<◌, ◌≤◌, Bool, true, false, [], ◌∷◌}
use Rattle.std.proofs.Common.{length, take, Some, None, refl, ap, ◌∙◌, sym, arith, is_none}
use Rattle.std.proofs.Common.{if◌then◌else◌, le-leb}
use Rattle.std.proofs.{lemmas.Bool.lt-leb, lemmas.Bool.lt-ltb, Math.Seq.take-length}
use Rattle.reliable_sequence.specs.Received.{place_of}
use Rattle.reliable_sequence.specs.Sent.{acknowledged_among, acknowledged_count}
use Rattle.reliable_sequence.specs.Sent.{is_acknowledged, Sent, submitted_count}
use Rattle.reliable_sequence.specs.Slots.{body_at, free_count, Slots}

one-place-more : (slots : Slots) (k : ℕ) → k < length slots
    → free_count (take (suc k) slots)
    ≡ (if is_none (body_at slots k) then free_count (take k slots) + 1
    else free_count (take k slots))
one-place-more [] k within = absurd (omega arith)
one-place-more (None ∷ more) zero within = refl
one-place-more (Some body ∷ more) zero within = refl
one-place-more (None ∷ more) (suc k) within =
    ap suc (one-place-more more k (omega arith)) ∙ go (is_none (body_at more k))
    (free_count (take k more))
  where
    go : (free : Bool) (n : ℕ) → suc (if free then n + 1 else n)
        ≡ (if free then suc n + 1 else suc n)
    go true n = omega arith
    go false n = refl
one-place-more (Some body ∷ more) (suc k) within = one-place-more more k (omega arith)

in-front : (s : Sent) (n : ℕ) → suc n ≤ s.front → is_acknowledged s (suc n) ≡ true
in-front s n low =
    rw (
      lt-ltb 0 (suc n) (omega arith),
      le-leb (suc n) (submitted_count s) (omega arith),
      le-leb (suc n) s.front low,
    ) refl

behind-front : (s : Sent) (k : ℕ) → k < length s.unacknowledged
    → is_acknowledged s (suc (s.front + k)) ≡ is_none (body_at s.unacknowledged k)
behind-front s k within =
    let n = suc (s.front + k) in
    let here : place_of s.front n ≡ k = omega arith in
    rw (
      lt-ltb 0 n (omega arith),
      le-leb n (submitted_count s) (omega arith),
      lt-leb n s.front (omega arith),
    ) (ap (λ (p : ℕ). is_none (body_at s.unacknowledged p)) here)

all-in-front : (s : Sent) (n : ℕ) → n ≤ s.front → acknowledged_among s n ≡ n
all-in-front s zero low = refl
all-in-front s (suc n) low =
    let more : n + 1 ≡ suc n = omega arith in
    ap (λ (b : Bool). if b then acknowledged_among s n + 1 else acknowledged_among s n)
    (in-front s n low)
    ∙ ap (λ (m : ℕ). m + 1) (all-in-front s n (omega arith)) ∙ more

among-behind : (s : Sent) (k : ℕ) → k ≤ length s.unacknowledged
    → acknowledged_among s (s.front + k) ≡ s.front + free_count (take k s.unacknowledged)
among-behind s zero within =
    let here : s.front + 0 ≡ s.front = omega arith in
    let back : s.front ≡ s.front + 0 = omega arith in
    ap (acknowledged_among s) here ∙ all-in-front s s.front (omega arith) ∙ back
among-behind s (suc k) within =
    let slots = s.unacknowledged in
    let here : s.front + suc k ≡ suc (s.front + k) = omega arith in
    ap (acknowledged_among s) here
    ∙ ap (λ (b : Bool). if b then acknowledged_among s (s.front + k) + 1
    else acknowledged_among s (s.front + k)) (behind-front s k (omega arith))
    ∙ ap (λ (m : ℕ). if is_none (body_at slots k) then m + 1 else m)
    (among-behind s k (omega arith))
    ∙ go (is_none (body_at slots k)) (free_count (take k slots))
    ∙ ap (λ (m : ℕ). s.front + m) (sym (one-place-more slots k (omega arith)))
  where
    go : (free : Bool) (n : ℕ)
        → (if free then s.front + n + 1 else s.front + n) ≡ s.front + (if free then n + 1 else n)
    go true n = omega arith
    go false n = refl

pub acknowledged-counted : (s : Sent) → acknowledged_count s ≡ acknowledged_among s
    (submitted_count s)
acknowledged-counted s =
    let slots = s.unacknowledged in
    ap (λ (l : Slots). s.front + free_count l) (sym (take-length slots))
    ∙ sym (among-behind s (length slots) (omega arith))
