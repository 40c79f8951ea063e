-- What follows for a front that rests on its own bytes.
use Rattle.std.proofs.Common.{◌≡◌, ℕ, ◌+◌, ◌-◌, ◌<◌, ◌≤◌, ◌⊎◌, List, [], ◌++◌, length, take, drop}
use Rattle.std.proofs.Common.{sym, refl, ap, ◌∙◌, subst, inl, inr, append_assoc, arith}
use Rattle.std.proofs.{Common.length-append, Common.take-append-drop, Math.Seq.take-append-add}
use Rattle.std.proofs.lemmas.{Bool.cases_lt, List.take-append-le}
use Rattle.unit_streams.specs.Front.{begun, Front, IsOpen, ReadsFront, whole, wrong}
use Rattle.unit_streams.proofs.Peeling.{Decides, extent, Leaves}

-- a front that is decided is so by its first bytes, whatever follows
pub record IsDecided {A R : Type 0} (f : List ℕ → Front A R) (b : List ℕ) (n : ℕ) : Type 0 where
  pub said : f b ≡ begun → ⊥
  pub within : n ≤ length b
  pub alone : f (take n b) ≡ f b
  pub first : (j : ℕ) → j < n → f (take j b) ≡ begun
  pub stays : (more : List ℕ) → f (b ++ more) ≡ f b

module _ {A R : Type 0} (f : List ℕ → Front A R) where
  -- where each front has begun or is decided so, what is said rests on its own bytes
  pub reads_by : ((b : List ℕ) → (f b ≡ begun) ⊎ IsDecided f b (extent (f b))) → ReadsFront f
  reads_by cases = record {
    whole_within = λ b a k e. let d = at b (whole a k) e (λ h. cc) in d.within;
    wrong_within = λ b r k e. let d = at b (wrong r k) e (λ h. cc) in d.within;
    whole_alone = λ b a k e. let d = at b (whole a k) e (λ h. cc) in d.alone ∙ e;
    wrong_alone = λ b r k e. let d = at b (wrong r k) e (λ h. cc) in d.alone ∙ e;
    whole_stays = λ b more a k e. let d = at b (whole a k) e (λ h. cc) in d.stays more ∙ e;
    wrong_stays = λ b more r k e. let d = at b (wrong r k) e (λ h. cc) in d.stays more ∙ e;
    whole_first = λ b a k j e lt. let d = at b (whole a k) e (λ h. cc) in d.first j lt;
    wrong_first = λ b r k j e lt. let d = at b (wrong r k) e (λ h. cc) in d.first j lt;
  } where
    at : (b : List ℕ) (v : Front A R) → f b ≡ v → (v ≡ begun → ⊥) → IsDecided f b (extent v)
    at b v e said =
        elim (cases b) [
          | inl h ↦ absurd (said (sym e ∙ h))
          | inr d ↦ subst (λ (n : ℕ). IsDecided f b n) (ap extent e) d
        ]

module _ {A R : Type 0} (f : List ℕ → Front A R) (reads : ReadsFront f) where
  pub decided : (b : List ℕ) → (f b ≡ begun) ⊎ IsDecided f b (extent (f b))
  decided b = go (f b) refl
    where
      go : (v : Front A R) → f b ≡ v → (f b ≡ begun) ⊎ IsDecided f b (extent v)
      go begun e = inl e
      go (whole a k) e = inr (record {
        said = λ h. cc;
        within = reads.whole_within b a k e;
        alone = reads.whole_alone b a k e ∙ sym e;
        first = λ j lt. reads.whole_first b a k j e lt;
        stays = λ more. reads.whole_stays b more a k e ∙ sym e;
      })
      go (wrong r k) e = inr (record {
        said = λ h. cc;
        within = reads.wrong_within b r k e;
        alone = reads.wrong_alone b r k e ∙ sym e;
        first = λ j lt. reads.wrong_first b r k j e lt;
        stays = λ more. reads.wrong_stays b more r k e ∙ sym e;
      })

  -- what is begun at the end was begun all along
  pub begun_before : (b c : List ℕ) → f (b ++ c) ≡ begun → f b ≡ begun
  begun_before b c e = elim (decided b) [ inl h ↦ h | inr d ↦ sym (d.stays c) ∙ e ]

  -- what decides it has more bytes than what is begun
  decided_later : (b c : List ℕ) (n : ℕ) → f b ≡ begun → IsDecided f (b ++ c) n → length b < n
  decided_later b c n h d =
      elim (cases_lt (length b) n) [
        | inl lt ↦ lt
        | inr le ↦
            let front : take n (b ++ c) ≡ take n b = take-append-le n b c le in
            let whole : take n b ++ drop n b ≡ b = take-append-drop n b in
            let early : f (take n b) ≡ begun = begun_before (take n b) (drop n b) (ap f whole ∙ h)
            in
            absurd (d.said (sym d.alone ∙ ap f front ∙ early))
      ]

  -- what follows a begun front leaves it begun, or decides it at one of its bytes
  pub leaves_or_decides : (b c : List ℕ) → f b ≡ begun → Leaves f b c ⊎ ((n : ℕ) × Decides f b c n)
  leaves_or_decides b c h = go (decided (b ++ c))
    where
      along : f (b ++ c) ≡ begun → (j : ℕ) → f (b ++ take j c) ≡ begun
      along e j = begun_before (b ++ take j c) (drop j c)
          (ap f (append_assoc b (take j c) (drop j c) ∙ ap (λ y. b ++ y) (take-append-drop j c)) ∙
          e)

      at : (n : ℕ) → n ≡ extent (f (b ++ c)) → IsDecided f (b ++ c) n → length b < n
          → Decides f b c (n - length b)
      at n e d lt =
          let size : length b + (n - length b) ≡ n = omega (arith, lt) in
          let front : (j : ℕ) → take (length b + j) (b ++ c) ≡ b ++ take j c = λ j. take-append-add
          b c j in
          record {
            some = omega (arith, lt);
            within = omega (arith, d.within, length-append b c, lt);
            decided = ap f (sym (front (n - length b)) ∙ ap (λ k. take k (b ++ c)) size) ∙ d.alone;
            extent_is = sym e ∙ sym size;
            before = λ j less. ap f (sym (front j)) ∙ d.first (length b + j)
                (omega (arith, less, lt));
          }

      go : (f (b ++ c) ≡ begun) ⊎ IsDecided f (b ++ c) (extent (f (b ++ c))) → Leaves f b c
          ⊎ ((n : ℕ) × Decides f b c n)
      go (inl e) = inl (record { along = along e; at_end = e })
      go (inr d) = let lt = decided_later b c (extent (f (b ++ c))) h d in inr
          (extent (f (b ++ c)) - length b, at (extent (f (b ++ c))) refl d lt)

  -- what follows a begun front and is begun still leaves it so
  pub left_begun : (b c : List ℕ) → f b ≡ begun → f (b ++ c) ≡ begun → Leaves f b c
  left_begun b c h e =
      elim (leaves_or_decides b c h) [
        | inl l ↦ l
        | inr d ↦ absurd (omega (arith, d.1.extent_is, d.1.some, ap extent e))
      ]

  -- what decides it does so with the byte that it says
  pub decides_at : (b c : List ℕ) (n : ℕ) → f b ≡ begun → (f (b ++ c) ≡ begun → ⊥)
      → extent (f (b ++ c)) ≡ length b + n → Decides f b c n
  decides_at b c n h said e =
      elim (leaves_or_decides b c h) [
        | inl l ↦ absurd (said l.at_end)
        | inr d ↦ let same : d.0 ≡ n = omega (arith, d.1.extent_is, e) in subst (Decides f b c) same
            d.1
      ]

  -- what shows a front to be wrong has more bytes than were begun
  pub wrong_later : (b c : List ℕ) → f b ≡ begun → (r : R) (k : ℕ) → f (b ++ c) ≡ wrong r k
      → length b < k
  wrong_later b c h r k e =
      elim (decided (b ++ c)) [
        | inl none ↦ cc
        | inr d ↦ let n = decided_later b c (extent (f (b ++ c))) h d in omega
            (arith, n, ap extent e)
      ]

  -- a whole or wrong front has a byte, and has no more than there are
  pub decided_within : f [] ≡ begun → (b : List ℕ) → (f b ≡ begun)
      ⊎ ((0 < extent (f b)) × (extent (f b) ≤ length b))
  decided_within nothing b =
      elim (decided b) [
        | inl e ↦ inl e
        | inr d ↦ inr (decided_later [] b (extent (f b)) nothing d, d.within)
      ]

  -- the same of a whole one
  pub whole_some : f [] ≡ begun → (b : List ℕ) (a : A) (n : ℕ) → f b ≡ whole a n → (0 < n)
      × (n ≤ length b)
  whole_some nothing b a n e =
      elim (decided_within nothing b) [
        | inl h ↦ cc
        | inr p ↦ let k : extent (f b) ≡ n = ap extent e in
            (omega (arith, p.0, k), omega (arith, p.1, k))
      ]

-- a front that has begun isn't whole
pub begun_open : {A R : Type 0} (v : Front A R) → v ≡ begun → IsOpen v
begun_open v e = rw e tt

-- nor is a wrong one
pub wrong_open : {A R : Type 0} (v : Front A R) (r : R) (k : ℕ) → v ≡ wrong r k → IsOpen v
wrong_open v r k e = rw e tt
