-- Readings of the front of some bytes that go byte by byte: each is decided at one byte, and stays
-- so.
use Rattle.std.proofs.Common.{◌≡◌, ℕ, zero, suc, ◌+◌, ◌<◌, ◌≤◌, ◌⊎◌, List, [], ◌∷◌, ◌++◌, length}
use Rattle.std.proofs.Common.{take, sym, ap, ◌∙◌, inl, inr, append_assoc, append-nil, arith}
use Rattle.std.proofs.{Common.length-append, Math.Seq.take-nil}
use Rattle.unit_streams.specs.Front.{begun, Front, ReadsFront, whole, wrong}

-- how many bytes decide it, and 0 where they don't
abbrev pub extent : {A R : Type 0} → Front A R → ℕ
extent begun = 0
extent (whole a n) = n
extent (wrong r n) = n

pub record IsPeeling {A R : Type 0} (f : List ℕ → Front A R) : Type 0 where
  pub nothing : f [] ≡ begun
  pub byte : (b : List ℕ) (x : ℕ) → f b ≡ begun → (f (b ++ x ∷ []) ≡ begun)
      ⊎ (extent (f (b ++ x ∷ [])) ≡ suc (length b))
  pub stays : (b : List ℕ) (x : ℕ) → 0 < extent (f b) → f (b ++ x ∷ []) ≡ f b

module _ {A R : Type 0} (f : List ℕ → Front A R) (peels : IsPeeling f) where
  -- a decided reading isn't changed by what follows
  pub goes_on : (b c : List ℕ) → 0 < extent (f b) → f (b ++ c) ≡ f b
  goes_on b [] h = ap f (append-nil b)
  goes_on b (x ∷ c) h =
      let e = peels.stays b x h in
      let h' : 0 < extent (f (b ++ x ∷ [])) = rw e h in
      ap f (sym (append_assoc b (x ∷ []) c)) ∙ goes_on (b ++ x ∷ []) c h' ∙ e

-- c decides a begun reading with its first n bytes, and with no fewer
pub record Decides {A R : Type 0} (f : List ℕ → Front A R) (b c : List ℕ) (n : ℕ) : Type 0 where
  pub some : 0 < n
  pub within : n ≤ length c
  pub decided : f (b ++ take n c) ≡ f (b ++ c)
  pub extent_is : extent (f (b ++ c)) ≡ length b + n
  pub before : (j : ℕ) → j < n → f (b ++ take j c) ≡ begun

-- c leaves a begun reading begun, all along
pub record Leaves {A R : Type 0} (f : List ℕ → Front A R) (b c : List ℕ) : Type 0 where
  pub along : (j : ℕ) → f (b ++ take j c) ≡ begun
  pub at_end : f (b ++ c) ≡ begun

module _ {A R : Type 0} (f : List ℕ → Front A R) (peels : IsPeeling f) where
  -- a byte before the rest is one behind the front
  regroup : (b c : List ℕ) (x : ℕ) → (b ++ x ∷ []) ++ c ≡ b ++ x ∷ c
  regroup b c x = append_assoc b (x ∷ []) c

  -- none of c leaves it begun
  begun_at_none : (b c : List ℕ) → f b ≡ begun → f (b ++ take 0 c) ≡ begun
  begun_at_none b c h = ap f (append-nil b) ∙ h

  -- a byte that leaves it begun, and a rest that does
  leaves_more : (b c : List ℕ) (x : ℕ) → f b ≡ begun → Leaves f (b ++ x ∷ []) c → Leaves f b (x ∷ c)
  leaves_more b c x h rest = record {
    along = at;
    at_end = ap f (sym (regroup b c x)) ∙ rest.at_end;
  } where
    at : (j : ℕ) → f (b ++ take j (x ∷ c)) ≡ begun
    at zero = begun_at_none b (x ∷ c) h
    at (suc j) = ap f (sym (regroup b (take j c) x)) ∙ rest.along j

  -- a byte that leaves it begun, and a rest that decides it
  decides_more : (b c : List ℕ) (x n : ℕ) → f b ≡ begun → Decides f (b ++ x ∷ []) c n
      → Decides f b (x ∷ c) (suc n)
  decides_more b c x n h rest = record {
    some = omega arith;
    within = omega (arith, rest.within);
    decided = ap f (sym (regroup b (take n c) x)) ∙ rest.decided ∙ ap f (regroup b c x);
    extent_is = ap (λ y. extent (f y)) (sym (regroup b c x)) ∙ rest.extent_is ∙ grown;
    before = at;
  } where
    grown : length (b ++ x ∷ []) + n ≡ length b + suc n
    grown = simp length-append (omega arith)

    at : (j : ℕ) → j < suc n → f (b ++ take j (x ∷ c)) ≡ begun
    at zero _ = begun_at_none b (x ∷ c) h
    at (suc j) lt = ap f (sym (regroup b (take j c) x)) ∙ rest.before j (omega arith)

  -- a byte that decides it
  decides_now : (b c : List ℕ) (x : ℕ) → f b ≡ begun → extent (f (b ++ x ∷ [])) ≡ suc (length b)
      → Decides f b (x ∷ c) 1
  decides_now b c x h e = record {
    some = omega arith;
    within = omega arith;
    decided = same;
    extent_is = ap extent (sym same) ∙ e ∙ omega arith;
    before = λ j lt. let z : j ≡ 0 = omega arith in rw z (begun_at_none b (x ∷ c) h);
  } where
    same : f (b ++ x ∷ []) ≡ f (b ++ x ∷ c)
    same = sym (goes_on f peels (b ++ x ∷ []) c (omega (arith, e))) ∙ ap f (regroup b c x)

  -- what follows a begun reading leaves it begun, or decides it at one of its bytes
  pub leaves_or_decides : (b c : List ℕ) → f b ≡ begun → Leaves f b c ⊎ ((n : ℕ) × Decides f b c n)
  leaves_or_decides b [] h = inl
      (record {
        along = λ j. ap (λ y. f (b ++ y)) (take-nil j) ∙ ap f (append-nil b) ∙ h;
        at_end =
            ap f (append-nil b) ∙ h;
      })
  leaves_or_decides b (x ∷ c) h =
      elim (peels.byte b x h) [
        | inl e ↦ elim (leaves_or_decides (b ++ x ∷ []) c e) [
          | inl rest ↦ inl (leaves_more b c x h rest)
          | inr p ↦ inr (suc p.0, decides_more b c x p.0 h p.1)
        ]
        | inr e ↦ inr (1, decides_now b c x h e)
      ]

  -- what is decided is decided by some bytes
  pub decided_some : (b : List ℕ) → (f b ≡ begun → ⊥) → 0 < extent (f b)
  decided_some b said =
      elim (leaves_or_decides [] b peels.nothing) [
        | inl l ↦ absurd (said l.at_end)
        | inr d ↦ omega (arith, d.1.extent_is, d.1.some)
      ]

  -- what is decided is decided by as many bytes as it says
  decided_by : (b : List ℕ) → (f b ≡ begun → ⊥) → (n : ℕ) × Decides f [] b n
  decided_by b said =
      elim (leaves_or_decides [] b peels.nothing) [
        | inl l ↦ absurd (said l.at_end)
        | inr d ↦ d
      ]

  -- so the front of some bytes is known by its own bytes
  pub peels_front : ReadsFront f
  peels_front = record {
    whole_within = λ b a k e. let d = decided_by b (λ h. cc) in omega
        (arith, ap extent e, d.1.extent_is, d.1.within);
    wrong_within = λ b r k e. let d = decided_by b (λ h. cc) in omega
        (arith, ap extent e, d.1.extent_is, d.1.within);
    whole_alone = λ b a k e.
        let d = decided_by b (λ h. cc) in
        let same : k ≡ d.0 = omega (arith, ap extent e, d.1.extent_is) in
        rw same (d.1.decided ∙ e ∙ ap (whole a) same);
    wrong_alone = λ b r k e.
        let d = decided_by b (λ h. cc) in
        let same : k ≡ d.0 = omega (arith, ap extent e, d.1.extent_is) in
        rw same (d.1.decided ∙ e ∙ ap (wrong r) same);
    whole_stays = λ b more a k e. goes_on f peels b more (decided_some b (λ h. cc)) ∙ e;
    wrong_stays = λ b more r k e. goes_on f peels b more (decided_some b (λ h. cc)) ∙ e;
    whole_first = λ b a k j e lt. let d = decided_by b (λ h. cc) in d.1.before j
        (omega (arith, ap extent e, d.1.extent_is, lt));
    wrong_first = λ b r k j e lt. let d = decided_by b (λ h. cc) in d.1.before j
        (omega (arith, ap extent e, d.1.extent_is, lt));
  }
