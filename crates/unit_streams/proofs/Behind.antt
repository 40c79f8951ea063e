-- Readings behind bytes that are no part of what is read: they go byte by byte where what they read
-- does.
use Rattle.std.proofs.Common.{◌≡◌, ℕ, suc, ◌+◌, ◌<◌, ◌⊎◌, inl, inr, List, [], ◌∷◌, ◌++◌, length}
use Rattle.std.proofs.Common.{refl, ap, ◌∙◌, arith}
use Rattle.unit_streams.specs.Front.{Front, begun, whole, wrong}
use Rattle.unit_streams.specs.Parts.{further, seen}
use Rattle.unit_streams.proofs.Peeling.{extent, IsPeeling, decided_some}

module _ {A B R S : Type 0} (n : ℕ) (f : A → B) (g : R → S) where
  -- it has begun where what it reads has
  pub behind_begun : (y : Front A R) → further n (seen f g y) ≡ begun → y ≡ begun
  behind_begun begun h = refl
  behind_begun (whole a m) h = cc
  behind_begun (wrong r m) h = cc

  -- and is decided n bytes later
  behind_decided : (y : Front A R) (k : ℕ) → (y ≡ begun) ⊎ (extent y ≡ k)
      → (further n (seen f g y) ≡ begun) ⊎ (extent (further n (seen f g y)) ≡ n + k)
  behind_decided begun k h = inl refl
  behind_decided (whole a m) k h = elim h [ inl e ↦ cc | inr e ↦ inr (ap (λ x. n + x) e) ]
  behind_decided (wrong r m) k h = elim h [ inl e ↦ cc | inr e ↦ inr (ap (λ x. n + x) e) ]

  -- h is read behind n bytes
  module _ (h : List ℕ → Front A R) (peels : IsPeeling h) where
    behind_byte : (b : List ℕ) (x : ℕ) → further n (seen f g (h b)) ≡ begun
        → (further n (seen f g (h (b ++ x ∷ []))) ≡ begun)
        ⊎ (extent (further n (seen f g (h (b ++ x ∷ [])))) ≡ n + suc (length b))
    behind_byte b x e = behind_decided (h (b ++ x ∷ [])) (suc (length b))
        (peels.byte b x (behind_begun (h b) e))

    behind_stays : (b : List ℕ) (x : ℕ) → 0 < extent (further n (seen f g (h b)))
        → further n (seen f g (h (b ++ x ∷ []))) ≡ further n (seen f g (h b))
    behind_stays b x lt = ap (λ y. further n (seen f g y))
        (peels.stays b x
        (decided_some h peels b (λ e. omega (arith, ap (λ y. extent (further n (seen f g y))) e))))

-- behind no byte
pub behind_peels : {A B R S : Type 0} (f : A → B) (g : R → S) (h : List ℕ → Front A R) → IsPeeling h
    → IsPeeling (λ b. further 0 (seen f g (h b)))
behind_peels f g h peels = record {
  nothing = ap (λ y. further 0 (seen f g y)) peels.nothing;
  byte = λ b x e. elim (behind_byte 0 f g h peels b x e)
      [ inl still ↦ inl still | inr there ↦ inr (there ∙ omega arith) ];
  stays = behind_stays 0 f g h peels;
}

-- what is read behind a first byte, whatever that is
abbrev pub after_byte : {A R : Type 0} → (List ℕ → Front A R) → List ℕ → Front A R
after_byte f [] = begun
after_byte f (x ∷ b) = f b

pub after_byte_peels : {A B R S : Type 0} (f : A → B) (g : R → S) (h : List ℕ → Front A R)
    → IsPeeling h
    → IsPeeling (after_byte (λ b. further 1 (seen f g (h b))))
after_byte_peels {B = B} {S = S} f g h peels = record { nothing = refl; byte = at; stays = after }
  where
    read : List ℕ → Front B S
    read = after_byte (λ b. further 1 (seen f g (h b)))

    at : (b : List ℕ) (x : ℕ) → read b ≡ begun → (read (b ++ x ∷ []) ≡ begun)
        ⊎ (extent (read (b ++ x ∷ [])) ≡ suc (length b))
    at [] x e = inl (ap (λ y. further 1 (seen f g y)) peels.nothing)
    at (y ∷ b) x e = elim (behind_byte 1 f g h peels b x e)
        [ inl still ↦ inl still | inr there ↦ inr (there ∙ omega arith) ]

    after : (b : List ℕ) (x : ℕ) → 0 < extent (read b) → read (b ++ x ∷ []) ≡ read b
    after [] x lt = absurd (omega arith)
    after (y ∷ b) x lt = behind_stays 1 f g h peels b x lt

-- what the first byte decides
pub decided_byte_peels : {A R : Type 0} (y : Front A R) → extent y ≡ 1
    → IsPeeling (after_byte (λ (b : List ℕ). y))
decided_byte_peels {A = A} {R = R} y one = record { nothing = refl; byte = at; stays = after } where
  read : List ℕ → Front A R
  read = after_byte (λ (b : List ℕ). y)

  at : (b : List ℕ) (x : ℕ) → read b ≡ begun → (read (b ++ x ∷ []) ≡ begun)
      ⊎ (extent (read (b ++ x ∷ [])) ≡ suc (length b))
  at [] x e = inr one
  at (z ∷ b) x e = absurd (omega (arith, ap extent e, one))

  after : (b : List ℕ) (x : ℕ) → 0 < extent (read b) → read (b ++ x ∷ []) ≡ read b
  after [] x lt = absurd (omega arith)
  after (z ∷ b) x lt = refl

-- the first byte decides what is read behind it
pub by_first_peels : {A R : Type 0} (f : List ℕ → Front A R) → f [] ≡ begun
    → ((x : ℕ) → IsPeeling (after_byte (λ b. f (x ∷ b)))) → IsPeeling f
by_first_peels f none peels = record { nothing = none; byte = at; stays = after } where
  at : (b : List ℕ) (x : ℕ) → f b ≡ begun → (f (b ++ x ∷ []) ≡ begun)
      ⊎ (extent (f (b ++ x ∷ [])) ≡ suc (length b))
  at [] x e = (peels x).byte [] x refl
  at (y ∷ b) x e = (peels y).byte (y ∷ b) x e

  after : (b : List ℕ) (x : ℕ) → 0 < extent (f b) → f (b ++ x ∷ []) ≡ f b
  after [] x lt = absurd (omega (arith, ap extent none))
  after (y ∷ b) x lt = (peels y).stays (y ∷ b) x lt
