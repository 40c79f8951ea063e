-- The first bytes of a piece, and what they decide of a front that is known by its own bytes.
use Rattle.std.proofs.Common.{◌≡◌, ℕ, suc, ◌+◌, ◌≤◌, inl, inr, List, [], ◌∷◌, ◌++◌, length, take}
use Rattle.std.proofs.Common.{drop, sym, ap, ◌∙◌, append_assoc, arith, length-append}
use Rattle.std.proofs.Math.Seq.{take-append-add, take-length}
use Rattle.std.proofs.lemmas.List.{length-take-le, nil_from_length, take-append-drop}
use Rattle.unit_streams.specs.Front.{Front, begun, whole, wrong, ReadsFront}
use Rattle.unit_streams.proofs.Peeling.{extent, IsPeeling}

-- the first n bytes of a piece, behind other bytes
module _ (p piece : List ℕ) (n : ℕ) where
  -- how many bytes there are
  pub taken_len : n ≤ length piece → length (p ++ take n piece) ≡ length p + n
  taken_len within = simp length-append (omega (arith, length-take-le n piece within))

  -- those are all, where the piece has no more
  pub all_taken : n ≡ length piece → p ++ take n piece ≡ p ++ piece
  all_taken e = rw e (ap (λ s. p ++ s) (take-length piece))

  -- with the others behind them
  pub with_rest : (p ++ take n piece) ++ drop n piece ≡ p ++ piece
  with_rest = append_assoc p (take n piece) (drop n piece) ∙ ap (λ s. p ++ s)
      (take-append-drop n piece)

-- a byte that decides what has begun decides it by all bytes up to it
pub at_last : {A R : Type 0} (f : List ℕ → Front A R) → IsPeeling f → (b : List ℕ) (x : ℕ) → f b
    ≡ begun → (f (b ++ x ∷ []) ≡ begun → ⊥)
    → extent (f (b ++ x ∷ [])) ≡ suc (length b)
at_last f peels b x h said =
    elim (peels.byte b x h) [
      | inl e ↦ absurd (said e)
      | inr e ↦ e
    ]

module _ {A R : Type 0} (f : List ℕ → Front A R) (reads : ReadsFront f) where
  -- no whole thing goes on to a longer one, and none is two
  pub none_goes_on : (b more : List ℕ) (a c : A) → f b ≡ whole a (length b) → f (b ++ more)
      ≡ whole c (length (b ++ more))
      → (more ≡ []) × (a ≡ c)
  none_goes_on b more a c short long =
      let stays : f (b ++ more) ≡ whole a (length b) = reads.whole_stays b more a (length b) short
      in
      let size : length b ≡ length (b ++ more) = cc in
      (nil_from_length more (omega (arith, size, length-append b more)), cc)

  -- the first n bytes of a piece decide what the piece decides at them
  module _ (p piece : List ℕ) (n : ℕ) (within : n ≤ length piece) where
    pub whole_then : (a : A) → f (p ++ take n piece) ≡ whole a (length (p ++ take n piece))
        → f (p ++ piece) ≡ whole a (length p + n)
    whole_then a e =
        ap f (sym (with_rest p piece n)) ∙ reads.whole_stays (p ++ take n piece) (drop n piece) a _
        e ∙ ap (whole a) (taken_len p piece n within)

    pub wrong_then : (r : R) → f (p ++ take n piece) ≡ wrong r (length (p ++ take n piece))
        → f (p ++ piece) ≡ wrong r (length p + n)
    wrong_then r e =
        ap f (sym (with_rest p piece n)) ∙ reads.wrong_stays (p ++ take n piece) (drop n piece) r _
        e ∙ ap (wrong r) (taken_len p piece n within)

    pub whole_of_taken : (a : A) → f (p ++ piece) ≡ whole a (length p + n) → f (p ++ take n piece)
        ≡ whole a (length (p ++ take n piece))
    whole_of_taken a e =
        rw (taken_len p piece n within) (ap f (sym (take-append-add p piece n)) ∙ reads.whole_alone
        (p ++ piece) a (length p + n) e)

    pub wrong_of_taken : (r : R) → f (p ++ piece) ≡ wrong r (length p + n) → f (p ++ take n piece)
        ≡ wrong r (length (p ++ take n piece))
    wrong_of_taken r e =
        rw (taken_len p piece n within) (ap f (sym (take-append-add p piece n)) ∙ reads.wrong_alone
        (p ++ piece) r (length p + n) e)
