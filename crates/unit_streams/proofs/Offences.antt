-- The offence of a stream is the first refusal of a prefix, or else its end's.
use Rattle.std.proofs.Common.{◌≡◌, ℕ, zero, suc, ◌<◌, ◌≤◌, ◌⊎◌, List, [], ◌∷◌, ◌++◌, length, take}
use Rattle.std.proofs.Common.{drop, Some, None, Option, sym, refl, ap, ◌∙◌, inl, inr, append-nil}
use Rattle.std.proofs.{Common.arith, Common.take_all, Math.Seq.take-nil, lemmas.List.drop_all}
use Rattle.unit_streams.specs.{Grammar.Grammar, Judging.refusal_at}
use Rattle.unit_streams.specs.Judging.{ending_at, History, history, history_from, offence}
use Rattle.unit_streams.specs.Laws.{IsRefusedAt, IsRefusedAtEnd, OffencesAreFirst}
use Rattle.unit_streams.proofs.Answers.{none_taken, shifted}
use Rattle.unit_streams.proofs.Histories.{history_behind, history_ends, history_refused}

module _ {Z U E R : Type 0} (g : Grammar Z U E R) where
  -- the first of the bytes behind p that are refused
  record FirstRefused (p y : List ℕ) : Type 0 where
    reason : R
    place : ℕ
    within : place ≤ length y
    before : (i : ℕ) → i < place → refusal_at g (p ++ take i y) ≡ None
    refused : refusal_at g (p ++ take place y) ≡ Some reason

  abbrev AreUnrefused : List ℕ → List ℕ → Type 0
  AreUnrefused p y = (i : ℕ) → i ≤ length y → refusal_at g (p ++ take i y) ≡ None

  -- a byte that isn't refused, and those behind it
  one_more : (p : List ℕ) (b : ℕ) (y : List ℕ) → refusal_at g p ≡ None → FirstRefused (p ++ b ∷ [])
      y ⊎ AreUnrefused (p ++ b ∷ []) y → FirstRefused p (b ∷ y) ⊎ AreUnrefused p (b ∷ y)
  one_more p b y none (inl f) = inl (record {
    reason = f.reason;
    place = suc f.place;
    within = let w = f.within in omega arith;
    before = before;
    refused = ap (refusal_at g) (sym (shifted g p b y f.place)) ∙ f.refused;
  }) where
    before : (i : ℕ) → i < suc f.place → refusal_at g (p ++ take i (b ∷ y)) ≡ None
    before zero lt = ap (refusal_at g) (none_taken g p (b ∷ y)) ∙ none
    before (suc i) lt = ap (refusal_at g) (sym (shifted g p b y i)) ∙ f.before i (omega arith)
  one_more p b y none (inr all) = inr unrefused where
    unrefused : AreUnrefused p (b ∷ y)
    unrefused zero le = ap (refusal_at g) (none_taken g p (b ∷ y)) ∙ none
    unrefused (suc i) le = ap (refusal_at g) (sym (shifted g p b y i)) ∙ all i (omega arith)

  first_or_none : (y p : List ℕ) (v : Option R) → refusal_at g p ≡ v → FirstRefused p y
      ⊎ AreUnrefused p y
  first_or_none y p (Some r) e = inl (record {
    reason = r;
    place = 0;
    within = omega arith;
    before = λ i lt. absurd (omega arith);
    refused = ap (refusal_at g) (none_taken g p y) ∙ e;
  })
  first_or_none [] p None e = inr (λ i le. ap (λ c. refusal_at g (p ++ c)) (take-nil i) ∙
      ap (refusal_at g) (append-nil p) ∙ e)
  first_or_none (b ∷ y) p None e = one_more p b y e
      (first_or_none y (p ++ b ∷ []) (refusal_at g (p ++ b ∷ [])) refl)

  -- where nothing that follows is refused, the end decides
  pub unrefused_from : (p y : List ℕ) → ((i : ℕ) → i ≤ length y → refusal_at g (p ++ take i y)
      ≡ None) → (history_from g p y).offence ≡ ending_at g (p ++ y)
  unrefused_from p y all =
      let whole : take (length y) y ≡ y = take_all (length y) y (omega arith) in
      let none : drop (length y) y ≡ [] = drop_all (length y) y (omega arith) in
      ap (λ (h : History E R). h.offence)
      (history_behind g p y (length y) (omega arith) (λ i lt. all i (omega arith)))
      ∙ ap (λ c. (history_from g (p ++ take (length y) y) c).offence) none
      ∙ ap (λ c. (history_from g (p ++ c) []).offence) whole
      ∙ ap (λ (h : History E R). h.offence)
      (history_ends g (p ++ y) (ap (λ c. refusal_at g (p ++ c)) (sym whole) ∙ all (length y)
      (omega arith)))

  -- of a stream
  module _ (bytes : List ℕ) where
    first_offence : (n : ℕ) (r : R) → n ≤ length bytes
        → ((i : ℕ) → i < n → refusal_at g (take i bytes) ≡ None) → refusal_at g (take n bytes)
        ≡ Some r → offence g bytes ≡ Some r
    unfolding offence history
    first_offence n r within before e =
        ap (λ (h : History E R). h.offence) (history_behind g [] bytes n within before) ∙
        ap (λ (h : History E R). h.offence) (history_refused g (take n bytes) (drop n bytes) r e)

    pub unrefused_offence : ((i : ℕ) → i ≤ length bytes → refusal_at g (take i bytes) ≡ None)
        → offence g bytes ≡ ending_at g bytes
    unfolding offence history
    unrefused_offence all = unrefused_from [] bytes all

    pub refused_or_not : ((r : R) × IsRefusedAt g bytes r)
        ⊎ ((i : ℕ) → i ≤ length bytes → refusal_at g (take i bytes) ≡ None)
    refused_or_not =
        elim (first_or_none bytes [] (refusal_at g []) refl) [
          | inl f ↦ inl (
            f.reason,
            record {
              place = f.place;
              within = f.within;
              before = f.before;
              refused =
                  f.refused;
            },
          )
          | inr all ↦ inr all
        ]

    pub refused_offence : (r : R) → IsRefusedAt g bytes r → offence g bytes ≡ Some r
    refused_offence r h = first_offence h.place r h.within h.before h.refused

    -- a stream without an offence is refused nowhere, nor at its end
    pub no_offence : offence g bytes ≡ None
        → ((i : ℕ) → i ≤ length bytes → refusal_at g (take i bytes) ≡ None)
        × (ending_at g bytes ≡ None)
    no_offence e =
        elim refused_or_not [
          | inl (r, h) ↦ let some = refused_offence r h in cc
          | inr all ↦ (all, sym (unrefused_offence all) ∙ e)
        ]

    first_is : (r : R) → offence g bytes ≡ Some r → IsRefusedAt g bytes r ⊎ IsRefusedAtEnd g bytes r
    first_is r e =
        elim refused_or_not [
          | inl (r', h) ↦ let some = refused_offence r' h in let same : r'
              ≡ r = cc in inl (rw same at h)
          | inr all ↦ inr (record { unrefused = all; ended = sym (unrefused_offence all) ∙ e })
        ]

    is_first : (r : R) → IsRefusedAt g bytes r ⊎ IsRefusedAtEnd g bytes r → offence g bytes ≡ Some r
    is_first r (inl h) = refused_offence r h
    is_first r (inr h) = unrefused_offence h.unrefused ∙ h.ended

  -- of each grammar
  pub offences_are_first : OffencesAreFirst g
  offences_are_first bytes r = (first_is bytes r, is_first bytes r)
