-- Things that are judged with their size, or must be whole within so many bytes, are known by their
-- own bytes.
use Rattle.std.proofs.Common.{◌≡◌, ℕ, ◌+◌, ◌-◌, ◌<◌, ◌≤◌, ◌⊎◌, List, [], ◌++◌, length, take, drop}
use Rattle.std.proofs.Common.{Ok, Err, Result, sym, refl, ap, ◌∙◌, subst, inl, inr, append-nil}
use Rattle.std.proofs.Common.{arith, length-append, take-append-drop, length-take, length-take-le}
use Rattle.std.proofs.Common.{take_all, take-take, le-leb}
use Rattle.std.proofs.Math.Seq.{take-append-add, take-nil}
use Rattle.std.proofs.lemmas.{Bool.cases_lt, Bool.lt-leb, List.take-append-le}
use Rattle.unit_streams.specs.Front.{begun, Front, ReadsFront, whole, wrong}
use Rattle.unit_streams.specs.Parts.{closed_at, judged_at, judged_whole, Reader, within}
use Rattle.unit_streams.proofs.Fronts.{begun_before, decided, IsDecided, reads_by}
use Rattle.unit_streams.proofs.Peeling.{extent}

-- judged by what it says and by its size
module _ {A B R : Type 0} (judge : A → ℕ → Result B R) (f : Reader A R) where
  whole_extent : (v : Result B R) (n : ℕ) → extent (judged_whole v n) ≡ n
  whole_extent (Ok b) n = refl
  whole_extent (Err r) n = refl

  same_extent : (v : Front A R) → extent (judged_at judge v) ≡ extent v
  same_extent begun = refl
  same_extent (whole a n) = whole_extent (judge a n) n
  same_extent (wrong r n) = refl

  whole_said : (v : Result B R) (n : ℕ) → judged_whole v n ≡ begun → ⊥
  whole_said (Ok b) n e = cc
  whole_said (Err r) n e = cc

  begun_said : (v : Front A R) → judged_at judge v ≡ begun → v ≡ begun
  begun_said begun e = refl
  begun_said (whole a n) e = absurd (whole_said (judge a n) n e)
  begun_said (wrong r n) e = cc

  pub reads_judged_at : ReadsFront f → ReadsFront (λ b. judged_at judge (f b))
  reads_judged_at reads = reads_by (λ b. judged_at judge (f b)) (λ b. elim (decided f reads b) [
    | inl e ↦ inl (ap (judged_at judge) e)
    | inr d ↦ inr (subst (λ (n : ℕ). IsDecided (λ b. judged_at judge (f b)) b n)
        (sym (same_extent (f b))) (record {
          said = λ h. d.said (begun_said (f b) h);
          within = d.within;
          alone = ap (judged_at judge) d.alone;
          first = λ j lt. ap (judged_at judge) (d.first j lt);
          stays = λ more. ap (judged_at judge) (d.stays more);
        }))
  ])

-- whole within so many bytes
module _ {A R : Type 0} (limit : ℕ) (r : R) (f : Reader A R) (reads : ReadsFront f)
    (some : 0 < limit) where
  abbrev read : Reader A R
  read = within limit r f

  -- what the reading of the bytes up to the limit makes it
  closed_begun : (len : ℕ) (v : Front A R) → v ≡ begun → len < limit → closed_at limit r len v
      ≡ begun
  closed_begun len v e lt = rw (e, lt-leb limit len lt) refl

  closed_full : (len : ℕ) (v : Front A R) → v ≡ begun → limit ≤ len → closed_at limit r len v
      ≡ wrong r limit
  closed_full len v e le = rw (e, le-leb limit len le) refl

  closed_said : (len : ℕ) (v : Front A R) → (v ≡ begun → ⊥) → closed_at limit r len v ≡ v
  closed_said len begun said = absurd (said refl)
  closed_said len (whole a n) said = refl
  closed_said len (wrong s n) said = refl

  front_of_front : (n : ℕ) (b : List ℕ) → n ≤ limit → take limit (take n b) ≡ take n (take limit b)
  front_of_front n b le = take_all limit (take n b) (omega (arith, length-take n b, le)) ∙ sym
      (take-take n limit b le)

  -- the bytes up to the limit have begun nothing more
  begun_early : (b : List ℕ) (j : ℕ) → f b ≡ begun → f (take j b) ≡ begun
  begun_early b j e = begun_before f reads (take j b) (drop j b) (ap f (take-append-drop j b) ∙ e)

  -- with all of them it is wrong
  cut : (b : List ℕ) → f (take limit b) ≡ begun → limit ≤ length b → IsDecided read b limit
  cut b e le = record {
    said = λ h. let now = closed_full (length b) (f (take limit b)) e le in cc;
    within = le;
    alone =
        let size = length-take-le limit b le in
        closed_full (length (take limit b)) (f (take limit (take limit b)))
        (ap f (front_of_front limit b (omega arith)) ∙ begun_early (take limit b) limit e)
        (omega (arith, size))
        ∙ sym (closed_full (length b) (f (take limit b)) e le);
    first = λ j lt.
        let size = length-take-le j b (omega (arith, le, lt)) in
        closed_begun (length (take j b)) (f (take limit (take j b)))
        (ap f (front_of_front j b (omega (arith, lt))) ∙ begun_early (take limit b) j e)
        (omega (arith, size, lt));
    stays = λ more.
        let longer : limit ≤ length (b ++ more) =
        (let n = length-append b more in omega (arith, n, le)) in
        closed_full (length (b ++ more)) (f (take limit (b ++ more)))
        (ap f (take-append-le limit b more le) ∙ e) longer
        ∙ sym (closed_full (length b) (f (take limit b)) e le);
  }

  -- the bytes up to the limit, and those behind them
  parts : (b more : List ℕ) → (rest : List ℕ) × (take limit (b ++ more) ≡ take limit b ++ rest)
  parts b more =
      elim (cases_lt (length b) limit) [
        | inl lt ↦ (
          take (limit - length b) more,
          (let sum : limit ≡ length b + (limit - length b) = omega (arith, lt) in
              ap (λ n. take n (b ++ more)) sum ∙ take-append-add b more (limit - length b))
              ∙ ap (λ c. c ++ take (limit - length b) more) (sym (take_all limit b (omega arith))),
        )
        | inr le ↦ ([], take-append-le limit b more le ∙ sym (append-nil (take limit b)))
      ]

  decided_within : (b : List ℕ) (n : ℕ) → IsDecided f (take limit b) n → IsDecided read b n
  decided_within b n d =
      let size = length-take limit b in
      let same = closed_said (length b) (f (take limit b)) d.said in
      record {
        said = λ h. d.said (sym same ∙ h);
        within = omega (arith, size, d.within);
        alone =
            let front : f (take limit (take n b)) ≡ f (take limit b) = ap f
            (front_of_front n b (omega (arith, size, d.within))) ∙ d.alone in
            closed_said (length (take n b)) (f (take limit (take n b)))
            (λ h. d.said (sym front ∙ h)) ∙ front ∙ sym same;
        first = λ j lt.
            let few = length-take j b in
            closed_begun (length (take j b)) (f (take limit (take j b)))
            (ap f (front_of_front j b (omega (arith, size, d.within, lt))) ∙ d.first j lt)
            (omega (arith, few, size, d.within, lt));
        stays = λ more.
            let p = parts b more in
            let front : f (take limit (b ++ more)) ≡ f (take limit b) = ap f p.1 ∙ d.stays p.0 in
            closed_said (length (b ++ more)) (f (take limit (b ++ more)))
            (λ h. d.said (sym front ∙ h)) ∙ front ∙ sym same;
      }

  by_front : (b : List ℕ)
      → ((f (take limit b) ≡ begun) ⊎ IsDecided f (take limit b) (extent (f (take limit b))))
      → (read b ≡ begun) ⊎ IsDecided read b (extent (read b))
  by_front b (inl e) =
      elim (cases_lt (length b) limit) [
        | inl lt ↦ inl (closed_begun (length b) (f (take limit b)) e lt)
        | inr le ↦ inr
            (subst (λ (n : ℕ). IsDecided read b n)
            (sym (ap extent (closed_full (length b) (f (take limit b)) e le))) (cut b e le))
      ]
  by_front b (inr d) =
      inr (subst (λ (n : ℕ). IsDecided read b n)
      (sym (ap extent (closed_said (length b) (f (take limit b)) d.said)))
      (decided_within b (extent (f (take limit b))) d))

  pub reads_within : ReadsFront (within limit r f)
  reads_within = reads_by (within limit r f) (λ b. by_front b (decided f reads (take limit b)))

  pub within_nothing : f [] ≡ begun → within limit r f [] ≡ begun
  within_nothing e = closed_begun 0 (f (take limit [])) (ap f (take-nil limit) ∙ e) some
