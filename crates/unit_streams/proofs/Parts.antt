-- Things that are made of parts are known by their own bytes where their parts are.
use Rattle.std.proofs.Common.{◌≡◌, ℕ, ◌+◌, ◌-◌, ◌<◌, ◌≤◌, ◌≢◌, ◌⊎◌, List, [], ◌∷◌, ◌++◌, length}
use Rattle.std.proofs.Common.{take, drop, Ok, Err, Result, sym, refl, ap, ◌∙◌, subst, inl, inr}
use Rattle.std.proofs.Common.{arith, length-append, length-drop, take-append-drop, length-take-le}
use Rattle.std.proofs.{Common.le-ltb, Common.lt-ltb, Math.Seq.take-add, lemmas.Bool.cases_lt}
use Rattle.std.proofs.lemmas.List.{drop-append-le, drop-take, take-append-le}
use Rattle.unit_streams.specs.Front.{begun, Front, ReadsFront, whole, wrong}
use Rattle.unit_streams.specs.Parts.{a_byte, further, given, judged, judged_whole, Reader, refuse}
use Rattle.unit_streams.specs.Parts.{seen, some_bytes, ◌>>=◌}
use Rattle.unit_streams.proofs.{Fronts.decided, Fronts.IsDecided, Fronts.reads_by, Peeling.extent}

-- what is said at once, whatever the bytes
reads_at_once : {A R : Type 0} (v : Front A R) → v ≢ begun → extent v ≡ 0 → ReadsFront (λ b. v)
reads_at_once v said none = reads_by (λ b. v) (λ b. inr (record {
  said = said;
  within = omega (arith, none);
  alone = refl;
  first = λ j lt. absurd (omega (arith, none));
  stays = λ more. refl;
}))

-- a thing of no bytes
pub reads_given : {A R : Type 0} (a : A) → ReadsFront (given {R = R} a)
reads_given {A} {R} a = let v : Front A R = whole a 0 in reads_at_once v (λ e. cc) refl

-- nothing that may come
pub reads_refuse : {A R : Type 0} (r : R) → ReadsFront (refuse {A = A} r)
reads_refuse {A} {R} r = let v : Front A R = wrong r 0 in reads_at_once v (λ e. cc) refl

-- a byte
pub reads_byte : {R : Type 0} → ReadsFront (a_byte {R = R})
reads_byte {R} = reads_by (a_byte {R = R}) cases where
  cases : (b : List ℕ) → (a_byte {R = R} b ≡ begun) ⊎ IsDecided (a_byte {R = R}) b
      (extent (a_byte {R = R} b))
  cases [] = inl refl
  cases (x ∷ b) = inr (record {
    said = λ h. cc;
    within = omega arith;
    alone = refl;
    first = λ j lt. let none : j ≡ 0 = omega arith in rw none refl;
    stays = λ more. refl;
  })

-- so many bytes
module _ {R : Type 0} (n : ℕ) where
  few : (b : List ℕ) → length b < n → some_bytes {R = R} n b ≡ begun
  few b lt = rw (lt-ltb (length b) n lt) refl

  enough : (b : List ℕ) → n ≤ length b → some_bytes {R = R} n b ≡ whole (take n b) n
  enough b le = rw (le-ltb (length b) n le) refl

  pub reads_bytes : ReadsFront (some_bytes {R = R} n)
  reads_bytes = reads_by (some_bytes {R = R} n) cases where
    cases : (b : List ℕ) → (some_bytes {R = R} n b ≡ begun) ⊎ IsDecided (some_bytes {R = R} n) b
        (extent (some_bytes {R = R} n b))
    cases b =
        elim (cases_lt (length b) n) [
          | inl lt ↦ inl (few b lt)
          | inr le ↦ inr (subst (λ (m : ℕ). IsDecided (some_bytes {R = R} n) b m)
              (sym (ap extent (enough b le))) (record {
                said = λ h. let e = enough b le in cc;
                within = le;
                alone = enough (take n b) (omega (arith, length-take-le n b le)) ∙ ap (λ c. whole c n)
                    (take_own b le) ∙ sym (enough b le);
                first = λ j lt. few (take j b) (omega (arith, length-take-le j b (omega arith)));
                stays = λ more. enough (b ++ more) (omega (arith, length-append b more)) ∙
                    ap (λ c. whole c n) (take-append-le n b more le) ∙ sym (enough b le);
              }))
        ]
      where
        take_own : (b : List ℕ) → n ≤ length b → take n (take n b) ≡ take n b
        take_own b le = sym
            (take-append-le n (take n b) (drop n b) (omega (arith, length-take-le n b le))) ∙
            ap (take n) (take-append-drop n b)

module _ {A B R : Type 0} (f : Reader A R) (next : A → Reader B R) where
  -- what comes behind a first part, by what that is
  pub then_begun : (b : List ℕ) → f b ≡ begun → (f >>= next) b ≡ begun
  unfolding ◌>>=◌
  then_begun b e = rw e refl

  pub then_wrong : (b : List ℕ) (r : R) (n : ℕ) → f b ≡ wrong r n → (f >>= next) b ≡ wrong r n
  unfolding ◌>>=◌
  then_wrong b r n e = rw e refl

  pub then_whole : (b : List ℕ) (a : A) (n : ℕ) → f b ≡ whole a n → (f >>= next) b
      ≡ further n (next a (drop n b))
  unfolding ◌>>=◌
  then_whole b a n e = rw e refl

  -- a whole thing has a first part and a rest
  pub then_parts : (b : List ℕ) (c : B) (k : ℕ) → (f >>= next) b ≡ whole c k
      → (a : A) × (n : ℕ) × (m : ℕ) × (f b ≡ whole a n) × (next a (drop n b) ≡ whole c m)
      × (k ≡ n + m)
  then_parts b c k e = by_first (f b) refl
    where
      by_rest : (a : A) (n : ℕ) → f b ≡ whole a n → (v : Front B R) → next a (drop n b) ≡ v
          → further n v ≡ whole c k
          → (a : A) × (n : ℕ) × (m : ℕ) × (f b ≡ whole a n) × (next a (drop n b) ≡ whole c m)
          × (k ≡ n + m)
      by_rest a n h begun g told = cc
      by_rest a n h (whole d m) g told = let same : d ≡ c = cc in let size : n + m
          ≡ k = cc in (a, n, m, h, g ∙ ap (λ x. whole x m) same, sym size)
      by_rest a n h (wrong r m) g told = cc

      by_first : (v : Front A R) → f b ≡ v → (a : A) × (n : ℕ) × (m : ℕ) × (f b ≡ whole a n)
          × (next a (drop n b) ≡ whole c m) × (k ≡ n + m)
      by_first begun h = let none = then_begun b h in cc
      by_first (whole a n) h = by_rest a n h (next a (drop n b)) refl (sym (then_whole b a n h) ∙ e)
      by_first (wrong r n) h = let none = then_wrong b r n h in cc

  module _ (reads : ReadsFront f) (rests : (a : A) → ReadsFront (next a)) where
    -- where the first part and the rest are decided
    both : (b : List ℕ) (a : A) (n m : ℕ) → f b ≡ whole a n → next a (drop n b) ≢ begun
        → IsDecided (next a) (drop n b) m → IsDecided (f >>= next) b (n + m)
    both b a n m e said d = record {
      said = λ h. not_begun (next a (drop n b)) refl (sym (then_whole b a n e) ∙ h);
      within = let size = length-drop n b in let w = d.within in let v = reads.whole_within b a n e
          in omega (arith, size, w, v);
      alone =
          then_whole (take (n + m) b) a n (front (n + m) (omega arith)) ∙
          ap (λ c. further n (next a c)) (drop-take n m b) ∙ ap (further n) d.alone ∙ sym
          (then_whole b a n e);
      first = first;
      stays = λ more.
          then_whole (b ++ more) a n (reads.whole_stays b more a n e) ∙
          ap (λ c. further n (next a c)) (drop-append-le n b more (reads.whole_within b a n e))
          ∙ ap (further n) (d.stays more) ∙ sym (then_whole b a n e);
    } where
      front : (j : ℕ) → n ≤ j → f (take j b) ≡ whole a n
      front j le =
          let sum : j ≡ n + (j - n) = omega arith in
          ap (λ i. f (take i b)) sum ∙ ap f (take-add n (j - n) b) ∙ reads.whole_stays (take n b)
          (take (j - n) (drop n b)) a n (reads.whole_alone b a n e)

      not_begun : (v : Front B R) → next a (drop n b) ≡ v → further n v ≡ begun → ⊥
      not_begun begun h g = said h
      not_begun (whole c k) h g = cc
      not_begun (wrong r k) h g = cc

      first : (j : ℕ) → j < n + m → (f >>= next) (take j b) ≡ begun
      first j lt =
          elim (cases_lt j n) [
            | inl less ↦ then_begun (take j b) (reads.whole_first b a n j e less)
            | inr le ↦
                let sum : j ≡ n + (j - n) = omega arith in
                then_whole (take j b) a n (front j le) ∙
                ap (λ i. further n (next a (drop n (take i b)))) sum ∙
                ap (λ c. further n (next a c)) (drop-take n (j - n) b)
                ∙ ap (further n) (d.first (j - n) (omega arith))
          ]

    first_wrong : (b : List ℕ) (r : R) (n : ℕ) → f b ≡ wrong r n → IsDecided (f >>= next) b n
    first_wrong b r n e = record {
      said = λ h. let told = then_wrong b r n e in cc;
      within = reads.wrong_within b r n e;
      alone = then_wrong (take n b) r n (reads.wrong_alone b r n e) ∙ sym (then_wrong b r n e);
      first = λ j lt. then_begun (take j b) (reads.wrong_first b r n j e lt);
      stays = λ more. then_wrong (b ++ more) r n (reads.wrong_stays b more r n e) ∙ sym
          (then_wrong b r n e);
    }

    -- what is made of two parts that are known by their own bytes is so too
    pub reads_then : ReadsFront (f >>= next)
    reads_then = reads_by (f >>= next) (λ b. by_first b (f b) refl)
      where
        extent_further : (n : ℕ) (v : Front B R) → v ≢ begun → extent (further n v) ≡ n + extent v
        extent_further n begun said = absurd (said refl)
        extent_further n (whole c k) said = refl
        extent_further n (wrong r k) said = refl

        by_rest : (b : List ℕ) (a : A) (n : ℕ) → f b ≡ whole a n → (next a (drop n b) ≡ begun)
            ⊎ IsDecided (next a) (drop n b) (extent (next a (drop n b)))
            → ((f >>= next) b ≡ begun) ⊎ IsDecided (f >>= next) b (extent ((f >>= next) b))
        by_rest b a n e (inl h) = inl (then_whole b a n e ∙ ap (further n) h)
        by_rest b a n e (inr d) =
            let size : n + extent (next a (drop n b)) ≡ extent ((f >>= next) b) = sym
            (ap extent (then_whole b a n e) ∙ extent_further n (next a (drop n b)) d.said) in
            inr (subst (λ (m : ℕ). IsDecided (f >>= next) b m) size
            (both b a n (extent (next a (drop n b))) e d.said d))

        by_first : (b : List ℕ) (v : Front A R) → f b ≡ v → ((f >>= next) b ≡ begun)
            ⊎ IsDecided (f >>= next) b (extent ((f >>= next) b))
        by_first b begun e = inl (then_begun b e)
        by_first b (whole a n) e = by_rest b a n e (decided (next a) (rests a) (drop n b))
        by_first b (wrong r n) e = inr
            (subst (λ (m : ℕ). IsDecided (f >>= next) b m) (sym (ap extent (then_wrong b r n e)))
            (first_wrong b r n e))

-- what is read, as h takes it: h decides just what is decided, by as many bytes
module _ {A B R S : Type 0} (h : Front A R → Front B S) (open_as : h begun ≡ begun)
    (said_as : (v : Front A R) → h v ≡ begun → v ≡ begun)
    (extent_as : (v : Front A R) → extent (h v) ≡ extent v) where
  pub reads_as : (f : Reader A R) → ReadsFront f → ReadsFront (λ b. h (f b))
  reads_as f reads = reads_by (λ b. h (f b)) (λ b. elim (decided f reads b) [
    | inl e ↦ inl (ap h e ∙ open_as)
    | inr d ↦ inr (subst (λ (n : ℕ). IsDecided (λ b. h (f b)) b n) (sym (extent_as (f b))) (record {
      said = λ e. d.said (said_as (f b) e);
      within = d.within;
      alone = ap h d.alone;
      first = λ j lt. ap h (d.first j lt) ∙ open_as;
      stays = λ more. ap h (d.stays more);
    }))
  ])

-- the same thing seen otherwise
module _ {A B R S : Type 0} (see : A → B) (tell : R → S) (f : Reader A R) where
  seen_extent : (v : Front A R) → extent (seen see tell v) ≡ extent v
  seen_extent begun = refl
  seen_extent (whole a n) = refl
  seen_extent (wrong r n) = refl

  seen_said : (v : Front A R) → seen see tell v ≡ begun → v ≡ begun
  seen_said begun e = refl
  seen_said (whole a n) e = cc
  seen_said (wrong r n) e = cc

  pub reads_seen : ReadsFront f → ReadsFront (λ b. seen see tell (f b))
  reads_seen reads = reads_as (seen see tell) refl seen_said seen_extent f reads

-- judged by what it says
module _ {A B R : Type 0} (judge : A → Result B R) (f : Reader A R) where
  judged_whole_extent : (v : Result B R) (n : ℕ) → extent (judged_whole v n) ≡ n
  judged_whole_extent (Ok b) n = refl
  judged_whole_extent (Err r) n = refl

  judged_extent : (v : Front A R) → extent (judged judge v) ≡ extent v
  judged_extent begun = refl
  judged_extent (whole a n) = judged_whole_extent (judge a) n
  judged_extent (wrong r n) = refl

  whole_said : (v : Result B R) (n : ℕ) → judged_whole v n ≡ begun → ⊥
  whole_said (Ok b) n e = cc
  whole_said (Err r) n e = cc

  judged_said : (v : Front A R) → judged judge v ≡ begun → v ≡ begun
  judged_said begun e = refl
  judged_said (whole a n) e = absurd (whole_said (judge a) n e)
  judged_said (wrong r n) e = cc

  pub reads_judged : ReadsFront f → ReadsFront (λ b. judged judge (f b))
  reads_judged reads = reads_as (judged judge) refl judged_said judged_extent f reads
