-- What is read of parts is what bytes there are.
use Rattle.std.proofs.Common.{◌≡◌, ℕ, zero, suc, ◌+◌, ◌≤◌, List, [], ◌∷◌, ◌++◌, length, take, drop}
use Rattle.std.proofs.Common.{Ok, Err, Result, sym, refl, ap, ◌∙◌, subst, inl, inr, append_assoc}
use Rattle.std.proofs.Common.{arith, length-append, length-drop, take-append-drop, length-take-le}
use Rattle.std.proofs.{Common.le-ltb, Common.lt-ltb, lemmas.Bool.cases_lt}
use Rattle.std.proofs.Math.Seq.{drop-append_seam, take-add, take-append_seam}
use Rattle.unit_streams.specs.Front.{begun, Front, whole, wrong}
use Rattle.unit_streams.specs.Parts.{a_byte, further, given, Joined, judged, judged_whole, Reader}
use Rattle.unit_streams.specs.Parts.{ReadsJust, refuse, seen, some_bytes, ◌>>=◌}
use Rattle.unit_streams.proofs.Parts.{then_parts, then_whole}

-- nothing is taken where nothing is
none_taken : (n : ℕ) (b : List ℕ) → n ≤ length b → take n b ≡ [] → n ≡ 0
none_taken n b le e = let size = length-take-le n b le in let none = ap length e in omega
    (arith, size, none)

pub just_given : {A R : Type 0} (a : A) → ReadsJust (given {R = R} a) (λ x b. (x ≡ a) × (b ≡ []))
just_given {A} {R} a b x n = (
  λ e. let same : a ≡ x = cc in let zero_bytes : 0
      ≡ n = cc in (omega (arith, zero_bytes), (sym same, ap (λ k. take k b) (sym zero_bytes))),
  λ h. let zero_bytes = none_taken n b h.0 h.1.1 in ap (λ y. whole y 0) (sym h.1.0) ∙ ap (whole x)
      (sym zero_bytes),
)

pub just_refuse : {A R : Type 0} (r : R) → ReadsJust (refuse {A = A} r) (λ x b. ⊥)
just_refuse {A} {R} r b x n = (λ e. cc, λ h. absurd h.1)

pub just_byte : {R : Type 0} → ReadsJust (a_byte {R = R}) (λ x b. b ≡ x ∷ [])
just_byte {R} [] x n = (
  λ e. cc,
  λ h. absurd (let size = ap length h.1 in let none = length-take-le {A = ℕ} n [] h.0 in
      omega (arith, size, none, h.0)),
)
just_byte {R} (y ∷ b) x n = (
  λ e. let same : y ≡ x = cc in let one : 1
      ≡ n = cc in (omega (arith, one), rw (← one) (ap (λ z. z ∷ []) same)),
  λ h. back n h.0 h.1,
)
  where
    back : (n : ℕ) → n ≤ length (y ∷ b) → take n (y ∷ b) ≡ x ∷ [] → a_byte {R = R} (y ∷ b)
        ≡ whole x n
    back zero le e = cc
    back (suc n) le e =
        let same : y ≡ x = cc in let rest : take n b ≡ [] = cc in
        let none = none_taken n b (omega arith) rest in
        ap (λ z. whole z 1) same ∙ ap (whole x) (omega (arith, none))

pub just_bytes : {R : Type 0} (m : ℕ) → ReadsJust (some_bytes {R = R} m)
    (λ s b. (b ≡ s) × (length b ≡ m))
just_bytes {R} m b s n =
    elim (cases_lt (length b) m) [
      | inl lt ↦ let few : some_bytes {R = R} m b ≡ begun = rw (lt-ltb (length b) m lt) refl in (
        λ e. cc,
        λ h. absurd
            (let size = length-take-le n b h.0 in omega (arith, size, h.0, h.1.1, lt)),
      )
      | inr le ↦ let enough : some_bytes {R = R} m b ≡ whole (take m b) m =
          rw (le-ltb (length b) m le) refl in (
            λ e. let same : take m b ≡ s = cc in let size : m
                ≡ n = cc in (
                  omega (arith, size, le),
                  (
                    ap (λ k. take k b) (sym size) ∙ same,
                    ap (λ k. length (take k b)) (sym size) ∙
                        length-take-le m b le,
                  ),
                ),
            λ h. let size : n ≡ m = sym (length-take-le n b h.0) ∙ h.1.1 in enough ∙
                ap (λ k. whole (take k b) m) (sym size) ∙ ap (λ y. whole y m) h.1.0 ∙ ap (whole s)
                (sym size),
          )
    ]

module _ {A B R : Type 0} (f : Reader A R) (next : A → Reader B R) (P : A → List ℕ → Type 0)
    (Q : A → B → List ℕ → Type 0) where
  -- two parts are read where each is
  pub just_then : ReadsJust f P → ((a : A) → ReadsJust (next a) (Q a)) → ReadsJust (f >>= next)
      (Joined P Q)
  just_then first rest b c k = (there, back)
    where
      there : (f >>= next) b ≡ whole c k → (k ≤ length b) × Joined P Q c (take k b)
      there e =
          let p = then_parts f next b c k e in
          let one = (first b p.0 p.1).0 p.3 in
          let two = (rest p.0 (drop p.1 b) c p.2).0 p.4 in
          let size = length-drop p.1 b in (
            omega (arith, one.0, two.0, size, p.5),
            record {
              part = p.0;
              front = take p.1 b;
              rest = take p.2 (drop p.1 b);
              joined = ap (λ n. take n b) p.5 ∙ take-add p.1 p.2 b;
              first = one.1;
              next = two.1;
            },
          )

      back : (k ≤ length b) × Joined P Q c (take k b) → (f >>= next) b ≡ whole c k
      back h =
          let j = h.1 in
          let whole_is : b ≡ j.front ++ (j.rest ++ drop k b) = sym (take-append-drop k b) ∙
          ap (λ x. x ++ drop k b) j.joined ∙ append_assoc j.front j.rest (drop k b) in
          let total : k ≡ length j.front + length j.rest = sym (length-take-le k b h.0) ∙ ap length
          j.joined ∙ length-append j.front j.rest in
          let len : length b ≡ length j.front + length (j.rest ++ drop k b) = ap length whole_is ∙
          length-append j.front (j.rest ++ drop k b) in
          let more : length (j.rest ++ drop k b) ≡ length j.rest + length (drop k b) = length-append
          j.rest (drop k b) in
          let front : take (length j.front) b ≡ j.front = ap (take (length j.front)) whole_is ∙
          take-append_seam j.front (j.rest ++ drop k b) in
          let behind : drop (length j.front) b ≡ j.rest ++ drop k b = ap (drop (length j.front))
          whole_is ∙ drop-append_seam j.front (j.rest ++ drop k b) in
          let tail : take (length j.rest) (drop (length j.front) b)
          ≡ j.rest = ap (take (length j.rest)) behind ∙ take-append_seam j.rest (drop k b) in
          let one : f b ≡ whole j.part (length j.front) = (first b j.part (length j.front)).1
          (omega (arith, len), subst (P j.part) (sym front) j.first) in
          let two : next j.part (drop (length j.front) b) ≡ whole c (length j.rest) =
          (rest j.part (drop (length j.front) b) c (length j.rest)).1
          (omega (arith, ap length behind, more), subst (Q j.part c) (sym tail) j.next) in
          then_whole f next b j.part (length j.front) one ∙ ap (further (length j.front)) two ∙
          ap (whole c) (sym total)

-- the same thing seen otherwise
module _ {A B R S : Type 0} (see : A → B) (tell : R → S) (f : Reader A R) (P : A → List ℕ → Type 0)
  where
    pub just_seen : ReadsJust f P → ReadsJust (λ b. seen see tell (f b))
        (λ y b. (a : A) × P a b × (see a ≡ y))
    just_seen just b y n = (
      λ e. there (f b) refl e,
      λ h. let g = (just b h.1.0 n).1 (h.0, h.1.1) in
          ap (seen see tell) g ∙ ap (λ z. whole z n) h.1.2,
    )
      where
        there : (v : Front A R) → f b ≡ v → seen see tell v ≡ whole y n → (n ≤ length b)
            × ((a : A) × P a (take n b) × (see a ≡ y))
        there begun e g = cc
        there (whole a k) e g = let same : see a ≡ y = cc in let size : k ≡ n = cc in let h =
            (just b a n).0 (e ∙ ap (whole a) size) in (h.0, (a, h.1, same))
        there (wrong r k) e g = cc

-- judged by what it says
module _ {A B R : Type 0} (judge : A → Result B R) (f : Reader A R) (P : A → List ℕ → Type 0) where
  pub just_judged : ReadsJust f P → ReadsJust (λ b. judged judge (f b))
      (λ y b. (a : A) × P a b × (judge a ≡ Ok y))
  just_judged just b y n = (
    λ e. there (f b) refl e,
    λ h. let g = (just b h.1.0 n).1 (h.0, h.1.1) in
        ap (judged judge) g ∙ ap (λ v. judged_whole v n) h.1.2,
  )
    where
      told : (a : A) (k : ℕ) → f b ≡ whole a k → (v : Result B R) → judge a ≡ v → judged_whole v k
          ≡ whole y n → (n ≤ length b) × ((a : A) × P a (take n b) × (judge a ≡ Ok y))
      told a k e (Ok z) j g = let same : z ≡ y = cc in let size : k ≡ n = cc in let h =
          (just b a n).0 (e ∙ ap (whole a) size) in (h.0, (a, h.1, j ∙ ap Ok same))
      told a k e (Err r) j g = cc

      there : (v : Front A R) → f b ≡ v → judged judge v ≡ whole y n → (n ≤ length b)
          × ((a : A) × P a (take n b) × (judge a ≡ Ok y))
      there begun e g = cc
      there (whole a k) e g = told a k e (judge a) refl g
      there (wrong r k) e g = cc
