-- Any number of things and an end are known by their own bytes where each is.
use Rattle.std.proofs.Common.{◌≡◌, ℕ, zero, suc, ◌+◌, ◌<◌, ◌≤◌, ◌⊎◌, List, [], ◌∷◌, ◌++◌, length}
use Rattle.std.proofs.Common.{take, drop, sym, refl, ap, ◌∙◌, subst, inl, inr, append_assoc, arith}
use Rattle.std.proofs.Common.{length-append, length-drop, take-append-drop, length-take-le}
use Rattle.std.proofs.Common.{take_all}
use Rattle.std.proofs.Math.Seq.{drop-append_seam, take-add, take-append_seam}
use Rattle.unit_streams.specs.Front.{begun, Front, ReadsFront, whole, wrong}
use Rattle.unit_streams.specs.Parts.{AreMany, further, Many, many, more, Reader, ReadsJust}
use Rattle.unit_streams.specs.Parts.{repeated, seen, stop, Turn, turned, with_first, ◌>>=◌}
use Rattle.unit_streams.proofs.Fronts.{decided, IsDecided, reads_by, whole_some}
use Rattle.unit_streams.proofs.Parts.{reads_given, reads_seen, reads_then, then_begun, then_parts}
use Rattle.unit_streams.proofs.{Parts.then_whole, Parts.then_wrong, Peeling.extent}

module _ {A B R : Type 0} (turn : Reader (Turn A B) R) (reads : ReadsFront turn)
    (nothing : turn [] ≡ begun) where
  reads_turned : (rest : Reader (Many A B) R) → ReadsFront rest → (t : Turn A B)
      → ReadsFront (turned rest t)
  reads_turned rest h (more a) = reads_seen (with_first a) (λ r. r) rest h
  reads_turned rest h (stop b) = reads_given (record { items = []; last = b })

  reads_repeated : (n : ℕ) → ReadsFront (repeated n turn)
  unfolding repeated
  reads_repeated zero = reads_by (λ b. begun) (λ b. inl refl)
  reads_repeated (suc n) = reads_then turn (turned (repeated n turn)) reads
      (reads_turned (repeated n turn) (reads_repeated n))

  -- as many turns as bytes are enough
  module _ (m n : ℕ) (b : List ℕ) (rest : (c : List ℕ) → length c < m → length c < n
      → repeated m turn c ≡ repeated n turn c) (hm : length b < suc m) (hn : length b < suc n) where
    same_behind : (t : Turn A B) (k : ℕ) → 0 < k → k ≤ length b → turned (repeated m turn) t
        (drop k b) ≡ turned (repeated n turn) t (drop k b)
    same_behind (more a) k some le = ap (seen (with_first a) (λ r. r))
        (rest (drop k b) (simp length-drop (omega arith)) (simp length-drop (omega arith)))
    same_behind (stop e) k some le = refl

    same_turn : (v : Front (Turn A B) R) → turn b ≡ v → (turn >>= turned (repeated m turn)) b
        ≡ (turn >>= turned (repeated n turn)) b
    same_turn begun e = then_begun turn (turned (repeated m turn)) b e ∙ sym
        (then_begun turn (turned (repeated n turn)) b e)
    same_turn (whole t k) e =
        let w = whole_some turn reads nothing b t k e in
        then_whole turn (turned (repeated m turn)) b t k e ∙ ap (further k)
        (same_behind t k w.0 w.1) ∙ sym (then_whole turn (turned (repeated n turn)) b t k e)
    same_turn (wrong r k) e = then_wrong turn (turned (repeated m turn)) b r k e ∙ sym
        (then_wrong turn (turned (repeated n turn)) b r k e)

  fuel : (m n : ℕ) (b : List ℕ) → length b < m → length b < n → repeated m turn b ≡ repeated n turn
      b
  unfolding repeated
  fuel zero n b hm hn = absurd (omega arith)
  fuel (suc m) zero b hm hn = absurd (omega arith)
  fuel (suc m) (suc n) b hm hn = same_turn m n b (λ c hm hn. fuel m n c hm hn) hm hn (turn b) refl

  pub many_is : (n : ℕ) (b : List ℕ) → length b < n → many turn b ≡ repeated n turn b
  unfolding many
  many_is n b h = fuel (suc (length b)) n b (omega arith) h

  -- any number of them
  pub reads_many : ReadsFront (many turn)
  reads_many = reads_by (many turn)
      (λ b. at b (decided (repeated (suc (length b)) turn) (reads_repeated (suc (length b))) b))
    where
      at : (b : List ℕ) → (repeated (suc (length b)) turn b ≡ begun)
          ⊎ IsDecided (repeated (suc (length b)) turn) b (extent (repeated (suc (length b)) turn b))
          → (many turn b ≡ begun) ⊎ IsDecided (many turn) b (extent (many turn b))
      at b (inl e) = inl (many_is (suc (length b)) b (omega arith) ∙ e)
      at b (inr d) =
          let here = many_is (suc (length b)) b (omega arith) in
          inr (subst (λ (n : ℕ). IsDecided (many turn) b n) (sym (ap extent here)) (record {
            said = λ h. d.said (sym here ∙ h);
            within = d.within;
            alone = shorter (extent (repeated (suc (length b)) turn b)) d.within ∙ d.alone ∙ sym
                here;
            first = λ j lt. shorter j (let w = d.within in omega arith) ∙ d.first j lt;
            stays = longer;
          }))
        where
          shorter : (j : ℕ) → j ≤ length b → many turn (take j b) ≡ repeated (suc (length b)) turn
              (take j b)
          shorter j le = many_is (suc (length b)) (take j b)
              (let size = length-take-le j b le in omega (arith, size))

          longer : (c : List ℕ) → many turn (b ++ c) ≡ many turn b
          longer c =
              let size = length-append b c in
              let all : ℕ = suc (length (b ++ c)) in
              let same : many turn b ≡ repeated (suc (length (b ++ c))) turn b = many_is
              (suc (length (b ++ c))) b (omega (arith, size)) in
              elim (decided (repeated (suc (length (b ++ c))) turn)
              (reads_repeated (suc (length (b ++ c)))) b) [
                | inl h ↦ absurd
                    (d.said (sym (many_is (suc (length b)) b (omega arith)) ∙ same ∙ h))
                | inr f ↦ many_is (suc (length (b ++ c))) (b ++ c) (omega arith) ∙ f.stays c ∙ sym
                    same
              ]

-- what is read so is what bytes there are
module _ {A B R : Type 0} (turn : Reader (Turn A B) R) (reads : ReadsFront turn)
    (nothing : turn [] ≡ begun) (Is : Turn A B → List ℕ → Type 0) (just : ReadsJust turn Is) where
  seen_parts : (a : A) (v : Front (Many A B) R) (m : Many A B) (i : ℕ) → seen (with_first a)
      (λ r. r) v ≡ whole m i → (rest : Many A B) × (v ≡ whole rest i) × (with_first a rest ≡ m)
  seen_parts a begun m i e = cc
  seen_parts a (whole rest k) m i e = let size : k ≡ i = cc in let same : with_first a rest
      ≡ m = cc in (rest, ap (whole rest) size, same)
  seen_parts a (wrong r k) m i e = cc

  -- what is read are such things
  module _ (n : ℕ) (b : List ℕ) (rest_are : (c : List ℕ) (m : Many A B) (i : ℕ) → repeated n turn c
      ≡ whole m i → (i ≤ length c) × AreMany Is m.items m.last (take i c)) (m : Many A B) (j i : ℕ)
    where
      are_behind : (t : Turn A B) → turn b ≡ whole t j → turned (repeated n turn) t (drop j b)
          ≡ whole m i → (j + i ≤ length b) × AreMany Is m.items m.last (take (j + i) b)
      unfolding AreMany
      are_behind (stop e) one two =
          let own = (just b (stop e) j).0 one in
          let same : record { items = []; last = e } ≡ m = cc in let none : 0 ≡ i = cc in
          let size : j ≡ j + i = omega (arith, none) in (
            omega (arith, own.0, none),
            rw (← same)
                (subst (λ (k : ℕ). Is (stop e) (take k b)) size own.1),
          )
      are_behind (more a) one two =
          let own = (just b (more a) j).0 one in
          let p = seen_parts a (repeated n turn (drop j b)) m i two in
          let behind = rest_are (drop j b) p.0 i p.1 in
          let size = length-drop j b in (
            omega (arith, own.0, behind.0, size),
            rw (← p.2)
                (take j b, take i (drop j b), take-add j i b, own.1, behind.1),
          )

  there : (n : ℕ) (b : List ℕ) (m : Many A B) (k : ℕ) → repeated n turn b ≡ whole m k
      → (k ≤ length b) × AreMany Is m.items m.last (take k b)
  unfolding repeated
  there zero b m k e = cc
  there (suc n) b m k e =
      let p = then_parts turn (turned (repeated n turn)) b m k e in
      let h = are_behind n b (λ c m i e. there n c m i e) m p.1 p.2 p.0 p.3 p.4 in
      rw p.5 h

  -- such things are read
  back : (items : List A) (last : B) (n : ℕ) (b c : List ℕ) → length items < n → AreMany Is items
      last b → repeated n turn (b ++ c) ≡ whole (record { items = items; last = last }) (length b)
  unfolding repeated AreMany
  back items last zero b c lt are = absurd (omega arith)
  back [] last (suc n) b c lt are =
      let one : turn (b ++ c) ≡ whole (stop last) (length b) =
      (just (b ++ c) (stop last) (length b)).1
      (omega (arith, length-append b c), subst (Is (stop last)) (sym (take-append_seam b c)) are) in
      then_whole turn (turned (repeated n turn)) (b ++ c) (stop last) (length b) one ∙
      ap (whole (record { items = []; last = last })) (omega arith)
  back (a ∷ items) last (suc n) b c lt (front, rest, joined, first, others) =
      let all : b ++ c ≡ front ++ (rest ++ c) = ap (λ x. x ++ c) joined ∙ append_assoc front rest c
      in
      let size : length (b ++ c) ≡ length front + length (rest ++ c) = ap length all ∙ length-append
      front (rest ++ c) in
      let own : take (length front) (b ++ c) ≡ front = ap (take (length front)) all ∙
      take-append_seam front (rest ++ c) in
      let tail : drop (length front) (b ++ c) ≡ rest ++ c = ap (drop (length front)) all ∙
      drop-append_seam front (rest ++ c) in
      let one : turn (b ++ c) ≡ whole (more a) (length front) =
      (just (b ++ c) (more a) (length front)).1 (
        omega (arith, size),
        subst (Is (more a)) (sym own)
            first,
      ) in
      let total : length front + length rest
      ≡ length b = sym (ap length joined ∙ length-append front rest) in
      then_whole turn (turned (repeated n turn)) (b ++ c) (more a) (length front) one
      ∙ ap (λ x. further (length front) (seen (with_first a) (λ r. r) (repeated n turn x))) tail
      ∙ ap (λ v. further (length front) (seen (with_first a) (λ r. r) v))
      (back items last n rest c (omega arith) others)
      ∙ ap (whole (record { items = a ∷ items; last = last })) total

  -- each has a byte at least
  pub many_size : (items : List A) (last : B) (b : List ℕ) → AreMany Is items last b → length items
      ≤ length b
  unfolding AreMany
  many_size [] last b are = omega arith
  many_size (a ∷ items) last b (front, rest, joined, first, others) =
      let one : turn front ≡ whole (more a) (length front) = (just front (more a) (length front)).1
      (omega arith, subst (Is (more a)) (sym (take_all (length front) front (omega arith))) first)
      in
      let some = whole_some turn reads nothing front (more a) (length front) one in
      let fewer = many_size items last rest others in
      let size = ap length joined ∙ length-append front rest in
      omega (arith, some.0, fewer, size)

  pub just_many : ReadsJust (many turn) (λ m b. AreMany Is m.items m.last b)
  unfolding many
  just_many b m n = (
    λ e. there (suc (length b)) b m n e,
    λ h.
        let size = length-take-le n b h.0 in
        let few = many_size m.items m.last (take n b) h.1 in
        ap (repeated (suc (length b)) turn) (sym (take-append-drop n b))
        ∙ back m.items m.last (suc (length b)) (take n b) (drop n b) (omega (arith, size, few, h.0))
        h.1
        ∙ ap (whole m) size,
  )
