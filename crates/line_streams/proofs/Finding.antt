-- Where a search for a line feed finds the end of a line.
use Rattle.std.proofs.Common.{◌≡◌, ℕ, zero, suc, Bool, true, false, List, [], ◌∷◌, ◌++◌, length}
use Rattle.std.proofs.Common.{take, drop, ◌==◌, refl, ap, arith, eqb-true}
use Rattle.memchr.specs.Find.{is_byte, NoneBefore, Nowhere, Passes}
use Rattle.line_notation.specs.Lines.{has_no_feed}

-- no byte is found, so there is no line feed
pub none_found : (bytes : List ℕ) → Nowhere (Passes (is_byte 10) bytes) 0 (length bytes)
    → has_no_feed bytes ≡ true
none_found [] none = refl
none_found (b ∷ bytes) none = by_feed (none_found bytes) (b == 10) refl where
  by_feed : (Nowhere (Passes (is_byte 10) bytes) 0 (length bytes) → has_no_feed bytes ≡ true)
      → (v : Bool) → (b == 10) ≡ v → has_no_feed (b ∷ bytes) ≡ true
  by_feed more true is = absurd (none 0 (omega arith) (omega arith) is)
  by_feed more false is =
      rw is (more (λ k low high. none (suc k) (omega arith) (omega (arith, high))))

-- one is found: there is none before it
pub record IsLineEnd (bytes : List ℕ) (k : ℕ) : Type 0 where
  pub free : has_no_feed (take k bytes) ≡ true
  pub split : bytes ≡ take k bytes ++ 10 ∷ drop (suc k) bytes

pub line_end : (bytes : List ℕ) (k : ℕ)
    → NoneBefore (Passes (is_byte 10) bytes) 0 (length bytes) k → Passes (is_byte 10) bytes k
    → IsLineEnd bytes k
line_end [] k first is = absurd (let n = first.high in omega (arith, n))
line_end (b ∷ bytes) zero first is =
    record { free = refl; split = ap (λ c. c ∷ bytes) (eqb-true b 10 is) }
line_end (b ∷ bytes) (suc k) first is = by_feed (line_end bytes k) (b == 10) refl where
  by_feed : (NoneBefore (Passes (is_byte 10) bytes) 0 (length bytes) k
      → Passes (is_byte 10) bytes k → IsLineEnd bytes k)
      → (v : Bool) → (b == 10) ≡ v → IsLineEnd (b ∷ bytes) (suc k)
  by_feed more true feed = absurd (first.before 0 (omega arith) (omega arith) feed)
  by_feed more false feed =
      let high = first.high in
      let rest = more (record {
        low = omega arith;
        high = omega (arith, high);
        before = λ j low lt. first.before (suc j) (omega arith) (omega (arith, lt));
      }) is in
      record { free = rw feed rest.free; split = ap (λ l. b ∷ l) rest.split }
