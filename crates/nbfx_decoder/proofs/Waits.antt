-- What has begun and wants more bytes.
use Rattle.std.proofs.Common.{◌≡◌, ℕ, ◌+◌, ◌<◌, List, [], ◌∷◌, ◌++◌, length, sym, ap, ◌∙◌}
use Rattle.std.proofs.Common.{append-nil, arith, length-append}
use Rattle.unit_streams.specs.Front.{begun, Front}
use Rattle.nbfx_decoder.specs.Units.{AwaitsBytes}

-- no bytes more
no_more : (b next : List ℕ) → length (b ++ next) < length b + 1 → b ++ next ≡ b
no_more b [] lt = append-nil b
no_more b (y ∷ next) lt = absurd (let n = length-append b (y ∷ next) in omega (arith, n, lt))

module _ {A R : Type 0} (reader : List ℕ → Front A R) (b : List ℕ) where
  -- one more byte
  pub waits_one : reader b ≡ begun → AwaitsBytes reader b (length b + 1)
  waits_one e = record { more = omega arith; begins = λ next lt. ap reader (no_more b next lt) ∙ e }

  -- so it has begun
  pub waits_now : (n : ℕ) → AwaitsBytes reader b n → reader b ≡ begun
  waits_now n w =
      let same = length-append b [] in
      let more = w.more in
      ap reader (sym (append-nil b)) ∙ w.begins [] (omega (arith, same, more))
