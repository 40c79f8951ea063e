-- An integer at the front of some bytes is read byte by byte.
use Rattle.std.proofs.Common.{◌≡◌, ℕ, ◌+◌, ◌<◌, List, [], ◌∷◌, ◌++◌, length, get_or, take, drop}
use Rattle.std.proofs.Common.{sym, ap, ◌∙◌, arith, take-append-drop, length-take-le}
use Rattle.{std.proofs.lemmas.List.take_more, unit_streams.proofs.Peeling.peels_front}
use Rattle.unit_streams.specs.Front.{ReadsFront, whole, wrong}
use Rattle.multibyte_ints.{specs.Integer.int_at, proofs.IntegerBytes.int_peels}

reads : ReadsFront int_at
reads = peels_front int_at int_peels

module _ (bytes : List ℕ) (at : ℕ) (lt : at < length bytes) where
  -- one byte more
  pub one_more : take at bytes ++ get_or bytes at 0 ∷ [] ≡ take (at + 1) bytes
  one_more = sym (take_more bytes at 0 lt)

  size : length (take at bytes ++ get_or bytes at 0 ∷ []) ≡ at + 1
  size = ap length one_more ∙ length-take-le (at + 1) bytes (omega (arith, lt))

  -- what the bytes up to there show stays
  pub whole_there : (n : ℕ) → int_at (take at bytes ++ get_or bytes at 0 ∷ [])
      ≡ whole n (length (take at bytes ++ get_or bytes at 0 ∷ [])) → int_at bytes ≡ whole n (at + 1)
  whole_there n e =
      ap int_at (sym (take-append-drop (at + 1) bytes))
      ∙ reads.whole_stays (take (at + 1) bytes) (drop (at + 1) bytes) n (at + 1)
      (ap int_at (sym one_more) ∙ e ∙ ap (whole n) size)

  pub wrong_there : int_at (take at bytes ++ get_or bytes at 0 ∷ []) ≡ wrong tt 5 → int_at bytes
      ≡ wrong tt 5
  wrong_there e =
      ap int_at (sym (take-append-drop (at + 1) bytes))
      ∙ reads.wrong_stays (take (at + 1) bytes) (drop (at + 1) bytes) tt 5
      (ap int_at (sym one_more) ∙ e)
