-- What one more byte makes of a string that has begun, so that strings are read byte by byte.
use Rattle.std.proofs.Common.{◌≡◌, ℕ, suc, ◌+◌, ◌<◌, ◌≤◌, ◌⊎◌, List, [], ◌∷◌, ◌++◌, length, take}
use Rattle.std.proofs.Common.{drop, sym, ap, ◌∙◌, inl, inr, arith, length-append, length-drop}
use Rattle.std.proofs.lemmas.Bool.{cases_Bool, Decides.leb_tells}
use Rattle.std.proofs.lemmas.List.{drop-append-le, take-append-le}
use Rattle.{std.specs.Str.is_utf8, unit_streams.proofs.Taken.at_last}
use Rattle.unit_streams.proofs.Peeling.{extent, IsPeeling, peels_front}
use Rattle.unit_streams.specs.Front.{begun, ReadsFront, whole}
use Rattle.multibyte_ints.specs.{Integer.int_at, Text.string_at}
use Rattle.multibyte_ints.proofs.IntegerBytes.{int_peels, int_reads_front}
use Rattle.multibyte_ints.proofs.TextFacts.{above, above_is, int_begun, int_begun_is, int_wrong}
use Rattle.multibyte_ints.proofs.TextFacts.{int_wrong_is, no_text, no_text_is, string_cases, text}
use Rattle.multibyte_ints.proofs.TextFacts.{text_is, waiting, waiting_is}

-- the text behind j bytes is the same in a longer list
same_text : (b more : List ℕ) (n j : ℕ) → j + n ≤ length b → take n (drop j (b ++ more))
    ≡ take n (drop j b)
same_text b more n j within =
    rw (drop-append-le j b more (omega arith))
    (take-append-le n (drop j b) more (simp length-drop (omega arith)))

-- a text that is all there decides the string
text_extent : (limit : ℕ) (b : List ℕ) (n j : ℕ) → int_at b ≡ whole n j → n ≤ limit → j + n
    ≤ length b → extent (string_at limit b) ≡ j + n
text_extent limit b n j e low within =
    elim (cases_Bool (is_utf8 (take n (drop j b)))) [
      | inl u ↦ ap extent (text_is limit b n j e low within u)
      | inr u ↦ ap extent (no_text_is limit b n j e low within u)
    ]

-- one more byte of the integer
in_int : (limit : ℕ) (b : List ℕ) (x : ℕ) → int_at b ≡ begun
    → (string_at limit (b ++ x ∷ []) ≡ begun)
    ⊎ (extent (string_at limit (b ++ x ∷ [])) ≡ suc (length b))
in_int limit b x i =
    let lens = length-append b (x ∷ []) in
    elim (string_cases limit (b ++ x ∷ [])) [
      | int_begun e is ↦ inl is
      | int_wrong k e is ↦ inr (ap extent is ∙ sym (ap extent e) ∙ at_last int_at int_peels b x i
          (λ h. cc))
      | above n j e up is ↦ inr (ap extent is ∙ sym (ap extent e) ∙ at_last int_at int_peels b x i
          (λ h. cc))
      | waiting n j e low few is ↦ inl is
      | text n j e low within u is ↦ inr
          (omega (
            arith,
            ap extent is,
            ap extent e,
            at_last int_at int_peels b x i (λ h. cc),
            within,
          ))
      | no_text n j e low within u is ↦ inr
          (omega (
            arith,
            ap extent is,
            ap extent e,
            at_last int_at int_peels b x i (λ h. cc),
            within,
          ))
    ]

-- one more byte of the text
in_text : (limit : ℕ) (b : List ℕ) (x n j : ℕ) → int_at b ≡ whole n j → n ≤ limit → length b < j + n
    → (string_at limit (b ++ x ∷ []) ≡ begun)
    ⊎ (extent (string_at limit (b ++ x ∷ [])) ≡ suc (length b))
in_text limit b x n j e low few =
    let lens = length-append b (x ∷ []) in
    let there = int_reads_front.whole_stays b (x ∷ []) n j e in
    elim (leb_tells (j + n) (length (b ++ x ∷ []))) [
      | inl all ↦ inr (omega (arith, text_extent limit (b ++ x ∷ []) n j there low all.1, all.1))
      | inr still ↦ inl (waiting_is limit (b ++ x ∷ []) n j there low still.1)
    ]

one_byte : (limit : ℕ) (b : List ℕ) (x : ℕ) → string_at limit b ≡ begun
    → (string_at limit (b ++ x ∷ []) ≡ begun)
    ⊎ (extent (string_at limit (b ++ x ∷ [])) ≡ suc (length b))
one_byte limit b x h =
    elim (string_cases limit b) [
      | int_begun e is ↦ in_int limit b x e
      | int_wrong k e is ↦ cc
      | above n j e up is ↦ cc
      | waiting n j e low few is ↦ in_text limit b x n j e low few
      | text n j e low within u is ↦ cc
      | no_text n j e low within u is ↦ cc
    ]

one_byte_stays : (limit : ℕ) (b : List ℕ) (x : ℕ) → 0 < extent (string_at limit b) → string_at limit
    (b ++ x ∷ []) ≡ string_at limit b
one_byte_stays limit b x said =
    let more : List ℕ = x ∷ [] in
    elim (string_cases limit b) [
      | int_begun e is ↦ absurd (omega (arith, ap extent is))
      | int_wrong k e is ↦ int_wrong_is limit (b ++ more) tt k
          (int_reads_front.wrong_stays b more tt k e) ∙ sym is
      | above n j e up is ↦ above_is limit (b ++ more) n j
          (int_reads_front.whole_stays b more n j e) up ∙ sym is
      | waiting n j e low few is ↦ absurd (omega (arith, ap extent is))
      | text n j e low within u is ↦
          let same = same_text b more n j within in
          text_is limit (b ++ more) n j (int_reads_front.whole_stays b more n j e) low
          (simp length-append (omega arith)) (ap is_utf8 same ∙ u)
          ∙ ap (λ s. whole s (j + n)) same ∙ sym is
      | no_text n j e low within u is ↦
          no_text_is limit (b ++ more) n j (int_reads_front.whole_stays b more n j e) low
          (simp length-append (omega arith))
          (ap is_utf8 (same_text b more n j within) ∙ u)
          ∙ sym is
    ]

pub string_peels : (limit : ℕ) → IsPeeling (string_at limit)
string_peels limit = record {
  nothing = int_begun_is limit [] int_peels.nothing;
  byte = one_byte limit;
  stays = one_byte_stays limit;
}

-- so a string is known by its own bytes
pub string_reads_front : (limit : ℕ) → ReadsFront (string_at limit)
string_reads_front limit = peels_front (string_at limit) (string_peels limit)
