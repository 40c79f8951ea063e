-- Facts about texts in one list of bytes.
use Rattle.std.proofs.Common.{◌≡◌, ℕ, zero, suc, ◌+◌, ◌-◌, ◌<◌, ◌≤◌, List, [], ◌∷◌, ◌++◌, length}
use Rattle.std.proofs.Common.{get_or, take, drop, slice_get, slice_range, Some, None, IsUtf8, sym}
use Rattle.std.proofs.Common.{refl, ap, ◌∙◌, subst, arith, length-append, length-drop}
use Rattle.std.proofs.Common.{length-take-le, take_all, take-take, drop_at}
use Rattle.std.proofs.lemmas.List.{drop-append-le, drop-take, take-append-le}
use Rattle.session_dictionary.specs.Pieces.{ArePieces, pieces}

pub length-pieces : (from : ℕ) (ends bytes : List ℕ) → length (pieces from ends bytes) ≡ length ends
length-pieces from [] bytes = refl
length-pieces from (end ∷ ends) bytes = omega (arith, length-pieces end ends bytes)

pub begins_within : (from : ℕ) (ends bytes : List ℕ) → ArePieces from ends bytes
    → from ≤ length bytes
begins_within from [] bytes are = omega (arith, are)
begins_within from (end ∷ ends) bytes are = omega (arith, are.0, begins_within end ends bytes are.2)

-- the text at a place
pub piece_at : (from : ℕ) (ends bytes : List ℕ) (place : ℕ) → place < length ends
    → slice_get (pieces from ends bytes) place
    ≡ Some (slice_range bytes (get_or (from ∷ ends) place 0) (get_or ends place 0))
piece_at from [] bytes place h = absurd (omega arith)
piece_at from (end ∷ ends) bytes zero h = refl
piece_at from (end ∷ ends) bytes (suc place) h = piece_at end ends bytes place (omega arith)

pub piece_past : (from : ℕ) (ends bytes : List ℕ) (place : ℕ) → length ends ≤ place
    → slice_get (pieces from ends bytes) place ≡ None
piece_past from [] bytes place h = refl
piece_past from (end ∷ ends) bytes zero h = absurd (omega arith)
piece_past from (end ∷ ends) bytes (suc place) h = piece_past end ends bytes place (omega arith)

-- what is known of the text at a place
pub record IsPiece (from : ℕ) (ends bytes : List ℕ) (place : ℕ) : Type 0 where
  pub rises : get_or (from ∷ ends) place 0 ≤ get_or ends place 0
  pub within : get_or ends place 0 ≤ length bytes
  pub utf8 : IsUtf8 (slice_range bytes (get_or (from ∷ ends) place 0) (get_or ends place 0))

pub piece_known : (from : ℕ) (ends bytes : List ℕ) (place : ℕ) → ArePieces from ends bytes
    → place < length ends → IsPiece from ends bytes place
piece_known from [] bytes place are h = absurd (omega arith)
piece_known from (end ∷ ends) bytes zero are h =
    record { rises = are.0; within = begins_within end ends bytes are.2; utf8 = are.1 }
piece_known from (end ∷ ends) bytes (suc place) are h =
    let known = piece_known end ends bytes place are.2 (omega arith) in
    record { rises = known.rises; within = known.within; utf8 = known.utf8 }

-- a part stays as it is where bytes come after, and where those after it are cut off
part-append : (bytes more : List ℕ) (from end : ℕ) → from ≤ end → end ≤ length bytes
    → slice_range (bytes ++ more) from end ≡ slice_range bytes from end
part-append bytes more from end rises within =
    ap (take (end - from)) (drop-append-le from bytes more (omega arith))
    ∙ take-append-le (end - from) (drop from bytes) more (omega (arith, length-drop from bytes))

part-cut : (bytes : List ℕ) (from end cut : ℕ) → from ≤ end → end ≤ cut
    → slice_range (take cut bytes) from end ≡ slice_range bytes from end
part-cut bytes from end cut rises within =
    let whole : from + (cut - from) ≡ cut = omega arith in
    ap (λ n. take (end - from) (drop from (take n bytes))) (sym whole)
    ∙ ap (take (end - from)) (drop-take from (cut - from) bytes)
    ∙ take-take (end - from) (cut - from) (drop from bytes) (omega arith)

-- what is appended to all bytes
part_after : (bytes text : List ℕ) (from : ℕ) → from ≡ length bytes
    → slice_range (bytes ++ text) from (length (bytes ++ text)) ≡ text
part_after bytes text from is =
    ap (take (length (bytes ++ text) - from)) (drop_at bytes text from (sym is))
    ∙ take_all (length (bytes ++ text) - from) text (omega (arith, length-append bytes text))

two : {A : Type 0} {x y : A} {xs ys : List A} → x ≡ y → xs ≡ ys → ◌≡◌ {A = List A} (x ∷ xs) (y ∷ ys)
two {x = x} {ys = ys} e f = ap (λ zs. x ∷ zs) f ∙ ap (λ z. z ∷ ys) e

module _ (bytes text : List ℕ) where
  pub pieces-push : (from : ℕ) (ends : List ℕ) → ArePieces from ends bytes
      → pieces from (ends ++ length (bytes ++ text) ∷ []) (bytes ++ text)
      ≡ pieces from ends bytes ++ text ∷ []
  pieces-push from [] are = two (part_after bytes text from are) refl
  pieces-push from (end ∷ ends) are =
      two (part-append bytes text from end are.0 (begins_within end ends bytes are.2))
      (pieces-push end ends are.2)

  pub are-push : (from : ℕ) (ends : List ℕ) → IsUtf8 text → ArePieces from ends bytes
      → ArePieces from (ends ++ length (bytes ++ text) ∷ []) (bytes ++ text)
  are-push from [] utf8 are =
      let last = subst IsUtf8 (sym (part_after bytes text from are)) utf8 in
      (omega (arith, are, length-append bytes text), last, refl)
  are-push from (end ∷ ends) utf8 are =
      let same = part-append bytes text from end are.0 (begins_within end ends bytes are.2) in
      (are.0, subst IsUtf8 (sym same) are.1, are-push end ends utf8 are.2)

ends_rise : (from : ℕ) (ends bytes : List ℕ) (count : ℕ) → ArePieces from ends bytes
    → count ≤ length ends → from ≤ get_or (from ∷ ends) count 0
ends_rise from ends bytes zero are h = omega arith
ends_rise from [] bytes (suc count) are h = absurd (omega arith)
ends_rise from (end ∷ ends) bytes (suc count) are h =
    omega (arith, are.0, ends_rise end ends bytes count are.2 (omega arith))

module _ (bytes : List ℕ) where
  pub pieces-cut : (from : ℕ) (ends : List ℕ) (count : ℕ) → ArePieces from ends bytes
      → count ≤ length ends
      → pieces from (take count ends) (take (get_or (from ∷ ends) count 0) bytes)
      ≡ take count (pieces from ends bytes)
  pieces-cut from ends zero are h = refl
  pieces-cut from [] (suc count) are h = absurd (omega arith)
  pieces-cut from (end ∷ ends) (suc count) are h =
      let rise = ends_rise end ends bytes count are.2 (omega arith) in
      two (part-cut bytes from end (get_or (end ∷ ends) count 0) are.0 rise)
      (pieces-cut end ends count are.2 (omega arith))

  pub are-cut : (from : ℕ) (ends : List ℕ) (count : ℕ) → ArePieces from ends bytes
      → count ≤ length ends
      → ArePieces from (take count ends) (take (get_or (from ∷ ends) count 0) bytes)
  are-cut from ends zero are h = sym (length-take-le from bytes (begins_within from ends bytes are))
  are-cut from [] (suc count) are h = absurd (omega arith)
  are-cut from (end ∷ ends) (suc count) are h =
      let rise = ends_rise end ends bytes count are.2 (omega arith) in
      let same = part-cut bytes from end (get_or (end ∷ ends) count 0) are.0 rise in
      (are.0, subst IsUtf8 (sym same) are.1, are-cut end ends count are.2 (omega arith))
