use Rattle.std.proofs.Common.{◌≡◌, ◌<◌, ◌≤◌, ◌+◌, ◌*◌, ◌++◌, ◌∷◌, [], ◌∙◌, ℕ, List, zero, suc}
use Rattle.std.proofs.Common.{length, take, get_or, slice_index, refl, set, sym, ap, arith, flat_map}
use Rattle.std.proofs.lemmas.List.{append_assoc, flat_map_more, length-set, take-take, take_all}
use Rattle.std.proofs.lemmas.List.{take_more, take_more_set}
use Rattle.line_notation.specs.Quoted.{quoted_byte}
use Rattle.line_notation.proofs.puts.spell.Goals as goal

-- the first bytes of a list's front and of what is behind it
take_behind : (end n : ℕ) (xs ys : List ℕ) → end ≤ length xs
    → take (end + n) (take end xs ++ ys) ≡ take end xs ++ take n ys
take_behind zero n xs ys within = let e : 0 + n ≡ n = omega arith in rw e refl
take_behind (suc end) n [] ys within = absurd (omega arith)
take_behind (suc end) n (x ∷ xs) ys within =
    let e : suc end + n ≡ suc (end + n) = omega arith in
    rw e (ap (λ l. x ∷ l) (take_behind end n xs ys (omega arith)))

of_four : (s : List ℕ) → length s ≡ 4
    → get_or s 0 0 ∷ get_or s 1 0 ∷ get_or s 2 0 ∷ get_or s 3 0 ∷ [] ≡ s
of_four [] len = absurd (omega arith)
of_four (a ∷ []) len = absurd (omega arith)
of_four (a ∷ b ∷ []) len = absurd (omega arith)
of_four (a ∷ b ∷ c ∷ []) len = absurd (omega arith)
of_four (a ∷ b ∷ c ∷ d ∷ []) len = refl
of_four (a ∷ b ∷ c ∷ d ∷ e ∷ s) len = absurd (omega arith)

-- four bytes that are written one after the other
four : (piece : List ℕ) (end a b c d : ℕ) → end + 4 ≤ length piece
    → take (end + 4) (set (set (set (set piece end a) (end + 1) b) (end + 2) c) (end + 3) d)
    ≡ take end piece ++ (a ∷ b ∷ c ∷ d ∷ [])
four piece end a b c d room =
    let first = set piece end a in
    let second = set first (end + 1) b in
    let third = set second (end + 2) c in
    let fourth = set third (end + 3) d in
    let long_first : length first ≡ length piece = length-set piece end a in
    let long_second : length second ≡ length first = length-set first (end + 1) b in
    let long_third : length third ≡ length second = length-set second (end + 2) c in
    let at_first = take_more_set piece end a (omega arith) in
    let at_second : take (end + 1 + 1) second ≡ take (end + 1) first ++ b ∷ [] =
    take_more_set first (end + 1) b (omega arith) in
    let at_third : take (end + 2 + 1) third ≡ take (end + 2) second ++ c ∷ [] =
    take_more_set second (end + 2) c (omega arith) in
    let at_fourth : take (end + 3 + 1) fourth ≡ take (end + 3) third ++ d ∷ [] =
    take_more_set third (end + 3) d (omega arith) in
    let two : end + 1 + 1 ≡ end + 2 = omega arith in
    let three : end + 2 + 1 ≡ end + 3 = omega arith in
    let all : end + 3 + 1 ≡ end + 4 = omega arith in
    sym (ap (λ n. take n fourth) all) ∙ at_fourth
    ∙ ap (λ xs. xs ++ d ∷ []) (sym (ap (λ n. take n third) three) ∙ at_third
    ∙ ap (λ xs. xs ++ c ∷ []) (sym (ap (λ n. take n second) two) ∙ at_second
    ∙ ap (λ xs. xs ++ b ∷ []) at_first))
    ∙ joined (take end piece) a b c d
  where
    joined : (front : List ℕ) (a b c d : ℕ)
        → (((front ++ a ∷ []) ++ b ∷ []) ++ c ∷ []) ++ d ∷ [] ≡ front ++ (a ∷ b ∷ c ∷ d ∷ [])
    joined front a b c d = simp append_assoc

-- a byte more is spelled
more_spelled : (bytes piece shown : List ℕ) (i end b : ℕ) → i < length bytes → b ≡ get_or bytes i 0
    → end + 4 ≤ length piece → take end piece ≡ flat_map quoted_byte (take i bytes)
    → length shown ≡ 4 → slice_index shown 3 ≤ 3 → take (slice_index shown 3) shown ≡ quoted_byte b
    → take (end + slice_index shown 3) (set (set (set (set piece end (get_or shown 0 0)) (end + 1)
    (get_or shown 1 0)) (end + 2) (get_or shown 2 0)) (end + 3) (get_or shown 3 0))
    ≡ flat_map quoted_byte (take (i + 1) bytes)
more_spelled bytes piece shown i end b there is room so_far len few shows =
    let n = slice_index shown 3 in
    let front = flat_map quoted_byte (take i bytes) in
    let a = get_or shown 0 0 in
    let last = set (set (set (set piece end a) (end + 1) (get_or shown 1 0)) (end + 2)
    (get_or shown 2 0)) (end + 3) (get_or shown 3 0) in
    sym (take-take (end + n) (end + 4) last (omega (arith, few)))
    ∙ ap (λ xs. take (end + n) xs) (four piece end a (get_or shown 1 0) (get_or shown 2 0)
    (get_or shown 3 0) room ∙ ap (λ xs. take end piece ++ xs) (of_four shown len))
    ∙ take_behind end n piece shown (omega arith)
    ∙ ap (λ xs. xs ++ take n shown) so_far ∙ ap (λ xs. front ++ xs) shows
    ∙ flat_map_more quoted_byte [] (take i bytes) b
    ∙ ap (λ x. flat_map quoted_byte (take i bytes ++ x ∷ [])) is
    ∙ ap (flat_map quoted_byte) (sym (take_more bytes i 0 there))

pub loop-byte-preserved : goal.loop-byte-preserved
loop-byte-preserved c =
    let l = c.loop-byte in
    let bytes = c.args.bytes.now in
    let room : 3 * length bytes + 1 ≤ length l.piece = omega (arith, c.requires, l.auto.piece) in
    let shown = c.shown-shown.ensures in
    let within = l.invariant.within in
    let there = c.loop-byte-test.true in
    let few = shown.few in
    record {
      within = omega (arith, within, few);
      spelled = more_spelled bytes l.piece c.shown-shown.result l.byte-index l.end
          (get_or bytes l.byte-index 0) there refl (omega (arith, within, there, room))
          l.invariant.spelled shown.len few shown.shown;
    }

pub returns-clause-spelled : goal.returns-clause-spelled
returns-clause-spelled c =
    c.loop-byte.invariant.spelled
    ∙ ap (flat_map quoted_byte)
    (take_all c.loop-byte.byte-index c.args.bytes.now
    (omega (arith, c.loop-byte-test.false)))
