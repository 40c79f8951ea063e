-- Short chunks and their content, by lists alone.
use Rattle.std.proofs.Common.{◌≡◌, ℕ, zero, suc, ◌+◌, ◌-◌, ◌<◌, ◌≤◌, true, false, List, [], ◌∷◌}
use Rattle.std.proofs.Common.{◌++◌, length, get_or, take, drop, nat_le, ◌==◌, sym, refl, ap, ◌∙◌}
use Rattle.std.proofs.Common.{subst, inl, inr, append_assoc, append-nil, arith, length-append}
use Rattle.std.proofs.Common.{length-drop, length-take-le, ne_eqb, le-leb}
use Rattle.std.proofs.Math.{Nat.eq-or-lt_of_le, Seq.drop-append_seam, Seq.drop-drop, Seq.take-add}
use Rattle.std.proofs.lemmas.{Bool.cases_lt, Bool.lt-leb, List.drop_more}
use Rattle.std.specs.List.{concat}
use Rattle.stream_reader.specs.Runs.{AreShort, chunks_of, HasShort, IsRun, IsShort, place_in}

-- where so many bytes of the content are, by the first chunk
pub place_first : (c : List ℕ) (contents : List (List ℕ)) (n : ℕ) → 0 < n → n ≤ length c
    → place_in (c ∷ contents) n ≡ 1 + n
place_first c contents n some le =
    let not_none : (n == 0) ≡ false = ne_eqb n 0 (λ e. omega (arith, some)) in
    let here : nat_le n (length c) ≡ true = le-leb n (length c) le in
    let turned : n + 1 ≡ 1 + n = omega arith in
    rw (not_none, here) turned

pub place_later : (c : List ℕ) (contents : List (List ℕ)) (n : ℕ) → length c < n
    → place_in (c ∷ contents) n ≡ (length c + 1) + place_in contents (n - length c)
place_later c contents n lt =
    let not_none : (n == 0) ≡ false = ne_eqb n 0 (λ e. omega (arith, lt)) in
    let later : nat_le n (length c) ≡ false = lt-leb n (length c) lt in
    rw (not_none, later) refl

pub place_none : (contents : List (List ℕ)) (n : ℕ) → n ≡ 0 → place_in contents n ≡ 0
place_none [] n e = e
place_none (c ∷ contents) n e = rw e refl

place_within : (c : List ℕ) (contents : List (List ℕ)) (n : ℕ) → n ≤ length c
    → place_in (c ∷ contents) n ≤ 1 + n
place_within c contents n le =
    elim (eq-or-lt_of_le (let least : 0 ≤ n = omega arith in least)) [
      | inl none ↦ let e = place_none (c ∷ contents) n (sym none) in omega (arith, e)
      | inr some ↦ let e = place_first c contents n some le in omega (arith, e)
    ]

-- chunks of some content are some bytes
pub some_run : (contents : List (List ℕ)) → 0 < length (concat contents)
    → 0 < length (chunks_of contents)
some_run [] some = some
some_run (c ∷ contents) some = omega arith

-- more of it is further on
pub place_rises : (contents : List (List ℕ)) (i j : ℕ) → i < j
    → place_in contents i < place_in contents j
place_rises [] i j lt = lt
place_rises (c ∷ contents) i j lt =
    elim (cases_lt (length c) j) [
      | inr le ↦
          let here = place_first c contents j (omega (arith, lt)) le in
          let before = place_within c contents i (omega (arith, lt, le)) in
          omega (arith, here, before, lt)
      | inl past ↦
          let there = place_later c contents j past in
          elim (cases_lt (length c) i) [
            | inr le ↦
                let before = place_within c contents i le in
                let none = place_none contents 0 refl in
                let some = place_rises contents 0 (j - length c) (omega (arith, past)) in
                omega (arith, there, before, none, some, le)
            | inl first ↦
                let before = place_later c contents i first in
                let rest = place_rises contents (i - length c) (j - length c)
                (omega (arith, lt, first)) in
                omega (arith, there, before, rest)
          ]
    ]

-- no content is of no chunks
pub content_none : (contents : List (List ℕ)) → AreShort contents
    → length (concat contents) ≡ 0 → chunks_of contents ≡ []
content_none [] short none = refl
content_none (c ∷ contents) short none =
    let n = short.0.some in let m = length-append c (concat contents) in
    absurd (omega (arith, n, m, none))

-- all of the content is all of the chunks
pub place_all : (contents : List (List ℕ)) → AreShort contents
    → place_in contents (length (concat contents)) ≡ length (chunks_of contents)
place_all [] short = refl
place_all (c ∷ contents) short =
    by_rest (place_all contents short.1) (length (concat contents)) refl
  where
    all : length (c ++ concat contents) ≡ length c + length (concat contents)
    all = length-append c (concat contents)

    chunks : length (c ++ chunks_of contents) ≡ length c + length (chunks_of contents)
    chunks = length-append c (chunks_of contents)

    by_rest : place_in contents (length (concat contents)) ≡ length (chunks_of contents)
        → (n : ℕ) → length (concat contents) ≡ n
        → place_in (c ∷ contents) (length (c ++ concat contents))
        ≡ length (length c ∷ (c ++ chunks_of contents))
    by_rest there zero e =
        let some = short.0.some in
        let none = ap length (content_none contents short.1 e) in
        place_first c contents (length (c ++ concat contents)) (omega (arith, all, e, some))
        (omega (arith, all, e)) ∙ omega (arith, all, chunks, e, none)
    by_rest there (suc n) e =
        let rest : length (c ++ concat contents) - length c ≡ length (concat contents) =
        omega (arith, all) in
        place_later c contents (length (c ++ concat contents)) (omega (arith, all, e))
        ∙ ap (λ m. (length c + 1) + place_in contents m) rest
        ∙ omega (arith, there, chunks)

-- one chunk more at the end
pub run_none : IsRun [] []
run_none = record { contents = []; short = tt; run_is = refl; content_is = refl }

short_append : (contents : List (List ℕ)) (c : List ℕ) → AreShort contents → IsShort c
    → AreShort (contents ++ c ∷ [])
short_append [] c short more = (more, tt)
short_append (d ∷ contents) c short more = (short.0, short_append contents c short.1 more)

chunks_append : (contents : List (List ℕ)) (c : List ℕ)
    → chunks_of (contents ++ c ∷ []) ≡ chunks_of contents ++ length c ∷ c
chunks_append [] c = ap (λ d. length c ∷ d) (append-nil c)
chunks_append (d ∷ contents) c =
    ap (λ rest. length d ∷ (d ++ rest)) (chunks_append contents c)
    ∙ ap (λ rest. length d ∷ rest) (sym (append_assoc d (chunks_of contents) (length c ∷ c)))

concat_append : (contents : List (List ℕ)) (c : List ℕ)
    → concat (contents ++ c ∷ []) ≡ concat contents ++ c
concat_append [] c = append-nil c
concat_append (d ∷ contents) c =
    ap (λ rest. d ++ rest) (concat_append contents c) ∙ sym (append_assoc d (concat contents) c)

pub run_more : (run content c : List ℕ) → IsRun run content → IsShort c
    → IsRun (run ++ length c ∷ c) (content ++ c)
run_more run content c h short = record {
  contents = h.contents ++ c ∷ [];
  short = short_append h.contents c h.short short;
  run_is = ap (λ d. d ++ length c ∷ c) h.run_is ∙ sym (chunks_append h.contents c);
  content_is = ap (λ d. d ++ c) h.content_is ∙ sym (concat_append h.contents c);
}

-- the next chunk of some bytes, whose content a room has got
pub run_gathered : (bytes room filled_room : List ℕ) (used filled n : ℕ) → used < length bytes
    → IsRun (take used bytes) (take filled room) → HasShort (drop used bytes) n
    → take (filled + n) filled_room ≡ take filled room ++ take n (drop (used + 1) bytes)
    → IsRun (take (used + 1 + n) bytes) (take (filled + n) filled_room)
run_gathered bytes room filled_room used filled n some h next content_is =
    rw (content_is, taken)
    (subst (λ m. IsRun (take used bytes ++ m ∷ content) (take filled room ++ content)) long
    (run_more (take used bytes) (take filled room) content h short))
  where
    content : List ℕ
    content = take n (drop (used + 1) bytes)

    apart : drop used bytes ≡ get_or bytes used 0 ∷ drop (used + 1) bytes
    apart = drop_more bytes used 0 some

    first : get_or bytes used 0 ≡ n
    first = sym (ap (λ d. get_or d 0 0) apart) ∙ next.size

    long : length content ≡ n
    long =
        length-take-le n (drop (used + 1) bytes)
        (let size = ap length apart in let within = next.within in omega (arith, size, within))

    short : IsShort content
    short = let some = next.some in let few = next.few in
        record { some = omega (arith, long, some); few = omega (arith, long, few) }

    taken : take (used + 1 + n) bytes ≡ take used bytes ++ n ∷ content
    taken =
        let sum : used + 1 + n ≡ used + suc n = omega arith in
        ap (λ m. take m bytes) sum ∙ take-add used (suc n) bytes
        ∙ ap (λ d. take used bytes ++ take (suc n) d) apart
        ∙ ap (λ m. take used bytes ++ m ∷ content) first

-- behind so many bytes of chunks others are left, and so many bytes of content that are looked for
pub record IsLeft (run : List ℕ) (at left : ℕ) (contents : List (List ℕ)) (n : ℕ) : Type 0 where
  pub rest : List (List ℕ)
  pub rest_is : drop at run ≡ chunks_of rest
  pub few : left ≤ length (concat rest)
  pub place : place_in contents n ≡ at + place_in rest left

pub all_left : (run : List ℕ) (contents : List (List ℕ)) (n : ℕ) → run ≡ chunks_of contents
    → n ≤ length (concat contents) → IsLeft run 0 n contents n
all_left run contents n is few =
    record { rest = contents; rest_is = is; few = few; place = omega arith }

-- none is looked for, or left
pub left_none : (run : List ℕ) (at left : ℕ) (contents : List (List ℕ)) (n : ℕ)
    → IsLeft run at left contents n → left ≡ 0 → place_in contents n ≡ at
left_none run at left contents n h none =
    let first = place_none h.rest left none in let e = h.place in omega (arith, e, first)

pub left_ended : (run : List ℕ) (at left : ℕ) (contents : List (List ℕ)) (n : ℕ)
    → IsLeft run at left contents n → length run ≤ at → left ≡ 0
left_ended run at left contents n h ended = by_rest h.rest h.rest_is h.few where
  by_rest : (rest : List (List ℕ)) → drop at run ≡ chunks_of rest → left ≤ length (concat rest)
      → left ≡ 0
  by_rest [] is few = omega (arith, few)
  by_rest (c ∷ rest) is few =
      let size = ap length is in let n = length-drop at run in
      absurd (omega (arith, size, n, ended))

-- the next chunk has as many bytes as its size says
module _ (run : List ℕ) (at left : ℕ) (contents : List (List ℕ)) (n : ℕ)
    (h : IsLeft run at left contents n) (more : at < length run) where
  record Parted : Type 0 where
    pub c : List ℕ
    pub later : List (List ℕ)
    pub size : get_or run at 0 ≡ length c
    pub later_is : drop (at + (1 + get_or run at 0)) run ≡ chunks_of later
    pub few : left ≤ length (c ++ concat later)
    pub place : place_in contents n ≡ at + place_in (c ∷ later) left

  parted : Parted
  parted = by_rest h.rest h.rest_is h.few h.place where
    apart : drop at run ≡ get_or run at 0 ∷ drop (at + 1) run
    apart = drop_more run at 0 more

    by_rest : (rest : List (List ℕ)) → drop at run ≡ chunks_of rest
        → left ≤ length (concat rest) → place_in contents n ≡ at + place_in rest left → Parted
    by_rest [] is few place =
        let size = ap length is in let m = length-drop at run in
        absurd (omega (arith, size, m, more))
    by_rest (c ∷ rest) is few place =
        let size : get_or run at 0 ≡ length c =
        sym (ap (λ d. get_or d 0 0) apart) ∙ ap (λ d. get_or d 0 0) is in
        let behind : drop (at + 1) run ≡ c ++ chunks_of rest =
        sym (ap (drop 1) apart) ∙ ap (drop 1) is in
        let sum : at + (1 + get_or run at 0) ≡ (at + 1) + length c = omega (arith, size) in
        record {
          c = c;
          later = rest;
          size = size;
          later_is =
              ap (λ m. drop m run) sum ∙ sym (drop-drop (length c) (at + 1) run)
              ∙ ap (drop (length c)) behind ∙ drop-append_seam c (chunks_of rest);
          few = few;
          place = place;
        }

  pub left_here : 0 < left → left ≤ get_or run at 0 → place_in contents n ≡ at + 1 + left
  left_here some le =
      let size = parted.size in let e = parted.place in
      let here = place_first parted.c parted.later left some (omega (arith, le, size)) in
      omega (arith, e, here)

  pub left_later : get_or run at 0 < left
      → IsLeft run (at + (1 + get_or run at 0)) (left - get_or run at 0) contents n
  left_later lt =
      let size = parted.size in let e = parted.place in let few = parted.few in
      let there = place_later parted.c parted.later left (omega (arith, lt, size)) in
      let m = length-append parted.c (concat parted.later) in
      let same : left - get_or run at 0 ≡ left - length parted.c =
      ap (λ k. left - k) size in
      record {
        rest = parted.later;
        rest_is = parted.later_is;
        few = omega (arith, few, m, size, lt);
        place =
            omega (arith, e, there, size)
            ∙ ap (λ k. at + (1 + get_or run at 0) + place_in parted.later k) (sym same);
      }
