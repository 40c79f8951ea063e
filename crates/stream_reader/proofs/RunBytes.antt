-- Short chunks in a stream: where they lead, and why they are refused, is said by their content.
use Rattle.std.proofs.Common.{◌≡◌, ℕ, suc, ◌+◌, ◌-◌, ◌<◌, ◌≤◌, List, [], ◌∷◌, ◌++◌, length, take}
use Rattle.std.proofs.Common.{drop, None, sym, ap, ◌∙◌, subst, inl, inr, append_assoc, append-nil}
use Rattle.std.proofs.Common.{arith, length-append}
use Rattle.std.{proofs.Math.Nat.eq-or-lt_of_le, proofs.lemmas.Bool.cases_lt, specs.List.concat}
use Rattle.std.proofs.Math.Seq.{drop-append_seam, take-append-add, take-append-le, take-append_seam}
use Rattle.unit_streams.proofs.{Answers.quiet_none, Quiet.quiet_joined}
use Rattle.unit_streams.specs.{Going.IsQuiet, Judging.refusal_at}
use Rattle.stream_reader.specs.Runs.{AreShort, chunks_of, IsShort, place_in}
use Rattle.stream_reader.specs.Stream.{payload_in, Settings, Situation, stream}
use Rattle.stream_reader.proofs.ChunkBytes.{between_again, chunk_quiet, IsBetween, Shows, shows}
use Rattle.stream_reader.proofs.RunFacts.{place_first, place_later, place_none}

module _ (x : Settings) (z : Situation) (from : ℕ) where
  -- where a stream stands behind so many bytes of the content of chunks
  pub record IsAlong (p bytes : List ℕ) (contents : List (List ℕ)) (j : ℕ) : Type 0 where
    pub quiet : IsQuiet (stream x) p (chunks_of contents) (place_in contents j)
    pub shows : 0 < j → Shows x z (p ++ take (place_in contents j) (chunks_of contents))
        (bytes ++ take j (concat contents))

  along_none : (p bytes : List ℕ) (contents : List (List ℕ)) (j : ℕ) → j ≡ 0
      → place_in contents j ≡ 0 → IsAlong p bytes contents j
  along_none p bytes contents j none e = record {
    quiet =
        subst (λ (n : ℕ). IsQuiet (stream x) p (chunks_of contents) n) (sym e)
        (quiet_none (stream x) p (chunks_of contents));
    shows = λ some. absurd (omega (arith, none, some));
  }

  -- the first chunk and so many bytes behind it
  along_first : (p bytes c : List ℕ) (contents : List (List ℕ)) → IsBetween x z from p bytes
      → IsShort c
      → length (bytes ++ c) ≤ x.limits.payload → (j : ℕ) → 0 < j → j ≤ length c
      → length p + 1 + j ≤ x.limits.session
      → ((i : ℕ) → i < j → refusal_at (payload_in x z) (bytes ++ take i (c ++ concat contents))
      ≡ None) → IsAlong p bytes (c ∷ contents) j
  along_first p bytes c contents at short fits j some le close none = record {
    quiet =
        subst (λ (n : ℕ). IsQuiet (stream x) p (chunks_of (c ∷ contents)) n) (sym place)
        (chunk_quiet x z from p bytes c at short fits j some le (chunks_of contents) close
        (λ i lt. ap (λ d. refusal_at (payload_in x z) (bytes ++ d))
        (sym (take-append-le i c (concat contents) (omega (arith, lt, le)))) ∙ none i lt));
    shows = λ any.
        subst (λ (q : List ℕ). Shows x z q (bytes ++ take j (c ++ concat contents))) stream_bytes
        (subst (λ (d : List ℕ). Shows x z ((p ++ length c ∷ []) ++ take j c) (bytes ++ d))
        (sym (take-append-le j c (concat contents) le))
        (shows x z from p bytes c at short fits j some le));
  } where
    place : place_in (c ∷ contents) j ≡ 1 + j
    place = place_first c contents j some le

    stream_bytes : (p ++ length c ∷ []) ++ take j c
        ≡ p ++ take (place_in (c ∷ contents) j) (chunks_of (c ∷ contents))
    stream_bytes =
        let count : suc j ≡ place_in (c ∷ contents) j = omega (arith, place) in
        append_assoc p (length c ∷ []) (take j c)
        ∙ ap (λ d. p ++ length c ∷ d) (sym (take-append-le j c (chunks_of contents) le))
        ∙ ap (λ n. p ++ take n (chunks_of (c ∷ contents))) count

  -- the first chunk, and of the others what is along behind it
  along_more : (p bytes c : List ℕ) (contents : List (List ℕ)) → IsBetween x z from p bytes
      → IsShort c
      → length (bytes ++ c) ≤ x.limits.payload → (j : ℕ) → length c < j
      → length p + 1 + length c ≤ x.limits.session
      → ((i : ℕ) → i < length c → refusal_at (payload_in x z) (bytes ++ take i c) ≡ None)
      → IsAlong (p ++ length c ∷ c) (bytes ++ c) contents (j - length c)
      → IsAlong p bytes (c ∷ contents) j
  along_more p bytes c contents at short fits j lt close none rest = record {
    quiet =
        subst (λ (n : ℕ). IsQuiet (stream x) p (chunks_of (c ∷ contents)) n) (sym place)
        (quiet_joined (stream x) p (chunks_of (c ∷ contents)) (length (length c ∷ c))
        (place_in contents (j - length c))
        (subst (λ (n : ℕ). IsQuiet (stream x) p (chunks_of (c ∷ contents)) n) (omega arith)
        (chunk_quiet x z from p bytes c at short fits (length c) short.some (omega arith)
        (chunks_of contents) close none))
        (subst (λ (d : List ℕ). IsQuiet (stream x) (p ++ d)
        (drop (length (length c ∷ c)) (chunks_of (c ∷ contents)))
        (place_in contents (j - length c)))
        (sym (take-append_seam (length c ∷ c) (chunks_of contents)))
        (subst (λ (d : List ℕ). IsQuiet (stream x) (p ++ length c ∷ c) d
        (place_in contents (j - length c)))
        (sym (drop-append_seam (length c ∷ c) (chunks_of contents))) rest.quiet)));
    shows = λ some.
        subst (λ (q : List ℕ). Shows x z q (bytes ++ take j (c ++ concat contents))) stream_bytes
        (subst (λ (d : List ℕ). Shows x z ((p ++ length c ∷ c)
        ++ take (place_in contents (j - length c)) (chunks_of contents)) d) own_bytes
        (rest.shows (omega (arith, lt))));
  } where
    place : place_in (c ∷ contents) j ≡ length (length c ∷ c) + place_in contents (j - length c)
    place = place_later c contents j lt ∙ omega arith

    stream_bytes : (p ++ length c ∷ c)
        ++ take (place_in contents (j - length c)) (chunks_of contents)
        ≡ p ++ take (place_in (c ∷ contents) j) (chunks_of (c ∷ contents))
    stream_bytes =
        append_assoc p (length c ∷ c) (take (place_in contents (j - length c)) (chunks_of contents))
        ∙ ap (λ d. p ++ d) (sym (take-append-add (length c ∷ c) (chunks_of contents)
        (place_in contents (j - length c))))
        ∙ ap (λ n. p ++ take n (chunks_of (c ∷ contents))) (sym place)

    own_bytes : (bytes ++ c) ++ take (j - length c) (concat contents)
        ≡ bytes ++ take j (c ++ concat contents)
    own_bytes =
        let sum : length c + (j - length c) ≡ j = omega (arith, lt) in
        append_assoc bytes c (take (j - length c) (concat contents))
        ∙ ap (λ d. bytes ++ d) (sym (take-append-add c (concat contents) (j - length c))
        ∙ ap (λ n. take n (c ++ concat contents)) sum)

  -- what is left of the content behind the first chunk
  module _ (bytes c d : List ℕ) where
    rest_unrefused : (n : ℕ)
        → ((i : ℕ) → i < n → refusal_at (payload_in x z) (bytes ++ take i (c ++ d)) ≡ None)
        → (i : ℕ) → i < n - length c
        → refusal_at (payload_in x z) ((bytes ++ c) ++ take i d) ≡ None
    rest_unrefused n none i lt =
        ap (refusal_at (payload_in x z)) (append_assoc bytes c (take i d)
        ∙ ap (λ b. bytes ++ b) (sym (take-append-add c d i)))
        ∙ none (length c + i) (omega (arith, lt))

  -- so many bytes of the content decide nothing before the last of them where fewer aren't refused
  pub run_along : (contents : List (List ℕ)) → AreShort contents → (p bytes : List ℕ)
      → IsBetween x z from p bytes → length (bytes ++ concat contents) ≤ x.limits.payload
      → length p + length (chunks_of contents) ≤ x.limits.session → (j : ℕ)
      → j ≤ length (concat contents) → ((i : ℕ) → i < j
      → refusal_at (payload_in x z) (bytes ++ take i (concat contents)) ≡ None)
      → IsAlong p bytes contents j
  run_along [] short p bytes at fits close j le none =
      along_none p bytes [] j (omega (arith, le)) (omega (arith, le))
  run_along (c ∷ contents) short p bytes at fits close j le none =
      elim (cases_lt (length c) j) [
        | inl lt ↦
            later lt
            (λ next. run_along contents short.1 (p ++ length c ∷ c) (bytes ++ c) next rest_fits
            rest_close (j - length c) rest_few
            (rest_unrefused bytes c (concat contents) j none))
        | inr few ↦ elim (eq-or-lt_of_le (let least : 0 ≤ j = omega arith in least)) [
          | inl zero_is ↦
              along_none p bytes (c ∷ contents) j (sym zero_is)
              (place_none (c ∷ contents) j (sym zero_is))
          | inr some ↦
              along_first p bytes c contents at short.0 first_fits j some few
              (omega (arith, close, chunks, few)) none
        ]
      ]
    where
      all : length (bytes ++ (c ++ concat contents))
          ≡ length bytes + (length c + length (concat contents))
      all =
          let n = length-append bytes (c ++ concat contents) in
          let m = length-append c (concat contents) in omega (arith, n, m)

      chunks : length (c ++ chunks_of contents) ≡ length c + length (chunks_of contents)
      chunks = length-append c (chunks_of contents)

      first_fits : length (bytes ++ c) ≤ x.limits.payload
      first_fits = let n = length-append bytes c in omega (arith, n, all, fits)

      rest_fits : length ((bytes ++ c) ++ concat contents) ≤ x.limits.payload
      rest_fits =
          let n = length-append (bytes ++ c) (concat contents) in
          let m = length-append bytes c in omega (arith, n, m, all, fits)

      rest_close : length (p ++ length c ∷ c) + length (chunks_of contents) ≤ x.limits.session
      rest_close = let n = length-append p (length c ∷ c) in omega (arith, n, chunks, close)

      rest_few : j - length c ≤ length (concat contents)
      rest_few = let n = length-append c (concat contents) in omega (arith, n, le)

      first_all : length c < j → (i : ℕ) → i ≤ length c
          → refusal_at (payload_in x z) (bytes ++ take i c) ≡ None
      first_all lt i few =
          ap (λ b. refusal_at (payload_in x z) (bytes ++ b))
          (sym (take-append-le i c (concat contents) few)) ∙ none i (omega (arith, few, lt))

      later : length c < j
          → (IsBetween x z from (p ++ length c ∷ c) (bytes ++ c)
          → IsAlong (p ++ length c ∷ c) (bytes ++ c) contents (j - length c))
          → IsAlong p bytes (c ∷ contents) j
      later lt rest =
          along_more p bytes c contents at short.0 first_fits j lt
          (omega (arith, close, chunks)) (λ i less. first_all lt i (omega (arith, less)))
          (rest (between_again x z from p bytes c at short.0 first_fits (first_all lt)))

  -- behind all of them comes another chunk
  pub run_between : (contents : List (List ℕ)) → AreShort contents → (p bytes : List ℕ)
      → IsBetween x z from p bytes → length (bytes ++ concat contents) ≤ x.limits.payload
      → ((i : ℕ) → i ≤ length (concat contents)
      → refusal_at (payload_in x z) (bytes ++ take i (concat contents)) ≡ None)
      → IsBetween x z from (p ++ chunks_of contents) (bytes ++ concat contents)
  run_between [] short p bytes at fits none =
      subst (λ (q : List ℕ). IsBetween x z from q (bytes ++ [])) (sym (append-nil p))
      (subst (IsBetween x z from p) (sym (append-nil bytes)) at)
  run_between (c ∷ contents) short p bytes at fits none =
      subst (λ (q : List ℕ). IsBetween x z from q (bytes ++ (c ++ concat contents)))
      (append_assoc p (length c ∷ c) (chunks_of contents))
      (subst (IsBetween x z from ((p ++ length c ∷ c) ++ chunks_of contents))
      (append_assoc bytes c (concat contents))
      (run_between contents short.1 (p ++ length c ∷ c) (bytes ++ c)
      (between_again x z from p bytes c at short.0 first_fits first_all) rest_fits rest_all))
    where
      all : length (bytes ++ (c ++ concat contents)) ≡ length ((bytes ++ c) ++ concat contents)
      all = ap length (sym (append_assoc bytes c (concat contents)))

      own : length (c ++ concat contents) ≡ length c + length (concat contents)
      own = length-append c (concat contents)

      rest_fits : length ((bytes ++ c) ++ concat contents) ≤ x.limits.payload
      rest_fits = omega (arith, all, fits)

      first_fits : length (bytes ++ c) ≤ x.limits.payload
      first_fits =
          let n = length-append (bytes ++ c) (concat contents) in omega (arith, n, rest_fits)

      first_all : (i : ℕ) → i ≤ length c
          → refusal_at (payload_in x z) (bytes ++ take i c) ≡ None
      first_all i few =
          ap (λ b. refusal_at (payload_in x z) (bytes ++ b))
          (sym (take-append-le i c (concat contents) few)) ∙ none i (omega (arith, few, own))

      rest_all : (i : ℕ) → i ≤ length (concat contents)
          → refusal_at (payload_in x z) ((bytes ++ c) ++ take i (concat contents)) ≡ None
      rest_all i few =
          ap (refusal_at (payload_in x z)) (append_assoc bytes c (take i (concat contents))
          ∙ ap (λ b. bytes ++ b) (sym (take-append-add c (concat contents) i)))
          ∙ none (length c + i) (omega (arith, few, own))
