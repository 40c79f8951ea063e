-- What a piece of a stream is answered, byte by byte, and what an answer means.
use Rattle.std.proofs.Common.{◌≡◌, ℕ, zero, suc, ◌+◌, ◌<◌, ◌≤◌, List, [], ◌∷◌, ◌++◌, length, take}
use Rattle.std.proofs.Common.{drop, Some, None, Option, sym, refl, ap, ◌∙◌, subst, append_assoc}
use Rattle.std.proofs.{Common.append-nil, Common.arith, Common.take_all, lemmas.List.drop_all}
use Rattle.unit_streams.specs.Going.{IsQuiet, IsQuietBefore, Means}
use Rattle.unit_streams.specs.{Grammar.Grammar, Laws.AnswersAreFirst}
use Rattle.unit_streams.specs.Judging.{Answer, answer, answer_from, completes, event_at, goes_on}
use Rattle.unit_streams.specs.Judging.{offends, refusal_at, unless_completed}

module _ {Z U E R : Type 0} (g : Grammar Z U E R) where
  -- the rest of an answer, where the prefix before it isn't refused
  abbrev pub behind_byte : List ℕ → ℕ → ℕ → List ℕ → Answer E R
  behind_byte p n b y = unless_completed (suc n) (event_at g (p ++ b ∷ []))
      (answer_from g (p ++ b ∷ []) (suc n) y)

  -- a refusal is the answer, whatever follows
  pub answer_refused : (p : List ℕ) (n : ℕ) (y : List ℕ) (r : R) → refusal_at g p ≡ Some r
      → answer_from g p n y ≡ offends n r
  unfolding answer_from
  answer_refused p n [] r e = rw e refl
  answer_refused p n (b ∷ y) r e = rw e refl

  -- at the end of a piece that decides nothing
  pub answer_ends : (p : List ℕ) (n : ℕ) → refusal_at g p ≡ None → answer_from g p n [] ≡ goes_on
  unfolding answer_from
  answer_ends p n e = rw e refl

  -- where a prefix isn't refused the next byte is taken
  pub answer_next : (p : List ℕ) (n b : ℕ) (y : List ℕ) → refusal_at g p ≡ None → answer_from g p n
      (b ∷ y) ≡ behind_byte p n b y
  unfolding answer_from
  answer_next p n b y e = rw e refl

  -- the byte completes an event
  pub byte_completes : (p : List ℕ) (n b : ℕ) (y : List ℕ) (e : E) → event_at g (p ++ b ∷ [])
      ≡ Some e → behind_byte p n b y ≡ completes (suc n) e
  byte_completes p n b y e h = rw h refl

  -- or none
  pub byte_goes_on : (p : List ℕ) (n b : ℕ) (y : List ℕ) → event_at g (p ++ b ∷ []) ≡ None
      → behind_byte p n b y ≡ answer_from g (p ++ b ∷ []) (suc n) y
  byte_goes_on p n b y h = rw h refl

  -- bytes behind the first, as they stand behind the prefix with it
  pub shifted : (p : List ℕ) (b : ℕ) (y : List ℕ) (i : ℕ) → (p ++ b ∷ []) ++ take i y ≡ p
      ++ take (suc i) (b ∷ y)
  shifted p b y i = append_assoc p (b ∷ []) (take i y)

  -- no bytes
  pub none_taken : (p y : List ℕ) → p ++ take 0 y ≡ p
  none_taken p y = append-nil p

  -- what is quiet is so behind its first byte
  quiet_rest : (p : List ℕ) (b : ℕ) (y : List ℕ) (k : ℕ) → IsQuiet g p (b ∷ y) (suc k)
      → IsQuiet g (p ++ b ∷ []) y k
  quiet_rest p b y k q = record {
    within = let w = q.within in omega arith;
    unrefused = λ i lt. ap (refusal_at g) (shifted p b y i) ∙ q.unrefused (suc i) (omega arith);
    eventless = λ i some le. ap (event_at g) (shifted p b y i) ∙ q.eventless (suc i) (omega arith)
        (omega arith);
  }

  quiet_before_rest : (p : List ℕ) (b : ℕ) (y : List ℕ) (k : ℕ) → IsQuietBefore g p (b ∷ y) (suc k)
      → IsQuietBefore g (p ++ b ∷ []) y k
  quiet_before_rest p b y k q = record {
    within = let w = q.within in omega arith;
    unrefused = λ i lt. ap (refusal_at g) (shifted p b y i) ∙ q.unrefused (suc i) (omega arith);
    eventless = λ i some lt. ap (event_at g) (shifted p b y i) ∙ q.eventless (suc i) (omega arith)
        (omega arith);
  }

  -- the first byte of what is quiet completes nothing
  first_unrefused : (p y : List ℕ) → refusal_at g (p ++ take 0 y) ≡ None → refusal_at g p ≡ None
  first_unrefused p y e = ap (refusal_at g) (sym (none_taken p y)) ∙ e

  -- quiet bytes are passed over
  pub answer_skips : (k : ℕ) (p : List ℕ) (n : ℕ) (y : List ℕ) → IsQuiet g p y k → answer_from g p n
      y ≡ answer_from g (p ++ take k y) (n + k) (drop k y)
  answer_skips zero p n y q = let count : n ≡ n + 0 = omega arith in ap (λ m. answer_from g p m y)
      count ∙ ap (λ q. answer_from g q (n + 0) y) (sym (none_taken p y))
  answer_skips (suc k) p n [] q = absurd (let w = q.within in omega arith)
  answer_skips (suc k) p n (b ∷ y) q =
      let count : suc n + k ≡ n + suc k = omega arith in
      answer_next p n b y (first_unrefused p (b ∷ y) (q.unrefused 0 (omega arith)))
      ∙ byte_goes_on p n b y (q.eventless 1 (omega arith) (omega arith))
      ∙ answer_skips k (p ++ b ∷ []) (suc n) y (quiet_rest p b y k q)
      ∙ ap (λ m. answer_from g ((p ++ b ∷ []) ++ take k y) m (drop k y)) count
      ∙ ap (λ q. answer_from g q (n + suc k) (drop k y)) (shifted p b y k)

  -- bytes that decide nothing before they complete an event
  pub answer_event : (k : ℕ) (p : List ℕ) (n : ℕ) (y : List ℕ) (e : E) → IsQuietBefore g p y (suc k)
      → event_at g (p ++ take (suc k) y) ≡ Some e → answer_from g p n y ≡ completes (n + suc k) e
  answer_event k p n [] e q h = absurd (let w = q.within in omega arith)
  answer_event zero p n (b ∷ y) e q h =
      answer_next p n b y (first_unrefused p (b ∷ y) (q.unrefused 0 (omega arith)))
      ∙ byte_completes p n b y e h ∙ ap (λ m. completes m e) (omega arith)
  answer_event (suc k) p n (b ∷ y) e q h =
      answer_next p n b y (first_unrefused p (b ∷ y) (q.unrefused 0 (omega arith)))
      ∙ byte_goes_on p n b y (q.eventless 1 (omega arith) (omega arith))
      ∙ answer_event k (p ++ b ∷ []) (suc n) y e (quiet_before_rest p b y (suc k) q)
      (ap (event_at g) (shifted p b y (suc k)) ∙ h)
      ∙ ap (λ m. completes m e) (omega arith)

  -- what an answer says, where n bytes of the piece are before p
  abbrev pub MeansFrom : List ℕ → ℕ → List ℕ → Answer E R → Type 0
  MeansFrom p n y goes_on = IsQuiet g p y (length y) × (refusal_at g (p ++ y) ≡ None)
  MeansFrom p n y (completes m e) = (k : ℕ) × (m ≡ n + k)
      × (IsQuietBefore g p y k × (0 < k) × (event_at g (p ++ take k y) ≡ Some e))
  MeansFrom p n y (offends m r) = (k : ℕ) × (m ≡ n + k)
      × (IsQuiet g p y k × (refusal_at g (p ++ take k y) ≡ Some r))

  -- what is said so is answered
  pub answer_said : (p : List ℕ) (n : ℕ) (y : List ℕ) (a : Answer E R) → MeansFrom p n y a
      → answer_from g p n y ≡ a
  answer_said p n y goes_on m =
      let end : p ++ take (length y) y ≡ p ++ y = ap (λ c. p ++ c)
      (take_all (length y) y (omega arith)) in
      answer_skips (length y) p n y m.0
      ∙ ap (λ c. answer_from g (p ++ take (length y) y) (n + length y) c)
      (drop_all (length y) y (omega arith))
      ∙ answer_ends (p ++ take (length y) y) (n + length y) (ap (refusal_at g) end ∙ m.1)
  answer_said p n y (completes k e) (zero, s, m) = absurd (let some = m.1 in omega arith)
  answer_said p n y (completes k e) (suc j, s, m) = answer_event j p n y e m.0 m.2 ∙
      ap (λ i. completes i e) (sym s)
  answer_said p n y (offends k r) (j, s, m) =
      answer_skips j p n y m.0 ∙ answer_refused (p ++ take j y) (n + j) (drop j y) r m.1 ∙
      ap (λ i. offends i r) (sym s)

  -- none of the bytes
  pub quiet_none : (p y : List ℕ) → IsQuiet g p y 0
  quiet_none p y = record {
    within = omega arith;
    unrefused = λ i lt. absurd (omega arith);
    eventless = λ i some le. absurd (omega arith);
  }

  -- one more byte in front
  quiet_more : (p : List ℕ) (b : ℕ) (y : List ℕ) (k : ℕ) → refusal_at g p ≡ None
      → event_at g (p ++ b ∷ []) ≡ None → IsQuiet g (p ++ b ∷ []) y k → IsQuiet g p (b ∷ y) (suc k)
  quiet_more p b y k e h q = record {
    within = (let w = q.within in omega arith);
    unrefused =
        unrefused;
    eventless = eventless;
  } where
    unrefused : (i : ℕ) → i < suc k → refusal_at g (p ++ take i (b ∷ y)) ≡ None
    unrefused zero lt = ap (refusal_at g) (none_taken p (b ∷ y)) ∙ e
    unrefused (suc i) lt = ap (refusal_at g) (sym (shifted p b y i)) ∙ q.unrefused i (omega arith)

    eventless : (i : ℕ) → 0 < i → i ≤ suc k → event_at g (p ++ take i (b ∷ y)) ≡ None
    eventless zero some le = absurd (omega arith)
    eventless (suc zero) some le = h
    eventless (suc (suc i)) some le = ap (event_at g) (sym (shifted p b y (suc i))) ∙ q.eventless
        (suc i) (omega arith) (omega arith)

  quiet_before_more : (p : List ℕ) (b : ℕ) (y : List ℕ) (k : ℕ) → refusal_at g p ≡ None
      → event_at g (p ++ b ∷ []) ≡ None → IsQuietBefore g (p ++ b ∷ []) y k → IsQuietBefore g p
      (b ∷ y) (suc k)
  quiet_before_more p b y k e h q = record {
    within = (let w = q.within in omega arith);
    unrefused =
        unrefused;
    eventless = eventless;
  } where
    unrefused : (i : ℕ) → i < suc k → refusal_at g (p ++ take i (b ∷ y)) ≡ None
    unrefused zero lt = ap (refusal_at g) (none_taken p (b ∷ y)) ∙ e
    unrefused (suc i) lt = ap (refusal_at g) (sym (shifted p b y i)) ∙ q.unrefused i (omega arith)

    eventless : (i : ℕ) → 0 < i → i < suc k → event_at g (p ++ take i (b ∷ y)) ≡ None
    eventless zero some lt = absurd (omega arith)
    eventless (suc zero) some lt = h
    eventless (suc (suc i)) some lt = ap (event_at g) (sym (shifted p b y (suc i))) ∙ q.eventless
        (suc i) (omega arith) (omega arith)

  -- a byte that completes an event
  first_completes : (p : List ℕ) (b : ℕ) (y : List ℕ) → refusal_at g p ≡ None → IsQuietBefore g p
      (b ∷ y) 1
  first_completes p b y e = record {
    within = omega arith;
    unrefused = λ i lt. let none : i ≡ 0 = omega arith in
        ap (λ j. refusal_at g (p ++ take j (b ∷ y))) none ∙ ap (refusal_at g) (none_taken p (b ∷ y))
        ∙ e;
    eventless = λ i some lt. absurd (omega arith);
  }

  -- one more byte before an answer
  means_more : (p : List ℕ) (n b : ℕ) (y : List ℕ) (a : Answer E R) → refusal_at g p ≡ None
      → event_at g (p ++ b ∷ []) ≡ None → MeansFrom (p ++ b ∷ []) (suc n) y a
      → MeansFrom p n (b ∷ y) a
  means_more p n b y goes_on e h m = (
    quiet_more p b y (length y) e h m.0,
    ap (refusal_at g)
        (sym (append_assoc p (b ∷ []) y)) ∙ m.1,
  )
  means_more p n b y (completes i v) e h (k, s, m) = (
    suc k,
    omega (arith, s),
    (
      quiet_before_more p b y k e h m.0,
      omega arith,
      ap (event_at g)
          (sym (shifted p b y k)) ∙ m.2,
    ),
  )
  means_more p n b y (offends i r) e h (k, s, m) = (
    suc k,
    omega (arith, s),
    (quiet_more p b y k e h m.0, ap (refusal_at g) (sym (shifted p b y k)) ∙ m.1),
  )

  -- what is answered is said so
  means_at_event : (b : ℕ) (y p : List ℕ) (n : ℕ) → refusal_at g p ≡ None → MeansFrom (p ++ b ∷ [])
      (suc n) y (answer_from g (p ++ b ∷ []) (suc n) y)
      → (v : Option E) → event_at g (p ++ b ∷ []) ≡ v → MeansFrom p n (b ∷ y) (behind_byte p n b y)
  means_at_event b y p n e rest (Some v) h = rw (byte_completes p n b y v h)
      (1, omega arith, (first_completes p b y e, omega arith, h))
  means_at_event b y p n e rest None h = rw (byte_goes_on p n b y h)
      (means_more p n b y (answer_from g (p ++ b ∷ []) (suc n) y) e h rest)

  means_at_refusal : (y p : List ℕ) (n : ℕ) (r : R) → refusal_at g p ≡ Some r → MeansFrom p n y
      (answer_from g p n y)
  means_at_refusal y p n r e = rw (answer_refused p n y r e)
      (0, omega arith, (quiet_none p y, ap (refusal_at g) (none_taken p y) ∙ e))

  means_at_end : (p : List ℕ) (n : ℕ) → (v : Option R) → refusal_at g p ≡ v → MeansFrom p n []
      (answer_from g p n [])
  means_at_end p n (Some r) e = means_at_refusal [] p n r e
  means_at_end p n None e = rw (answer_ends p n e)
      (quiet_none p [], ap (refusal_at g) (none_taken p []) ∙ e)

  means_at_byte : (b : ℕ) (y p : List ℕ) (n : ℕ) → MeansFrom (p ++ b ∷ []) (suc n) y
      (answer_from g (p ++ b ∷ []) (suc n) y) → (v : Option R) → refusal_at g p ≡ v
      → MeansFrom p n (b ∷ y) (answer_from g p n (b ∷ y))
  means_at_byte b y p n rest (Some r) e = means_at_refusal (b ∷ y) p n r e
  means_at_byte b y p n rest None e = rw (answer_next p n b y e)
      (means_at_event b y p n e rest (event_at g (p ++ b ∷ [])) refl)

  pub answer_means : (y p : List ℕ) (n : ℕ) → MeansFrom p n y (answer_from g p n y)
  answer_means [] p n = means_at_end p n (refusal_at g p) refl
  answer_means (b ∷ y) p n = means_at_byte b y p n (answer_means y (p ++ b ∷ []) (suc n))
      (refusal_at g p) refl

  -- counted from the piece's beginning
  means_here : (p y : List ℕ) (a : Answer E R) → MeansFrom p 0 y a → Means g p y a
  means_here p y goes_on m = m
  means_here p y (completes n e) (k, s, m) = let same : k ≡ n = omega (arith, s) in rw (← same) m
  means_here p y (offends n r) (k, s, m) = let same : k ≡ n = omega (arith, s) in rw (← same) m

  means_there : (p y : List ℕ) (a : Answer E R) → Means g p y a → MeansFrom p 0 y a
  means_there p y goes_on m = m
  means_there p y (completes n e) m = (n, omega arith, m)
  means_there p y (offends n r) m = (n, omega arith, m)

  pub answers_are_first : AnswersAreFirst g
  unfolding answer
  answers_are_first p y a = (
    λ e. subst (λ (b : Answer E R). Means g p y b) e
        (means_here p y (answer_from g p 0 y) (answer_means y p 0)),
    λ m. answer_said p 0 y a (means_there p y a m),
  )
