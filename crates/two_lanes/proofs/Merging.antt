-- Letters, and the two lists that a merge comes from.
use Rattle.std.proofs.Common.{◌≡◌, ◌≤◌, ◌∙◌, ℕ, zero, suc, List, [], ◌∷◌, ◌++◌, take, drop, length}
use Rattle.std.proofs.Common.{refl, sym, ap, append_assoc, append-nil, arith}
use Rattle.two_lanes.specs.declared.jobs.Lane.{Lane}
use Rattle.two_lanes.specs.declared.jobs.Lane.TheVariants.{A, B}
use Rattle.two_lanes.specs.Merges.{elements_of, merge, MergesAreInOrder, MergesGrowByOne}
use Rattle.two_lanes.specs.Merges.{Step, tagged, tags_of, times, values}

module _ {T : Type 0} where
  pub merge-steps : (s : List (Step T)) (ra rb : List T)
      → merge (values A s ++ ra) (values B s ++ rb) (tags_of s) ≡ elements_of s
  merge-steps [] ra rb = refl
  merge-steps ((A, x) ∷ s) ra rb = ap (λ l. x ∷ l) (merge-steps s ra rb)
  merge-steps ((B, x) ∷ s) ra rb = ap (λ l. x ∷ l) (merge-steps s ra rb)

  pub times-values : (lane : Lane) (s : List (Step T))
      → times lane (tags_of s) ≡ length (values lane s)
  times-values lane [] = refl
  times-values A ((A, x) ∷ s) = ap suc (times-values A s)
  times-values A ((B, x) ∷ s) = times-values A s
  times-values B ((A, x) ∷ s) = times-values B s
  times-values B ((B, x) ∷ s) = ap suc (times-values B s)

  in_order-a : (tags : List Lane) (a b : List T) → times A tags ≤ length a
      → times B tags ≤ length b → tagged A tags (merge a b tags) ≡ take (times A tags) a
  in_order-a [] a b la lb = refl
  in_order-a (A ∷ tags) [] b la lb = absurd (omega arith)
  in_order-a (A ∷ tags) (x ∷ a) b la lb = ap (λ l. x ∷ l) (in_order-a tags a b (omega arith) lb)
  in_order-a (B ∷ tags) a [] la lb = absurd (omega arith)
  in_order-a (B ∷ tags) a (y ∷ b) la lb = in_order-a tags a b la (omega arith)

  in_order-b : (tags : List Lane) (a b : List T) → times A tags ≤ length a
      → times B tags ≤ length b → tagged B tags (merge a b tags) ≡ take (times B tags) b
  in_order-b [] a b la lb = refl
  in_order-b (A ∷ tags) [] b la lb = absurd (omega arith)
  in_order-b (A ∷ tags) (x ∷ a) b la lb = in_order-b tags a b (omega arith) lb
  in_order-b (B ∷ tags) a [] la lb = absurd (omega arith)
  in_order-b (B ∷ tags) a (y ∷ b) la lb = ap (λ l. y ∷ l) (in_order-b tags a b la (omega arith))

  -- what no list has too many letters of is in order
  pub in_order : MergesAreInOrder T
  in_order a b tags la lb = (in_order-a tags a b la lb, in_order-b tags a b la lb)

  drop_one : (n : ℕ) (l : List T) → drop n (drop 1 l) ≡ drop (suc n) l
  drop_one zero [] = refl
  drop_one (suc n) [] = refl
  drop_one n (x ∷ l) = refl

  -- a letter more takes the next element of its list
  grows : (tags : List Lane) (a b : List T)
      → (merge a b (tags ++ A ∷ []) ≡ merge a b tags ++ take 1 (drop (times A tags) a))
      × (merge a b (tags ++ B ∷ []) ≡ merge a b tags ++ take 1 (drop (times B tags) b))
  grows [] a b = (append-nil (take 1 a), append-nil (take 1 b))
  grows (A ∷ tags) a b =
      let more = grows tags (drop 1 a) b in (
        ap (λ l. take 1 a ++ l) more.0 ∙ sym (append_assoc (take 1 a) (merge (drop 1 a) b tags) _)
            ∙ ap (λ l. merge a b (A ∷ tags) ++ take 1 l) (drop_one (times A tags) a),
        ap (λ l. take 1 a ++ l) more.1 ∙ sym (append_assoc (take 1 a) (merge (drop 1 a) b tags) _),
      )
  grows (B ∷ tags) a b =
      let more = grows tags a (drop 1 b) in (
        ap (λ l. take 1 b ++ l) more.0 ∙ sym (append_assoc (take 1 b) (merge a (drop 1 b) tags) _),
        ap (λ l. take 1 b ++ l) more.1 ∙ sym (append_assoc (take 1 b) (merge a (drop 1 b) tags) _)
            ∙ ap (λ l. merge a b (B ∷ tags) ++ take 1 l) (drop_one (times B tags) b),
      )

  pub grow_by_one : MergesGrowByOne T
  grow_by_one a b tags = grows tags a b
