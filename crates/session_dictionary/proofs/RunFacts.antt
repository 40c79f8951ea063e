-- Runs, and the first position in each that has a text.
use Rattle.std.proofs.Common.{◌≡◌, ℕ, zero, suc, ◌+◌, ◌-◌, ◌<◌, ◌≤◌, Bool, true, false, ◌≢◌, ◌⊎◌}
use Rattle.std.proofs.Common.{◌↔◌, List, ◌∷◌, length, get_or, take, drop, slice_range, All}
use Rattle.std.proofs.Common.{Contains, nat_cmp, is_eq, is_lt, Ordering, Less, Equal, Greater, sym}
use Rattle.std.proofs.Common.{refl, ap, ◌∙◌, subst, inl, inr, arith, take_all, lt-ltb}
use Rattle.std.proofs.lemmas.Bool.{both_ways, cases_lt, true_from_ne_false}
use Rattle.std.proofs.lemmas.{Cmp.nat_list_cmp_total, Cmp.tied_itself, Map.Text.is_eq-slice_cmp}
use Rattle.std.proofs.lemmas.List.{drop-take, get_or_default, Sorted.ranks_by}
use Rattle.std.proofs.lemmas.List.Elements.{All-contains, All-drop, All-take, Contains-get_or}
use Rattle.std.specs.Cmp.{IsStrictWeakOrder, Lexicographic.bytes_decides, Lexicographic.slice_cmp}
use Rattle.std.specs.List.Sorted.{IsPartitionPoint, IsPartitionedBy}
use Rattle.std.specs.Ordering.{ordering_reverse, ordering_then}
use Rattle.session_dictionary.specs.Order.{ArePositions, EachPair, InOrder, InRuns, IsFirst}
use Rattle.session_dictionary.specs.Order.{IsFirstIn, IsOrder, text_of}
use Rattle.session_dictionary.proofs.CountFacts.{positions_below, positions_length, positions_none}
use Rattle.session_dictionary.proofs.CountFacts.{rest_above, stands_after}
use Rattle.session_dictionary.proofs.OrderFacts.{Begins, begins-take, cut_le}
use Rattle.session_dictionary.proofs.PairFacts.{pair_at, pairs-drop, pairs-take, pairs_turn}

-- the order of texts
abbrev texts_cmp : List ℕ → List ℕ → Ordering
texts_cmp = slice_cmp nat_cmp

texts_weak : IsStrictWeakOrder (λ (x y : List ℕ). is_lt (texts_cmp x y))
texts_weak = ranks_by nat_list_cmp_total (λ x. x)

-- of two texts neither of which comes first
neither : (x y : List ℕ) → is_lt (texts_cmp x y) ≡ false → is_lt (texts_cmp y x) ≡ false → x ≡ y
neither x y first second =
    let turned = nat_list_cmp_total.antisymm x y in
    let tie = tied (texts_cmp x y) (texts_cmp y x) turned first second in
    (bytes_decides x y).0 (sym (is_eq-slice_cmp x y) ∙ tie)
  where
    tied : (o r : Ordering) → o ≡ ordering_reverse r → is_lt o ≡ false → is_lt r ≡ false
        → is_eq o ≡ true
    tied o Less e first second = cc second
    tied o Equal e first second = rw e refl
    tied o Greater e first second = absurd (both_ways (is_lt o) first (rw e refl))

-- where a position does not come after another, its text doesn't either
text_order : (o r : Ordering) → is_lt (ordering_then o r) ≡ false → is_lt o ≡ false
text_order Less r e = e
text_order Equal r e = refl
text_order Greater r e = refl

module _ (strings : List (List ℕ)) (text : List ℕ) where
  -- whether the text at a position comes before this one
  abbrev pub is_before : ℕ → Bool
  is_before x = is_lt (texts_cmp (text_of strings x) text)

  -- those that do stand in front
  pub parted : (run : List ℕ) → EachPair (InOrder strings) run → IsPartitionedBy is_before run
  parted run pairs i j d le within passes =
      let x = get_or run i d in
      let y = get_or run j d in
      let first = text_of strings x in
      let second = text_of strings y in
      elim (cases_lt i j) [
        | inl less ↦
            let pair = pair_at (InOrder strings) run i j d less within pairs in
            let order = text_order (texts_cmp second first) _ pair in
            true_from_ne_false (is_before x)
            (λ fails.
            both_ways (is_before y) (texts_weak.chain second first text order fails) passes)
        | inr most ↦ let same : i ≡ j = omega arith in rw same passes
      ]

  not_before : (x : ℕ) → text_of strings x ≡ text → is_before x ≡ false
  not_before x e = rw (e, tied_itself nat_list_cmp_total text) refl

  abbrev IsPoint : List ℕ → ℕ → Type 0
  IsPoint run place =
      IsPartitionPoint (λ x. is_before x ≡ true) (λ x. is_before x ≡ false) run place

  -- a position has another text
  abbrev HasOther : ℕ → Type 0
  HasOther other = text_of strings other ≢ text

  pub none_past : (run : List ℕ) (place : ℕ) → length run ≤ place → IsPoint run place
      → All HasOther run
  none_past run place past point k d within has =
      let x = get_or run k d in
      both_ways (is_before x) (not_before x has) (point.0 k d (omega arith) (omega arith))

  module _ (run : List ℕ) (place position : ℕ) (pairs : EachPair (InOrder strings) run)
      (point : IsPoint run place) (within : place < length run)
      (is : position ≡ get_or run place position) where
    -- a position further on in the run does not come before this one
    in_order : (k d : ℕ) → k < length run → place < k → InOrder strings position (get_or run k d)
    in_order k d inside after =
        rw (is, get_or_default run place position d within)
        (pair_at (InOrder strings) run place k d after inside pairs)

    pub first_found : text_of strings position ≡ text → IsFirstIn strings run text position
    first_found has = record {
      there = subst (λ x. Contains run x) (sym is) (Contains-get_or run place position within);
      has = has;
      first = λ k d inside less other_has.
          let x = get_or run k d in
          elim (cases_lt k place) [
            | inl front ↦
                both_ways (is_before x) (not_before x other_has) (point.0 k d (omega arith) front)
            | inr rest ↦ later k d inside rest less other_has
          ];
    }
      where
        later : (k d : ℕ) → k < length run → place ≤ k → get_or run k d < position
            → text_of strings (get_or run k d) ≡ text → ⊥
        later k d inside rest less other_has =
            elim (cases_lt place k) [
              | inl after ↦
                  let x = get_or run k d in
                  let tie : texts_cmp (text_of strings x) (text_of strings position) ≡ Equal =
                  rw (other_has, has) (tied_itself nat_list_cmp_total text) in
                  let order : InOrder strings position x = in_order k d inside after in
                  let lower : is_lt (nat_cmp x position) ≡ false = rw tie at order in
                  both_ways (is_lt (nat_cmp x position)) lower (rw (lt-ltb x position less) refl)
              | inr last ↦
                  let same : k ≡ place = omega arith in
                  let at = get_or_default run place position d within in
                  omega (arith, less, is, ap (λ i. get_or run i d) same, at)
            ]

    pub none_found : text_of strings position ≢ text → All HasOther run
    none_found other k d inside has =
        let x = get_or run k d in
        let found = text_of strings position in
        elim (cases_lt k place) [
          | inl front ↦ both_ways (is_before x) (not_before x has) (point.0 k d (omega arith) front)
          | inr rest ↦
              elim (cases_lt place k) [
                | inl after ↦
                    let order : InOrder strings position x = in_order k d inside after in
                    let above : is_lt (texts_cmp text found) ≡ false =
                    rw has at (text_order (texts_cmp (text_of strings x) found) _ order) in
                    let here : is_before position ≡ false =
                    rw is (point.1 place position (omega arith) within) in
                    other (neither found text here above)
                | inr last ↦
                    let same : k ≡ place = omega arith in
                    let at = get_or_default run place d position within in
                    let there : x ≡ position = ap (λ i. get_or run i d) same ∙ at ∙ sym is in
                    other (ap (text_of strings) (sym there) ∙ has)
              ]
        ]

-- the positions from one up to another stand in order between the places of that number
pub record IsRun (strings : List (List ℕ)) (positions : List ℕ) (start end : ℕ) : Type 0 where
  pub rises : start ≤ end
  pub within : end ≤ length positions
  pub begins : ArePositions start (take start positions)
  pub ends : ArePositions end (take end positions)
  pub sorted : EachPair (InOrder strings) (slice_range positions start end)

part_of : (positions : List ℕ) (start end : ℕ) → start ≤ end
    → slice_range positions start end ≡ drop start (take end positions)
part_of positions start end rises =
    let whole : start + (end - start) ≡ end = omega arith in
    sym (drop-take start (end - start) positions) ∙ ap (λ n. drop start (take n positions)) whole

-- from one number up to another
abbrev Between : ℕ → ℕ → ℕ → Type 0
Between start end x = (start ≤ x) × (x < end)

module _ (strings : List (List ℕ)) (positions cuts : List ℕ)
    (order : IsOrder strings positions cuts) where
  run_between : (start end : ℕ) → start ≤ end → end ≤ length positions → Begins positions start
      → Begins positions end → All (λ cut. (cut ≤ start) ⊎ (end ≤ cut)) cuts
      → IsRun strings positions start end
  run_between start end rises within begins ends apart =
      let part = take end positions in
      let front = begins-take positions start end rises begins in
      let above = rest_above end start part ends front in
      let below = All-drop (λ x. x < end) start part (positions_below end part ends) in
      let R = InRuns strings cuts in
      let pairs = pairs-drop R start part (pairs-take R end positions order.sorted) in
      let sorted =
      pairs_turn (Between start end) R (InOrder strings)
      (λ x y first second known. known
      (λ k d h. one (get_or cuts k d) x y first second (apart k d h)))
      (drop start part) (λ k d h. (above k d h, below k d h)) pairs in
      let whole = sym (part_of positions start end rises) in
      record {
        rises = rises;
        within = within;
        begins = begins;
        ends = ends;
        sorted = subst (EachPair (InOrder strings)) whole sorted;
      }
    where
      one : (cut x y : ℕ) → Between start end x → Between start end y
          → (cut ≤ start) ⊎ (end ≤ cut)
          → (cut ≤ x) ↔ (cut ≤ y)
      one cut x y first second (inl low) =
          ((λ _. omega (arith, low, second.0)), (λ _. omega (arith, low, first.0)))
      one cut x y first second (inr high) = (
        (λ le. absurd (omega (arith, high, le, first.1))),
        (λ le. absurd (omega (arith, high, le, second.1))),
      )

  start_at : (k : ℕ) → k ≤ length cuts → Begins positions (get_or (0 ∷ cuts) k 0)
  start_at zero h = positions_none
  start_at (suc k) h = order.apart k 0 (omega arith)

  -- the cuts before a place are no greater than the one right before it
  cuts_before : (k i d : ℕ) → k ≤ length cuts → i < k → get_or cuts i d ≤ get_or (0 ∷ cuts) k 0
  cuts_before zero i d h less = absurd (omega arith)
  cuts_before (suc k) i d h less =
      elim (cases_lt i k) [
        | inl front ↦
            let pair = pair_at ◌≤◌ cuts i k d front (omega arith) order.rises in
            omega (arith, pair, get_or_default cuts k d 0 (omega arith))
        | inr last ↦
            let same : i ≡ k = omega arith in
            rw same (omega (arith, get_or_default cuts k d 0 (omega arith)))
      ]

  start_le : (k : ℕ) → k < length cuts → get_or (0 ∷ cuts) k 0 ≤ get_or cuts k 0
  start_le zero h = omega arith
  start_le (suc k) h = pair_at ◌≤◌ cuts k (suc k) 0 (omega arith) h order.rises

  cuts_after : (k i d : ℕ) → k < length cuts → k ≤ i → i < length cuts
      → get_or cuts k 0 ≤ get_or cuts i d
  cuts_after k i d h least there =
      elim (cases_lt k i) [
        | inl less ↦
            let pair = pair_at ◌≤◌ cuts k i d less there order.rises in
            omega (arith, pair, get_or_default cuts k d 0 h)
        | inr last ↦
            let same : i ≡ k = omega arith in
            rw same (omega (arith, get_or_default cuts k d 0 h))
      ]

  -- the run up to a cut
  pub run_at : (k : ℕ) → k < length cuts
      → IsRun strings positions (get_or (0 ∷ cuts) k 0) (get_or cuts k 0)
  run_at k h =
      let within = cut_le strings positions cuts order k 0 h in
      run_between (get_or (0 ∷ cuts) k 0) (get_or cuts k 0) (start_le k h) within
      (start_at k (omega arith)) (order.apart k 0 h) (λ i d there. side i d there)
    where
      side : (i d : ℕ) → i < length cuts
          → (get_or cuts i d ≤ get_or (0 ∷ cuts) k 0) ⊎ (get_or cuts k 0 ≤ get_or cuts i d)
      side i d there =
          elim (cases_lt i k) [
            | inl less ↦ inl (cuts_before k i d (omega arith) less)
            | inr least ↦ inr (cuts_after k i d h least there)
          ]

  -- the run after all cuts
  pub run_last : IsRun strings positions (get_or (0 ∷ cuts) (length cuts) 0) (length positions)
  run_last =
      let end = length positions in
      let long = positions_length (length strings) positions order.all in
      let all : ArePositions end positions =
      subst (λ n. ArePositions n positions) (sym long) order.all in
      let ends : Begins positions end =
      subst (λ xs. ArePositions end xs) (sym (take_all end positions (omega arith))) all in
      let n = length cuts in
      run_between (get_or (0 ∷ cuts) n 0) end (least n (omega arith)) (omega arith)
      (start_at n (omega arith)) ends (λ i d there. inl (cuts_before n i d (omega arith) there))
    where
      least : (k : ℕ) → k ≤ length cuts → get_or (0 ∷ cuts) k 0 ≤ length positions
      least zero h = omega arith
      least (suc k) h = cut_le strings positions cuts order k 0 (omega arith)

  module _ (text : List ℕ) (start end : ℕ) (run : IsRun strings positions start end)
      (before : (other : ℕ) → other < start → text_of strings other ≢ text) where
    abbrev these : List ℕ
    these = slice_range positions start end

    -- a position of the run stands in it
    in_run : (other : ℕ) → start ≤ other → other < end → All (λ x. x ≢ other) these → ⊥
    in_run other low high none =
        let front = begins-take positions start end run.rises run.begins in
        let rest = subst (All (λ x. x ≢ other)) (part_of positions start end run.rises) none in
        stands_after end start other (take end positions) run.ends front low high rest

    pub none_upto : All (λ other. text_of strings other ≢ text) these
        → (other : ℕ) → other < end → text_of strings other ≢ text
    none_upto none other h has =
        elim (cases_lt other start) [
          | inl low ↦ before other low has
          | inr high ↦
              in_run other high h
              (λ k d inside same. none k d inside (ap (text_of strings) same ∙ has))
        ]

    -- a position of the run is below its end, and there
    below_end : (position : ℕ) → Contains these position → position < end
    below_end position found =
        let part = take end positions in
        let below = All-drop (λ x. x < end) start part (positions_below end part run.ends) in
        let same = sym (part_of positions start end run.rises) in
        All-contains (λ x. x < end) these position (subst (All (λ x. x < end)) same below) found

    is_there : (position : ℕ) → Contains these position → position < length strings
    is_there position found =
        let IsThere : ℕ → Type 0 = λ x. x < length strings in
        let all = positions_below (length strings) positions order.all in
        let rest = All-drop IsThere start positions all in
        let part = All-take IsThere (end - start) (drop start positions) rest in
        All-contains IsThere these position part found

    pub first_upto : (position : ℕ) → IsFirstIn strings these text position
        → IsFirst strings text position
    first_upto position found = record {
      there = is_there position found.there;
      has = found.has;
      first = λ other less has.
          let below : other < end = omega (arith, less, below_end position found.there) in
          elim (cases_lt other start) [
            | inl low ↦ before other low has
            | inr high ↦
                in_run other high below (λ k d inside same. found.first k d inside
                (omega (arith, same, less)) (ap (text_of strings) same ∙ has))
          ];
    }
