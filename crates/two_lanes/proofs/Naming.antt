-- What jobs name of two lists, for callers: a worker that has done jobs that name all elements has
-- dealt with a merge of both lists.
use Rattle.std.proofs.Common.{◌≡◌, ◌+◌, ℕ, zero, suc, List, [], ◌∷◌, ◌++◌, take, length, sym, refl}
use Rattle.std.proofs.Common.{ap, ◌∙◌, append_assoc, append-nil, arith, Option, None, Some}
use Rattle.std.proofs.lemmas.List.{take_all}
use Rattle.std.specs.List.{slice_get}
use Rattle.two_lanes.specs.declared.jobs.Lane.{Lane}
use Rattle.two_lanes.specs.declared.jobs.Lane.TheVariants.{A, B}
use Rattle.two_lanes.specs.declared.jobs.LaneJob.{LaneJob}
use Rattle.two_lanes.specs.declared.jobs.LaneJob.TheVariants.{Send, Last, Back}
use Rattle.two_lanes.specs.Merges.{AreAll, elements_of, merge, named, of_lane, Step, steps, tags_of, values}
use Rattle.two_lanes.specs.Numbers.{HasAll, numbers, upto}
use Rattle.two_lanes.specs.Jobs.{first_jobs}
use Rattle.two_lanes.proofs.Merging.{merge-steps, times-values}
use Rattle.two_lanes.proofs.Numbering.{one_by_one}

module _ {T : Type 0} where
  pub steps-append : (a b : List T) (x y : List LaneJob)
      → steps a b (x ++ y) ≡ steps a b x ++ steps a b y
  steps-append a b [] y = refl
  steps-append a b (Send lane n ∷ x) y =
      ap (λ l. named lane (slice_get (of_lane lane a b) n) ++ l) (steps-append a b x y)
      ∙ sym (append_assoc (named lane (slice_get (of_lane lane a b) n)) (steps a b x) (steps a b y))
  steps-append a b (Last lane ∷ x) y = steps-append a b x y
  steps-append a b (Back ∷ x) y = steps-append a b x y

  abbrev some_of : Option T → List T
  some_of None = []
  some_of (Some x) = x ∷ []

  -- the elements with these numbers
  abbrev gets : List T → List ℕ → List T
  gets l [] = []
  gets l (n ∷ numbers) = some_of (slice_get l n) ++ gets l numbers

  gets-append : (l : List T) (x y : List ℕ) → gets l (x ++ y) ≡ gets l x ++ gets l y
  gets-append l [] y = refl
  gets-append l (n ∷ x) y = ap (λ m. some_of (slice_get l n) ++ m) (gets-append l x y)
      ∙ sym (append_assoc (some_of (slice_get l n)) (gets l x) (gets l y))

  mine : (lane : Lane) (o : Option T) (all : List (Step T)) (rest : List T)
      → values lane all ≡ rest → values lane (named lane o ++ all) ≡ some_of o ++ rest
  mine lane None all rest e = e
  mine A (Some x) all rest e = ap (λ l. x ∷ l) e
  mine B (Some x) all rest e = ap (λ l. x ∷ l) e

  others_a : (o : Option T) (all : List (Step T))
      → values A (named B o ++ all) ≡ values A all
  others_a None all = refl
  others_a (Some x) all = refl

  others_b : (o : Option T) (all : List (Step T))
      → values B (named A o ++ all) ≡ values B all
  others_b None all = refl
  others_b (Some x) all = refl

  values_gets : (a b : List T) (lane : Lane) (jobs : List LaneJob)
      → values lane (steps a b jobs) ≡ gets (of_lane lane a b) (numbers lane jobs)
  values_gets a b lane [] = refl
  values_gets a b A (Send A n ∷ jobs) =
      mine A (slice_get a n) (steps a b jobs) _ (values_gets a b A jobs)
  values_gets a b B (Send B n ∷ jobs) =
      mine B (slice_get b n) (steps a b jobs) _ (values_gets a b B jobs)
  values_gets a b A (Send B n ∷ jobs) =
      others_a (slice_get b n) (steps a b jobs) ∙ values_gets a b A jobs
  values_gets a b B (Send A n ∷ jobs) =
      others_b (slice_get a n) (steps a b jobs) ∙ values_gets a b B jobs
  values_gets a b A (Last l ∷ jobs) = values_gets a b A jobs
  values_gets a b B (Last l ∷ jobs) = values_gets a b B jobs
  values_gets a b A (Back ∷ jobs) = values_gets a b A jobs
  values_gets a b B (Back ∷ jobs) = values_gets a b B jobs

  take-next : (l : List T) (n : ℕ) → take n l ++ (some_of (slice_get l n) ++ []) ≡ take (suc n) l
  take-next [] zero = refl
  take-next [] (suc n) = refl
  take-next (x ∷ l) zero = refl
  take-next (x ∷ l) (suc n) = ap (λ l. x ∷ l) (take-next l n)

  gets_upto : (l : List T) (n : ℕ) → gets l (upto n) ≡ take n l
  gets_upto l zero = refl
  gets_upto l (suc n) = gets-append l (upto n) (n ∷ [])
      ∙ ap (λ m. m ++ (some_of (slice_get l n) ++ [])) (gets_upto l n) ∙ take-next l n

  -- a list all of whose numbers are named is dealt with whole
  lane_whole : (a b : List T) (lane : Lane) (n : ℕ) (jobs : List LaneJob)
      → numbers lane jobs ≡ upto n → n ≡ length (of_lane lane a b)
      → values lane (steps a b jobs) ≡ of_lane lane a b
  lane_whole a b lane n jobs is count = values_gets a b lane jobs
      ∙ ap (gets (of_lane lane a b)) is ∙ gets_upto (of_lane lane a b) n
      ∙ ap (λ m. take m (of_lane lane a b)) count
      ∙ take_all (length (of_lane lane a b)) (of_lane lane a b) (omega arith)

  lengths : (s : List (Step T))
      → length (elements_of s) ≡ length (values A s) + length (values B s)
  lengths [] = refl
  lengths ((A, x) ∷ s) = let n = lengths s in omega (arith, n)
  lengths ((B, x) ∷ s) = let n = lengths s in omega (arith, n)

  -- jobs that name all elements name a merge of both lists, in which each has its letter
  pub record NamesMerge (a b : List T) (all : List (Step T)) : Type 0 where
    pub merged : elements_of all ≡ merge a b (tags_of all)
    pub all_tagged : AreAll a b (tags_of all)
    pub long : length (elements_of all) ≡ length a + length b

  pub names_merge : (a b : List T) (n m : ℕ) (jobs : List LaneJob) → n ≡ length a → m ≡ length b
      → HasAll n m jobs → NamesMerge a b (steps a b jobs)
  names_merge a b n m jobs na nb all =
      let va : values A (steps a b jobs) ≡ a = lane_whole a b A n jobs all.of_a na in
      let vb : values B (steps a b jobs) ≡ b = lane_whole a b B m jobs all.of_b nb in
      let s : List (Step T) = steps a b jobs in record {
        merged = sym (merge-steps s [] [])
            ∙ ap (λ l. merge l (values B s ++ []) (tags_of s)) (append-nil (values A s) ∙ va)
            ∙ ap (λ l. merge a l (tags_of s)) (append-nil (values B s) ∙ vb);
        all_tagged = record {
          all_a = times-values A s ∙ ap length va;
          all_b = times-values B s ∙ ap length vb;
        };
        long = lengths s ∙ ap (λ l. length l + length (values B s)) va
            ∙ ap (λ l. length a + length l) vb;
      }

  -- there is an order of all elements
  pub some_order : (a b : List T) → (all : List (Step T)) × NamesMerge a b all
  some_order a b =
      let jobs : List LaneJob = ([] ++ first_jobs A (length a)) ++ first_jobs B (length b) in (
        steps a b jobs,
        names_merge a b (length a) (length b) jobs refl refl
            (one_by_one [] (length a) (length b) refl refl),
      )
