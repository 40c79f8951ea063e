-- Elements of two lists, each with the letter of its list.
use Rattle.std.specs.Prelude.{◌≡◌, ℕ, ◌≤◌, List, [], ◌∷◌, ◌++◌, map, take, drop, length, None, Some}
use Rattle.std.specs.Prelude.{Option, if◌then◌else◌}
use Rattle.std.specs.List.{filter, slice_get}
use Rattle.two_lanes.specs.declared.jobs.Lane.{Lane}
use Rattle.two_lanes.specs.declared.jobs.Lane.TheVariants.{A, B}
use Rattle.two_lanes.specs.declared.jobs.LaneJob.{LaneJob}
use Rattle.two_lanes.specs.declared.jobs.LaneJob.TheVariants.{Send, Last, Back}
use Rattle.two_lanes.specs.Jobs.{is_lane}

-- how often the letter stands there
abbrev pub times : Lane → List Lane → ℕ
times lane tags = length (filter (is_lane lane) tags)

abbrev pub of_lane : {X : Type 0} → Lane → X → X → X
of_lane A a b = a
of_lane B a b = b

-- an element and whose it is
abbrev pub Step : Type 0 → Type 0
Step T = Lane × T

module _ {T : Type 0} where
  -- the elements of both lists, taken as the letters say
  abbrev pub merge : List T → List T → List Lane → List T
  merge a b [] = []
  merge a b (A ∷ tags) = take 1 a ++ merge (drop 1 a) b tags
  merge a b (B ∷ tags) = take 1 b ++ merge a (drop 1 b) tags

  -- the elements with that letter
  abbrev pub tagged : Lane → List Lane → List T → List T
  tagged lane [] xs = []
  tagged lane (t ∷ tags) [] = []
  tagged lane (t ∷ tags) (x ∷ xs) =
      (if is_lane lane t then x ∷ tagged lane tags xs else tagged lane tags xs)

  abbrev pub named : Lane → Option T → List (Step T)
  named lane None = []
  named lane (Some x) = (lane, x) ∷ []

  -- what jobs name: a number that is no number of the list names nothing
  abbrev pub steps : List T → List T → List LaneJob → List (Step T)
  steps a b [] = []
  steps a b (Send lane n ∷ jobs) = named lane (slice_get (of_lane lane a b) n) ++ steps a b jobs
  steps a b (Last lane ∷ jobs) = steps a b jobs
  steps a b (Back ∷ jobs) = steps a b jobs

  abbrev pub tags_of : List (Step T) → List Lane
  tags_of all = map (λ (s : Step T). s.0) all

  abbrev pub elements_of : List (Step T) → List T
  elements_of all = map (λ (s : Step T). s.1) all

  -- the elements of the steps of a lane
  abbrev pub values : Lane → List (Step T) → List T
  values lane all = elements_of (filter (λ (s : Step T). is_lane lane s.0) all)

  -- the elements with a letter are the first ones of its list, in order
  abbrev pub InOrder : List T → List T → List Lane → Type 0
  InOrder a b tags = (tagged A tags (merge a b tags) ≡ take (times A tags) a)
      × (tagged B tags (merge a b tags) ≡ take (times B tags) b)

  -- each element of both lists has its letter
  pub record AreAll (a b : List T) (tags : List Lane) : Type 0 where
    pub all_a : times A tags ≡ length a
    pub all_b : times B tags ≡ length b

-- Merges of lists that have no fewer elements than letters are in order.
abbrev pub MergesAreInOrder : (T : Type 0) → Type 0
MergesAreInOrder T = (a b : List T) (tags : List Lane) → times A tags ≤ length a
    → times B tags ≤ length b → InOrder a b tags

-- A letter more takes the next element of its list.
abbrev pub MergesGrowByOne : (T : Type 0) → Type 0
MergesGrowByOne T = (a b : List T) (tags : List Lane)
    → (merge a b (tags ++ A ∷ []) ≡ merge a b tags ++ take 1 (drop (times A tags) a))
    × (merge a b (tags ++ B ∷ []) ≡ merge a b tags ++ take 1 (drop (times B tags) b))
