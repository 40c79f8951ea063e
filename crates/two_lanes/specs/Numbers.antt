-- Which elements of two lists jobs name, and what a worker has done that took them.
use Rattle.std.specs.Prelude.{◌≡◌, ℕ, zero, suc, true, false, List, [], ◌∷◌, ◌++◌, None, Some, if◌then◌else◌}
use Rattle.two_lanes.specs.declared.jobs.Lane.{Lane}
use Rattle.two_lanes.specs.declared.jobs.Lane.TheVariants.{A, B}
use Rattle.two_lanes.specs.declared.jobs.LaneJob.{LaneJob}
use Rattle.two_lanes.specs.declared.jobs.LaneJob.TheVariants.{Send, Last, Back}
use Rattle.two_lanes.specs.declared.jobs.Log.{Log}
use Rattle.two_lanes.specs.declared.working.Over.{Over}
use Rattle.two_lanes.specs.Jobs.{ends, has_back, has_last, is_lane, known, log}

-- the numbers of a lane's elements that jobs name, in order
abbrev pub numbers : Lane → List LaneJob → List ℕ
numbers lane [] = []
numbers lane (Send l n ∷ jobs) =
    (if is_lane lane l then n ∷ numbers lane jobs else numbers lane jobs)
numbers lane (Last l ∷ jobs) = numbers lane jobs
numbers lane (Back ∷ jobs) = numbers lane jobs

-- the first numbers, from 0
abbrev pub upto : ℕ → List ℕ
upto zero = []
upto (suc n) = upto n ++ n ∷ []

-- jobs name all elements of two lists of so many elements, those of each list in order
pub record HasAll (a b : ℕ) (jobs : List LaneJob) : Type 0 where
  pub of_a : numbers A jobs ≡ upto a
  pub of_b : numbers B jobs ≡ upto b

-- which last jobs came, and whether the worker is wanted back
pub record IsOver (over : Over) (jobs : List LaneJob) : Type 0 where
  pub a_is : over.a ≡ has_last A jobs
  pub b_is : over.b ≡ has_last B jobs
  pub back_is : over.back ≡ has_back jobs

-- a worker that was like the first has done the jobs that it took, up to the end
pub record Took {W : Type 0} (did finished : W → List LaneJob → W → Type 0) (v : Log)
    (first now : W) : Type 0 where
  pub view : v ≡ log None None (Some (known v.got))
  pub ended : ends (known v.got) ≡ true
  pub stopped : has_back (known v.got) ≡ true → did first (known v.got) now
  pub done : has_back (known v.got) ≡ false → finished first (known v.got) now
