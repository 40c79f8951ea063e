-- The rule of the channel: for each lane, the jobs of it that were taken and those that wait are
-- what was sent of it. One pass at most may send of a lane, and one may take.
use Rattle.std.specs.Prelude.{◌≡◌, ℕ, zero, suc, Bool, true, false, List, [], ◌∷◌, ◌++◌, Option}
use Rattle.std.specs.Prelude.{None, Some, IfSome, if◌then◌else◌}
use Rattle.std.specs.List.{filter}
use mathlib.Core.Option.{some}
use lib.ListN.{get_elem?}
use Rattle.two_lanes.specs.declared.jobs.Lane.{Lane}
use Rattle.two_lanes.specs.declared.jobs.Lane.TheVariants.{A, B}
use Rattle.two_lanes.specs.declared.jobs.LaneJob.{LaneJob}
use Rattle.two_lanes.specs.declared.jobs.LaneJob.TheVariants.{Send, Last, Back}
use Rattle.two_lanes.specs.declared.jobs.Log.{Log}

abbrev pub is_lane : Lane → Lane → Bool
is_lane A A = true
is_lane A B = false
is_lane B A = false
is_lane B B = true

-- whose job it is: Back is sent with lane A's right
abbrev pub lane_of : LaneJob → Lane
lane_of (Send lane n) = lane
lane_of (Last lane) = lane
lane_of Back = A

-- the jobs of a lane, in order
abbrev pub of : Lane → List LaneJob → List LaneJob
of lane jobs = filter (λ job. is_lane lane (lane_of job)) jobs

-- one job for each of the first numbers
abbrev pub first_jobs : Lane → ℕ → List LaneJob
first_jobs lane zero = []
first_jobs lane (suc n) = first_jobs lane n ++ Send lane n ∷ []

-- one job for each number, and the last one
abbrev pub all_jobs : Lane → ℕ → List LaneJob
all_jobs lane n = first_jobs lane n ++ Last lane ∷ []

-- whether the lane's last job is among them
abbrev pub has_last : Lane → List LaneJob → Bool
has_last lane [] = false
has_last lane (Send l n ∷ jobs) = has_last lane jobs
has_last lane (Last l ∷ jobs) = (if is_lane lane l then true else has_last lane jobs)
has_last lane (Back ∷ jobs) = has_last lane jobs

-- whether the writer was sent back
abbrev pub has_back : List LaneJob → Bool
has_back [] = false
has_back (Send l n ∷ jobs) = has_back jobs
has_back (Last l ∷ jobs) = has_back jobs
has_back (Back ∷ jobs) = true

-- the jobs after which the writer ends
abbrev pub ends : List LaneJob → Bool
ends jobs = (if has_back jobs then true else (if has_last A jobs then has_last B jobs else false))

abbrev pub log : Option (List LaneJob) → Option (List LaneJob) → Option (List LaneJob) → Log
log a b got = record { a = a; b = b; got = got }

-- what a pass knows that may send of one lane alone
abbrev pub lane_log : Lane → List LaneJob → Log
lane_log A sent = log (Some sent) None None
lane_log B sent = log None (Some sent) None

abbrev pub more : LaneJob → Option (List LaneJob) → Option (List LaneJob)
more x None = None
more x (Some jobs) = Some (jobs ++ x ∷ [])

abbrev pub known : Option (List LaneJob) → List LaneJob
known None = []
known (Some jobs) = jobs

abbrev pub is_known : Option (List LaneJob) → Bool
is_known None = false
is_known (Some jobs) = true

-- what a pass knows of a lane
abbrev pub side : Lane → Log → Option (List LaneJob)
side A v = v.a
side B v = v.b

abbrev pub may_send : Log → LaneJob → Bool
may_send v x = is_known (side (lane_of x) v)

abbrev pub send_on : Lane → Log → LaneJob → Log
send_on A v x = log (more x v.a) v.b v.got
send_on B v x = log v.a (more x v.b) v.got

abbrev pub after_send : Log → LaneJob → Log
after_send v x = send_on (lane_of x) v x

-- one pass at most has this side, and what it knows is these jobs
pub record Has (f : Log → Option (List LaneJob)) (jobs : List LaneJob) (views : List Log) : Type 0
  where
    pub seat : ℕ
    pub told : (pass : ℕ) (v : Log) → get_elem? views pass ≡ some v
        → IfSome (f v) (λ k. (pass ≡ seat) × (k ≡ jobs))

abbrev pub Crossing : List LaneJob → List Log → Type 0
Crossing items views = (got : List LaneJob)
    × Has (λ v. v.a) (of A (got ++ items)) views
    × Has (λ v. v.b) (of B (got ++ items)) views
    × Has (λ v. v.got) got views

-- what the pass with every side learns: of each lane, what was taken and what waits is what was sent
abbrev pub AllTold : Log → List LaneJob → Type 0
AllTold v items = v ≡ log (Some (of A (known v.got ++ items))) (Some (of B (known v.got ++ items)))
    (Some (known v.got))
