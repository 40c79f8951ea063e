-- Which calls of a fake fail.
use Rattle.std.specs.Prelude.{ℕ, Bool, List, if◌then◌else◌, ◌==◌}
use Rattle.{std.specs.List.list_any, io_edges.specs.Faults.one_more}

-- the numbers of the calls that fail, counted from 0; how many calls there were; how many of them
-- failed
pub record Plan : Type 0 where
  pub failing : List ℕ
  pub calls : ℕ
  pub faults : ℕ

-- before the first call
abbrev pub new_plan : List ℕ → Plan
new_plan failing = record { failing = failing; calls = 0; faults = 0 }

-- whether the next call fails
abbrev pub is_due : Plan → Bool
is_due plan = list_any (λ number. number == plan.calls) plan.failing

-- after a call that failed or didn't
abbrev pub one_call_more : Bool → Plan → Plan
one_call_more failed plan = record {
  failing = plan.failing;
  calls = one_more plan.calls;
  faults = if failed then one_more plan.faults else plan.faults;
}

-- after the next call, which fails where it is due
abbrev pub after_call : Plan → Plan
after_call plan = one_call_more (is_due plan) plan
