-- What is seen of a sink at one moment.
use Rattle.std.specs.Prelude.{◌≡◌, ℕ, Bool, false, List, [], Option}

-- of where bytes go: what is written, where that is told; what was put and isn't written yet; and
-- how many calls met a fault. And of its calls, which stays as it is: whether they may hold bytes
-- back, and whether they may run out of memory.
pub record SinkView : Type 0 where
  pub written : Option (List ℕ)
  pub held : List ℕ
  pub faults : ℕ
  pub may_hold : Bool
  pub may_run_out : Bool

-- it holds nothing back, now and later: what is put to it is written
abbrev pub HoldsNothing : SinkView → Type 0
HoldsNothing sink = (sink.may_hold ≡ false) × (sink.held ≡ [])
