-- The rule of the channel: what was sent is what was taken and then what the channel holds.
use Rattle.std.specs.Prelude.{◌≡◌, ℕ, Bool, true, List, ◌++◌}
use mathlib.Core.Option.{some}
use lib.ListN.{get_elem?}
use Rattle.worker_thread.specs.declared.rule.Log.{Log}

module _ {T : Type 0} where
  abbrev pub log : Bool → Bool → List T → List T → Log T
  log sends takes sent taken =
      record { sends = sends; takes = takes; sent = sent; taken = taken }

  -- what a pass knows is so: the sender's what was sent, the taker's what was taken
  abbrev pub Fits : (sender taker : ℕ) → (sent taken : List T) → ℕ → Log T → Type 0
  Fits sender taker sent taken pass v =
      (v.sends ≡ true → (pass ≡ sender) × (v.sent ≡ sent))
      × (v.takes ≡ true → (pass ≡ taker) × (v.taken ≡ taken))

  abbrev pub Crosses : List T → List (Log T) → Type 0
  Crosses items views = (sender : ℕ) × (taker : ℕ) × (sent : List T) × (taken : List T)
      × (sent ≡ taken ++ items)
      × ((pass : ℕ) (v : Log T) → get_elem? views pass ≡ some v
      → Fits sender taker sent taken pass v)
