-- What a shelf holds.
use Rattle.std.specs.Prelude.{ℕ, List, map, string_bytes, Vec, String, refl}
use Rattle.std.specs.{BTreeMap.BTreeMap, Ordering.nat_cmp}
use Rattle.std.specs.{Cmp.Lexicographic.slice_cmp, declared.alloc.Global.Global}
use Rattle.std.specs.Coded.{Coded, code_by, coded_list, coded_ℕ, coded×}
use Rattle.io_edges.specs.Plan.{new_plan, Plan}
use Rattle.std.specs.FinMap as finite

-- from the bytes of names to the bytes of files
abbrev pub Store : Type 0
Store = finite.FinMap (slice_cmp nat_cmp) (List ℕ)

-- the files of a map
abbrev pub store_of : BTreeMap (String Global) (Vec ℕ Global) → Store
store_of files =
    finite.from_entries (map (λ file. (string_bytes file.0, file.1.items)) files.entries)

-- files on a shelf that fails by plan
pub record PlannedShelf : Type 0 where
  pub files : Store
  pub plan : Plan

-- before the first fetch
abbrev pub new_shelf : BTreeMap (String Global) (Vec ℕ Global) → List ℕ → PlannedShelf
new_shelf files failing = record { files = store_of files; plan = new_plan failing }

-- a plan is stored as its fields
abbrev pub coded_plan : Coded Plan
coded_plan =
    code_by (List ℕ × (ℕ × ℕ)) (coded× (coded_list coded_ℕ) (coded× coded_ℕ coded_ℕ))
    (λ p. (p.failing, (p.calls, p.faults)))
    (λ t. record { failing = t.0; calls = t.1.0; faults = t.1.1 }) (λ _. refl)

-- a shelf is stored as the pair of its fields
abbrev pub coded_shelf : Coded PlannedShelf
coded_shelf =
    code_by (Store × Plan)
    (coded× (finite.code (coded_list coded_ℕ) (coded_list coded_ℕ)) coded_plan)
    (λ s. (s.files, s.plan)) (λ t. record { files = t.0; plan = t.1 }) (λ _. refl)
