-- The texts that a table's map holds.
use Rattle.std.specs.Prelude.{ℕ, List, map, string_bytes, String}
use Rattle.{std.specs.BTreeMap.BTreeMap, action_dispatch.specs.Actions.Texts}

abbrev pub shown : {A : Type 0} → List (String A × List ℕ) → Texts
shown entries = map (λ entry. (string_bytes entry.0, entry.1)) entries

abbrev pub texts_in : {A : Type 0} → BTreeMap (String A) (List ℕ) → Texts
texts_in texts = shown texts.entries
