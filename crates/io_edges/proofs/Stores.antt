-- What a map of files, as a store, has at a name.
use Rattle.std.proofs.Common.{◌≡◌, ℕ, Bool, true, false, cond, List, [], ◌∷◌, map, Some}
use Rattle.std.proofs.Common.{string_bytes, Option, Vec, String, option_map, nat_cmp, Global}
use Rattle.std.proofs.Common.{BTreeMap, refl, ◌∙◌}
use Rattle.std.specs.{BTreeMap.get_by_text, BTreeMap.is_at, Map.lookup}
use Rattle.std.specs.Cmp.Lexicographic.{nat_list_cmp_total, slice_cmp}
use Rattle.std.specs.FinMap.{find, get, get-from_entries}
use Rattle.io_edges.specs.Store.{store_of}

-- files by name, as the bytes of both
abbrev pub bytes_of : List (String Global × Vec ℕ Global) → List (List ℕ × List ℕ)
bytes_of = map (λ e. (string_bytes e.0, e.1.items))

either : (found : Bool) (file : Vec ℕ Global) (there : Option (List ℕ))
    (here : Option (Vec ℕ Global)) → there ≡ option_map (λ v. v.items) here
    → cond found (Some file.items) there ≡ option_map (λ v. v.items) (cond found (Some file) here)
either true file there here same = refl
either false file there here same = same

find_file : (name : List ℕ) (files : List (String Global × Vec ℕ Global)) → find (slice_cmp nat_cmp)
    name (bytes_of files) ≡ option_map (λ v. v.items)
    (lookup (is_at (λ k. slice_cmp nat_cmp name (string_bytes k))) files)
find_file name [] = refl
find_file name (e ∷ files) = either _ e.1 _ _ (find_file name files)

-- what the store has is what the map has
pub get-store : (files : BTreeMap (String Global) (Vec ℕ Global)) (name : List ℕ)
    → get (store_of files) name ≡ option_map (λ v. v.items) (get_by_text files name)
get-store files name = get-from_entries nat_list_cmp_total (bytes_of files.entries) name ∙ find_file
    name files.entries
