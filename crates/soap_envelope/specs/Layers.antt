-- The declarations of an element as they are kept.
use Rattle.std.specs.Prelude.{ℕ, List, map}
use Rattle.std.specs.Prelude.{Option}
use Rattle.std.specs.BTreeMap.{BTreeMap, get_by}
use Rattle.std.specs.{Cmp.Lexicographic.slice_cmp, Global.Vec, Ordering.nat_cmp}
use denote.Ref.{Bor}
use Rattle.soap_envelope.specs.declared.{layers.Declared.Declared, ring.Need.Need}
use Rattle.soap_envelope.specs.Scopes.{Declaration, declaration}

abbrev pub kept : Declared → Declaration
kept d = declaration d.prefix.now d.uri.now

abbrev pub layer_of : Vec Declared → List Declaration
layer_of v = map kept v.items

-- those that children of Body need
abbrev pub needs_of : List Need → List Declaration
needs_of needs = map (λ (n : Need). declaration n.prefix.now n.uri.now) needs

-- the entries of a map from prefixes to namespaces
abbrev pub shown : BTreeMap (Bor (List ℕ)) (Bor (List ℕ)) → List Declaration
shown sorted = map (λ entry. declaration entry.0.now entry.1.now) sorted.entries

-- the place that a map has for a prefix
abbrev pub place_in : List ℕ → BTreeMap (Bor (List ℕ)) ℕ → Option ℕ
place_in prefix places = get_by (λ k. slice_cmp nat_cmp prefix k.now) places
