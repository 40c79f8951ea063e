-- Which items and which names fit a quota on content, and which items may fit all quotas.
use Rattle.std.specs.Prelude.{◌≡◌, ℕ, ◌+◌, ◌-◌, ◌*◌, Bool, true, false, ◌&&◌, List, length}
use Rattle.std.specs.Prelude.{if◌then◌else◌, map, nat_le, Some, None, sum_by, Option}
use Rattle.nbfx_values.specs.{declared.content.Item.Item, Limits.Limits}
use Rattle.nbfx_values.specs.Measures.{capped, content_of, item_content}
use Rattle.least_payloads.specs.Least.{least_of_item, may_fit}
use Rattle.soap_envelope.specs.{Body.self_standing, Body.xmlns_of, declared.fitting.Counted.Counted}
use Rattle.soap_envelope.specs.{declared.fitting.Measure.Measure, Layers.kept, Qualified.Name}
use Rattle.soap_envelope.specs.Scopes.{Declaration, declared}
use Rattle.soap_envelope.specs.declared.fitting.Measure.TheVariants.{Content, Payload}

abbrev pub fits : ℕ → List Item → Bool
fits quota items = nat_le (content_of items) quota

-- the items, where they may fit the limits
abbrev pub fitting : Limits → List Item → Option (List Item)
fitting limits items = if may_fit limits items then Some items else None

-- the items, or nothing, which is right only where they don't fit
abbrev pub IsTaken : {A : Type 0} → Limits → List Item → A → Option A → Type 0
IsTaken limits items whole (Some taken) = taken ≡ whole
IsTaken limits items whole None = may_fit limits items ≡ false

-- by these declarations the content of Body is what is to stand in its place, which may fit; or
-- there are none, which is right only where that doesn't fit
abbrev pub AreNeeds : Limits → (content standing : List Item) → Option (List Item) → Type 0
AreNeeds limits content standing (Some needs) =
    (self_standing (declared needs) (Some 0) content ≡ standing)
    × (may_fit limits standing ≡ true)
AreNeeds limits content standing None = may_fit limits standing ≡ false

-- what an item counts by a measure, and what items do
abbrev pub item_measure : Measure → Item → ℕ
item_measure Content = item_content
item_measure Payload = least_of_item

abbrev pub measure_of : Measure → List Item → ℕ
measure_of measure = sum_by (item_measure measure)

-- declarations that are counted together, by a measure
abbrev pub counted : Counted → List Declaration
counted needs = map kept needs.declarations.now

abbrev pub IsCounted : Measure → Counted → Type 0
IsCounted measure needs = needs.sum ≡ capped (measure_of measure (map xmlns_of (counted needs)))

-- what a quota leaves behind so much, where that fits
abbrev pub left_behind : ℕ → ℕ → Option ℕ
left_behind quota n = if nat_le n quota then Some (quota - n) else None

-- how much names count, each with its namespace written out
abbrev pub name_content : Name → ℕ
name_content name = length name.uri + length name.local

abbrev pub names_content : List Name → ℕ
names_content names = sum_by name_content names

-- the least that the block of a name has in a payload: the beginning of its element, a declaration
-- with a prefix, and an attribute
abbrev pub least_of_name : ℕ
least_of_name = 9

-- whether a fault with these names may fit, as far as they count
abbrev pub names_fit : Limits → List Name → Bool
names_fit limits names =
    nat_le (names_content names) limits.content
    && nat_le (least_of_name * length names) limits.payload
