-- What bounds the situation behind any bytes of a payload.
use Rattle.std.specs.Prelude.{ℕ, ◌*◌, ◌≤◌, max, List, length, IsUtf8}
use Rattle.{string_tables.specs.SessionStrings.used_cost, nbfx_values.specs.Limits.Limits}
use Rattle.string_tables.specs.StringTable.{Names, StringTable}
use Rattle.nbfx_values.specs.Measures.{content_of, depth_of, opened_by}
use Rattle.nbfx_decoder.specs.{Payload.Situation, Values.values_of}

-- behind whole units of so many bytes, where the direction had some strings before: no more content
-- than is admitted, nor deeper, but for a root; strings that cost no more, or no more than before;
-- at most as many values as bytes, and at most twice as many items
pub record KeepsWithin (limits : Limits) (before : List (List ℕ)) (z : Situation) (from : ℕ)
    : Type 0 where
  pub content : content_of z.items ≤ limits.content
  pub depth : depth_of z.items ≤ max 1 limits.depth
  pub open_elements : opened_by 0 z.items ≤ max 1 limits.depth
  pub dictionary : used_cost z.strings ≤ max (used_cost before) limits.dictionary
  pub few_items : length z.items ≤ 2 * from
  pub few_values : values_of z.items ≤ from

-- what the identifiers of a table name is text
abbrev pub NamesTexts : StringTable → Type 0
NamesTexts table = (id : ℕ) (text : List ℕ) → Names table id text → IsUtf8 text
