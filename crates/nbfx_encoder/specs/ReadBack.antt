-- What a reader has of a payload that was written for it.
use Rattle.std.specs.Prelude.{◌≡◌, ℕ, ◌≤◌, List, ◌++◌}
use Rattle.string_tables.specs.StringTable.{StringTable, with_strings}
use Rattle.nbfx_values.specs.declared.{content.Item.Item, session.Kind.Kind, session.Mode.Mode}
use Rattle.{nbfx_values.specs.Limits.Limits, nbfx_encoder.specs.Envelopes.envelope}
use Rattle.nbfx_records.specs.Payloads.{IsPayload, IsWithin}

-- limits that admit as much as others
pub record AdmitsAsMuch (reader writer : Limits) : Type 0 where
  pub payload : writer.payload ≤ reader.payload
  pub depth : writer.depth ≤ reader.depth
  pub dictionary : writer.dictionary ≤ reader.dictionary
  pub content : writer.content ≤ reader.content

-- what a payload brings, and that it is one within limits
pub record IsRead (limits : Limits) (kind : Kind) (table : StringTable) (items : List Item)
    (bytes : List ℕ) (behind : StringTable) : Type 0 where
  pub own : List (List ℕ)
  pub is_payload : IsPayload kind table own items bytes
  pub behind_is : behind ≡ with_strings table own
  pub within : IsWithin limits items bytes behind.strings

-- bytes were appended that such a reader reads as a payload of these items, which leaves it the
-- second table
pub record AppendsPayload (reader : Limits) (kind : Kind) (table : StringTable) (items : List Item)
    (old new : List ℕ) (behind : StringTable) : Type 0 where
  pub payload : List ℕ
  pub is_read : IsRead reader kind table items payload behind
  pub written : new ≡ old ++ payload

-- the same of an envelope with that payload
pub record AppendsEnvelope (reader : Limits) (kind : Kind) (mode : Mode) (table : StringTable)
    (items : List Item) (old new : List ℕ) (behind : StringTable) : Type 0 where
  pub payload : List ℕ
  pub is_read : IsRead reader kind table items payload behind
  pub written : new ≡ old ++ envelope mode payload
