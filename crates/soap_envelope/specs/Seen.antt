-- The view that an envelope's fields hold, and what they keep.
use Rattle.std.specs.Prelude.{◌≡◌, ℕ, List, IsTrue, slice_get, Option}
use Rattle.nbfx_values.specs.{declared.content.Item.Item, Documents.IsDocument}
use Rattle.soap_envelope.specs.{declared.blocks.Block.Block, Body.body_items}
use Rattle.soap_envelope.specs.declared.versions.Addressing.{Addressing}
use Rattle.soap_envelope.specs.{Children.is_start, Parts.root_scope, View.texts_at, View.View}

-- the MessageID, if there is one, and Body stand at their places
abbrev pub seen : List Item → List Block → Addressing → (action reply_address : Option (List ℕ))
    → Option ℕ → ℕ → View
seen items blocks version action reply_address message body = record {
  blocks = blocks;
  version = version;
  action = action;
  reply_address = reply_address;
  message_id = texts_at items message;
  body_at = body;
  body = body_items version items (root_scope items) body;
}

-- the items are a document, and an element begins at Body's place
pub record HasBody (items : List Item) (body : ℕ) : Type 0 where
  pub document : IsDocument items
  pub starts : IsTrue (is_start (slice_get items body))

-- an element begins at the place of a view's Body, and its content is that of the view
pub record BodyStands (items : List Item) (v : View) : Type 0 where
  pub starts : IsTrue (is_start (slice_get items v.body_at))
  pub content : v.body ≡ body_items v.version items (root_scope items) v.body_at
