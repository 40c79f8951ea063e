-- The view of a document as an envelope of SOAP 1.2 with WS-Addressing.
use Rattle.std.specs.Prelude.{ℕ, List, [], slice_get, Some, None, Ok, Err, codes, Option, Result}
use Rattle.std.specs.Prelude.{option_map, option_to_list, flat_map, option_and_then}
use Rattle.std.specs.Option.{option_or}
use Rattle.nbfx_values.specs.declared.content.Item.{Item, TheVariants.Text}
use Rattle.soap_envelope.specs.declared.{blocks.Block.Block, parts.Parts.Parts}
use Rattle.soap_envelope.specs.declared.refusals.SoapFault.{SoapFault, TheVariants.RepeatedHeader}
use Rattle.soap_envelope.specs.declared.refusals.SoapFault.TheVariants.{BadHeader, BadNames}
use Rattle.soap_envelope.specs.{BadNames.bad_name, Body.body_items, Children.children_of}
use Rattle.soap_envelope.specs.{Blocks.blocks_among, Characters.text_of}
use Rattle.soap_envelope.specs.Headers.{addresses, bad_children, bad_content, counted_at, earlier}
use Rattle.soap_envelope.specs.Headers.{only, repeated}
use Rattle.soap_envelope.specs.Parts.{kept_children, parts_of, root_scope, wrong_root}
use Rattle.soap_envelope.specs.{Scopes.Scope, Scopes.within, Versions.version_of}
use Rattle.soap_envelope.specs.declared.versions.Addressing.{Addressing}

-- what servers and callers go by
pub record View : Type 0 where
  pub blocks : List Block
  -- the version of addressing that it is in
  pub version : Addressing
  -- the characters of the Action that counts
  pub action : Option (List ℕ)
  -- those of the Address of the ReplyTo that counts
  pub reply_address : Option (List ℕ)
  -- the texts of the MessageID that counts
  pub message_id : List Item
  -- the place of Body, and its content, so that it stands by itself
  pub body_at : ℕ
  pub body : List Item

-- the declarations within Header, and its children that aren't passed over
abbrev pub header_scope : List Item → Option ℕ → Scope
header_scope items None = root_scope items
header_scope items (Some at) = within items at (root_scope items)

abbrev pub header_children : List Item → Option ℕ → List ℕ
header_children items None = []
header_children items (Some at) = kept_children items at

abbrev pub blocks_of : List Item → Option ℕ → List Block
blocks_of items header = blocks_among items (header_scope items header)
    (header_children items header)

-- the texts among the children of the element at a place
abbrev pub text_item : Option Item → Option Item
text_item (Some (Text value)) = Some (Text value)
text_item _ = None

abbrev pub texts_in : List Item → ℕ → List Item
texts_in items at = option_to_list (text_item (slice_get items at))

abbrev pub texts_among : List Item → List ℕ → List Item
texts_among items children = flat_map (texts_in items) children

abbrev pub texts_of : List Item → ℕ → List Item
texts_of items at = texts_among items (children_of items at)

abbrev pub texts_at : List Item → Option ℕ → List Item
texts_at items None = []
texts_at items (Some at) = texts_of items at

-- the Address of the ReplyTo that begins at a place
abbrev pub address_in : Addressing → List Item → Scope → ℕ → Option ℕ
address_in version items header at = only (addresses version items header at)

abbrev pub reply_address_at : Addressing → List Item → Scope → List Block → Option ℕ
reply_address_at version items header blocks =
    option_and_then (address_in version items header) (counted_at version (codes "ReplyTo") blocks)

-- the view of an envelope of this version with these blocks
abbrev pub viewed_in : Addressing → List Block → List Item → Parts → View
viewed_in version blocks items parts = record {
  blocks = blocks;
  version = version;
  action = option_map (text_of items) (counted_at version (codes "Action") blocks);
  reply_address =
      option_map (text_of items)
      (reply_address_at version items (header_scope items parts.header) blocks);
  message_id = texts_at items (counted_at version (codes "MessageID") blocks);
  body_at = parts.body;
  body = body_items version items (root_scope items) parts.body;
}

abbrev pub viewed : List Item → Parts → View
viewed items parts =
    let blocks = blocks_of items parts.header in viewed_in (version_of blocks) blocks items parts

-- the first of a repeated block and of what else is wrong, where this is the first item that isn't
-- as SOAP asks
abbrev pub fault_among : Addressing → List Item → Scope → Option ℕ → List Block → Option SoapFault
fault_among version items header bad blocks =
    option_or (option_map RepeatedHeader (repeated version blocks))
    (option_map BadHeader (earlier bad (bad_content version items header blocks)))

-- the first fault of Header: a block that is repeated goes before any other
abbrev pub header_fault : List Item → Option ℕ → Option SoapFault
header_fault items header =
    let blocks = blocks_of items header in
    let scope = header_scope items header in
    fault_among (version_of blocks) items scope
    (bad_children items scope (header_children items header)) blocks

abbrev pub unless : {X : Type 0} → Option SoapFault → Result X SoapFault → Result X SoapFault
unless None result = result
unless (Some fault) result = Err fault

abbrev pub viewed_by : List Item → Result Parts SoapFault → Result View SoapFault
viewed_by items (Err fault) = Err fault
viewed_by items (Ok parts) = unless (header_fault items parts.header) (Ok (viewed items parts))

-- the view, or the first refusal: names, the root, its children, and then Header
abbrev pub view : List Item → Result View SoapFault
view items =
    unless (option_map BadNames (bad_name items))
    (unless (wrong_root items) (viewed_by items (parts_of items)))
