-- Which nodes records can hold, and which of them can be written.
use Rattle.std.specs.Prelude.{ℕ, Bool, true, false, ◌&&◌, List, length, nat_lt, nat_le}
use Rattle.std.specs.{List.list_all, Str.is_utf8}
use Rattle.nbfx_values.specs.declared.scalars.Scalar.{Scalar, TheVariants.Text as TextOf}
use Rattle.nbfx_values.specs.declared.scalars.Scalar.TheVariants.{Bytes, QName as NamedBy}
use Rattle.nbfx_values.specs.{Items.fits_kind, Scalars.is_unsigned, Scalars.is_valid_scalar}
use Rattle.nbfx_records.specs.declared.nodes.{ArrayNode.ArrayNode, Node.Node, RawValue.RawValue}
use Rattle.nbfx_records.specs.declared.nodes.{AttrNode.AttrNode, RawScalar.RawScalar}
use Rattle.nbfx_records.specs.declared.nodes.NameRef.{NameRef, TheVariants.Id, TheVariants.Inline}
use Rattle.nbfx_records.specs.declared.nodes.Node.TheVariants.{Array, Attribute, Comment, Element}
use Rattle.nbfx_records.specs.declared.nodes.Node.TheVariants.{EndElement, Text, Xmlns}
use Rattle.nbfx_records.specs.declared.nodes.RawScalar.TheVariants.{Dictionary, Known, QName}
use Rattle.nbfx_records.specs.declared.nodes.RawValue.TheVariants.{List as ListOf, One}
use Rattle.nbfx_records.specs.declared.nodes.AttrNode.TheVariants as attribute_nodes

-- a QName names a string, and so is no value by itself
abbrev pub is_valid_known : Scalar → Bool
is_valid_known (NamedBy _ _) = false
is_valid_known value = is_valid_scalar value

abbrev pub is_valid_raw : RawScalar → Bool
is_valid_raw (Known value) = is_valid_known value
is_valid_raw (Dictionary id) = true
is_valid_raw (QName letter id) = nat_le letter 25

abbrev pub is_valid_text : RawValue → Bool
is_valid_text (One value) = is_valid_raw value
is_valid_text (ListOf values) = list_all is_valid_raw values

abbrev pub is_valid_name : NameRef → Bool
is_valid_name (Inline s) = is_utf8 s
is_valid_name (Id id) = true

abbrev pub are_valid_names : List ℕ → NameRef → Bool
are_valid_names prefix name = is_utf8 prefix && is_valid_name name

abbrev pub is_valid_part : AttrNode → Bool
is_valid_part (attribute_nodes.Attribute prefix name value) =
    are_valid_names prefix name && is_valid_text value
is_valid_part (attribute_nodes.Xmlns prefix uri) = are_valid_names prefix uri

-- one value or more, each of the kind
abbrev pub is_valid_array : ArrayNode → Bool
is_valid_array a =
    are_valid_names a.prefix a.name
    && (list_all is_valid_part a.attrs
    && (nat_lt 0 (length a.values) && list_all (fits_kind a.kind) a.values))

abbrev pub is_valid_node : Node → Bool
is_valid_node EndElement = true
is_valid_node (Comment s) = is_utf8 s
is_valid_node (Array a) = is_valid_array a
is_valid_node (Attribute prefix name value) = are_valid_names prefix name && is_valid_text value
is_valid_node (Xmlns prefix uri) = are_valid_names prefix uri
is_valid_node (Element prefix name) = are_valid_names prefix name
is_valid_node (Text value ends) = is_valid_text value

-- Integers and lengths have 31 bits: which nodes have no greater identifier and no longer text, and
-- no more values in an array.
abbrev pub is_short : List ℕ → Bool
is_short s = is_unsigned 31 (length s)

abbrev pub fits_known : Scalar → Bool
fits_known (TextOf s) = is_short s
fits_known (Bytes content) = is_short content
fits_known _ = true

abbrev pub fits_raw : RawScalar → Bool
fits_raw (Known value) = fits_known value
fits_raw (Dictionary id) = is_unsigned 31 id
fits_raw (QName letter id) = is_unsigned 31 id

abbrev pub fits_text : RawValue → Bool
fits_text (One value) = fits_raw value
fits_text (ListOf values) = list_all fits_raw values

abbrev pub fits_name : NameRef → Bool
fits_name (Inline s) = is_short s
fits_name (Id id) = is_unsigned 31 id

abbrev pub fit_names : List ℕ → NameRef → Bool
fit_names prefix name = is_short prefix && fits_name name

abbrev pub fits_part : AttrNode → Bool
fits_part (attribute_nodes.Attribute prefix name value) = fit_names prefix name && fits_text value
fits_part (attribute_nodes.Xmlns prefix uri) = fit_names prefix uri

abbrev pub fits_array : ArrayNode → Bool
fits_array a =
    fit_names a.prefix a.name && (list_all fits_part a.attrs && is_unsigned 31 (length a.values))

abbrev pub fits_node : Node → Bool
fits_node EndElement = true
fits_node (Comment s) = is_short s
fits_node (Array a) = fits_array a
fits_node (Attribute prefix name value) = fit_names prefix name && fits_text value
fits_node (Xmlns prefix uri) = fit_names prefix uri
fits_node (Element prefix name) = fit_names prefix name
fits_node (Text value ends) = fits_text value

-- Which nodes have an identifier for the name of each QName.
abbrev pub names_qnames_raw : RawScalar → Bool
names_qnames_raw (Known (NamedBy _ _)) = false
names_qnames_raw _ = true

abbrev pub names_qnames_text : RawValue → Bool
names_qnames_text (One value) = names_qnames_raw value
names_qnames_text (ListOf values) = list_all names_qnames_raw values

abbrev pub names_qnames_part : AttrNode → Bool
names_qnames_part (attribute_nodes.Attribute prefix name value) = names_qnames_text value
names_qnames_part (attribute_nodes.Xmlns prefix uri) = true

abbrev pub names_qnames : Node → Bool
names_qnames EndElement = true
names_qnames (Comment s) = true
names_qnames (Array a) = list_all names_qnames_part a.attrs
names_qnames (Attribute prefix name value) = names_qnames_text value
names_qnames (Xmlns prefix uri) = true
names_qnames (Element prefix name) = true
names_qnames (Text value ends) = names_qnames_text value
