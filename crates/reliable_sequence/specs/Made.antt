-- The documents that are sent, item by item.
use Rattle.soap_envelope.specs.declared.versions.Addressing.TheVariants.{V10}
use Rattle.std.specs.Prelude.{ℕ, ◌^◌, ◌<◌, Bool, true, false, List, [], ◌∷◌, ◌++◌, pos, codes, flat_map}
use Rattle.nbfx_values.specs.declared.content.Item.{Item}
use Rattle.nbfx_values.specs.declared.content.Item.TheVariants.{Attr, Close, Start, Text, Xmlns}
use Rattle.nbfx_values.specs.declared.scalars.Scalar.TheVariants.{Number}
use Rattle.nbfx_values.specs.declared.scalars.Value.{Value, TheVariants.One}
use Rattle.soap_envelope.specs.{Making.words, Plain.plain_items}
use Rattle.reliable_sequence.specs.declared.{parts.Data.Data, ranges.Range.Range}
use Rattle.reliable_sequence.specs.Names.{messaging}

abbrev pub numeral : ℕ → Value
numeral n = One (Number (pos n))

-- an element of the standard's, by the prefix that each block declares
abbrev pub messaging_start : List ℕ → Item
messaging_start local = Start (codes "r") local

-- the head of a block, and the sequence's identifier
abbrev pub block_start : List ℕ → List Item
block_start local = messaging_start local ∷ Xmlns (codes "r") messaging ∷ []

abbrev pub must_understand : Item
must_understand = Attr (codes "s") (codes "mustUnderstand") (numeral 1)

abbrev pub identifier_items : List ℕ → List Item
identifier_items identifier =
    messaging_start (codes "Identifier") ∷ words identifier ∷ Close ∷ []

abbrev pub number_items : ℕ → List Item
number_items number =
    messaging_start (codes "MessageNumber") ∷ Text (numeral number) ∷ Close ∷ []

abbrev pub last_items : Bool → List Item
last_items true = messaging_start (codes "LastMessage") ∷ Close ∷ []
last_items false = []

-- the block of a body that is sent
abbrev pub sequence_items : List ℕ → ℕ → Bool → List Item
sequence_items identifier number last =
    block_start (codes "Sequence") ++
    (must_understand ∷ (identifier_items identifier ++
    (number_items number ++ (last_items last ++ Close ∷ []))))

abbrev pub data_items : List ℕ → Data → List Item
data_items identifier sent =
    plain_items V10 (sequence_items identifier sent.number sent.last) sent.body

-- the element of a range
abbrev pub range_items : Range → List Item
range_items r =
    messaging_start (codes "AcknowledgementRange")
    ∷ Attr [] (codes "Lower") (numeral r.lower)
    ∷ Attr [] (codes "Upper") (numeral r.upper)
    ∷ Close ∷ []

-- the block of ranges that are sent
abbrev pub acknowledgement_items : List ℕ → List Range → List Item
acknowledgement_items identifier ranges =
    block_start (codes "SequenceAcknowledgement") ++
    (identifier_items identifier ++ (flat_map range_items ranges ++ Close ∷ []))

abbrev pub ranges_items : List ℕ → List Range → List Item
ranges_items identifier ranges = plain_items V10 (acknowledgement_items identifier ranges) []

-- the ends of ranges have 64 bits
pub record IsSmall (r : Range) : Type 0 where
  pub lower : r.lower < 2 ^ 64
  pub upper : r.upper < 2 ^ 64

abbrev pub AreSmall : List Range → Type 0
AreSmall [] = Unit {0}
AreSmall (r ∷ more) = IsSmall r × AreSmall more
