-- The blocks that are made may stand inside an element.
use Rattle.std.proofs.Common.{◌≡◌, ℕ, ◌-◌, ◌^◌, ◌<◌, Bool, true, false, not, ◌&&◌, List, [], ◌∷◌, ◌++◌}
use Rattle.std.proofs.Common.{codes, flat_map, Some, refl, ap, ◌∙◌, arith, le-ltb}
use Rattle.std.specs.Str.{is_utf8}
use Rattle.nbfx_values.proofs.Positions.{stepped}
use Rattle.nbfx_values.specs.declared.content.Item.{TheVariants.Attr, TheVariants.Close}
use Rattle.nbfx_values.specs.declared.content.Item.TheVariants.{Text}
use Rattle.nbfx_values.specs.declared.position.Position.TheVariants.{Within}
use Rattle.nbfx_values.specs.{Positions.position_from, Scalars.is_valid_value}
use Rattle.soap_envelope.specs.{Making.IsContent, Making.words}
use Rattle.soap_envelope.proofs.{OnLiterals.envelopes_on_literals, Places.leads-on}
use Rattle.reliable_sequence.specs.declared.ranges.Range.{Range}
use Rattle.reliable_sequence.specs.Made.{AreSmall, IsSmall, acknowledgement_items, identifier_items, last_items, numeral}
use Rattle.reliable_sequence.specs.Made.{number_items, range_items, sequence_items}
use Rattle.reliable_sequence.specs.{Names.messaging, Ranges.rise_from}
use Rattle.std.proofs.Common.{◌+◌, nat_le}
use Rattle.std.proofs.lemmas.Bool.{leb-true}
use Rattle.reliable_sequence.{specs.Ranges.Below, proofs.NumberFacts.both-true}

-- a number of 64 bits has a record
pub numeral-valid : (n : ℕ) → n < 2 ^ 64 → is_valid_value (numeral n) ≡ true
numeral-valid n small = ap not (le-ltb (2 ^ 64 - 1) n (omega arith))

identifier-leads : (identifier : List ℕ) → is_utf8 identifier ≡ true
    → position_from (Some (Within 1 true)) (identifier_items identifier) ≡ Some (Within 1 false)
unfolding envelopes_on_literals
identifier-leads identifier utf8 = stepped (Within 2 true) (words identifier) (Close ∷ []) utf8

number-leads : (number : ℕ) → number < 2 ^ 64
    → position_from (Some (Within 1 false)) (number_items number) ≡ Some (Within 1 false)
unfolding envelopes_on_literals
number-leads number small =
    stepped (Within 2 true) (Text (numeral number)) (Close ∷ []) (numeral-valid number small)

last-leads : (last : Bool)
    → position_from (Some (Within 1 false)) (last_items last ++ Close ∷ []) ≡ Some (Within 0 false)
unfolding envelopes_on_literals
last-leads true = refl
last-leads false = refl

pub sequence-content : (identifier : List ℕ) (number : ℕ) (last : Bool) → is_utf8 identifier ≡ true
    → number < 2 ^ 64 → IsContent (sequence_items identifier number last)
unfolding envelopes_on_literals messaging
sequence-content identifier number last utf8 small =
    leads-on (Some (Within 1 true)) (Some (Within 1 false)) (Some (Within 0 false))
    (identifier_items identifier) (number_items number ++ (last_items last ++ Close ∷ []))
    (identifier-leads identifier utf8)
    (leads-on (Some (Within 1 false)) (Some (Within 1 false)) (Some (Within 0 false))
    (number_items number) (last_items last ++ Close ∷ []) (number-leads number small)
    (last-leads last))

range-leads : (r : Range) → IsSmall r
    → position_from (Some (Within 1 false)) (range_items r) ≡ Some (Within 1 false)
unfolding envelopes_on_literals
range-leads r small =
    stepped (Within 2 true) (Attr [] (codes "Lower") (numeral r.lower))
    (Attr [] (codes "Upper") (numeral r.upper) ∷ Close ∷ []) (numeral-valid r.lower small.lower)
    ∙ stepped (Within 2 true) (Attr [] (codes "Upper") (numeral r.upper)) (Close ∷ [])
    (numeral-valid r.upper small.upper)

ranges-lead : (ranges : List Range) → AreSmall ranges
    → position_from (Some (Within 1 false)) (flat_map range_items ranges) ≡ Some (Within 1 false)
ranges-lead [] small = refl
ranges-lead (r ∷ more) small =
    leads-on (Some (Within 1 false)) (Some (Within 1 false)) (Some (Within 1 false)) (range_items r)
    (flat_map range_items more) (range-leads r small.0) (ranges-lead more small.1)

pub acknowledgement-content : (identifier : List ℕ) (ranges : List Range)
    → is_utf8 identifier ≡ true → AreSmall ranges
    → IsContent (acknowledgement_items identifier ranges)
unfolding envelopes_on_literals messaging
acknowledgement-content identifier ranges utf8 small =
    leads-on (Some (Within 1 true)) (Some (Within 1 false)) (Some (Within 0 false))
    (identifier_items identifier) (flat_map range_items ranges ++ Close ∷ [])
    (identifier-leads identifier utf8)
    (leads-on (Some (Within 1 false)) (Some (Within 1 false)) (Some (Within 0 false))
    (flat_map range_items ranges) (Close ∷ []) (ranges-lead ranges small) refl)

-- so have those that end at most at a number of 64 bits
pub small-ranges : (n least : ℕ) (ranges : List Range) → Below n ranges
    → rise_from least ranges ≡ true → n < 2 ^ 64 → AreSmall ranges
small-ranges n least [] below rise small = tt
small-ranges n least (r ∷ more) below rise small =
    let parts =
    both-true (nat_le least r.lower)
    (nat_le r.lower r.upper && rise_from (r.upper + 2) more) rise in
    let others = both-true (nat_le r.lower r.upper) (rise_from (r.upper + 2) more) parts.1 in
    let low = leb-true r.lower r.upper others.0 in
    let high = below.0 in (
      record { lower = omega arith; upper = omega arith },
      small-ranges n (r.upper + 2) more below.1 others.1 small,
    )
