-- What the blocks of a sequence say, or the first item of a block that breaks its form.
use Rattle.std.specs.Prelude.{ℕ, ◌+◌, Bool, true, false, ◌&&◌, List, [], ◌∷◌, ◌++◌, nat_le, drop}
use Rattle.std.specs.Prelude.{if◌then◌else◌, Some, None, Option, Ok, Err, Result, codes, bytes_eq}
use Rattle.std.specs.Prelude.{option_and_then}
use Rattle.nbfx_values.specs.{Characters.value_characters, declared.content.Item.Item}
use Rattle.nbfx_values.specs.declared.content.Item.TheVariants.{Attr, Xmlns}
use Rattle.nbfx_values.specs.declared.scalars.Value.{Value}
use Rattle.soap_envelope.specs.{Characters.has_plain_content, Characters.text_of}
use Rattle.soap_envelope.specs.{Elements.Element, Elements.is_empty}
use Rattle.soap_envelope.specs.{Parts.is_element, Parts.kept_children}
use Rattle.reliable_sequence.specs.declared.ranges.Range.{Range}
use Rattle.reliable_sequence.specs.declared.reading.{Acknowledged.Acknowledged, Numbered.Numbered}
use Rattle.reliable_sequence.specs.{Names.messaging, Numbers.number_in, Ranges.range}

abbrev pub numbered : List ℕ → ℕ → Bool → Numbered
numbered identifier number last = record {
  identifier = identifier;
  number = number;
  last = last;
}

-- whether the standard's element of this name is a child of the block, its characters, if there is
-- nothing else in it, and whether there is nothing in it
abbrev pub is_child : Element → List ℕ → ℕ → Bool
is_child e local at = is_element e.items e.scope messaging local at

abbrev pub text_at : Element → List ℕ → ℕ → Option (List ℕ)
text_at e local at =
    if is_child e local at && has_plain_content e.items at then Some (text_of e.items at) else None

abbrev pub is_bare : Element → List ℕ → ℕ → Bool
is_bare e local at = is_child e local at && is_empty e.items at

-- a result, where there is a value; else an item breaks the form
abbrev pub or_broken : {X Y : Type 0} → ℕ → Option X → (X → Result Y ℕ) → Result Y ℕ
or_broken at None more = Err at
or_broken at (Some x) more = more x

-- the number of the child at a place
abbrev pub number_at : Element → ℕ → Option ℕ
number_at e at = option_and_then number_in (text_at e (codes "MessageNumber") at)

-- whether the body is the last, by the children behind its number: none, or the mark of the last
-- body alone
abbrev pub alone : List ℕ → Result Bool ℕ
alone [] = Ok true
alone (at ∷ more) = Err at

abbrev pub last_by : Element → List ℕ → Result Bool ℕ
last_by e [] = Ok false
last_by e (at ∷ more) = if is_bare e (codes "LastMessage") at then alone more else Err at

-- the number and the mark, where the block ends at a place
abbrev pub with_mark : ℕ → Result Bool ℕ → Result (ℕ × Bool) ℕ
with_mark number (Ok last) = Ok (number, last)
with_mark number (Err item) = Err item

abbrev pub numbers_from : Element → ℕ → List ℕ → Result (ℕ × Bool) ℕ
numbers_from e close [] = Err close
numbers_from e close (at ∷ more) =
    or_broken at (number_at e at) (λ number. with_mark number (last_by e more))

abbrev pub with_identifier : List ℕ → Result (ℕ × Bool) ℕ → Result Numbered ℕ
with_identifier identifier (Ok number) = Ok (numbered identifier number.0 number.1)
with_identifier identifier (Err item) = Err item

abbrev pub sequence_from : Element → ℕ → List ℕ → Result Numbered ℕ
sequence_from e close [] = Err close
sequence_from e close (at ∷ more) =
    or_broken at (text_at e (codes "Identifier") at)
    (λ identifier. with_identifier identifier (numbers_from e close more))

abbrev pub sequence_in : Element → ℕ → Result Numbered ℕ
sequence_in e close = sequence_from e close (kept_children e.items e.at)

-- the value of the first attribute without prefix of a name, among what stands behind the beginning
-- of an element, and its number
abbrev pub is_plain_name : (prefix local name : List ℕ) → Bool
is_plain_name prefix local name = bytes_eq prefix [] && bytes_eq local name

abbrev pub attribute_value : List ℕ → List Item → Option Value
attribute_value name (Xmlns prefix uri ∷ more) = attribute_value name more
attribute_value name (Attr prefix local value ∷ more) =
    if is_plain_name prefix local name then Some value else attribute_value name more
attribute_value name _ = None

abbrev pub number_of : Value → Option ℕ
number_of value = option_and_then number_in (value_characters value)

abbrev pub attribute_number : List ℕ → List Item → Option ℕ
attribute_number name behind = option_and_then number_of (attribute_value name behind)

-- the range of two ends, of which the lower is this number at least
abbrev pub range_of : ℕ → Option ℕ → Option ℕ → Option Range
range_of least None upper = None
range_of least (Some lower) None = None
range_of least (Some lower) (Some upper) =
    if nat_le least lower && nat_le lower upper then Some (range lower upper) else None

abbrev pub range_behind : ℕ → List Item → Option Range
range_behind least behind =
    range_of least (attribute_number (codes "Lower") behind)
    (attribute_number (codes "Upper") behind)

abbrev pub range_at : Element → ℕ → ℕ → Option Range
range_at e least at =
    if is_bare e (codes "AcknowledgementRange") at
    then range_behind least (drop (at + 1) e.items)
    else None

-- the ranges of children, behind others
abbrev pub ranges_from : Element → List Range → ℕ → List ℕ → Result (List Range) ℕ
ranges_from e before least [] = Ok before
ranges_from e before least (at ∷ more) =
    or_broken at (range_at e least at)
    (λ r. ranges_from e (before ++ r ∷ []) (r.upper + 2) more)

abbrev pub acknowledged : List ℕ → Result (List Range) ℕ → Result Acknowledged ℕ
acknowledged identifier (Ok ranges) = Ok (record { identifier = identifier; ranges = ranges })
acknowledged identifier (Err item) = Err item

abbrev pub acknowledgement_from : Element → ℕ → List ℕ → Result Acknowledged ℕ
acknowledgement_from e close [] = Err close
acknowledgement_from e close (at ∷ more) =
    or_broken at (text_at e (codes "Identifier") at)
    (λ identifier. acknowledged identifier (ranges_from e [] 1 more))

abbrev pub acknowledgement_in : Element → ℕ → Result Acknowledged ℕ
acknowledgement_in e close = acknowledgement_from e close (kept_children e.items e.at)
