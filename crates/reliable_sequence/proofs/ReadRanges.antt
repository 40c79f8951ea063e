-- A document that sends ranges is read as these ranges.
use Rattle.soap_envelope.specs.declared.versions.Addressing.TheVariants.{V10}
use Rattle.std.proofs.Common.{◌≡◌, ℕ, ◌+◌, ◌-◌, ◌^◌, ◌<◌, ◌≤◌, true, false, not, ◌&&◌, List, []}
use Rattle.std.proofs.Common.{◌∷◌, ◌++◌}
use Rattle.std.proofs.Common.{length, drop, slice_get, Some, None, Ok, codes, filter}
use Rattle.std.proofs.Common.{flat_map, nat_le, option_map, refl, sym, ap, ◌∙◌, append-nil}
use Rattle.std.proofs.Common.{append_assoc}
use Rattle.std.proofs.Common.{arith, length-append}
use Rattle.std.proofs.lemmas.Bool.{le-leb, leb-true}
use Rattle.std.specs.{Fmt.decimal, Prelude.⊤}
use Rattle.nbfx_values.specs.declared.content.Item.{Item}
use Rattle.nbfx_values.specs.declared.content.Item.TheVariants.{Attr, Close}
use Rattle.soap_envelope.specs.declared.blocks.Block.{Block}
use Rattle.soap_envelope.specs.declared.refusals.SoapFault.TheVariants.{BadNames}
use Rattle.soap_envelope.specs.BadNames.{bad_name, first_bad_name}
use Rattle.soap_envelope.specs.Blocks.{block_of, blocks_among}
use Rattle.soap_envelope.specs.Body.{body_items}
use Rattle.soap_envelope.specs.Characters.{is_passed, text_of}
use Rattle.soap_envelope.specs.Children.{children_from}
use Rattle.soap_envelope.specs.Elements.{Element, header_in}
use Rattle.soap_envelope.specs.Headers.{bad_children}
use Rattle.soap_envelope.specs.Made.{reply_scope}
use Rattle.soap_envelope.specs.Making.{ending, middle, opening, soap_start}
use Rattle.soap_envelope.specs.Names.{qualified_name}
use Rattle.soap_envelope.specs.Parts.{kept_children, parts_among, parts_of, root_scope, wrong_root}
use Rattle.soap_envelope.specs.Scopes.{declaration, declared, Scope, within}
use Rattle.soap_envelope.specs.View.{blocks_of, fault_among, header_fault, header_scope}
use Rattle.soap_envelope.specs.View.{unless, View, viewed, viewed_in}
use Rattle.soap_envelope.specs.Versions.{version_of}
use Rattle.soap_envelope.specs.View.{view, viewed_by}
use Rattle.soap_envelope.proofs.MadeParts.{drop-behind, get-behind}
use Rattle.soap_envelope.proofs.Nesting.{children-inside, close-inside, nested}
use Rattle.soap_envelope.proofs.OnLiterals.{envelopes_on_literals}
use Rattle.reliable_sequence.specs.declared.{ranges.Range.Range, reading.Acknowledged.Acknowledged}
use Rattle.reliable_sequence.specs.Blocks.{acknowledged, acknowledgement_from, acknowledgement_in}
use Rattle.reliable_sequence.specs.Blocks.{or_broken}
use Rattle.reliable_sequence.specs.Blocks.{range_at, range_of, ranges_from}
use Rattle.reliable_sequence.specs.Made.{block_start, identifier_items, messaging_start, numeral}
use Rattle.reliable_sequence.specs.Made.{range_items, ranges_items}
use Rattle.reliable_sequence.specs.{Names.messaging, Numbers.number_in, Ranges.rise_from}
use Rattle.reliable_sequence.specs.Reading.{acknowledgement_at, if_same, Place, placed_by}
use Rattle.reliable_sequence.specs.Reading.{ranges_in}
use Rattle.reliable_sequence.specs.Reading.{said, then_by}
use Rattle.reliable_sequence.{specs.Ranges.Below, proofs.NumberFacts.both-true}
use Rattle.reliable_sequence.proofs.ReadData.{body-stands, kept-both, parts-by, same-if}
use Rattle.reliable_sequence.proofs.ReadData.{standing_behind}
use Rattle.reliable_sequence.proofs.ReadNumbers.{number-read}

-- the document in front of its ranges, the ranges, and what stands behind them
abbrev head : List ℕ → List Item
head identifier =
    opening V10 ++ (block_start (codes "SequenceAcknowledgement") ++ identifier_items identifier)

abbrev inner : List Range → List Item
inner ranges = flat_map range_items ranges

abbrev behind : List Item
behind = Close ∷ (middle ++ ending)

abbrev laid : List ℕ → List Range → List Item
laid identifier ranges = head identifier ++ (inner ranges ++ behind)

pub laid-out : (identifier : List ℕ) (ranges : List Range)
    → ranges_items identifier ranges ≡ laid identifier ranges
laid-out identifier ranges =
    ap (λ (l : List Item). head identifier ++ l)
    (append_assoc (inner ranges) (Close ∷ []) (middle ++ ending))

-- ranges begin no element that they don't end
nested-root : (ranges : List Range) → nested (Some 1) (inner ranges) ≡ Some 1
nested-root [] = refl
nested-root (r ∷ more) = nested-root more

nested-header : (ranges : List Range) → nested (Some 0) (inner ranges) ≡ Some 0
nested-header [] = refl
nested-header (r ∷ more) = nested-header more

-- names are good
abbrev block_scope : Scope
block_scope = (declaration (codes "r") messaging ∷ []) ∷ (reply_scope V10)

ranges-named : (ranges : List Range) (at : ℕ)
    → first_bad_name block_scope at (inner ranges ++ behind) ≡ None
unfolding envelopes_on_literals messaging
ranges-named [] at = refl
ranges-named (r ∷ more) at = ranges-named more (at + 1 + 1 + 1 + 1)

names-good : (identifier : List ℕ) (ranges : List Range) → bad_name (laid identifier ranges) ≡ None
unfolding envelopes_on_literals messaging
names-good identifier ranges = ranges-named ranges 9

-- the places of the block's end and of Body
abbrev end_place : List Range → ℕ
end_place ranges = 9 + length (inner ranges)

abbrev body_place : List Range → ℕ
body_place ranges = end_place ranges + 1 + 1

-- up to Body
abbrev front : List ℕ → List Range → List Item
front identifier ranges = head identifier ++ (inner ranges ++ Close ∷ Close ∷ [])

fronted : (identifier : List ℕ) (ranges : List Range)
    → laid identifier ranges ≡ front identifier ranges ++ soap_start (codes "Body") ∷ ending
fronted identifier ranges =
    ap (λ (l : List Item). head identifier ++ l)
    (sym (append_assoc (inner ranges) (Close ∷ Close ∷ []) (soap_start (codes "Body") ∷ ending)))

front-length : (identifier : List ℕ) (ranges : List Range)
    → length (front identifier ranges) ≡ body_place ranges
front-length identifier ranges =
    let long = length-append (inner ranges) (Close ∷ Close ∷ []) in omega arith

body-there : (identifier : List ℕ) (ranges : List Range)
    → slice_get (laid identifier ranges) (body_place ranges) ≡ Some (soap_start (codes "Body"))
body-there identifier ranges =
    ap (slice_get (laid identifier ranges)) (sym (front-length identifier ranges))
    ∙ ap (λ (l : List Item). slice_get l (length (front identifier ranges)))
    (fronted identifier ranges)
    ∙ get-behind (front identifier ranges) (soap_start (codes "Body")) ending

behind-body : (identifier : List ℕ) (ranges : List Range)
    → drop (body_place ranges + 1) (laid identifier ranges) ≡ ending
behind-body identifier ranges =
    ap (λ (n : ℕ). drop (n + 1) (laid identifier ranges)) (sym (front-length identifier ranges))
    ∙ ap (λ (l : List Item). drop (length (front identifier ranges) + 1) l)
    (fronted identifier ranges)
    ∙ drop-behind (front identifier ranges) (soap_start (codes "Body")) ending

root-children : (identifier : List ℕ) (ranges : List Range)
    → children_from (Some 0) 1 (drop 1 (laid identifier ranges)) ≡ 3 ∷ body_place ranges ∷ []
unfolding envelopes_on_literals messaging
root-children identifier ranges =
    ap (λ (l : List ℕ). 3 ∷ l) (children-inside (inner ranges) behind 1 1 9 (nested-root ranges))

parts-there : (identifier : List ℕ) (ranges : List Range)
    → parts_of (laid identifier ranges)
    ≡ Ok (record { header = Some 3; body = body_place ranges })
unfolding envelopes_on_literals messaging
parts-there identifier ranges =
    let all = laid identifier ranges in
    let kept =
    ap (filter (λ (child : ℕ). not (is_passed (slice_get all child))))
    (root-children identifier ranges)
    ∙ kept-both all (body_place ranges) (body-there identifier ranges) refl in
    ap (parts_among all (root_scope all)) kept
    ∙ parts-by all (body_place ranges) (body-there identifier ranges)
    (ap declared (behind-body identifier ranges)) refl

-- the block
abbrev seen : List Range → Block
seen ranges = record {
  name = qualified_name messaging (codes "SequenceAcknowledgement");
  must_understand = false;
  targeted = true;
  from = 4;
  to = end_place ranges;
}

header-children : (identifier : List ℕ) (ranges : List Range)
    → kept_children (laid identifier ranges) 3 ≡ 4 ∷ []
unfolding envelopes_on_literals messaging
header-children identifier ranges =
    let all = laid identifier ranges in
    ap (λ (l : List ℕ). filter (λ (child : ℕ). not (is_passed (slice_get all child))) (4 ∷ l))
    (children-inside (inner ranges) behind 0 0 9 (nested-header ranges))

block-there : (identifier : List ℕ) (ranges : List Range)
    → block_of (laid identifier ranges) (reply_scope V10) 4 ≡ seen ranges
unfolding envelopes_on_literals messaging
block-there identifier ranges =
    ap (λ (n : ℕ). record (seen ranges) { to = n })
    (close-inside (inner ranges) behind 0 0 9 (nested-header ranges))

blocks-there : (identifier : List ℕ) (ranges : List Range)
    → blocks_of (laid identifier ranges) (Some 3) ≡ seen ranges ∷ []
unfolding envelopes_on_literals messaging
blocks-there identifier ranges =
    ap (blocks_among (laid identifier ranges) (reply_scope V10)) (header-children identifier ranges)
    ∙ ap (λ (b : Block). b ∷ []) (block-there identifier ranges)

no-fault : (identifier : List ℕ) (ranges : List Range)
    → header_fault (laid identifier ranges) (Some 3) ≡ None
unfolding envelopes_on_literals messaging
no-fault identifier ranges =
    let all = laid identifier ranges in
    let scope = reply_scope V10 in
    ap (λ cs. fault_among (version_of (blocks_of all (Some 3))) all scope
    (bad_children all scope cs) (blocks_of all (Some 3)))
    (header-children identifier ranges)
    ∙ ap (λ bs. fault_among (version_of bs) all scope (bad_children all scope (4 ∷ [])) bs)
    (blocks-there identifier ranges)

abbrev view_with : List Range → List Block → List Item → View
view_with ranges blocks body = record {
  blocks = blocks;
  version = V10;
  action = None;
  reply_address = None;
  message_id = [];
  body_at = body_place ranges;
  body = body;
}

viewed-with : (identifier : List ℕ) (ranges : List Range)
    → let all = laid identifier ranges in
    viewed_by all (Ok (record { header = Some 3; body = body_place ranges }))
    ≡ Ok (view_with ranges (seen ranges ∷ []) (body_items V10 all (root_scope all) (body_place
    ranges)))
unfolding envelopes_on_literals messaging
viewed-with identifier ranges =
    let all = laid identifier ranges in
    ap (λ f. unless f (Ok (viewed all (record { header = Some 3; body = body_place ranges }))))
    (no-fault identifier ranges)
    ∙ ap (λ bs. Ok (viewed_in (version_of bs) bs all
    (record { header = Some 3; body = body_place ranges }))) (blocks-there identifier ranges)

body-again : (identifier : List ℕ) (ranges : List Range)
    → let all = laid identifier ranges in
    body_items V10 all (root_scope all) (body_place ranges) ≡ []
unfolding envelopes_on_literals messaging
body-again identifier ranges =
    ap standing_behind (behind-body identifier ranges) ∙ body-stands [] refl

ranges-viewed : (identifier : List ℕ) (ranges : List Range)
    → view (laid identifier ranges) ≡ Ok (view_with ranges (seen ranges ∷ []) [])
unfolding envelopes_on_literals messaging
ranges-viewed identifier ranges =
    let all = laid identifier ranges in
    ap (λ o. unless (option_map BadNames o)
    (unless (wrong_root all) (viewed_by all (parts_of all))))
    (names-good identifier ranges)
    ∙ ap (viewed_by all) (parts-there identifier ranges)
    ∙ viewed-with identifier ranges
    ∙ ap (λ (b : List Item). Ok (view_with ranges (seen ranges ∷ []) b))
    (body-again identifier ranges)

place-there : (ranges : List Range)
    → placed_by (codes "SequenceAcknowledgement") (Ok (view_with ranges (seen ranges ∷ []) []))
    ≡ Ok (record {
      span = record { from = 4; to = end_place ranges };
      body_at = body_place ranges;
      body = [];
    })
unfolding envelopes_on_literals messaging
place-there ranges = refl

-- the element of a range begins at a place
record IsRange (all : List Item) (at : ℕ) (r : Range) : Type 0 where
  more : List Item
  got : slice_get all at ≡ Some (messaging_start (codes "AcknowledgementRange"))
  left : drop (at + 1) all
      ≡ Attr [] (codes "Lower") (numeral r.lower) ∷ Attr [] (codes "Upper") (numeral r.upper)
      ∷ Close ∷ more

abbrev AreRanges : List Item → List ℕ → List Range → Type 0
AreRanges all [] [] = ⊤
AreRanges all (at ∷ places) (r ∷ ranges) = IsRange all at r × AreRanges all places ranges
AreRanges all places ranges = ⊥

abbrev places_from : ℕ → List Range → List ℕ
places_from at [] = []
places_from at (r ∷ more) = at ∷ places_from (at + 1 + 1 + 1 + 1) more

ranges-there : (all before tail : List Item) (ranges : List Range) (at : ℕ)
    → all ≡ before ++ (inner ranges ++ tail) → at ≡ length before
    → AreRanges all (places_from at ranges) ranges
ranges-there all before tail [] at is place = tt
ranges-there all before tail (r ∷ ranges) at is place =
    let start = messaging_start (codes "AcknowledgementRange") in
    let lower = Attr [] (codes "Lower") (numeral r.lower) in
    let upper = Attr [] (codes "Upper") (numeral r.upper) in
    let more = inner ranges ++ tail in
    let rest = lower ∷ upper ∷ Close ∷ more in
    let long = length-append before (range_items r) in (
      record {
        more = more;
        got = ap (slice_get all) place
            ∙ ap (λ (l : List Item). slice_get l (length before)) is ∙ get-behind before start rest;
        left = ap (λ (n : ℕ). drop (n + 1) all) place
            ∙ ap (λ (l : List Item). drop (length before + 1) l) is ∙ drop-behind before start rest;
      },
      ranges-there all (before ++ range_items r) tail ranges (at + 1 + 1 + 1 + 1)
          (is ∙ sym (append_assoc before (range_items r) more)) (omega arith),
    )

ranges-children : (ranges : List Range) (at : ℕ)
    → children_from (Some 0) at (inner ranges ++ behind) ≡ places_from at ranges
ranges-children [] at = refl
ranges-children (r ∷ ranges) at =
    ap (λ (l : List ℕ). at ∷ l) (ranges-children ranges (at + 1 + 1 + 1 + 1))

ranges-kept : (all : List Item) (places : List ℕ) (ranges : List Range)
    → AreRanges all places ranges
    → filter (λ (child : ℕ). not (is_passed (slice_get all child))) places ≡ places
ranges-kept all [] [] h = refl
ranges-kept all (at ∷ places) (r ∷ ranges) h =
    rw h.0.got (ap (λ (l : List ℕ). at ∷ l) (ranges-kept all places ranges h.1))
ranges-kept all [] (r ∷ ranges) h = absurd h
ranges-kept all (at ∷ places) [] h = absurd h

-- within the block
abbrev element : List Item → Element
element all = record { items = all; at = 4; scope = within all 4 (header_scope all (Some 3)) }

block-children : (identifier : List ℕ) (ranges : List Range)
    → kept_children (laid identifier ranges) 4 ≡ 6 ∷ places_from 9 ranges
unfolding envelopes_on_literals messaging
block-children identifier ranges =
    let all = laid identifier ranges in
    let there = ranges-there all (head identifier) behind ranges 9 refl refl in
    ap (λ (l : List ℕ). filter (λ (child : ℕ). not (is_passed (slice_get all child))) (6 ∷ l))
    (ranges-children ranges 9)
    ∙ ap (λ (l : List ℕ). 6 ∷ l) (ranges-kept all (places_from 9 ranges) ranges there)

-- a range is read
range-of : (least : ℕ) (r : Range) → least ≤ r.lower → r.lower ≤ r.upper
    → range_of least (Some r.lower) (Some r.upper) ≡ Some r
range-of least r low high =
    rw (le-leb least r.lower low, le-leb r.lower r.upper high) refl

range-told : (all : List Item) (scope : Scope) (least at : ℕ) (r : Range) (more : List Item)
    → slice_get all at ≡ Some (messaging_start (codes "AcknowledgementRange"))
    → drop (at + 1) all
    ≡ Attr [] (codes "Lower") (numeral r.lower) ∷ Attr [] (codes "Upper") (numeral r.upper)
    ∷ Close ∷ more
    → range_at (record { items = all; at = 4; scope = block_scope }) least at
    ≡ range_of least (number_in (decimal r.lower)) (number_in (decimal r.upper))
unfolding envelopes_on_literals messaging
range-told all scope least at r more got left = rw (got, left) refl

range-read : (all : List Item) (least at : ℕ) (r : Range) → IsRange all at r
    → 1 ≤ least → least ≤ r.lower → r.lower ≤ r.upper → r.upper < 2 ^ 63
    → range_at (record { items = all; at = 4; scope = block_scope }) least at ≡ Some r
range-read all least at r there some low high small =
    range-told all block_scope least at r there.more there.got there.left
    ∙ ap (λ o. range_of least o (number_in (decimal r.upper)))
    (number-read r.lower (omega arith) (omega arith))
    ∙ ap (λ o. range_of least (Some r.lower) o) (number-read r.upper (omega arith) small)
    ∙ range-of least r low high

ranges-read-from : (all : List Item) (before : List Range) (least : ℕ) (places : List ℕ)
    (ranges : List Range) → AreRanges all places ranges → 1 ≤ least
    → rise_from least ranges ≡ true → Below (2 ^ 63 - 1) ranges
    → ranges_from (record { items = all; at = 4; scope = block_scope }) before least places
    ≡ Ok (before ++ ranges)
ranges-read-from all before least [] [] there some rise below =
    ap (λ (l : List Range). Ok l) (sym (append-nil before))
ranges-read-from all before least (at ∷ places) (r ∷ ranges) there some rise below =
    let parts =
    both-true (nat_le least r.lower)
    (nat_le r.lower r.upper && rise_from (r.upper + 2) ranges) rise in
    let others = both-true (nat_le r.lower r.upper) (rise_from (r.upper + 2) ranges) parts.1 in
    let low = leb-true least r.lower parts.0 in
    let high = leb-true r.lower r.upper others.0 in
    let top = below.0 in
    ap (λ o. or_broken at o (λ (s : Range).
    ranges_from (record { items = all; at = 4; scope = block_scope }) (before ++ s ∷ [])
    (s.upper + 2) places))
    (range-read all least at r there.0 some low high (omega arith))
    ∙ ranges-read-from all (before ++ r ∷ []) (r.upper + 2) places ranges there.1 (omega arith)
    others.1 below.1
    ∙ ap (λ (l : List Range). Ok l) (append_assoc before (r ∷ []) ranges)
ranges-read-from all before least [] (r ∷ ranges) there some rise below = absurd there
ranges-read-from all before least (at ∷ places) [] there some rise below = absurd there

-- what the block says
block-told : (identifier : List ℕ) (ranges : List Range)
    → let all = laid identifier ranges in
    acknowledgement_from (element all) (end_place ranges) (6 ∷ places_from 9 ranges)
    ≡ acknowledged (identifier ++ [])
    (ranges_from (record { items = all; at = 4; scope = block_scope }) [] 1 (places_from 9 ranges))
unfolding envelopes_on_literals messaging
block-told identifier ranges = refl

acknowledgement-said : (identifier : List ℕ) (ranges : List Range)
    → rise_from 1 ranges ≡ true → Below (2 ^ 63 - 1) ranges
    → acknowledgement_at (laid identifier ranges) (record { from = 4; to = end_place ranges })
    ≡ Ok (record { identifier = identifier; ranges = ranges })
acknowledgement-said identifier ranges rise below =
    let all = laid identifier ranges in
    let there = ranges-there all (head identifier) behind ranges 9 refl refl in
    ap (λ p. said (acknowledgement_in (record {
      items = all;
      at = 4;
      scope = within all 4 (header_scope all (header_in p));
    }) (end_place ranges))) (parts-there identifier ranges)
    ∙ ap (λ cs. said (acknowledgement_from (element all) (end_place ranges) cs))
    (block-children identifier ranges)
    ∙ ap said (block-told identifier ranges)
    ∙ ap (λ rs. said (acknowledged (identifier ++ []) rs))
    (ranges-read-from all [] 1 (places_from 9 ranges) ranges there (omega arith) rise below)
    ∙ ap (λ t. Ok (record { identifier = t; ranges = ranges })) (append-nil identifier)

laid-read : (identifier : List ℕ) (ranges : List Range) → rise_from 1 ranges ≡ true
    → Below (2 ^ 63 - 1) ranges → ranges_in identifier (laid identifier ranges) ≡ Ok ranges
laid-read identifier ranges rise below =
    let all = laid identifier ranges in
    ap (λ p. then_by p (λ (q : Place). then_by (acknowledgement_at all q.span)
    (λ (a : Acknowledged). if_same identifier a.identifier a.ranges)))
    (ap (placed_by (codes "SequenceAcknowledgement")) (ranges-viewed identifier ranges)
    ∙ place-there ranges)
    ∙ ap (λ s. then_by s (λ (a : Acknowledged). if_same identifier a.identifier a.ranges))
    (acknowledgement-said identifier ranges rise below)
    ∙ same-if identifier ranges

pub ranges-read : (identifier : List ℕ) (ranges : List Range) → rise_from 1 ranges ≡ true
    → Below (2 ^ 63 - 1) ranges → ranges_in identifier (ranges_items identifier ranges) ≡ Ok ranges
ranges-read identifier ranges rise below =
    ap (ranges_in identifier) (laid-out identifier ranges) ∙ laid-read identifier ranges rise below
