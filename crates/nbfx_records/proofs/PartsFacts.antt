-- The attributes of an array that are read one by one, and their bytes.
use Rattle.std.proofs.Common.{◌≡◌, ℕ, ◌-◌, ◌<◌, List, [], ◌∷◌, ◌++◌, length, take, drop, sym, refl}
use Rattle.std.proofs.Common.{ap, ◌∙◌, subst, append-nil, arith, length-drop, length-take-le}
use Rattle.{std.proofs.Common.take_all, unit_streams.proofs.Parts.then_begun}
use Rattle.unit_streams.specs.Front.{begun, on_whole, whole}
use Rattle.unit_streams.specs.Parts.{a_byte, Many, more, stop}
use Rattle.nbfx_records.specs.{declared.cursor.Stop.Stop, Resuming.Passes}
use Rattle.nbfx_records.specs.{Cursor.IsWhole, Cursor.Stops, Views.AreParts, Views.parts_of}
use Rattle.nbfx_records.specs.Shapes.{array_parts, array_turn, AttributeShape}
use Rattle.nbfx_records.proofs.CursorFacts.{further_whole}
use Rattle.nbfx_records.proofs.ManyFacts.{all_more, all_stop, many_stops, many_whole, moves}
use Rattle.nbfx_records.proofs.ManyFacts.{never_stops, passes_more}
use Rattle.nbfx_records.proofs.ShapeFronts.{reads_array_parts, reads_array_turn}
use Rattle.nbfx_records.specs.Asked as asked

pub nothing_parted : array_turn [] ≡ begun
nothing_parted = then_begun a_byte _ [] refl

-- the attributes are those of their bytes
pub parts_are : (bytes : List ℕ) (from : ℕ) (parts : Many AttributeShape (Unit {0})) (to : ℕ)
    → IsWhole array_parts bytes from parts to → array_parts (take (to - from) (drop from bytes))
    ≡ whole parts (to - from)
parts_are bytes from parts to h =
    let w = further_whole from (array_parts (drop from (bytes ++ []))) parts to (h.stands []) in
    let here : array_parts (drop from bytes) ≡ whole parts w.0 = ap (λ b. array_parts (drop from b))
    (sym (append-nil bytes)) ∙ w.1 in
    let size : to - from ≡ w.0 = omega (arith, w.2) in
    ap (λ n. array_parts (take n (drop from bytes))) size ∙ reads_array_parts.whole_alone
    (drop from bytes) parts w.0 here ∙ ap (whole parts) (sym size)

module _ (bytes : List ℕ) (from at : ℕ) (p : Passes array_turn bytes from at) where
  pub parts_whole : (last : Unit {0}) (to : ℕ) → IsWhole array_turn bytes at (stop last) to
      → IsWhole array_parts bytes from
      (record { items = parts_of (take (to - from) (drop from bytes)); last = last }) to
  parts_whole last to h =
      let it = many_whole array_turn reads_array_turn nothing_parted bytes p.items from at last to
      p.are h in
      let items : parts_of (take (to - from) (drop from bytes))
      ≡ p.items = ap (λ v. on_whole v (λ parts n. parts.items) [])
      (parts_are bytes from (record { items = p.items; last = last }) to it) in
      subst (λ (items : List AttributeShape). IsWhole array_parts bytes from
      (record { items = items; last = last }) to) (sym items) it

  pub parts_stop : (s : Stop) → Stops array_turn asked.array_turn bytes at s → Stops array_parts
      asked.array_parts bytes from s
  parts_stop s h = many_stops array_turn reads_array_turn nothing_parted bytes p.items from at s
      p.are h

  pub parts_go_on : (a : AttributeShape) (to : ℕ) → IsWhole array_turn bytes at (more a) to
      → Passes array_turn bytes from to
  parts_go_on a to h = passes_more array_turn reads_array_turn nothing_parted bytes from at to a p h

  pub are_parts : (last : Unit {0}) (to : ℕ) → IsWhole array_turn bytes at (stop last) to
      → AreParts (take (to - from) (drop from bytes))
  are_parts last to h =
      let it = many_whole array_turn reads_array_turn nothing_parted bytes p.items from at last to
      p.are h in
      let size : length (take (to - from) (drop from bytes)) ≡ to - from = length-take-le
      (to - from) (drop from bytes) (omega (arith, it.within, length-drop from bytes)) in
      record {
        parts = record { items = p.items; last = last };
        are = parts_are bytes from (record { items = p.items; last = last }) to it ∙
            ap (whole (record { items = p.items; last = last })) (sym size);
      }

-- the first of them
module _ (b : List ℕ) (it : AreParts b) where
  parts_all : (c : List ℕ) (parts : Many AttributeShape (Unit {0})) → array_parts c
      ≡ whole parts (length c) → parts_of c ≡ parts.items
  parts_all c parts e = ap (λ v. on_whole v (λ parts n. parts.items) []) e

  pub parts_end : (last : Unit {0}) (to : ℕ) → IsWhole array_turn b 0 (stop last) to → parts_of b
      ≡ []
  parts_end last to h =
      let none = all_stop array_turn reads_array_turn nothing_parted b it.parts it.are last to h in
      parts_all b it.parts it.are ∙ ap (λ (parts : Many AttributeShape (Unit {0})). parts.items)
      none

  pub parts_unstopped : (s : Stop) → Stops array_turn asked.array_turn b 0 s → ⊥
  parts_unstopped s h = never_stops array_turn reads_array_turn nothing_parted b it.parts it.are s h

  module _ (a : AttributeShape) (to : ℕ) (h : IsWhole array_turn b 0 (more a) to) where
    rest_is : take (length b - to) (drop to b) ≡ drop to b
    rest_is = take_all (length b - to) (drop to b) (omega (arith, length-drop to b))

    pub next_part : parts_of b ≡ a ∷ parts_of (take (length b - to) (drop to b))
    next_part =
        let rest = all_more array_turn reads_array_turn nothing_parted b it.parts it.are a to h in
        parts_all b it.parts it.are ∙ ap (λ (parts : Many AttributeShape (Unit {0})). parts.items)
        rest.2
        ∙ ap (λ items. a ∷ items) (sym (parts_all (drop to b) rest.0 rest.1)) ∙
        ap (λ c. a ∷ parts_of c) (sym rest_is)

    pub next_parts : AreParts (take (length b - to) (drop to b))
    next_parts =
        let rest = all_more array_turn reads_array_turn nothing_parted b it.parts it.are a to h in
        subst AreParts (sym rest_is) (record { parts = rest.0; are = rest.1 })

    pub next_shorter : length (take (length b - to) (drop to b)) < length b
    next_shorter =
        let moved = moves array_turn reads_array_turn nothing_parted b 0 (more a) to h in
        let size : length (take (length b - to) (drop to b)) ≡ length b - to = ap length rest_is ∙
        length-drop to b in
        let within = h.within in
        omega arith
