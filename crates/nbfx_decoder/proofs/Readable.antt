-- The units of a payload are known by their own bytes.
use Rattle.std.proofs.Common.{◌≡◌, ℕ, zero, suc, ◌<◌, List, [], refl, ap, inl, arith}
use Rattle.unit_streams.proofs.{Fronts.reads_by, Peeling.peels_front}
use Rattle.unit_streams.proofs.Parts.{reads_bytes, reads_judged, reads_seen, reads_then, then_begun}
use Rattle.unit_streams.proofs.Within.{reads_judged_at, reads_within, within_nothing}
use Rattle.unit_streams.specs.{Front.begun, Front.ReadsFront, Grammar.IsReadable}
use Rattle.unit_streams.specs.Parts.{judged, judged_at, seen, some_bytes, within}
use Rattle.multibyte_ints.{proofs.IntegerBytes.int_peels, specs.Integer.int_at}
use Rattle.nbfx_values.specs.declared.{content.Item.Item, refusals.Reason.Reason}
use Rattle.nbfx_values.specs.declared.refusals.Reason.TheVariants.{BadInt, TableCut}
use Rattle.{nbfx_values.specs.Positions.position_of, nbfx_records.specs.RecordAtFront.node_at}
use Rattle.nbfx_records.proofs.ShapeFronts.{node_fronts, node_of_nothing}
use Rattle.nbfx_decoder.specs.{declared.section.Section.Section, Faults.reason_of}
use Rattle.nbfx_decoder.specs.declared.section.Section.TheVariants.{Nodes, Strings, TableSize}
use Rattle.nbfx_decoder.specs.Payload.{node, node_behind, payload, PayloadUnit, place_of, refusal}
use Rattle.nbfx_decoder.specs.Payload.{room_for, Settings, Situation, table_size, table_string}
use Rattle.nbfx_decoder.specs.Payload.{unit_in, unit_of}
use Rattle.nbfx_decoder.specs.Tables.{head_at, length_judged, StringHead, table_integer}
use Rattle.nbfx_decoder.specs.Tables.{table_string_at, table_text_at, text_judged}

-- an integer
pub reads_integer : ReadsFront table_integer
reads_integer = reads_seen (λ n. n) (λ _. BadInt) int_at (peels_front int_at int_peels)

pub no_integer : table_integer [] ≡ begun
no_integer = ap (seen (λ n. n) (λ _. BadInt)) int_peels.nothing

-- a string of a table of which some bytes are left
module _ (room left : ℕ) (some : 0 < left) where
  pub reads_head : ReadsFront (head_at room left)
  unfolding head_at
  reads_head = reads_judged_at (length_judged room left) (within left TableCut table_integer)
      (reads_within left TableCut table_integer reads_integer some)

  pub no_head : head_at room left [] ≡ begun
  unfolding head_at
  no_head = ap (judged_at (length_judged room left))
      (within_nothing left TableCut table_integer reads_integer some no_integer)

  pub reads_text : (head : StringHead) → ReadsFront (table_text_at head)
  reads_text head =
      reads_seen (λ text. record { text = text; left = head.left }) (λ reason. reason)
      (λ b. judged text_judged (some_bytes head.size b))
      (reads_judged text_judged (some_bytes head.size) (reads_bytes head.size))

  pub reads_string : ReadsFront (table_string_at room left)
  unfolding table_string_at
  reads_string = reads_then (head_at room left) table_text_at reads_head reads_text

  pub no_string : table_string_at room left [] ≡ begun
  unfolding table_string_at
  no_string = then_begun (head_at room left) table_text_at [] no_head

-- a node
pub reads_node : (depth : ℕ) (items : List Item) → ReadsFront (node_behind depth items)
reads_node depth items = reads_seen node reason_of (node_at (place_of depth (position_of items)))
    (node_fronts (place_of depth (position_of items)))

pub no_node : (depth : ℕ) (items : List Item) → node_behind depth items [] ≡ begun
no_node depth items = ap (seen node reason_of)
    (node_of_nothing (place_of depth (position_of items)))

-- nothing
reads_nothing : ReadsFront {A = PayloadUnit} {R = Reason} (λ bytes. begun)
reads_nothing = reads_by (λ bytes. begun) (λ b. inl refl)

module _ (x : Settings) (z : Situation) where
  pub reads_section : (section : Section) → ReadsFront (unit_of x z section)
  reads_section TableSize = reads_seen table_size (λ reason. reason) table_integer reads_integer
  reads_section (Strings zero) = reads_nothing
  reads_section (Strings (suc more)) =
      reads_seen table_string (λ reason. reason)
      (table_string_at (room_for x.limits.dictionary z.strings) (suc more))
      (reads_string (room_for x.limits.dictionary z.strings) (suc more) (omega arith))
  reads_section Nodes = reads_node x.limits.depth z.items

  pub no_unit : (section : Section) → unit_of x z section [] ≡ begun
  no_unit TableSize = ap (seen table_size (λ reason. reason)) no_integer
  no_unit (Strings zero) = refl
  no_unit (Strings (suc more)) = ap (seen table_string (λ reason. reason))
      (no_string (room_for x.limits.dictionary z.strings) (suc more) (omega arith))
  no_unit Nodes = no_node x.limits.depth z.items

  pub reads_unit : (from : ℕ) → ReadsFront (unit_in x z from)
  unfolding unit_in
  reads_unit from = reads_seen (λ unit. unit) (refusal from) (unit_of x z z.section)
      (reads_section z.section)

  pub nothing_read : (from : ℕ) → unit_in x z from [] ≡ begun
  unfolding unit_in
  nothing_read from = ap (seen (λ unit. unit) (refusal from)) (no_unit z.section)

pub readable : (x : Settings) (strings : List (List ℕ)) → IsReadable (payload x strings)
readable x strings = record { reads = reads_unit x; nothing = nothing_read x }
