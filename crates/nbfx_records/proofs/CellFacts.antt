-- The values of an array, one after the other.
use Rattle.std.proofs.Common.{◌≡◌, ℕ, suc, ◌+◌, ◌-◌, ◌*◌, ◌<◌, ◌≤◌, true, not, ◌||◌, List, [], ◌∷◌}
use Rattle.std.proofs.Common.{◌++◌, length, take, drop, Some, None, Ok, Err, Option, option_map}
use Rattle.std.proofs.Common.{option_and_then, sym, refl, ap, ◌∙◌, subst, append-nil, arith}
use Rattle.std.{proofs.Common.length-drop, specs.Str.is_utf8}
use Rattle.nbfx_values.specs.declared.scalars.Scalar.{Scalar}
use Rattle.nbfx_records.specs.{declared.kinds.TextKind.TextKind, Judged.Makes}
use Rattle.nbfx_records.specs.declared.nodes.{NodeFault.NodeFault, RecordFault.RecordFault}
use Rattle.nbfx_records.specs.declared.nodes.NodeFault.TheVariants.{Memory, Record}
use Rattle.nbfx_records.specs.Contents.{cell_values, cells_judged, judge, known_judged, led}
use Rattle.nbfx_records.specs.{Contents.scalar_of, Shapes.CellsShape}
use Rattle.nbfx_records.specs.Kinds.{text_kind_in, width_of}
use Rattle.nbfx_records.proofs.{ArrayBytes.cell_plain, JudgedFacts.led_led}
use Rattle.nbfx_records.specs.declared.nodes.RecordFault.TheVariants as faults

-- so many values were made, and the others are in these bytes
pub record AreLeft (shape : CellsShape) (done : ℕ) (rest : List ℕ) (values : List Scalar) : Type 0
  where
    pub left : ℕ
    pub count : left + done ≡ shape.count
    pub size : length rest ≡ left * width_of shape.kind
    pub same : cells_judged shape ≡ led values (judge true (cell_values shape.kind left rest))

none_left : (left done count : ℕ) → left + done ≡ count → count ≤ done → left ≡ 0
none_left left done count e le = omega arith

pub all_done : (shape : CellsShape) (done : ℕ) (rest : List ℕ) (values : List Scalar)
    → AreLeft shape done rest values → shape.count ≤ done → cells_judged shape ≡ Ok values
all_done shape done rest values a le =
    a.same ∙ ap (λ n. led values (judge true (cell_values shape.kind n rest)))
    (none_left a.left done shape.count a.count le) ∙ ap Ok (append-nil values)

-- the next one
module _ (shape : CellsShape) (done : ℕ) (rest : List ℕ) (values : List Scalar)
    (a : AreLeft shape done rest values) (lt : done < shape.count) where
  more : ℕ
  more = shape.count - (done + 1)

  more_is : a.left ≡ suc more
  unfolding more
  more_is = let count = a.count in omega arith

  size_is : length rest ≡ width_of shape.kind + more * width_of shape.kind
  size_is = a.size ∙ ap (λ n. n * width_of shape.kind) more_is ∙ omega arith

  pub enough : width_of shape.kind ≤ length rest
  enough = omega (arith, size_is)

  plain_known : (cell : List ℕ) → known_judged (text_kind_in shape.kind) cell
      ≡ judge true (scalar_of (text_kind_in shape.kind) cell)
  plain_known cell =
      ap (λ b. judge (not b || is_utf8 cell) (scalar_of (text_kind_in shape.kind) cell))
      (cell_plain shape.kind)

  abbrev front : List ℕ
  front = take (width_of shape.kind) rest

  abbrev back : List ℕ
  back = drop (width_of shape.kind) rest

  here : cells_judged shape ≡ led values (judge true (cell_values shape.kind (suc more) rest))
  here = a.same ∙ ap (λ n. led values (judge true (cell_values shape.kind n rest))) more_is

  made_first : (o : Option Scalar) (others : Option (List Scalar)) (value : Scalar) → judge true o
      ≡ Ok value → judge true (option_and_then (λ y. option_map (λ ys. y ∷ ys) others) o)
      ≡ led (value ∷ []) (judge true others)
  made_first None others value e = cc
  made_first (Some x) (Some xs) value e = let same : x ≡ value = cc in ap (λ y. Ok (y ∷ xs)) same
  made_first (Some x) None value e = refl

  unmade_first : (o : Option Scalar) (others : Option (List Scalar)) (fault : RecordFault)
      → judge true o ≡ Err fault
      → judge true (option_and_then (λ y. option_map (λ ys. y ∷ ys) others) o) ≡ Err fault
  unmade_first None others fault e = let same : faults.BadValue ≡ fault = cc in ap Err same
  unmade_first (Some x) others fault e = cc

  next_left : (value : Scalar) → known_judged (text_kind_in shape.kind) front ≡ Ok value
      → AreLeft shape (done + 1) back (values ++ value ∷ [])
  next_left value e = record {
    left = more;
    count = omega (arith, more_is, a.count);
    size = length-drop (width_of shape.kind) rest ∙ omega (arith, size_is);
    same = here ∙ ap (led values) (made_first (scalar_of (text_kind_in shape.kind) front)
        (cell_values shape.kind more back) value (sym (plain_known front) ∙ e))
        ∙ led_led values value (judge true (cell_values shape.kind more back));
  }

  wrong_cell : (unfit : NodeFault) → Makes {X = Scalar} (Err unfit)
      (known_judged (text_kind_in shape.kind) front) → Makes {X = List Scalar} (Err unfit)
      (cells_judged shape)
  wrong_cell (Record fault) h = record {
    made = here ∙ ap (led values) (unmade_first (scalar_of (text_kind_in shape.kind) front)
        (cell_values shape.kind more back) fault (sym (plain_known front) ∙ h.made));
  }
  wrong_cell Memory h = record { made = tt }

  -- the same by what the loop has
  module _ (width : ℕ) (kind : TextKind) (cell behind : List ℕ)
      (width_is : width ≡ width_of shape.kind) (kind_is : kind ≡ text_kind_in shape.kind)
      (cell_is : cell ≡ take width rest) (behind_is : behind ≡ drop width rest) where
    cell_judged : known_judged kind cell ≡ known_judged (text_kind_in shape.kind) front
    cell_judged = ap (λ k. known_judged k cell) kind_is ∙
        ap (known_judged (text_kind_in shape.kind)) (cell_is ∙ ap (λ w. take w rest) width_is)

    pub step_left : (value : Scalar) (new : List Scalar) → known_judged kind cell ≡ Ok value → new
        ≡ values ++ value ∷ [] → AreLeft shape (done + 1) behind new
    step_left value new e new_is =
        subst (AreLeft shape (done + 1) behind) (sym new_is)
        (subst (λ (b : List ℕ). AreLeft shape (done + 1) b (values ++ value ∷ []))
        (sym (behind_is ∙ ap (λ w. drop w rest) width_is)) (next_left value (sym cell_judged ∙ e)))

    pub step_wrong : (unfit : NodeFault) → Makes {X = Scalar} (Err unfit) (known_judged kind cell)
        → Makes {X = List Scalar} (Err unfit) (cells_judged shape)
    step_wrong unfit h = wrong_cell unfit (subst (Makes {X = Scalar} (Err unfit)) cell_judged h)
