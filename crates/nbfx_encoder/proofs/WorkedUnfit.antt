-- Worked documents that don't fit, and ones that just do, computed by the definitions.
use Rattle.std.proofs.Common.{◌≡◌, ℕ, List, [], ◌∷◌, ◌++◌, map, pos, Ok, Err, codes, Result, refl}
use Rattle.{std.specs.List.repeat, nbfx_encoder.specs.Placing.Placed}
use Rattle.nbfx_values.specs.declared.content.{ArrayKind.TheVariants.Int32, Item.Item}
use Rattle.nbfx_values.specs.declared.content.AttrItem.TheVariants.{Attr as PartAttr}
use Rattle.nbfx_values.specs.declared.content.Item.TheVariants.{Array, Attr, Close, Start, Text}
use Rattle.nbfx_values.specs.{declared.scalars.Scalar.Scalar, Limits.Limits, Limits.limits}
use Rattle.nbfx_values.specs.declared.scalars.Scalar.TheVariants.{Number, QName, Text as TextOf}
use Rattle.nbfx_values.specs.declared.scalars.Value.TheVariants.{List as ListOf, One}
use Rattle.nbfx_values.specs.declared.session.Kind.{Kind, TheVariants.Plain, TheVariants.Session}
use Rattle.nbfx_encoder.specs.Spelling.{encoded, too_deep, too_large, too_much, Unfit, unnamed}
use Rattle.nbfx_encoder.proofs.OnLiterals.{table_of, text, writing_on_literals, x}

-- limits on the payload, the depth, the dictionary and the content
abbrev quotas : (payload depth dictionary content : ℕ) → Limits
quotas payload depth dictionary content = limits payload depth dictionary content 2048 4096

-- limits, a kind, items, and why they don't fit
abbrev Row : Type 0
Row = Limits × Kind × List Item × Unfit

abbrev unfit : Unfit → Result (Placed (List ℕ)) Unfit
unfit why = Err why

abbrev AreUnfit : List Row → Type 0
AreUnfit rows =
    map (λ (r : Row). encoded r.0 r.1 (table_of []) r.2) rows
    ≡ map (λ (r : Row). unfit r.3) rows

-- limits, a kind, items, their payload, and the strings that it brings
abbrev FitRow : Type 0
FitRow = Limits × Kind × List Item × List ℕ × List (List ℕ)

abbrev AreFit : List FitRow → Type 0
AreFit rows =
    map (λ (r : FitRow). encoded r.0 r.1 (table_of []) r.2) rows
    ≡ map (λ (r : FitRow). Ok (r.3, table_of r.4)) rows

-- a QName that no identifier names, and one that a static string names
abbrev qname : Scalar
qname = QName 1 (codes "q")

abbrev named : Scalar
named = QName 1 (codes "To")

-- an array whose element has it
abbrev array : Item
array = Array (record {
  prefix = [];
  local = codes "a";
  attrs = PartAttr [] (codes "k") (One qname) ∷ [];
  kind = Int32;
  values = Number (pos 1) ∷ [];
})

-- elements in one another
abbrev nest : ℕ → List Item
nest n = repeat n (Start [] (codes "x") ∷ []) ++ repeat n (Close ∷ [])

-- a payload of as many bytes as the quota, and of one more; elements of as many levels as the quota
fitting : AreFit (
    (quotas 4 1 0 1, Plain, x [], 0x40 ∷ 0x01 ∷ 0x78 ∷ 0x01 ∷ [], [])
    ∷ (
      quotas 6 1 1 1,
      Session,
      x [],
      0x02 ∷ 0x01 ∷ 0x78 ∷ 0x42 ∷ 0x01 ∷ 0x01 ∷ [],
      codes "x" ∷ [],
    )
    ∷ (
      quotas 65536 32 2048 262144,
      Session,
      nest 32,
      0x02 ∷ 0x01 ∷ 0x78 ∷ (repeat 32 (0x42 ∷ 0x01 ∷ []) ++ repeat 32 (0x01 ∷ [])),
      codes "x" ∷ [],
    )
    ∷ [])
unfolding writing_on_literals
fitting = refl

large : AreUnfit (
    (quotas 3 1 0 1, Plain, x [], too_large 4)
    ∷ (quotas 5 1 1 1, Session, x [], too_large 6)
    ∷ (
      quotas 4096 32 2048 262144,
      Session,
      Start [] (codes "big") ∷ text (TextOf (repeat 5000 (codes "y"))) ∷ Close ∷ [],
      too_large 5010,
    )
    ∷ [])
unfolding writing_on_literals
large = refl

-- elements of one more level than the quota; an array's element counts
nested : AreUnfit (
    (quotas 64 0 0 64, Plain, x [], too_deep 1)
    ∷ (quotas 64 1 0 64, Plain, x (x []), too_deep 2)
    ∷ (quotas 64 1 0 64, Plain, x (array ∷ []), too_deep 2)
    ∷ (quotas 65536 32 2048 262144, Session, nest 33, too_deep 33)
    ∷ [])
unfolding writing_on_literals
nested = refl

-- more content than the quota
much : AreUnfit (
    (quotas 64 1 0 0, Plain, x [], too_much 1)
    ∷ (quotas 64 1 0 3, Plain, x (text (TextOf (codes "hey")) ∷ []), too_much 4)
    ∷ (quotas 64 1 0 8, Plain, x (text (Number (pos 0)) ∷ []), too_much 9)
    ∷ [])
unfolding writing_on_literals
much = refl

-- a QName without an identifier: the first of some, in an attribute, in a list, in an array's
-- element; one without room among the session's strings
unplaced : AreUnfit (
    (quotas 64 2 64 64, Plain, x (text qname ∷ []), unnamed 1)
    ∷ (quotas 64 2 64 64, Plain, x (text named ∷ x (text qname ∷ []) ++ text qname ∷ []), unnamed 3)
    ∷ (quotas 64 2 64 64, Plain, x (Attr [] (codes "k") (One qname) ∷ []), unnamed 1)
    ∷ (quotas 64 2 64 64, Plain, x (Text (ListOf (named ∷ qname ∷ [])) ∷ []), unnamed 1)
    ∷ (quotas 64 2 64 64, Plain, x (array ∷ []), unnamed 1)
    ∷ (quotas 64 2 1 64, Session, x (text qname ∷ []), unnamed 1)
    ∷ [])
unfolding writing_on_literals
unplaced = refl

-- nesting goes before content, that before QNames, and those before the size
in_order : AreUnfit (
    (quotas 1 1 0 1, Plain, x (x (text qname ∷ [])), too_deep 2)
    ∷ (quotas 1 1 0 1, Plain, x (text qname ∷ []), too_much 2)
    ∷ (quotas 1 1 0 2, Plain, x (text qname ∷ []), unnamed 1)
    ∷ (quotas 1 1 0 3, Plain, x (text named ∷ []), too_large 6)
    ∷ [])
unfolding writing_on_literals
in_order = refl
