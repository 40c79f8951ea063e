-- What is spelled may be written.
use Rattle.std.proofs.Common.{◌≡◌, ℕ, ◌+◌, ◌^◌, ◌<◌, true, false, ◌&&◌, List, [], ◌∷◌, length}
use Rattle.std.proofs.{Common.IsTrue, Common.Some, Common.refl, Common.arith, lemmas.Bool.and_from}
use Rattle.{std.specs.Str.is_utf8, string_tables.specs.StringTable.StringTable}
use Rattle.nbfx_values.specs.{declared.scalars.Scalar.Scalar, Measures.scalar_content}
use Rattle.nbfx_values.specs.Scalars.{is_valid_scalar}
use Rattle.nbfx_records.proofs.WritableFacts.{said_may_be_written}
use Rattle.nbfx_records.specs.declared.nodes.{RawScalar.RawScalar, RawValue.TheVariants.One}
use Rattle.nbfx_records.specs.Valid.{fit_names, fits_raw, is_valid_raw}
use Rattle.nbfx_encoder.specs.Placing.{place, Placed, spell_scalar, Writing}
use Rattle.nbfx_encoder.{specs.Sound.IsSound, proofs.Saying.placed_says, proofs.Saying.scalar_says}
use Rattle.nbfx_values.specs.declared.content.Item.TheVariants as items
use Rattle.nbfx_values.specs.declared.scalars.Value.TheVariants as values
use Rattle.nbfx_records.specs.declared.nodes.Node.TheVariants as nodes

-- a value
pub scalar_may : (w : Writing) (table : StringTable) (scalar : Scalar) (placed : Placed RawScalar)
    → IsSound w table → is_valid_scalar scalar ≡ true → scalar_content scalar < 2 ^ 31
    → spell_scalar w table scalar ≡ Some placed
    → IsTrue (is_valid_raw placed.0) × IsTrue (fits_raw placed.0)
scalar_may w table scalar placed sound valid few is =
    let said = scalar_says w table scalar sound valid placed is in
    let content : 0 + scalar_content scalar < 2 ^ 31 = omega (arith, few) in
    said_may_be_written placed.1 (nodes.Text (One placed.0) false)
    (items.Text (values.One scalar) ∷ [])
    (values.One scalar, (scalar, said.says.means, refl), refl)
    (and_from (is_valid_scalar scalar) true valid refl) content said.says.qnamed said.says.small

-- a prefix and a name
pub names_may : (w : Writing) (table : StringTable) (prefix text : List ℕ) → IsSound w table
    → is_utf8 prefix ≡ true → is_utf8 text ≡ true → length prefix + length text < 2 ^ 31
    → IsTrue (fit_names prefix (place w table text).0)
names_may w table prefix text sound utf8 utf8_too few =
    let said = placed_says w table text sound utf8_too in
    let content : 0 + (length prefix + length text) < 2 ^ 31 = omega (arith, few) in
    (said_may_be_written (place w table text).1 (nodes.Element prefix (place w table text).0)
    (items.Start prefix text ∷ [])
    (text, said.says.means, refl) (and_from (is_utf8 prefix && is_utf8 text) true
    (and_from (is_utf8 prefix) (is_utf8 text) utf8 utf8_too) refl) content refl
    said.says.small).1
