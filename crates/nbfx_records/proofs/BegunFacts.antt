-- The parts of a record whose kind is known stand behind its type byte.
use Rattle.std.proofs.Common.{◌≡◌, ℕ, ◌≤◌, Bool, List, [], ◌∷◌, length, get_or, IfNone, slice_get}
use Rattle.std.proofs.Common.{Some, None, Ok, Err, Option, Result, sym, refl, ap, ◌∙◌, subst}
use Rattle.unit_streams.specs.Parts.{a_byte, Reader, seen}
use Rattle.nbfx_records.specs.declared.{attributes.AttributePart.AttributePart, cursor.Stop.Stop}
use Rattle.nbfx_records.specs.{declared.attributes.ValuePart.TheVariants.One, Kinds.record_kind}
use Rattle.nbfx_records.specs.declared.kinds.{NameForm.NameForm, PrefixForm.PrefixForm}
use Rattle.nbfx_records.specs.declared.kinds.{RecordKind.RecordKind, TextKind.TextKind}
use Rattle.nbfx_records.specs.declared.nodes.{NodePlace.NodePlace, RecordFault.RecordFault}
use Rattle.nbfx_records.specs.declared.nodes.NodePlace.TheVariants.{AfterRoot, BeforeRoot, Within}
use Rattle.nbfx_records.specs.declared.parts.{NamedPart.NamedPart, ScalarPart.ScalarPart}
use Rattle.nbfx_records.specs.Beginning.{BeginsKind, MayStand}
use Rattle.nbfx_records.specs.Cursor.{IsWhole, Tells}
use Rattle.nbfx_records.specs.Shapes.{adds, attribute_at, begins_element, content_at}
use Rattle.nbfx_records.specs.Shapes.{declaration_at, element_at, ends_element, has_text, misplaced}
use Rattle.nbfx_records.specs.Shapes.{NamedShape, one, placed, record_at, scalar_at, ScalarShape}
use Rattle.nbfx_records.specs.Shapes.{Shape, shape_at, unless_misplaced}
use Rattle.nbfx_records.specs.Views.{attribute_seen, named_seen, record_seen, scalar_seen}
use Rattle.nbfx_records.proofs.CursorFacts.{given_tells, seen_stops, seen_tells, then_tells}
use Rattle.nbfx_records.specs.declared.kinds.RecordKind.TheVariants as records
use Rattle.nbfx_records.specs.declared.kinds.TextKind.TheVariants as texts
use Rattle.nbfx_records.specs.declared.records.RecordPart.TheVariants as parts
use Rattle.nbfx_records.specs.Asked as asked

-- what may come is read by its kind
placed_is : (place : NodePlace) (kind : RecordKind) → misplaced place kind ≡ None
    → placed place (Some kind) ≡ record_at kind
placed_is BeforeRoot kind e = ap (λ m. unless_misplaced m kind) e
placed_is (Within attributes deeper) kind e = ap (λ m. unless_misplaced m kind) e
placed_is AfterRoot kind e = cc

asked_is : (place : NodePlace) (kind : RecordKind) → misplaced place kind ≡ None
    → asked.placed place (Some kind) ≡ asked.record_at kind
asked_is BeforeRoot kind e = ap (λ m. asked.unless_misplaced m kind) e
asked_is (Within attributes deeper) kind e = ap (λ m. asked.unless_misplaced m kind) e
asked_is AfterRoot kind e = cc

module _ (place : NodePlace) {bytes : List ℕ} {kind : RecordKind} (b : BeginsKind bytes kind)
    (may : MayStand place kind) {X : Type 0} {see : X → Shape} {r : Result (X × ℕ) Stop} where
  pub begun_tells : Tells see (record_at kind) (asked.record_at kind) bytes 1 r
      → Tells see (shape_at place) (asked.shape_at place) bytes 0 r
  unfolding shape_at
  begun_tells h =
      let read = subst (λ (f : Reader Shape RecordFault). Tells see f (asked.record_at kind) bytes 1
      r) (sym (placed_is place kind may)) h in
      let wants = subst (λ (f : List ℕ → ℕ → Type 0). Tells see (placed place (Some kind)) f bytes 1
      r) (sym (asked_is place kind may)) read in
      then_tells (λ byte. placed place (record_kind byte)) {see' = λ byte. byte} {x = b.byte}
      {to = 1} (record { told = b.first })
      (subst (λ (k : Option RecordKind). Tells see (placed place k) (asked.placed place k) bytes 1
      r) (sym b.kind_is) wants)

-- a part seen otherwise, whatever is told of it
seen_told : {A B X : Type 0} (see : A → B) {reader : Reader A RecordFault}
    {asked : List ℕ → ℕ → Type 0} {bytes : List ℕ} {at : ℕ} {see' : X → A} (r : Result (X × ℕ) Stop)
    → Tells see' reader asked bytes at r
    → Tells (λ x. see (see' x)) (λ b. seen see (λ fault. fault) (reader b)) asked bytes at r
seen_told see (Ok read) h = seen_tells see h refl
seen_told see (Err stop) h = record { told = seen_stops see h.told }

module _ (prefix : PrefixForm) (name : NameForm) {bytes : List ℕ} where
  pub element_tells : (r : Result (NamedPart × ℕ) Stop) → Tells named_seen (element_at prefix name)
      (asked.element_at prefix name) bytes 1 r
      → Tells (λ part. record_seen (parts.Element part)) (record_at (records.Element prefix name))
      (asked.record_at (records.Element prefix name)) bytes 1 r
  unfolding record_at
  element_tells r h = seen_told (λ (it : NamedShape). begins_element it.prefix it.name) r h

  pub attribute_tells : (r : Result (AttributePart × ℕ) Stop) → Tells attribute_seen
      (attribute_at prefix name) (asked.attribute_at prefix name) bytes 1 r
      → Tells (λ part. record_seen (parts.Attribute part))
      (record_at (records.Attribute prefix name)) (asked.record_at (records.Attribute prefix name))
      bytes 1 r
  unfolding record_at
  attribute_tells r h = seen_told adds r h

  pub declaration_tells : (r : Result (AttributePart × ℕ) Stop) → Tells attribute_seen
      (declaration_at prefix name) (asked.declaration_at prefix name) bytes 1 r
      → Tells (λ part. record_seen (parts.Attribute part))
      (record_at (records.Declaration prefix name))
      (asked.record_at (records.Declaration prefix name)) bytes 1 r
  unfolding record_at
  declaration_tells r h = seen_told adds r h

-- a text that is no list has one value
text_of_one : (kind : TextKind) (ends : Bool) → (kind ≡ texts.StartList → ⊥) → content_at kind ends
    ≡ λ bytes. seen (λ scalar. has_text (one scalar) ends) (λ fault. fault) (scalar_at kind bytes)
text_of_one texts.StartList ends other = absurd (other refl)
text_of_one _ ends other = refl

asked_of_one : (kind : TextKind) (ends : Bool) → (kind ≡ texts.StartList → ⊥)
    → asked.content_at kind ends ≡ asked.scalar_at kind
asked_of_one texts.StartList ends other = absurd (other refl)
asked_of_one _ ends other = refl

pub text_tells : (kind : TextKind) (ends : Bool) → (kind ≡ texts.StartList → ⊥) → {bytes : List ℕ}
    (r : Result (ScalarPart × ℕ) Stop) → Tells scalar_seen (scalar_at kind) (asked.scalar_at kind)
    bytes 1 r
    → Tells (λ part. record_seen (parts.Text (One part) ends)) (record_at (records.Text kind ends))
    (asked.record_at (records.Text kind ends)) bytes 1 r
unfolding record_at
text_tells kind ends other {bytes} r h =
    let view : ScalarPart → Shape = λ part. record_seen (parts.Text (One part) ends) in
    let one_seen = seen_told (λ (scalar : ScalarShape). has_text (one scalar) ends) r h in
    let read = subst (λ (f : Reader Shape RecordFault). Tells view f (asked.scalar_at kind) bytes 1
    r) (sym (text_of_one kind ends other)) one_seen in
    subst (λ (f : List ℕ → ℕ → Type 0). Tells view (content_at kind ends) f bytes 1 r)
    (sym (asked_of_one kind ends other)) read

-- the first byte is one byte, so one kind at most begins there
first_byte : (bytes : List ℕ) (byte : ℕ) → IsWhole a_byte bytes 0 byte 1 → get_or bytes 0 0 ≡ byte
first_byte [] byte h = let e = h.stands [] in cc
first_byte (b ∷ rest) byte h = let e = h.stands [] in cc

pub begun_kind : {bytes : List ℕ} {kind : RecordKind} → BeginsKind bytes kind → (first : ℕ)
    → Some first ≡ slice_get bytes 0 → record_kind first ≡ Some kind
begun_kind {bytes = []} b first e = cc
begun_kind {bytes = x ∷ rest} b first e =
    let here : x ≡ b.byte = first_byte (x ∷ rest) b.byte b.first in
    let same : first ≡ x = cc in
    ap record_kind (same ∙ here) ∙ b.kind_is

-- an end is whole with its type byte
end_tells : (bytes : List ℕ) → 1 ≤ length bytes → Tells (λ (u : Unit {0}). ends_element)
    (record_at records.EndElement) (asked.record_at records.EndElement) bytes 1 (Ok (tt, 1))
unfolding record_at
end_tells bytes within = given_tells (λ (u : Unit {0}). ends_element) tt bytes 1 within

pub end_begun : (place : NodePlace) {bytes : List ℕ} → BeginsKind bytes records.EndElement
    → MayStand place records.EndElement → IsWhole (shape_at place) bytes 0 ends_element 1
end_begun place {bytes} b may = (begun_tells place b may {see = λ (u : Unit {0}). ends_element}
    {r = Ok (tt, 1)} (end_tells bytes b.first.within)).told

-- where its byte begins none, none is begun
pub none_begun : (bytes : List ℕ) (first : ℕ) → Some first ≡ slice_get bytes 0
    → (told : Option RecordKind) → told ≡ record_kind first
    → IfNone told ((kind : RecordKind) → BeginsKind bytes kind → ⊥)
none_begun bytes first e None is = λ kind b. let begun = begun_kind b first e in cc
none_begun bytes first e (Some kind) is = tt
