-- What is kept of a record, or of an attribute's value, that isn't whole, by what stands behind its
-- type byte.
use Rattle.std.proofs.Common.{◌≡◌, ℕ, List, [], IsErrAnd, Ok, Err, Option, Result, sym, ap, ◌∙◌}
use Rattle.std.proofs.{Common.subst, Common.append-nil, lemmas.Result.err_from_is_err_and}
use Rattle.unit_streams.specs.{Front.whole, Parts.a_byte, Parts.Reader}
use Rattle.nbfx_records.specs.declared.cursor.Stop.{Stop, TheVariants.Fault, TheVariants.More}
use Rattle.nbfx_records.specs.declared.kinds.{NameForm.NameForm, PrefixForm.PrefixForm}
use Rattle.nbfx_records.specs.declared.{kinds.RecordKind.RecordKind, resume.Resume.Resume}
use Rattle.nbfx_records.specs.declared.nodes.{NameRef.NameRef, RecordFault.RecordFault}
use Rattle.nbfx_records.specs.Cursor.{IsWhole, OnMore, read_from, Tells}
use Rattle.nbfx_records.specs.{Kinds.record_kind, Shapes.name_at, Shapes.prefix_at}
use Rattle.nbfx_records.specs.Resuming.{KeepsAttribute, KeepsValue}

-- what is kept, by the record that the type byte begins and the offset behind it
module _ (Kept : Option RecordKind → ℕ → Type 0) (bytes : List ℕ) (from byte to : ℕ)
    (kind : Option RecordKind) (first : IsWhole a_byte bytes from byte to)
    (is : kind ≡ record_kind byte) where
  kept_any : Kept kind to → (other at : ℕ) → read_from from a_byte bytes ≡ whole other at
      → Kept (record_kind other) at
  kept_any kept other at e =
      let same = sym (first.stands []) ∙ ap (read_from from a_byte) (append-nil bytes) ∙ e in
      let bytes_same : byte ≡ other = cc in
      let ends_same : to ≡ at = cc in
      subst (Kept (record_kind other)) ends_same
      (subst (λ (k : Option RecordKind). Kept k to) (is ∙ ap record_kind bytes_same) kept)

  pub kept_whole : {T : Type 0} (r : Result T Stop) → OnMore r (Kept kind to)
      → OnMore r ((other at : ℕ) → read_from from a_byte bytes ≡ whole other at
      → Kept (record_kind other) at)
  kept_whole (Ok x) kept = tt
  kept_whole (Err (More wants)) kept = kept_any kept
  kept_whole (Err (Fault fault n)) kept = tt

-- an attribute's value, behind its prefix and name
module _ (form : PrefixForm) (name_form : NameForm) {bytes : List ℕ} {at mid to : ℕ}
    {prefix : List ℕ} {name : NameRef} (resume : Resume)
    (first : IsWhole (prefix_at form) bytes at prefix mid)
    (second : IsWhole (name_at name_form) bytes mid name to) where
  kept_attribute : KeepsValue to resume bytes → KeepsAttribute form name_form at resume bytes
  kept_attribute kept other_prefix other_mid other_name other_to e f =
      let one = sym (first.stands []) ∙ ap (read_from at (prefix_at form)) (append-nil bytes) ∙ e in
      let mids : mid ≡ other_mid = cc in
      let here = subst (λ (m : ℕ). read_from m (name_at name_form) bytes ≡ whole other_name
      other_to) (sym mids) f in
      let two = sym (second.stands []) ∙ ap (read_from mid (name_at name_form)) (append-nil bytes) ∙
      here in
      let ends : to ≡ other_to = cc in
      subst (λ (m : ℕ). KeepsValue m resume bytes) ends kept

  kept_stop : (T U : Type 0) (stop : Stop) → OnMore {T = U} (Err stop) (KeepsValue to resume bytes)
      → OnMore {T = T} (Err stop) (KeepsAttribute form name_form at resume bytes)
  kept_stop T U (More wants) kept = kept_attribute kept
  kept_stop T U (Fault fault n) kept = tt

  pub kept_value : {T X A : Type 0} {see : X → A} {reader : Reader A RecordFault}
      {asked : List ℕ → ℕ → Type 0} (r : Result T Stop) (stop : Stop) → IsErrAnd r (λ y. y ≡ stop)
      → Tells see reader asked bytes to (Err stop)
      → OnMore {T = X × ℕ} (Err stop) (KeepsValue to resume bytes)
      → OnMore r (KeepsAttribute form name_form at resume bytes)
  kept_value {T} {X} r stop e told kept =
      let p = err_from_is_err_and r e in
      subst (λ (q : Result T Stop). OnMore q (KeepsAttribute form name_form at resume bytes))
      (ap Err (sym p.2) ∙ sym p.1) (kept_stop T (X × ℕ) stop kept)
