-- The parts of a record that are read from an offset on, by their own parts.
use Rattle.std.proofs.Common.{◌≡◌, ℕ, Bool, true, false, List, Some, None, Ok, Option, Result, sym}
use Rattle.std.{proofs.Common.refl, proofs.Common.subst, proofs.Common.Bor, specs.Int.byte_len}
use Rattle.unit_streams.specs.Parts.{a_byte, more, Reader, some_bytes, ◌>>=◌}
use Rattle.nbfx_records.specs.declared.cursor.Stop.{Stop, TheVariants.Fault}
use Rattle.nbfx_records.specs.declared.kinds.{LengthForm.LengthForm, TextKind.TextKind}
use Rattle.nbfx_records.specs.declared.{kinds.RecordKind.RecordKind, nodes.RecordFault.RecordFault}
use Rattle.nbfx_records.specs.{Cursor.Stops, Cursor.Tells, Kinds.record_kind, Shapes.width_in}
use Rattle.nbfx_records.specs.Shapes.{a_length, given_or, said_length, scalar_at, text_turn}
use Rattle.nbfx_records.proofs.CursorFacts.{given_tells, refuse_stops, seen_stops, then_stops}
use Rattle.nbfx_records.proofs.CursorFacts.{then_stops_behind, then_tells}
use Rattle.nbfx_records.specs.declared.nodes.RecordFault.TheVariants as faults
use Rattle.nbfx_records.specs.Asked as asked
use Rattle.nbfx_records.specs.declared.kinds.TextKind.TheVariants as texts

-- a length, by its bytes
module _ (form : LengthForm) (bytes : List ℕ) (at width : ℕ)
    (width_is : width ≡ byte_len (width_in form)) where
  abbrev behind_said : List ℕ → Reader ℕ RecordFault
  behind_said said = given_or faults.BadInt (said_length form said)

  pub length_stops : {stop : Stop} → Stops (some_bytes width) (asked.some_bytes width) bytes at stop
      → Stops (a_length form) (asked.a_length form) bytes at stop
  length_stops {stop} h = then_stops behind_said
      (subst (λ (n : ℕ). Stops (some_bytes n) (asked.some_bytes n) bytes at stop) width_is h)

  module _ (said : Bor (List ℕ)) (to : ℕ) (h : Tells (λ part. part.now) (some_bytes width)
      (asked.some_bytes width) bytes at (Ok (said, to))) where
    bytes_whole : Tells (λ part. part.now) (some_bytes (byte_len (width_in form)))
        (asked.some_bytes (byte_len (width_in form))) bytes at (Ok (said, to))
    bytes_whole = subst (λ (n : ℕ). Tells (λ part. part.now) (some_bytes n) (asked.some_bytes n)
        bytes at (Ok (said, to))) width_is h

    pub length_whole : (n : ℕ) → said_length form said.now ≡ Some n → Tells (λ n. n) (a_length form)
        (asked.a_length form) bytes at (Ok (n, to))
    length_whole n e =
        then_tells behind_said bytes_whole
        (subst (λ (o : Option ℕ). Tells (λ n. n) (given_or faults.BadInt o) asked.nothing bytes to
        (Ok (n, to))) (sym e) (given_tells (λ n. n) n bytes to h.told.within))

    pub length_wrong : said_length form said.now ≡ None → Stops (a_length form)
        (asked.a_length form) bytes at (Fault faults.BadInt to)
    length_wrong e =
        then_stops_behind behind_said bytes_whole
        (subst (λ (o : Option ℕ). Stops (given_or faults.BadInt o) asked.nothing bytes to
        (Fault faults.BadInt to)) (sym e) (refuse_stops faults.BadInt bytes to))

-- a plain text in a list, where its kind isn't the list's end
pub plain_stops : (may_close : Bool) (kind : TextKind) (ends : Bool) {bytes : List ℕ} {at : ℕ}
    {stop : Stop} → (kind ≡ texts.EndList → ⊥) → ends ≡ false → Stops (scalar_at kind)
    (asked.scalar_at kind) bytes at stop
    → Stops (text_turn may_close kind ends) (asked.text_turn may_close kind ends) bytes at stop
plain_stops may_close texts.EndList ends other plain h = absurd (other refl)
plain_stops may_close kind true other plain h = cc
plain_stops may_close kind false other plain h = seen_stops more h

-- what begins with a type byte
pub typed_tells : {A X : Type 0} (next : Option RecordKind → Reader A RecordFault)
    (behind : Option RecordKind → List ℕ → ℕ → Type 0) {see : X → A} {bytes : List ℕ}
    {at byte to : ℕ} {k : Option RecordKind} {r : Result (X × ℕ) Stop}
    → Tells (λ byte. byte) a_byte asked.a_byte bytes at (Ok (byte, to)) → k ≡ record_kind byte
    → Tells see (next k) (behind k) bytes to r
    → Tells see (a_byte >>= λ byte. next (record_kind byte))
    (asked.Either a_byte asked.a_byte (λ byte. behind (record_kind byte))) bytes at r
typed_tells next behind {see} {bytes} {at} {byte} {to} {k} {r} first is then =
    then_tells (λ byte. next (record_kind byte)) first
    (subst (λ (k : Option RecordKind). Tells see (next k) (behind k) bytes to r) is then)
