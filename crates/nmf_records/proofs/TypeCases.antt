-- What is read behind a type byte, case by case: one case for each type that has a frame, and one
-- for the others.
use Rattle.nmf_records.specs.RecordFronts.{TextLimits}
use Rattle.std.proofs.Common.{◌≡◌, ℕ, ◌≤◌, true, false, List, ◌∷◌, is_none, ◌==◌, Some, sym}
use Rattle.std.proofs.Common.{refl, ap, ◌∙◌, inl, inr, arith, eqb-true}
use Rattle.std.proofs.lemmas.Bool.{cases_Bool, cond_both, eqb-false, or_parts}
use Rattle.unit_streams.specs.Front.{Front, wrong}
use Rattle.nmf_records.specs.declared.frame.Expect.{Expect, TheVariants.Chunk, TheVariants.Types}
use Rattle.nmf_records.specs.declared.frame.{Frame.Frame, FrameFault.FrameFault}
use Rattle.nmf_records.specs.declared.record_types.TheConstants.{END, EXTENSIBLE_ENCODING, FAULT}
use Rattle.nmf_records.specs.declared.record_types.TheConstants.{GREATEST, KNOWN_ENCODING, MODE}
use Rattle.nmf_records.specs.declared.record_types.TheConstants.{PREAMBLE_ACK, PREAMBLE_END}
use Rattle.nmf_records.specs.declared.record_types.TheConstants.{SIZED_ENVELOPE, UNSIZED_ENVELOPE}
use Rattle.nmf_records.specs.declared.record_types.TheConstants.{UPGRADE_REQUEST, UPGRADE_RESPONSE}
use Rattle.nmf_records.specs.declared.record_types.TheConstants.{VERSION, VIA}
use Rattle.nmf_records.specs.{Laws.has_no_frame, Records.Read, Records.type_of}
use Rattle.nmf_records.specs.RecordFronts.{allows, allows_type, byte_at, frame_at, lone, MayCome}
use Rattle.nmf_records.specs.RecordFronts.{size_at, text_frame_at, typed_at, version_at}
use Rattle.nmf_records.proofs.Typed.{allowed_reads}
use Rattle.nmf_records.specs.declared.frame.Frame.TheVariants as frames
use Rattle.nmf_records.specs.declared.frame.FrameFault.TheVariants as faults

-- P holds of what each type byte leads to
pub record ByType (limits : TextLimits) (kind : ℕ) (bytes : List ℕ) (P : Front Read FrameFault
    → Type 0) : Type 0
  where
    pub version : kind ≡ VERSION → P (version_at bytes)
    pub mode : kind ≡ MODE → P (byte_at frames.Mode bytes)
    pub via : kind ≡ VIA → P (text_frame_at limits frames.Via bytes)
    pub encoding : kind ≡ KNOWN_ENCODING → P (byte_at frames.KnownEncoding bytes)
    pub content_type : kind ≡ EXTENSIBLE_ENCODING
        → P (text_frame_at limits frames.ExtensibleEncoding bytes)
    pub unsized_envelope : kind ≡ UNSIZED_ENVELOPE → P (lone frames.UnsizedEnvelope)
    pub sized_envelope : kind ≡ SIZED_ENVELOPE → P (size_at 1 frames.SizedEnvelope bytes)
    pub end : kind ≡ END → P (lone frames.End)
    pub fault : kind ≡ FAULT → P (text_frame_at limits frames.Fault bytes)
    pub preamble_ack : kind ≡ PREAMBLE_ACK → P (lone frames.PreambleAck)
    pub preamble_end : kind ≡ PREAMBLE_END → P (lone frames.PreambleEnd)
    pub other : has_no_frame kind ≡ true → P (wrong (faults.Unexpected kind) 1)

-- a known type that none of these is has no frame
no_other : (kind : ℕ) → kind ≤ GREATEST → (kind == VERSION) ≡ false → (kind == MODE) ≡ false
    → (kind == VIA) ≡ false → (kind == KNOWN_ENCODING) ≡ false → (kind == EXTENSIBLE_ENCODING)
    ≡ false
    → (kind == UNSIZED_ENVELOPE) ≡ false
    → (kind == SIZED_ENVELOPE) ≡ false
    → (kind == END) ≡ false → (kind == FAULT) ≡ false → (kind == PREAMBLE_ACK) ≡ false
    → (kind == PREAMBLE_END) ≡ false → has_no_frame kind ≡ true
no_other kind le e0 e1 e2 e3 e4 e5 e6 e7 e8 e11 e12 =
    elim (cases_Bool (has_no_frame kind)) [
      | inl e ↦ e
      | inr e ↦
          let parts = or_parts (kind == UPGRADE_REQUEST) (kind == UPGRADE_RESPONSE) e in
          absurd (omega (
            arith,
            eqb-false kind VERSION e0,
            eqb-false kind MODE e1,
            eqb-false kind VIA e2,
            eqb-false kind KNOWN_ENCODING e3,
            eqb-false kind EXTENSIBLE_ENCODING e4,
            eqb-false kind UNSIZED_ENVELOPE e5,
            eqb-false kind SIZED_ENVELOPE e6,
            eqb-false kind END e7,
            eqb-false kind FAULT e8,
            eqb-false kind UPGRADE_REQUEST parts.0,
            eqb-false kind UPGRADE_RESPONSE parts.1,
            eqb-false kind PREAMBLE_ACK e11,
            eqb-false kind PREAMBLE_END e12,
          ))
    ]

-- so it holds of what is read behind a known one
pub by_type : (limits : TextLimits) (kind : ℕ) (bytes : List ℕ) (P : Front Read FrameFault
    → Type 0) → kind
    ≤ GREATEST → ByType limits kind bytes P → P (typed_at limits kind bytes)
by_type limits kind bytes P le c =
    cond_both (kind == VERSION) _ _ P (λ t. c.version (eqb-true kind VERSION t))
    (λ f0. cond_both (kind == MODE) _ _ P (λ t. c.mode (eqb-true kind MODE t))
    (λ f1. cond_both (kind == VIA) _ _ P (λ t. c.via (eqb-true kind VIA t))
    (λ f2. cond_both (kind == KNOWN_ENCODING) _ _ P
    (λ t. c.encoding (eqb-true kind KNOWN_ENCODING t))
    (λ f3. cond_both (kind == EXTENSIBLE_ENCODING) _ _ P
    (λ t. c.content_type (eqb-true kind EXTENSIBLE_ENCODING t))
    (λ f4. cond_both (kind == UNSIZED_ENVELOPE) _ _ P
    (λ t. c.unsized_envelope (eqb-true kind UNSIZED_ENVELOPE t))
    (λ f5. cond_both (kind == SIZED_ENVELOPE) _ _ P
    (λ t. c.sized_envelope (eqb-true kind SIZED_ENVELOPE t))
    (λ f6. cond_both (kind == END) _ _ P (λ t. c.end (eqb-true kind END t))
    (λ f7. cond_both (kind == FAULT) _ _ P (λ t. c.fault (eqb-true kind FAULT t))
    (λ f8. cond_both (kind == PREAMBLE_ACK) _ _ P
    (λ t. c.preamble_ack (eqb-true kind PREAMBLE_ACK t))
    (λ f11. cond_both (kind == PREAMBLE_END) _ _ P
    (λ t. c.preamble_end (eqb-true kind PREAMBLE_END t))
    (λ f12. c.other (no_other kind le f0 f1 f2 f3 f4 f5 f6 f7 f8 f11 f12))))))))))))

-- a record with a type comes where its type may
pub due_by_type : (expect : Expect) (frame : Frame) (kind : ℕ) → type_of frame ≡ Some kind
    → MayCome expect frame
    → (types : ℕ) × (expect ≡ Types types) × (allows types kind ≡ true)
due_by_type (Types types) frame kind e may = (types, refl, ap (allows_type types) (sym e) ∙ may)
due_by_type Chunk frame kind e may = let none : is_none (type_of frame) ≡ false = rw e refl in cc

-- and is read by it
pub read_by_type : (limits : TextLimits) (expect : Expect) (frame : Frame) (kind : ℕ)
    (bytes : List ℕ) → kind
    ≤ GREATEST → type_of frame ≡ Some kind → MayCome expect frame
    → frame_at limits expect (kind ∷ bytes) ≡ typed_at limits kind bytes
read_by_type limits expect frame kind bytes le e may =
    let due = due_by_type expect frame kind e may in
    rw due.1 (allowed_reads limits due.0 kind bytes le due.2)
