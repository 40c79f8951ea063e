-- Records are read byte by byte.
use Rattle.nmf_records.specs.RecordFronts.{TextLimits}
use Rattle.std.proofs.Common.{◌≡◌, ℕ, suc, ◌<◌, Bool, true, false, ◌⊎◌, List, [], ◌∷◌, ◌++◌, length}
use Rattle.std.proofs.Common.{if◌then◌else◌, nat_lt, ◌==◌, refl, inl, inr, arith}
use Rattle.unit_streams.proofs.Behind.{after_byte, after_byte_peels, behind_peels, by_first_peels}
use Rattle.{unit_streams.proofs.Behind.decided_byte_peels, nmf_records.specs.Records.Read}
use Rattle.unit_streams.proofs.Peeling.{extent, IsPeeling, peels_front}
use Rattle.unit_streams.specs.Front.{begun, Front, ReadsFront}
use Rattle.multibyte_ints.proofs.{IntegerBytes.int_peels, TextBytes.string_peels}
use Rattle.multibyte_ints.specs.{Integer.int_at, Text.string_at}
use Rattle.nmf_records.specs.declared.frame.Expect.{Expect, TheVariants.Chunk, TheVariants.Types}
use Rattle.nmf_records.specs.declared.frame.{Frame.Frame, FrameFault.FrameFault}
use Rattle.nmf_records.specs.declared.record_types.TheConstants.{END, EXTENSIBLE_ENCODING, FAULT}
use Rattle.nmf_records.specs.declared.record_types.TheConstants.{GREATEST}
use Rattle.nmf_records.specs.declared.record_types.TheConstants.{KNOWN_ENCODING, MODE, PREAMBLE_ACK}
use Rattle.nmf_records.specs.declared.record_types.TheConstants.{PREAMBLE_END, SIZED_ENVELOPE}
use Rattle.nmf_records.specs.declared.record_types.TheConstants.{UNSIZED_ENVELOPE, VERSION, VIA}
use Rattle.nmf_records.specs.RecordFronts.{allowed_at, allows, bare, byte_at, fault_of, frame_at}
use Rattle.nmf_records.specs.RecordFronts.{size_at, text_frame_at, text_kind, text_limit, typed_at}
use Rattle.nmf_records.specs.RecordFronts.{version_at, with_text}
use Rattle.nmf_records.specs.declared.frame.Frame.TheVariants as frames
use Rattle.nmf_records.specs.declared.frame.FrameFault.TheVariants as faults

-- what is read behind a type byte is read byte by byte
abbrev PeelsBehindType : (List ℕ → Front Read FrameFault) → Type 0
PeelsBehindType f = IsPeeling (after_byte f)

size_peels : (frame : ℕ → Frame) → PeelsBehindType (size_at 1 frame)
size_peels frame = after_byte_peels (λ size. bare (frame size)) (λ _. faults.BadInt) int_at
    int_peels

text_peels : (limits : TextLimits) (frame : Frame) → PeelsBehindType (text_frame_at limits frame)
text_peels limits frame = after_byte_peels (with_text frame) (fault_of (text_kind frame))
    (string_at (text_limit limits frame)) (string_peels (text_limit limits frame))

version_peels : PeelsBehindType version_at
version_peels = record { nothing = refl; byte = at; stays = after } where
  read : List ℕ → Front Read FrameFault
  read = after_byte version_at

  at : (b : List ℕ) (x : ℕ) → read b ≡ begun → (read (b ++ x ∷ []) ≡ begun)
      ⊎ (extent (read (b ++ x ∷ [])) ≡ suc (length b))
  at [] x h = inl refl
  at (kind ∷ []) x h = inl refl
  at (kind ∷ major ∷ []) x h = inr refl
  at (kind ∷ major ∷ minor ∷ rest) x h = cc

  after : (b : List ℕ) (x : ℕ) → 0 < extent (read b) → read (b ++ x ∷ []) ≡ read b
  after [] x lt = absurd (omega arith)
  after (kind ∷ []) x lt = absurd (omega arith)
  after (kind ∷ major ∷ []) x lt = absurd (omega arith)
  after (kind ∷ major ∷ minor ∷ rest) x lt = refl

byte_peels : (frame : ℕ → Frame) → PeelsBehindType (byte_at frame)
byte_peels frame = record { nothing = refl; byte = at; stays = after } where
  read : List ℕ → Front Read FrameFault
  read = after_byte (byte_at frame)

  at : (b : List ℕ) (x : ℕ) → read b ≡ begun → (read (b ++ x ∷ []) ≡ begun)
      ⊎ (extent (read (b ++ x ∷ [])) ≡ suc (length b))
  at [] x h = inl refl
  at (kind ∷ []) x h = inr refl
  at (kind ∷ y ∷ rest) x h = cc

  after : (b : List ℕ) (x : ℕ) → 0 < extent (read b) → read (b ++ x ∷ []) ≡ read b
  after [] x lt = absurd (omega arith)
  after (kind ∷ []) x lt = absurd (omega arith)
  after (kind ∷ y ∷ rest) x lt = refl

-- of two readings the one that a test takes
choice_peels : (test : Bool) (f g : List ℕ → Front Read FrameFault) → PeelsBehindType f
    → PeelsBehindType g → PeelsBehindType (λ b. if test then f b else g b)
choice_peels true f g p q = p
choice_peels false f g p q = q

typed_peels : (limits : TextLimits) (kind : ℕ) → PeelsBehindType (typed_at limits kind)
typed_peels limits kind =
    choice_peels (kind == VERSION) _ _ version_peels (
    choice_peels (kind == MODE) _ _ (byte_peels frames.Mode) (
    choice_peels (kind == VIA) _ _ (text_peels limits frames.Via) (
    choice_peels (kind == KNOWN_ENCODING) _ _ (byte_peels frames.KnownEncoding) (
    choice_peels (kind == EXTENSIBLE_ENCODING) _ _ (text_peels limits frames.ExtensibleEncoding) (
    choice_peels (kind == UNSIZED_ENVELOPE) _ _ (decided_byte_peels _ refl) (
    choice_peels (kind == SIZED_ENVELOPE) _ _ (size_peels frames.SizedEnvelope) (
    choice_peels (kind == END) _ _ (decided_byte_peels _ refl) (
    choice_peels (kind == FAULT) _ _ (text_peels limits frames.Fault) (
    choice_peels (kind == PREAMBLE_ACK) _ _ (decided_byte_peels _ refl) (
    choice_peels (kind == PREAMBLE_END) _ _ (decided_byte_peels _ refl)
    (decided_byte_peels _ refl)))))))))))

record_peels : (limits : TextLimits) (types : ℕ) → IsPeeling (allowed_at limits types)
record_peels limits types =
    by_first_peels (allowed_at limits types) refl (λ kind.
    choice_peels (nat_lt GREATEST kind) _ _ (decided_byte_peels _ refl) (
    choice_peels (allows types kind) _ _ (typed_peels limits kind) (decided_byte_peels _ refl)))

-- a record, or a chunk's size, is read byte by byte
pub frame_peels : (limits : TextLimits) (expect : Expect) → IsPeeling (frame_at limits expect)
frame_peels limits (Types types) = record_peels limits types
frame_peels limits Chunk = behind_peels (λ size. bare (frames.Chunk size)) (λ _. faults.BadInt)
    int_at int_peels

-- so a record is known by its own bytes
pub frames_front : (limits : TextLimits) (expect : Expect) → ReadsFront (frame_at limits expect)
frames_front limits expect = peels_front (frame_at limits expect) (frame_peels limits expect)
