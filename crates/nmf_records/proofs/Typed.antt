-- A record whose type byte may come is read by its type.
use Rattle.nmf_records.specs.RecordFronts.{TextLimits}
use Rattle.std.proofs.Common.{◌≡◌, ℕ, suc, ◌≤◌, Bool, true, false, List, [], ◌∷◌, ◌++◌, length}
use Rattle.std.proofs.Common.{nat_eq, nat_lt, nat_le, sym, refl, ap, ◌∙◌, arith}
use Rattle.std.proofs.lemmas.Bool.Decides.{nat_tests}
use Rattle.unit_streams.specs.Front.{begun, whole, wrong}
use Rattle.multibyte_ints.specs.Integer.{int_at, int_ending_at, value_of}
use Rattle.nmf_records.specs.declared.frame.Expect.{Expect, TheVariants.Chunk, TheVariants.Types}
use Rattle.nmf_records.specs.declared.record_types.TheConstants.{GREATEST, KNOWN_ENCODING, MODE}
use Rattle.nmf_records.specs.declared.record_types.TheConstants.{VERSION}
use Rattle.nmf_records.specs.RecordFronts.{allowed_at, allows, bare, frame_at, typed_at}
use Rattle.nmf_records.specs.declared.frame.Frame.TheVariants as frames
use Rattle.nmf_records.specs.declared.frame.FrameFault.TheVariants as faults

-- a type byte that is not above the greatest passes the test for one that is
known_type : (kind : ℕ) → kind ≤ GREATEST → nat_lt GREATEST kind ≡ false
known_type kind le = grind (arith, nat_tests)

-- and one that passes it is not above the greatest
pub type_known : (kind : ℕ) → nat_lt GREATEST kind ≡ false → kind ≤ GREATEST
type_known kind e = grind (arith, nat_tests)

-- a known type that may come is read by its type
pub allowed_reads : (limits : TextLimits) (types kind : ℕ) (c : List ℕ) → kind ≤ GREATEST
    → allows types kind ≡ true
    → allowed_at limits types (kind ∷ c) ≡ typed_at limits kind c
allowed_reads limits types kind c le may = let known : nat_lt GREATEST kind
    ≡ false = known_type kind
    le in rw (known, may) refl

-- a byte that comes ends an integer of one byte
not_all : (n : ℕ) → nat_eq 0 (suc n) ≡ false
not_all n = grind (arith, nat_tests)

-- an integer of one byte
small_int : (kind : ℕ) (q : List ℕ) → kind ≤ GREATEST → int_at (kind ∷ q)
    ≡ whole (value_of (kind ∷ [])) 1
unfolding int_at int_ending_at
small_int kind q le =
    let small : nat_le 128 kind ≡ false = grind (arith, nat_tests) in
    rw (small, not_all (length q)) refl

-- a record that has begun may come
pub begun_may_come : (limits : TextLimits) (expect : Expect) (kind : ℕ) (q : List ℕ)
    → kind ≤ GREATEST
    → frame_at limits expect (kind ∷ q) ≡ begun
    → (types : ℕ) × (expect ≡ Types types) × (allows types kind ≡ true)
begun_may_come limits Chunk kind q le h = cc (small_int kind q le)
begun_may_come limits (Types types) kind q le h = (types, refl, may (allows types kind) refl) where
  known : nat_lt GREATEST kind ≡ false
  known = known_type kind le

  at_false : allows types kind ≡ false → ⊥
  at_false e =
      let w : allowed_at limits types (kind ∷ q) ≡ wrong (faults.Unexpected kind) 1 = rw (known, e)
      refl in
      cc

  may : (b : Bool) → allows types kind ≡ b → allows types kind ≡ true
  may true e = e
  may false e = absurd (at_false e)

-- what goes on from such a record is read by its type
pub begun_reads : (limits : TextLimits) (expect : Expect) (kind : ℕ) (q c : List ℕ)
    → kind ≤ GREATEST
    → frame_at limits expect (kind ∷ q) ≡ begun
    → frame_at limits expect (kind ∷ c) ≡ typed_at limits kind c
begun_reads limits expect kind q c le h =
    let f = begun_may_come limits expect kind q le h in
    rw f.1 (allowed_reads limits f.0 kind c le f.2)

-- what one more byte makes of the records of fixed fields
module _ (limits : TextLimits) (expect : Expect) (byte : ℕ) where
  -- the major version
  pub behind_version : (p : List ℕ) → p ≡ VERSION ∷ [] → frame_at limits expect p ≡ begun
      → frame_at limits expect (p ++ byte ∷ []) ≡ begun
  behind_version p e h =
      let h' : frame_at limits expect (VERSION ∷ []) ≡ begun = ap (frame_at limits expect)
      (sym e) ∙ h
      in
      rw e (begun_reads limits expect VERSION [] (byte ∷ []) (omega arith) h')

  -- the minor version
  pub behind_major : (major : ℕ) (p : List ℕ) → p ≡ VERSION ∷ major ∷ [] → frame_at limits expect p
      ≡ begun
      → frame_at limits expect (p ++ byte ∷ []) ≡ whole (bare (frames.Version major byte)) 3
  behind_major major p e h =
      let h' : frame_at limits expect (VERSION ∷ major ∷ []) ≡ begun = ap (frame_at limits expect)
      (sym e) ∙ h in
      rw e (begun_reads limits expect VERSION (major ∷ []) (major ∷ byte ∷ []) (omega arith) h')

  -- the mode's byte
  pub behind_mode : (p : List ℕ) → p ≡ MODE ∷ [] → frame_at limits expect p ≡ begun
      → frame_at limits expect (p ++ byte ∷ []) ≡ whole (bare (frames.Mode byte)) 2
  behind_mode p e h =
      let h' : frame_at limits expect (MODE ∷ []) ≡ begun = ap (frame_at limits expect) (sym e)
      ∙ h in
      rw e (begun_reads limits expect MODE [] (byte ∷ []) (omega arith) h')

  -- the encoding's byte
  pub behind_encoding : (p : List ℕ) → p ≡ KNOWN_ENCODING ∷ [] → frame_at limits expect p ≡ begun
      → frame_at limits expect (p ++ byte ∷ []) ≡ whole (bare (frames.KnownEncoding byte)) 2
  behind_encoding p e h =
      let h' : frame_at limits expect (KNOWN_ENCODING ∷ []) ≡ begun = ap (frame_at limits expect)
      (sym e) ∙ h in
      rw e (begun_reads limits expect KNOWN_ENCODING [] (byte ∷ []) (omega arith) h')
