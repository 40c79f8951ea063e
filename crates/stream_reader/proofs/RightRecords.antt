-- What a record says that isn't refused by it: its version, a mode, an encoding by its number or by
-- its content type, the Via that is served, a size within the quota.
use Rattle.std.proofs.Common.{◌≡◌, ℕ, ◌≤◌, ◌≢◌, inl, inr, Bool, true, false, Some, None, refl, sym}
use Rattle.std.proofs.Common.{List, length, arith, bytes_eq}
use Rattle.std.proofs.lemmas.Slice.Eq.{bytes_eq-Decides}
use Rattle.nbfx_values.specs.declared.session.Kind.{Kind, TheVariants.Plain, TheVariants.Session}
use Rattle.nmf_records.specs.declared.reader.TheConstants.{CONTENT_TYPE_LIMIT}
use Rattle.std.specs.Prelude.{nat_lt, ◌==◌, ◌&&◌, if◌then◌else◌}
use Rattle.std.proofs.lemmas.Bool.{and_parts, cases_Bool, or_cases, eqb-true, ltb-false}
use Rattle.nbfx_values.specs.declared.refusals.Reason.TheVariants as reasons
use Rattle.nbfx_values.specs.Session.{content_type, mode_number, kind_number}
use Rattle.stream_reader.specs.Stream.{Settings, is_mode, mode_of, is_binary, is_binary_type}
use Rattle.stream_reader.specs.Stream.{kind_of, kind_of_type, too_large}

-- a Mode record that isn't refused names a mode, an encoding a kind, and so on
pub right_version : (major minor : ℕ) (b : Bool) → ((major == 1) && (minor == 0)) ≡ b
    → (if b then None else Some reasons.BadVersion) ≡ None → (major ≡ 1) × (minor ≡ 0)
right_version major minor true e none =
    let h = and_parts (major == 1) (minor == 0) e in (eqb-true major 1 h.0, eqb-true minor 0 h.1)
right_version major minor false e none = cc

pub right_mode : (byte : ℕ) (b : Bool) → is_mode byte ≡ b
    → (if b then None else Some reasons.BadMode) ≡ None → byte ≡ mode_number (mode_of byte)
right_mode byte true e none =
    elim (or_cases (byte == 1) _ e) [
      | inl one ↦ let is = eqb-true byte 1 one in rw is refl
      | inr more ↦ elim (or_cases (byte == 2) (byte == 3) more) [
        | inl two ↦ let is = eqb-true byte 2 two in rw is refl
        | inr three ↦ let is = eqb-true byte 3 three in rw is refl
      ]
    ]
right_mode byte false e none = cc

pub right_encoding : (encoding : ℕ) (b : Bool) → is_binary encoding ≡ b
    → (if b then None else Some reasons.BadEncoding) ≡ None
    → encoding ≡ kind_number (kind_of encoding)
right_encoding encoding true e none =
    elim (or_cases (encoding == 7) (encoding == 8) e) [
      | inl plain ↦ let is = eqb-true encoding 7 plain in rw is refl
      | inr session ↦ let is = eqb-true encoding 8 session in rw is refl
    ]
right_encoding encoding false e none = cc

-- texts are compared as the same exactly where they are
pub unlike : (one other : List ℕ) → other ≢ one → bytes_eq one other ≡ false
unlike one other isnt = elim (cases_Bool (bytes_eq one other)) [
  | inl same ↦ absurd (isnt (sym ((bytes_eq-Decides one other).0 same)))
  | inr ne ↦ ne
]

pub alike : (one other : List ℕ) → other ≡ one → bytes_eq one other ≡ true
alike one other is = (bytes_eq-Decides one other).1 (sym is)

-- a content type that isn't refused names a kind
pub right_type : (type : List ℕ) (b : Bool) → is_binary_type type ≡ b
    → (if b then None else Some reasons.BadEncoding) ≡ None
    → type ≡ content_type (kind_of_type type)
right_type type true e none =
    elim (cases_Bool (bytes_eq (content_type Plain) type)) [
      | inl plain ↦ rw plain (sym ((bytes_eq-Decides (content_type Plain) type).0 plain))
      | inr other ↦
          let session : bytes_eq (content_type Session) type ≡ true = rw other at e in
          rw other (sym ((bytes_eq-Decides (content_type Session) type).0 session))
    ]
right_type type false e none = cc

-- each kind is named by its own, which is short
pub known_type : (kind : Kind) → is_binary_type (content_type kind) ≡ true
known_type Plain = refl
known_type Session = refl

pub type_kind : (kind : Kind) → kind_of_type (content_type kind) ≡ kind
type_kind Plain = refl
type_kind Session = refl

pub type_short : (kind : Kind) → length (content_type kind) ≤ CONTENT_TYPE_LIMIT
type_short Plain = omega arith
type_short Session = omega arith

pub right_via : (b : Bool) → (if b then None else Some reasons.EndpointNotFound) ≡ None → b ≡ true
right_via true none = refl
right_via false none = cc

pub right_size : (x : Settings) (size : ℕ) → too_large x size ≡ None → size ≤ x.limits.payload
right_size x size none = go (nat_lt x.limits.payload size) refl none where
  go : (b : Bool) → nat_lt x.limits.payload size ≡ b
      → (if b then Some reasons.MessageTooLarge else None) ≡ None → size ≤ x.limits.payload
  go true e h = cc
  go false e h = ltb-false x.limits.payload size e
