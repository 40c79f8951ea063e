-- What bytes show of a record: a fault of framing, or what a whole one says.
use Rattle.std.proofs.Common.{◌≡◌, ℕ, ◌+◌, ◌<◌, ◌≤◌, Bool, true, false, ◌&&◌, ◌≢◌, ◌⊎◌, List}
use Rattle.std.proofs.Common.{length, if◌then◌else◌, nat_lt, ◌==◌, Some, None, bytes_eq, sym, refl}
use Rattle.std.proofs.Common.{ap, ◌∙◌, subst, inl, inr, arith, ltb-true, ne_eqb}
use Rattle.std.proofs.{Math.Bool.and-false}
use Rattle.std.proofs.lemmas.Bool.{cond_both, eqb-false, or_parts, Decides.nat_tests}
use Rattle.nbfx_values.specs.declared.refusals.Reason.{Reason}
use Rattle.nbfx_values.specs.Session.{content_type, mode_number}
use Rattle.nbfx_values.specs.declared.session.Kind.TheVariants.{Plain, Session}
use Rattle.nbfx_values.specs.declared.session.Mode.TheVariants.{Duplex, Simplex, Singleton}
use Rattle.nmf_records.{proofs.Causes.HasCause, specs.Laws.BeginsUnexpected, specs.Script.may_come}
use Rattle.nmf_records.specs.declared.frame.{Frame.Frame, FrameFault.FrameFault}
use Rattle.nmf_records.specs.declared.{record_types.TheConstants.UPGRADE_REQUEST, script.Due.Due}
use Rattle.nmf_records.specs.RecordFronts.{bare, MayCome, text_limit, with_text}
use Rattle.nmf_records.specs.Records.{IsRecord, IsRecordOf, Read}
use Rattle.stream_reader.specs.Reasons.{IsLargeChunk, IsLargeHead, IsOtherEncoding, IsOtherMode}
use Rattle.stream_reader.specs.Reasons.{IsOtherType, IsOtherVersion, IsOtherVia, Shows}
use Rattle.stream_reader.specs.Stream.{direction_of, initiators, is_binary, is_binary_type}
use Rattle.stream_reader.specs.Stream.{is_mode, reason_in}
use Rattle.stream_reader.specs.Stream.{reason_of, receivers, serves, Settings, Side, size_before}
use Rattle.stream_reader.specs.Stream.{Stage, text_limits, too_large, unexpected}
use Rattle.stream_reader.proofs.DueRecords.{chunk_comes, chunk_due as size_due, encoding_comes}
use Rattle.stream_reader.proofs.DueRecords.{encoding_due, envelope_comes, envelope_due, mode_comes}
use Rattle.stream_reader.proofs.DueRecords.{mode_due, version_comes, version_due, via_comes}
use Rattle.stream_reader.proofs.{DueRecords.via_due, RightRecords.alike, RightRecords.unlike}
use Rattle.nbfx_values.specs.declared.refusals.Reason.TheVariants as reasons
use Rattle.nmf_records.specs.declared.frame.Frame.TheVariants as frames
use Rattle.nmf_records.specs.declared.frame.FrameFault.TheVariants as faults
use Rattle.nmf_records.specs.declared.script.Due.TheVariants as dues

-- bytes that are wrong by a fault which is answered so
abbrev pub IsFaulty : Settings → Due → List ℕ → Reason → Type 0
IsFaulty x due bytes reason = (fault : FrameFault) × (n : ℕ)
    × HasCause (text_limits x) (may_come (direction_of x.side) due) bytes fault n
    × (reason_of due fault ≡ reason)

-- a whole record that is refused so by what it says
pub record IsSaid (x : Settings) (stage : Stage) (due : Due) (bytes : List ℕ) (reason : Reason)
    : Type 0 where
  pub read : Read
  pub bytes_are : IsRecord read bytes
  pub may : MayCome (may_come (direction_of x.side) due) read.frame
  pub low : length read.text ≤ text_limit (text_limits x) read.frame
  pub refused : reason_in x stage read.frame read.text ≡ Some reason

-- a type byte that may not come is answered in one of two ways
abbrev IsOfTwo : Reason → Type 0
IsOfTwo reason = (reason ≡ reasons.OutOfOrder) ⊎ (reason ≡ reasons.UpgradeRefused)

unexpected_is : (due : Due) (t : ℕ) → IsOfTwo (unexpected due t)
unexpected_is dues.PreambleEnd t =
    cond_both (t == UPGRADE_REQUEST) reasons.UpgradeRefused reasons.OutOfOrder IsOfTwo
    (λ _. inr refl) (λ _. inl refl)
unexpected_is _ t = inl refl

module _ (x : Settings) (due : Due) (before : ℕ) (bytes : List ℕ) where
  -- what shows each fault
  shows_otherwise : (t : ℕ) → BeginsUnexpected (may_come (direction_of x.side) due) bytes t
      → IsOfTwo (unexpected due t) → Shows x due before bytes (unexpected due t)
  shows_otherwise t h (inl e) =
      subst (λ (r : Reason). Shows x due before bytes r) (sym e) (t, h, e)
  shows_otherwise t h (inr e) =
      subst (λ (r : Reason). Shows x due before bytes r) (sym e) (t, h, e)

  pub shows_fault : (fault : FrameFault) (n : ℕ)
      → HasCause (text_limits x) (may_come (direction_of x.side) due) bytes fault n
      → Shows x due before bytes (reason_of due fault)
  shows_fault faults.UnknownRecord n h = h.1
  shows_fault (faults.Unexpected t) n h = shows_otherwise t h.1 (unexpected_is due t)
  shows_fault faults.BadInt n h = (h.0, h.1, h.3)
  shows_fault faults.TextTooLong n h = (n, h)
  shows_fault faults.TypeTooLong n h = (n, h)
  shows_fault faults.TextNotUtf8 n h = (n, h)

-- what a whole record says
other_version : (major minor : ℕ) (reason : Reason) (b : Bool) → ((major == 1) && (minor == 0)) ≡ b
    → (if b then None else Some reasons.BadVersion) ≡ Some reason
    → (reasons.BadVersion ≡ reason) × ((major ≢ 1) ⊎ (minor ≢ 0))
other_version major minor reason true e some = cc
other_version major minor reason false e some = (cc, parts (major == 1) refl) where
  parts : (c : Bool) → (major == 1) ≡ c → (major ≢ 1) ⊎ (minor ≢ 0)
  parts true one = inr (eqb-false minor 0 (sym (ap (λ c. c && (minor == 0)) one) ∙ e))
  parts false none = inl (eqb-false major 1 none)

other_mode : (mode : ℕ) (reason : Reason) (b : Bool) → is_mode mode ≡ b
    → (if b then None else Some reasons.BadMode) ≡ Some reason
    → (reasons.BadMode ≡ reason) × (mode ≢ mode_number Singleton) × (mode ≢ mode_number Duplex)
    × (mode ≢ mode_number Simplex)
other_mode mode reason true e some = cc
other_mode mode reason false e some = (
  cc,
  (λ is. let t : is_mode mode ≡ true = rw is refl in cc),
  (λ is. let t : is_mode mode ≡ true = rw is refl in cc),
  (λ is. let t : is_mode mode ≡ true = rw is refl in cc),
)

other_encoding : (encoding : ℕ) (reason : Reason) (b : Bool) → is_binary encoding ≡ b
    → (if b then None else Some reasons.BadEncoding) ≡ Some reason
    → (reasons.BadEncoding ≡ reason) × (encoding ≢ 7) × (encoding ≢ 8)
other_encoding encoding reason true e some = cc
other_encoding encoding reason false e some = (
  cc,
  (λ is. let t : is_binary encoding ≡ true = rw is refl in cc),
  (λ is. let t : is_binary encoding ≡ true = rw is refl in cc),
)

-- a content type that is refused is another
other_type : (type : List ℕ) (reason : Reason) (b : Bool) → is_binary_type type ≡ b
    → (if b then None else Some reasons.BadEncoding) ≡ Some reason
    → (reasons.BadEncoding ≡ reason) × (type ≢ content_type Plain) × (type ≢ content_type Session)
other_type type reason true e some = cc
other_type type reason false e some =
    let parts = or_parts (bytes_eq (content_type Plain) type)
    (bytes_eq (content_type Session) type) e in (
      cc,
      (λ is. let t = alike (content_type Plain) type is in let bad = sym t ∙ parts.0 in cc),
      (λ is. let t = alike (content_type Session) type is in let bad = sym t ∙ parts.1 in cc),
    )

-- a Via that isn't served is another than the endpoint
record IsUnserved (side : Side) (via : List ℕ) : Type 0 where
  endpoint : List ℕ
  side_is : side ≡ initiators (Some endpoint)
  other : via ≢ endpoint

other_via : (side : Side) (via : List ℕ) (reason : Reason)
    → (if serves side via then None else Some reasons.EndpointNotFound) ≡ Some reason
    → (reasons.EndpointNotFound ≡ reason) × IsUnserved side via
other_via (initiators None) via reason some = cc
other_via (receivers mode kind) via reason some = cc
other_via (initiators (Some endpoint)) via reason some = by_test (bytes_eq endpoint via) refl some
  where
    by_test : (b : Bool) → bytes_eq endpoint via ≡ b
        → (if b then None else Some reasons.EndpointNotFound) ≡ Some reason
        → (reasons.EndpointNotFound ≡ reason) × IsUnserved (initiators (Some endpoint)) via
    by_test true e h = cc
    by_test false e h = (
      cc,
      record {
        endpoint = endpoint;
        side_is = refl;
        other = λ same. let t = alike endpoint via same in cc;
      },
    )

large : (x : Settings) (size : ℕ) (reason : Reason) → too_large x size ≡ Some reason
    → (reasons.MessageTooLarge ≡ reason) × (x.limits.payload < size)
large x size reason some = by_test (nat_lt x.limits.payload size) refl some where
  by_test : (b : Bool) → nat_lt x.limits.payload size ≡ b
      → (if b then Some reasons.MessageTooLarge else None) ≡ Some reason
      → (reasons.MessageTooLarge ≡ reason) × (x.limits.payload < size)
  by_test true e h = (cc, ltb-true x.limits.payload size e)
  by_test false e h = cc

module _ (x : Settings) (stage : Stage) (due : Due) (bytes : List ℕ) where
  abbrev ShowsSo : Reason → Type 0
  ShowsSo reason = Shows x due (size_before stage) bytes reason

  pub said : (read : Frame) (text : List ℕ) (reason : Reason) → IsRecordOf read text bytes
      → MayCome (may_come (direction_of x.side) due) read
      → length text ≤ text_limit (text_limits x) read
      → reason_in x stage read text ≡ Some reason → Shows x due (size_before stage) bytes reason
  said (frames.Version major minor) text reason is may low some =
      let h = other_version major minor reason _ refl some in
      subst ShowsSo h.0
      (major, minor, version_due (direction_of x.side) due major minor may, is.1, h.1)
  said (frames.Mode mode) text reason is may low some =
      let h = other_mode mode reason _ refl some in
      subst ShowsSo h.0
      (mode, mode_due (direction_of x.side) due mode may, is.1, h.1, h.2, h.3)
  said frames.Via text reason is may low some =
      let h = other_via x.side text reason some in
      subst ShowsSo h.0 (
        h.1.endpoint,
        text,
        via_due (direction_of x.side) due may,
        h.1.side_is,
        is,
        low,
        h.1.other,
      )
  said (frames.KnownEncoding encoding) text reason is may low some =
      let h = other_encoding encoding reason _ refl some in
      subst ShowsSo h.0
      (inl (
        encoding,
        encoding_due (direction_of x.side) due (frames.KnownEncoding encoding) tt may,
        is.1,
        h.1,
        h.2,
      ))
  said frames.ExtensibleEncoding text reason is may low some =
      let h = other_type text reason _ refl some in
      subst ShowsSo h.0
      (inr (
        text,
        encoding_due (direction_of x.side) due frames.ExtensibleEncoding tt may,
        is,
        low,
        h.1,
        h.2,
      ))
  said (frames.SizedEnvelope size) text reason is may low some =
      let h = large x size reason some in
      subst ShowsSo h.0
      (inl (size, is.1, envelope_due (direction_of x.side) due size may, is.3, is.2, h.1))
  said (frames.Chunk size) text reason is may low some =
      let h = large x (size_before stage + size) reason some in
      subst ShowsSo h.0 (inr (size, size_due (direction_of x.side) due size may, is.1, h.1))
  said _ text reason is may low some = cc

  -- and the other way
  is_version : IsOtherVersion due bytes → IsSaid x stage due bytes reasons.BadVersion
  is_version (major, minor, is_due, bytes_are, other) = record {
    read = bare (frames.Version major minor);
    bytes_are = (refl, bytes_are);
    may = rw is_due (version_comes (direction_of x.side) major minor);
    low = omega arith;
    refused = ap (λ (b : Bool). if b then None else Some reasons.BadVersion) (test other);
  } where
    test : (major ≢ 1) ⊎ (minor ≢ 0) → ((major == 1) && (minor == 0)) ≡ false
    test (inl ne) = rw (ne_eqb major 1 ne) refl
    test (inr ne) = ap (λ c. (major == 1) && c) (ne_eqb minor 0 ne) ∙ and-false (major == 1)

  is_other_mode : IsOtherMode due bytes → IsSaid x stage due bytes reasons.BadMode
  is_other_mode (mode, is_due, bytes_are, one, two, three) = record {
    read = bare (frames.Mode mode);
    bytes_are = (refl, bytes_are);
    may = rw is_due (mode_comes (direction_of x.side) mode);
    low = omega arith;
    refused = rw (ne_eqb mode 1 one, ne_eqb mode 2 two, ne_eqb mode 3 three) refl;
  }

  is_other_via : IsOtherVia x due bytes → IsSaid x stage due bytes reasons.EndpointNotFound
  is_other_via (endpoint, via, is_due, side_is, bytes_are, low, other) = record {
    read = with_text frames.Via via;
    bytes_are = bytes_are;
    may = rw is_due (via_comes (direction_of x.side));
    low = low;
    refused =
        ap (λ (s : Side). if serves s via then None else Some reasons.EndpointNotFound) side_is
        ∙ ap (λ (b : Bool). if b then None else Some reasons.EndpointNotFound)
        (unlike endpoint via other);
  }

  is_encoding : IsOtherEncoding due bytes → IsSaid x stage due bytes reasons.BadEncoding
  is_encoding (encoding, is_due, bytes_are, seven, eight) = record {
    read = bare (frames.KnownEncoding encoding);
    bytes_are = (refl, bytes_are);
    may = rw is_due (encoding_comes (direction_of x.side) (frames.KnownEncoding encoding) tt);
    low = omega arith;
    refused = rw (ne_eqb encoding 7 seven, ne_eqb encoding 8 eight) refl;
  }

  is_type : IsOtherType due bytes → IsSaid x stage due bytes reasons.BadEncoding
  is_type (type, is_due, bytes_are, low, plain, session) = record {
    read = with_text frames.ExtensibleEncoding type;
    bytes_are = bytes_are;
    may = rw is_due (encoding_comes (direction_of x.side) frames.ExtensibleEncoding tt);
    low = low;
    refused = rw (
      unlike (content_type Plain) type plain,
      unlike
          (content_type Session) type session,
    )
        refl;
  }

  is_large : IsLargeHead x due bytes → IsSaid x stage due bytes reasons.MessageTooLarge
  is_large (size, spelling, is_due, bytes_are, spelled, above) =
      let test : nat_lt x.limits.payload size ≡ true = grind (arith, nat_tests) in
      record {
        read = bare (frames.SizedEnvelope size);
        bytes_are = (refl, spelling, spelled, bytes_are);
        may = rw is_due (envelope_comes (direction_of x.side) size);
        low = omega arith;
        refused = rw test refl;
      }

  is_large_chunk : IsLargeChunk x due (size_before stage) bytes
      → IsSaid x stage due bytes reasons.MessageTooLarge
  is_large_chunk (size, is_due, spelled, above) =
      let test : nat_lt x.limits.payload (size_before stage + size) ≡ true =
      grind (arith, nat_tests) in
      record {
        read = bare (frames.Chunk size);
        bytes_are = (refl, spelled);
        may = rw is_due (chunk_comes (direction_of x.side) size);
        low = omega arith;
        refused = rw test refl;
      }

  pub shown : (reason : Reason) → Shows x due (size_before stage) bytes reason
      → IsFaulty x due bytes reason ⊎ IsSaid x stage due bytes reason
  shown reasons.BadInt (k, comes, fifth) = inl (faults.BadInt, k + 5, (k, comes, refl, fifth), refl)
  shown reasons.UnknownRecord h = inl (faults.UnknownRecord, 1, (refl, h), refl)
  shown reasons.OutOfOrder (t, h, e) = inl (faults.Unexpected t, 1, (refl, h), e)
  shown reasons.BadVersion h = inr (is_version h)
  shown reasons.BadMode h = inr (is_other_mode h)
  shown reasons.TextTooLong (n, h) = inl (faults.TextTooLong, n, h, refl)
  shown reasons.ContentTypeTooLong (n, h) = inl (faults.TypeTooLong, n, h, refl)
  shown reasons.TextNotUtf8 (n, h) = inl (faults.TextNotUtf8, n, h, refl)
  shown reasons.EndpointNotFound h = inr (is_other_via h)
  shown reasons.BadEncoding (inl h) = inr (is_encoding h)
  shown reasons.BadEncoding (inr h) = inr (is_type h)
  shown reasons.UpgradeRefused (t, h, e) = inl (faults.Unexpected t, 1, (refl, h), e)
  shown reasons.MessageTooLarge (inl h) = inr (is_large h)
  shown reasons.MessageTooLarge (inr h) = inr (is_large_chunk h)
  shown _ h = absurd h
