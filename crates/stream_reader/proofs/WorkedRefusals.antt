-- A worked stream for each refusal of a record, and of a stream's length and end, by computation:
-- its
-- place, and the byte that shows it.
use Rattle.std.proofs.Common.{◌≡◌, ℕ, ◌^◌, List, [], ◌∷◌, ◌++◌, length, Some, None, codes, refl}
use Rattle.{unit_streams.specs.Judging.events, nbfx_values.specs.declared.refusals.Reason.Reason}
use Rattle.stream_reader.specs.{Judging.offence, Stream.offence_at, Stream.Settings, Stream.stream}
use Rattle.stream_reader.proofs.OnLiterals.{element, of_session, preamble, set_to}
use Rattle.stream_reader.proofs.OnLiterals.{streams_on_literals, usual, version, with_encoding}
use Rattle.stream_reader.proofs.OnLiterals.{with_mode, with_via}
use Rattle.nbfx_values.specs.declared.refusals.Reason.TheVariants as reasons

-- the offence of a stream is that of a record at this offset
abbrev Refuses : Settings → List ℕ → ℕ → Reason → Type 0
Refuses x b from reason = offence x b ≡ Some (offence_at from reason)

-- of one behind a preamble of 23 bytes
abbrev RefusesBehind : Settings → List ℕ → ℕ → Reason → Type 0
RefusesBehind x b from reason = Refuses x (preamble ++ b) from reason

-- the same, after so many events, of which the preamble is one
abbrev RefusesAfter : ℕ → Settings → List ℕ → ℕ → Reason → Type 0
RefusesAfter n x b from reason = (length (events (stream x) (preamble ++ b)) ≡ n) × RefusesBehind x
    b from reason

-- the session of these bytes behind a preamble is closed
abbrev ClosesAfter : ℕ → Settings → List ℕ → Type 0
ClosesAfter n x b = (length (events (stream x) (preamble ++ b)) ≡ n)
    × (offence x (preamble ++ b) ≡ None)

-- a payload of at most five bytes
abbrev of_five : Settings
of_five = set_to 5 2048 (2 ^ 48)

-- a Via of at most 16 bytes
abbrev of_short_via : Settings
of_short_via = set_to 65536 16 (2 ^ 48)

-- an envelope of seven bytes
abbrev envelope : List ℕ
envelope = 6 ∷ 5 ∷ element

-- a type byte above 0C, at each stage
unknown_types :
    Refuses usual (13 ∷ []) 0 reasons.UnknownRecord
    × Refuses usual (version ++ 13 ∷ []) 3 reasons.UnknownRecord
    × Refuses usual (with_mode ++ 255 ∷ []) 5 reasons.UnknownRecord
    × Refuses usual (with_via ++ 13 ∷ []) 20 reasons.UnknownRecord
    × Refuses usual (with_encoding 8 ++ 128 ∷ []) 22 reasons.UnknownRecord
    × RefusesBehind usual (13 ∷ []) 23 reasons.UnknownRecord
unfolding streams_on_literals
unknown_types = (refl, refl, refl, refl, refl, refl)

-- a known type that may not come, at each stage
types_out_of_order :
    Refuses usual (7 ∷ []) 0 reasons.OutOfOrder
    × Refuses usual (1 ∷ 2 ∷ []) 0 reasons.OutOfOrder
    × Refuses usual (version ++ 0 ∷ 1 ∷ 0 ∷ []) 3 reasons.OutOfOrder
    × Refuses usual (with_mode ++ 1 ∷ 2 ∷ []) 5 reasons.OutOfOrder
    × Refuses usual (with_via ++ 2 ∷ 0 ∷ []) 20 reasons.OutOfOrder
    × Refuses usual (with_encoding 8 ++ 6 ∷ 0 ∷ []) 22 reasons.OutOfOrder
    × RefusesBehind usual (12 ∷ []) 23 reasons.OutOfOrder
    × RefusesBehind usual (5 ∷ []) 23 reasons.OutOfOrder
    × RefusesBehind usual (8 ∷ []) 23 reasons.OutOfOrder
    × RefusesBehind usual (11 ∷ []) 23 reasons.OutOfOrder
    × RefusesAfter 2 usual (envelope ++ 12 ∷ []) 30 reasons.OutOfOrder
unfolding streams_on_literals
types_out_of_order = (refl, refl, refl, refl, refl, refl, refl, refl, refl, refl, (refl, refl))

-- an upgrade, and its answer
types_without_a_record :
    Refuses usual (with_encoding 8 ++ 9 ∷ []) 22 reasons.UpgradeRefused
    × Refuses usual (with_encoding 8 ++ 10 ∷ []) 22 reasons.OutOfOrder
unfolding streams_on_literals
types_without_a_record = (refl, refl)

-- a version other than 1.0, at the byte that makes it whole
other_versions :
    Refuses usual (0 ∷ 1 ∷ []) 0 reasons.Truncated
    × Refuses usual (0 ∷ 1 ∷ 1 ∷ []) 0 reasons.BadVersion
    × Refuses usual (0 ∷ 2 ∷ []) 0 reasons.Truncated
    × Refuses usual (0 ∷ 2 ∷ 0 ∷ []) 0 reasons.BadVersion
unfolding streams_on_literals
other_versions = (refl, refl, refl, refl)

-- a mode other than singleton, duplex and simplex
other_modes :
    Refuses usual (version ++ 1 ∷ []) 3 reasons.Truncated
    × Refuses usual (version ++ 1 ∷ 4 ∷ []) 3 reasons.BadMode
    × Refuses usual (version ++ 1 ∷ 0 ∷ []) 3 reasons.BadMode
    × Refuses usual (version ++ 1 ∷ 3 ∷ []) 5 reasons.Truncated
unfolding streams_on_literals
other_modes = (refl, refl, refl, refl)

-- an encoding other than 7 and 8
other_encodings :
    Refuses usual (with_via ++ 3 ∷ []) 20 reasons.Truncated
    × Refuses usual (with_encoding 6) 20 reasons.BadEncoding
    × Refuses usual (with_encoding 9) 20 reasons.BadEncoding
    × Refuses usual (with_encoding 7) 22 reasons.Truncated
    × Refuses usual (with_encoding 8) 22 reasons.Truncated
unfolding streams_on_literals
other_encodings = (refl, refl, refl, refl, refl)

-- a content type of another encoding, one above 256 bytes at its length, whatever the quota on
-- Vias, one that isn't UTF-8, and one where none is due
other_types :
    Refuses usual (with_via ++ 4 ∷ []) 20 reasons.Truncated
    × Refuses usual (with_via ++ 4 ∷ 28 ∷ codes "application/soap+msbin1+gzip") 20
    reasons.BadEncoding
    × Refuses usual (with_via ++ 4 ∷ 0 ∷ []) 20 reasons.BadEncoding
    × Refuses usual (with_via ++ 4 ∷ 23 ∷ codes "application/soap+msbin1") 45 reasons.Truncated
    × Refuses of_short_via (with_via ++ 4 ∷ 30 ∷ codes "application/soap+msbinsession1") 52
    reasons.Truncated
    × Refuses usual (with_via ++ 4 ∷ 129 ∷ 2 ∷ []) 20 reasons.ContentTypeTooLong
    × Refuses usual (with_via ++ 4 ∷ 128 ∷ 2 ∷ []) 20 reasons.Truncated
    × Refuses usual (with_via ++ 4 ∷ 1 ∷ 255 ∷ []) 20 reasons.TextNotUtf8
    × Refuses usual (with_mode ++ 4 ∷ []) 5 reasons.OutOfOrder
    × Refuses usual (with_encoding 8 ++ 4 ∷ []) 22 reasons.OutOfOrder
unfolding streams_on_literals
other_types = (refl, refl, refl, refl, refl, refl, refl, refl, refl, refl)

-- a Via above its quota, at its length
long_vias :
    Refuses of_short_via (with_mode ++ 2 ∷ 17 ∷ []) 5 reasons.TextTooLong
    × Refuses of_short_via (with_mode ++ 2 ∷ 144 ∷ 0 ∷ []) 5 reasons.Truncated
    × Refuses of_short_via (with_mode ++ 2 ∷ 145 ∷ []) 5 reasons.Truncated
    × Refuses of_short_via (with_mode ++ 2 ∷ 145 ∷ 0 ∷ []) 5 reasons.TextTooLong
unfolding streams_on_literals
long_vias = (refl, refl, refl, refl)

-- a Via that is not UTF-8, at its last byte
vias_not_utf8 :
    Refuses usual (with_mode ++ 2 ∷ 2 ∷ 255 ∷ []) 5 reasons.Truncated
    × Refuses usual (with_mode ++ 2 ∷ 2 ∷ 255 ∷ 97 ∷ []) 5 reasons.TextNotUtf8
    × Refuses usual (with_mode ++ 2 ∷ 2 ∷ 195 ∷ 40 ∷ []) 5 reasons.TextNotUtf8
    × Refuses usual (with_mode ++ 2 ∷ 1 ∷ 195 ∷ []) 5 reasons.TextNotUtf8
    × Refuses usual (with_mode ++ 2 ∷ 2 ∷ 195 ∷ 169 ∷ []) 9 reasons.Truncated
unfolding streams_on_literals
vias_not_utf8 = (refl, refl, refl, refl, refl)

-- an integer whose fifth byte is above 07
bad_integers :
    Refuses usual (with_mode ++ 2 ∷ 255 ∷ 255 ∷ 255 ∷ 255 ∷ []) 5 reasons.Truncated
    × Refuses usual (with_mode ++ 2 ∷ 255 ∷ 255 ∷ 255 ∷ 255 ∷ 8 ∷ []) 5 reasons.BadInt
    × Refuses usual (with_mode ++ 2 ∷ 128 ∷ 128 ∷ 128 ∷ 128 ∷ 8 ∷ []) 5 reasons.BadInt
    × RefusesBehind usual (6 ∷ 255 ∷ 255 ∷ 255 ∷ 255 ∷ []) 23 reasons.Truncated
    × RefusesBehind usual (6 ∷ 255 ∷ 255 ∷ 255 ∷ 255 ∷ 8 ∷ []) 23 reasons.BadInt
    × RefusesBehind usual (6 ∷ 128 ∷ 128 ∷ 128 ∷ 128 ∷ 128 ∷ []) 23 reasons.BadInt
    × RefusesBehind usual (6 ∷ 255 ∷ 255 ∷ 255 ∷ 255 ∷ 7 ∷ []) 23 reasons.MessageTooLarge
unfolding streams_on_literals
bad_integers = (refl, refl, refl, refl, refl, refl, refl)

-- an envelope above the payload quota, at its size; one of the quota is read
too_large :
    RefusesBehind of_five (6 ∷ 6 ∷ []) 23 reasons.MessageTooLarge
    × RefusesBehind of_five (6 ∷ 134 ∷ []) 23 reasons.Truncated
    × RefusesBehind of_five (6 ∷ 134 ∷ 0 ∷ []) 23 reasons.MessageTooLarge
    × RefusesAfter 2 of_five (envelope ++ 6 ∷ 6 ∷ []) 30 reasons.MessageTooLarge
    × ClosesAfter 3 of_five (envelope ++ 7 ∷ [])
unfolding streams_on_literals
too_large = (refl, refl, refl, (refl, refl), (refl, refl))

-- the input ends: within a record or an envelope, at its first byte; else at its length
truncated :
    Refuses usual version 3 reasons.Truncated
    × Refuses usual (with_mode ++ 2 ∷ []) 5 reasons.Truncated
    × Refuses usual (with_mode ++ 2 ∷ 13 ∷ 110 ∷ 101 ∷ 116 ∷ []) 5 reasons.Truncated
    × Refuses usual with_via 20 reasons.Truncated
    × Refuses usual (with_encoding 8) 22 reasons.Truncated
    × RefusesBehind usual [] 23 reasons.Truncated
    × RefusesBehind usual (6 ∷ []) 23 reasons.Truncated
    × RefusesBehind usual (6 ∷ 129 ∷ []) 23 reasons.Truncated
    × RefusesBehind usual (6 ∷ 5 ∷ []) 23 reasons.Truncated
    × RefusesAfter 1 usual (6 ∷ 5 ∷ 0 ∷ 64 ∷ 1 ∷ 120 ∷ []) 23 reasons.Truncated
    × RefusesAfter 2 usual envelope 30 reasons.Truncated
    × RefusesAfter 2 usual (envelope ++ 6 ∷ 5 ∷ 0 ∷ []) 30 reasons.Truncated
unfolding streams_on_literals
truncated = (
  refl,
  refl,
  refl,
  refl,
  refl,
  refl,
  refl,
  refl,
  refl,
  (refl, refl),
  (refl, refl),
  (refl, refl),
)

-- the session quota is read before the end: places as above
quota_reached :
    Refuses (of_session 0) [] 0 reasons.SessionTooLong
    × Refuses (of_session 2) version 0 reasons.SessionTooLong
    × Refuses (of_session 10) (with_encoding 8) 5 reasons.SessionTooLong
    × Refuses (of_session 22) preamble 22 reasons.SessionTooLong
    × RefusesBehind (of_session 26) (6 ∷ 5 ∷ 0 ∷ []) 23 reasons.SessionTooLong
    × RefusesAfter 1 (of_session 28) (envelope ++ 7 ∷ []) 23 reasons.SessionTooLong
    × RefusesAfter 2 (of_session 30) (envelope ++ 7 ∷ []) 30 reasons.SessionTooLong
    × ClosesAfter 3 (of_session 31) (envelope ++ 7 ∷ [])
unfolding streams_on_literals
quota_reached = (refl, refl, refl, refl, refl, (refl, refl), (refl, refl), (refl, refl))

-- a refusal of a record goes before that of the session's length, and so does an event
unit_first :
    Refuses (of_session 1) (13 ∷ []) 0 reasons.UnknownRecord
    × Refuses (of_session 4) (version ++ 13 ∷ []) 3 reasons.UnknownRecord
    × RefusesAfter 1 (of_session 23) [] 23 reasons.SessionTooLong
    × RefusesAfter 1 (of_session 27) (6 ∷ 129 ∷ 128 ∷ 4 ∷ []) 23 reasons.MessageTooLarge
    × ClosesAfter 2 (of_session 24) (7 ∷ [])
    × ClosesAfter 2 (of_session 24) (7 ∷ 13 ∷ [])
unfolding streams_on_literals
unit_first = (refl, refl, (refl, refl), (refl, refl), (refl, refl), (refl, refl))
