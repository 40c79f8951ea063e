-- A worked stream for each refusal in a payload, by computation: the envelope's number, the offset
-- in
-- its payload, and the byte that shows it. Behind a preamble of 23 bytes stands an envelope of nine
-- that brings a string.
use Rattle.std.proofs.Common.{◌≡◌, ℕ, ◌^◌, List, [], ◌∷◌, ◌++◌, map, Some, None, codes, refl}
use Rattle.{unit_streams.specs.Judging.events, nbfx_values.specs.declared.refusals.Reason.Reason}
use Rattle.nbfx_values.specs.declared.content.Item.{Item, TheVariants.Close, TheVariants.Start}
use Rattle.{nbfx_decoder.specs.Payload.refusal, stream_reader.proofs.OnLiterals.streams_on_literals}
use Rattle.stream_reader.specs.{Judging.offence, Stream.StreamEvent}
use Rattle.stream_reader.specs.Stream.{message, offence_at, offence_in, Settings, stream}
use Rattle.stream_reader.proofs.OnLiterals.{narrow, plain_preamble, preamble, set_to}
use Rattle.nbfx_values.specs.declared.refusals.Reason.TheVariants as reasons

-- under quotas that are soon passed
abbrev soon : Settings
soon = narrow (2 ^ 48)

-- it carries the string "a"
abbrev first : List ℕ
first = 6 ∷ 7 ∷ 2 ∷ 1 ∷ 97 ∷ 64 ∷ 1 ∷ 120 ∷ 1 ∷ []

-- a second envelope, of so many bytes, has these of its payload
abbrev second : ℕ → List ℕ → List ℕ
second size payload = preamble ++ first ++ 6 ∷ size ∷ payload

-- they don't show anything yet
abbrev GoesOn : ℕ → List ℕ → Type 0
GoesOn size payload = offence soon (second size payload) ≡ Some (offence_at 32 reasons.Truncated)

-- their last one shows this
abbrev Refuses : ℕ → List ℕ → ℕ → Reason → Type 0
Refuses size payload at reason =
    offence soon (second size payload) ≡ Some (offence_in 1 (refusal at reason))

-- an integer whose fifth byte is above 07: of the table, of a length in it, of a length in a record
bad_int :
    GoesOn 9 (255 ∷ 255 ∷ 255 ∷ 255 ∷ [])
    × Refuses 9 (255 ∷ 255 ∷ 255 ∷ 255 ∷ 8 ∷ []) 0 reasons.BadInt
    × Refuses 9 (5 ∷ 255 ∷ 255 ∷ 255 ∷ 255 ∷ 8 ∷ []) 1 reasons.BadInt
    × Refuses 9 (0 ∷ 64 ∷ 255 ∷ 255 ∷ 255 ∷ 255 ∷ 8 ∷ []) 1 reasons.BadInt
unfolding streams_on_literals
bad_int = (refl, refl, refl, refl)

-- a string that passes the table's end; before what strings may cost, and behind the integer
table_cut :
    GoesOn 9 (3 ∷ [])
    × Refuses 9 (3 ∷ 5 ∷ []) 1 reasons.TableCut
    × Refuses 9 (3 ∷ 9 ∷ []) 1 reasons.TableCut
    × Refuses 9 (4 ∷ 255 ∷ 255 ∷ 255 ∷ 255 ∷ []) 1 reasons.TableCut
unfolding streams_on_literals
table_cut = (refl, refl, refl, refl)

-- a text that isn't UTF-8: a string, a text; before a value that is none
bad_utf8 :
    GoesOn 9 (2 ∷ 1 ∷ [])
    × Refuses 9 (2 ∷ 1 ∷ 255 ∷ []) 1 reasons.BadUtf8
    × GoesOn 9 (0 ∷ 64 ∷ 1 ∷ 120 ∷ 153 ∷ 1 ∷ [])
    × Refuses 9 (0 ∷ 64 ∷ 1 ∷ 120 ∷ 153 ∷ 1 ∷ 255 ∷ []) 4 reasons.BadUtf8
    × Refuses 10 (0 ∷ 64 ∷ 1 ∷ 120 ∷ 4 ∷ 1 ∷ 255 ∷ 180 ∷ 2 ∷ []) 4 reasons.BadUtf8
unfolding streams_on_literals
bad_utf8 = (refl, refl, refl, refl, refl)

-- strings that cost more than eight bytes, the first envelope's among them; before their text
dictionary_full :
    GoesOn 20 (10 ∷ 7 ∷ 255 ∷ [])
    × GoesOn 20 (10 ∷ [])
    × Refuses 20 (10 ∷ 8 ∷ []) 1 reasons.DictionaryFull
unfolding streams_on_literals
dictionary_full = (refl, refl, refl)

-- a byte with which no record begins, though it is the payload's last
unknown_node :
    GoesOn 9 (0 ∷ 64 ∷ 1 ∷ 120 ∷ [])
    × Refuses 9 (0 ∷ 64 ∷ 1 ∷ 120 ∷ 127 ∷ []) 4 reasons.UnknownNode
    × Refuses 5 (0 ∷ 64 ∷ 1 ∷ 120 ∷ 127 ∷ []) 4 reasons.UnknownNode
    × Refuses 9 (0 ∷ 127 ∷ []) 1 reasons.UnknownNode
unfolding streams_on_literals
unknown_node = (refl, refl, refl, refl)

-- an attribute behind a text, and a text before the root
node_out_of_place :
    GoesOn 12 (0 ∷ 64 ∷ 1 ∷ 120 ∷ 152 ∷ 1 ∷ 97 ∷ [])
    × Refuses 12 (0 ∷ 64 ∷ 1 ∷ 120 ∷ 152 ∷ 1 ∷ 97 ∷ 6 ∷ []) 7 reasons.NodeOutOfPlace
    × Refuses 12 (0 ∷ 152 ∷ []) 1 reasons.NodeOutOfPlace
unfolding streams_on_literals
node_out_of_place = (refl, refl, refl)

-- an identifier that names no string, of the session's strings and of the static ones; behind a
-- value
-- that is none, and before content
unknown_string :
    GoesOn 9 (0 ∷ 66 ∷ [])
    × Refuses 9 (0 ∷ 66 ∷ 3 ∷ []) 1 reasons.UnknownString
    × GoesOn 9 (0 ∷ 66 ∷ 1 ∷ [])
    × GoesOn 9 (2 ∷ 1 ∷ 98 ∷ 66 ∷ 3 ∷ [])
    × Refuses 9 (0 ∷ 66 ∷ 4 ∷ []) 1 reasons.UnknownString
    × Refuses 20 (0 ∷ 66 ∷ 2 ∷ 66 ∷ 2 ∷ 6 ∷ 124 ∷ 152 ∷ 5 ∷ 97 ∷ 97 ∷ 97 ∷ 97 ∷ 97 ∷ []) 5
    reasons.UnknownString
unfolding streams_on_literals
unknown_string = (refl, refl, refl, refl, refl, refl)

-- a content that is no value: a truth, a length of UTF-16; before an identifier
bad_value :
    GoesOn 9 (0 ∷ 64 ∷ 1 ∷ 120 ∷ 181 ∷ [])
    × Refuses 9 (0 ∷ 64 ∷ 1 ∷ 120 ∷ 181 ∷ 2 ∷ []) 4 reasons.BadValue
    × Refuses 12 (0 ∷ 64 ∷ 1 ∷ 120 ∷ 188 ∷ 26 ∷ 124 ∷ []) 4 reasons.BadValue
unfolding streams_on_literals
bad_value = (refl, refl, refl)

-- an array of no values, and of no kind of value
bad_array :
    GoesOn 20 (0 ∷ 64 ∷ 1 ∷ 120 ∷ 3 ∷ 64 ∷ 1 ∷ 97 ∷ 1 ∷ 141 ∷ [])
    × Refuses 20 (0 ∷ 64 ∷ 1 ∷ 120 ∷ 3 ∷ 64 ∷ 1 ∷ 97 ∷ 1 ∷ 141 ∷ 0 ∷ []) 4 reasons.BadArray
    × Refuses 20 (0 ∷ 64 ∷ 1 ∷ 120 ∷ 3 ∷ 64 ∷ 1 ∷ 97 ∷ 1 ∷ 137 ∷ []) 4 reasons.BadArray
unfolding streams_on_literals
bad_array = (refl, refl, refl)

-- a fifth element in four, at its type byte
too_deep :
    GoesOn 20 (0 ∷ 66 ∷ 1 ∷ 66 ∷ 1 ∷ 66 ∷ 1 ∷ 66 ∷ 1 ∷ [])
    × Refuses 20 (0 ∷ 66 ∷ 1 ∷ 66 ∷ 1 ∷ 66 ∷ 1 ∷ 66 ∷ 1 ∷ 66 ∷ []) 9 reasons.TooDeep
unfolding streams_on_literals
too_deep = (refl, refl)

-- more than twenty bytes of content; behind a text that isn't UTF-8, and before the payload's end
too_much_content :
    GoesOn 20 (0 ∷ 66 ∷ 2 ∷ 66 ∷ 2 ∷ 66 ∷ [])
    × Refuses 20 (0 ∷ 66 ∷ 2 ∷ 66 ∷ 2 ∷ 66 ∷ 2 ∷ []) 5 reasons.TooMuchContent
    × Refuses 7 (0 ∷ 66 ∷ 2 ∷ 66 ∷ 2 ∷ 66 ∷ 2 ∷ []) 5 reasons.TooMuchContent
    × Refuses 20 (0 ∷ 66 ∷ 2 ∷ 66 ∷ 2 ∷ 152 ∷ 5 ∷ 97 ∷ 97 ∷ 97 ∷ 97 ∷ 255 ∷ []) 5 reasons.BadUtf8
unfolding streams_on_literals
too_much_content = (refl, refl, refl, refl)

-- a payload that ends before its root does: behind a whole record, within one, within the table,
-- and
-- before its first byte
document_cut :
    GoesOn 4 (0 ∷ 64 ∷ 1 ∷ [])
    × Refuses 4 (0 ∷ 64 ∷ 1 ∷ 120 ∷ []) 4 reasons.DocumentCut
    × Refuses 3 (0 ∷ 64 ∷ 1 ∷ []) 1 reasons.DocumentCut
    × Refuses 1 (0 ∷ []) 1 reasons.DocumentCut
    × Refuses 3 (5 ∷ 1 ∷ 97 ∷ []) 3 reasons.DocumentCut
    × Refuses 0 [] 0 reasons.DocumentCut
unfolding streams_on_literals
document_cut = (refl, refl, refl, refl, refl, refl)

-- a byte behind the root's end, whatever it is
trailing_bytes :
    GoesOn 6 (0 ∷ 64 ∷ 1 ∷ 120 ∷ 1 ∷ [])
    × Refuses 6 (0 ∷ 64 ∷ 1 ∷ 120 ∷ 1 ∷ 1 ∷ []) 5 reasons.TrailingBytes
    × Refuses 6 (0 ∷ 64 ∷ 1 ∷ 120 ∷ 1 ∷ 127 ∷ []) 5 reasons.TrailingBytes
unfolding streams_on_literals
trailing_bytes = (refl, refl, refl)

-- a refusal in a payload goes before that of the session's length, also at the payload's last byte
payload_first :
    (offence (narrow 36) (second 9 (0 ∷ 127 ∷ []))
    ≡ Some (offence_in 1 (refusal 1 reasons.UnknownNode)))
    × (offence (narrow 38) (second 4 (0 ∷ 64 ∷ 1 ∷ 120 ∷ []))
    ≡ Some (offence_in 1 (refusal 4 reasons.DocumentCut)))
    × (offence (narrow 35) (second 9 (0 ∷ 127 ∷ [])) ≡ Some (offence_at 32 reasons.SessionTooLong))
    × (offence (narrow 34) (second 0 []) ≡ Some (offence_in 1 (refusal 0 reasons.DocumentCut)))
    × (offence (set_to 4 2048 (2 ^ 48)) (preamble ++ 6 ∷ 5 ∷ 127 ∷ [])
    ≡ Some (offence_at 23 reasons.MessageTooLarge))
unfolding streams_on_literals
payload_first = (refl, refl, refl, refl, refl)

-- a document and the strings behind it
data Shown : Type 0 where
  nothing : Shown
  document : ℕ → List Item → List (List ℕ) → Shown

abbrev shown : StreamEvent → Shown
shown (message e) = document e.number e.items e.strings
shown _ = nothing

abbrev Brings : List ℕ → List Shown → Type 0
Brings bytes told = (map shown (events (stream soon) bytes) ≡ told) × (offence soon bytes ≡ None)

-- an element of this name
abbrev named : List ℕ → List Item
named name = Start [] name ∷ Close ∷ []

-- a string of the first payload is named in the second, which brings one more, and that in the
-- third
strings_stay : Brings (second 6 (2 ∷ 1 ∷ 98 ∷ 66 ∷ 1 ∷ 1 ∷ []) ++ 6 ∷ 4 ∷ 0 ∷ 66 ∷ 3 ∷ 1 ∷ 7 ∷ [])
    (nothing
    ∷ document 0 (named (codes "x")) (codes "a" ∷ [])
    ∷ document 1 (named (codes "a")) (codes "a" ∷ codes "b" ∷ [])
    ∷ document 2 (named (codes "b")) (codes "a" ∷ codes "b" ∷ [])
    ∷ nothing ∷ [])
unfolding streams_on_literals
strings_stay = (refl, refl)

-- payloads under encoding 7 have no table, and those under 8 have one
plain_and_session :
    Brings (plain_preamble ++ 6 ∷ 4 ∷ 64 ∷ 1 ∷ 120 ∷ 1 ∷ 7 ∷ [])
    (nothing ∷ document 0 (named (codes "x")) [] ∷ nothing ∷ [])
    × Brings (preamble ++ 6 ∷ 5 ∷ 0 ∷ 64 ∷ 1 ∷ 120 ∷ 1 ∷ 7 ∷ [])
    (nothing ∷ document 0 (named (codes "x")) [] ∷ nothing ∷ [])
    × (offence soon (preamble ++ 6 ∷ 4 ∷ 64 ∷ 1 ∷ 120 ∷ 1 ∷ 7 ∷ [])
    ≡ Some (offence_in 0 (refusal 3 reasons.DocumentCut)))
    × (offence soon (plain_preamble ++ 6 ∷ 5 ∷ 0 ∷ 64 ∷ 1 ∷ 120 ∷ 1 ∷ 7 ∷ [])
    ≡ Some (offence_in 0 (refusal 0 reasons.UnknownNode)))
unfolding streams_on_literals
plain_and_session = ((refl, refl), (refl, refl), refl, refl)
