-- Worked streams of an initiator under the usual quotas, by computation: their events, and their
-- offence with its place; what prefixes show, and what pieces are answered with.
use Rattle.std.proofs.Common.{◌≡◌, ℕ, true, List, [], ◌∷◌, ◌++◌, map, length, Some, None, codes}
use Rattle.std.proofs.Common.{Option, refl}
use Rattle.unit_streams.specs.Judging.{Answer, answer, completes, events, goes_on, is_over_at}
use Rattle.unit_streams.specs.Judging.{offends, refusal_at}
use Rattle.nbfx_values.specs.declared.content.Item.TheVariants.{Close, Start}
use Rattle.nbfx_values.specs.declared.refusals.{Offence.Offence, Reason.Reason}
use Rattle.nbfx_values.specs.Measures.{content_of, depth_of}
use Rattle.{nbfx_decoder.specs.Payload.refusal, stream_reader.specs.Judging.offence}
use Rattle.stream_reader.specs.Stream.{accepted, ended, Envelope, message, offence_at, offence_in}
use Rattle.stream_reader.specs.Stream.{opened, peer_fault, stream, StreamEvent}
use Rattle.stream_reader.proofs.OnLiterals.{plain_preamble, preamble, spelled_preamble}
use Rattle.stream_reader.proofs.OnLiterals.{streams_on_literals, usual}
use Rattle.nbfx_values.specs.declared.refusals.Reason.TheVariants as reasons

-- what is shown of an event: of a message its number, the size of its payload, items, nesting,
-- content and strings
data Shown : Type 0 where
  preamble_whole : Shown
  ack_whole : Shown
  envelope_whole : (number size items depth content : ℕ) → List (List ℕ) → Shown
  session_whole : ℕ → Shown
  fault_whole : ℕ → Shown

abbrev shown : StreamEvent → Shown
shown (opened mode kind via) = preamble_whole
shown (message e) =
    envelope_whole e.number e.size (length e.items) (depth_of e.items) (content_of e.items)
    e.strings
shown accepted = ack_whole
shown (ended n) = session_whole n
shown (peer_fault n text) = fault_whole n

-- streams, their events and their offence
abbrev Row : Type 0
Row = List ℕ × List Shown × Option Offence

abbrev AllTell : List Row → Type 0
AllTell rows =
    (map (λ (r : Row). map shown (events (stream usual) r.0)) rows ≡ map (λ (r : Row). r.1) rows)
    × (map (λ (r : Row). offence usual r.0) rows ≡ map (λ (r : Row). r.2) rows)

abbrev in_payload : ℕ → ℕ → Reason → Offence
in_payload number at reason = offence_in number (refusal at reason)

-- of no bytes, with strings and without; a string of a payload is named in the next one
sessions : AllTell (
    ([], [], Some (offence_at 0 reasons.Truncated)) ∷
    (preamble ++ 7 ∷ [], preamble_whole ∷ session_whole 24 ∷ [], None) ∷
    (plain_preamble ++ 7 ∷ [], preamble_whole ∷ session_whole 24 ∷ [], None) ∷
    (spelled_preamble ++ 7 ∷ [], preamble_whole ∷ session_whole 54 ∷ [], None) ∷ (
      plain_preamble ++ 6 ∷ 7 ∷ 64 ∷ 1 ∷ 120 ∷ 153 ∷ 2 ∷ 104 ∷ 105 ∷ 7 ∷ [],
      preamble_whole ∷ envelope_whole 0 7 3 1 3 [] ∷ session_whole 33 ∷ [],
      None,
    ) ∷ (
      preamble ++ 6 ∷ 6 ∷ 2 ∷ 1 ∷ 120 ∷ 66 ∷ 1 ∷ 1 ∷ 6 ∷ 7 ∷ 2 ∷ 1 ∷ 121 ∷ 66 ∷ 1 ∷ 66 ∷ 3 ∷ [],
      preamble_whole ∷ envelope_whole 0 6 2 1 1 (codes "x" ∷ []) ∷ [],
      Some (in_payload 1 7 reasons.DocumentCut),
    ) ∷
    [])
unfolding streams_on_literals
sessions = (refl, refl)

-- a first envelope that is refused, or cut off
abbrev first : List ℕ → Offence → Row
first bytes o = (preamble ++ bytes, preamble_whole ∷ [], Some o)

first_envelopes : AllTell (
    first (6 ∷ 16 ∷ 0 ∷ 64 ∷ 1 ∷ 120 ∷ 127 ∷ []) (in_payload 0 4 reasons.UnknownNode) ∷
    first (6 ∷ 16 ∷ 0 ∷ 64 ∷ 1 ∷ 120 ∷ []) (offence_at 23 reasons.Truncated) ∷
    first (6 ∷ 0 ∷ []) (in_payload 0 0 reasons.DocumentCut) ∷
    first (6 ∷ 129 ∷ 128 ∷ 4 ∷ []) (offence_at 23 reasons.MessageTooLarge) ∷
    [])
unfolding streams_on_literals
first_envelopes = (refl, refl)

-- an addressed envelope, and the same again without its string
unfoldable document : List ℕ
document =
    86 ∷ 2 ∷ 11 ∷ 1 ∷ 115 ∷ 4 ∷ 11 ∷ 1 ∷ 97 ∷ 6 ∷ 86 ∷ 8 ∷ 68 ∷ 10 ∷ 30 ∷ 0 ∷ 130 ∷ 153 ∷ 8
    ∷ codes "urn:echo"
    ++ 68 ∷ 26 ∷ 173 ∷ 51 ∷ 34 ∷ 17 ∷ 0 ∷ 85 ∷ 68 ∷ 119 ∷ 102 ∷ 136 ∷ 153 ∷ 170 ∷ 187 ∷ 204
    ∷ 221 ∷ 238 ∷ 255 ∷ 1 ∷ 86 ∷ 14 ∷ 66 ∷ 1 ∷ 153 ∷ 2 ∷ 104 ∷ 105 ∷ 1 ∷ 1 ∷ []

unfoldable first_envelope : List ℕ
first_envelope = 6 ∷ 60 ∷ 2 ∷ 1 ∷ 120 ∷ document

unfoldable second_envelope : List ℕ
second_envelope = 6 ∷ 58 ∷ 0 ∷ document

abbrev call : ℕ → ℕ → Shown
call number size = envelope_whole number size 18 3 165 (codes "x" ∷ [])

calls : AllTell ((
  preamble ++ first_envelope ++ 7 ∷ [],
  preamble_whole ∷ call 0 60 ∷ session_whole 86 ∷ [],
  None,
) ∷ (
  preamble ++ first_envelope ++ second_envelope ++ 7 ∷ [],
  preamble_whole ∷ call 0 60 ∷ call 1 58 ∷ session_whole 146 ∷ [],
  None,
) ∷
    [])
unfolding streams_on_literals document first_envelope second_envelope
calls = (refl, refl)

-- prefixes, and what refuses them: in a record, in a payload, and nothing
abbrev Prefix : Type 0
Prefix = List ℕ × Option Offence

abbrev AreJudged : List Prefix → Type 0
AreJudged rows = map (λ (r : Prefix). refusal_at (stream usual) r.0) rows
    ≡ map (λ (r : Prefix). r.1) rows

prefixes : AreJudged (
    (0 ∷ 1 ∷ 0 ∷ 1 ∷ 4 ∷ [], Some (offence_at 3 reasons.BadMode)) ∷
    (preamble ++ 6 ∷ 16 ∷ 0 ∷ 127 ∷ [], Some (in_payload 0 1 reasons.UnknownNode)) ∷
    (preamble ++ 6 ∷ 5 ∷ 0 ∷ 64 ∷ 1 ∷ [], None) ∷
    [])
unfolding streams_on_literals
prefixes = refl

-- and one that ends the session
over : is_over_at (stream usual) (preamble ++ 7 ∷ []) ≡ true
unfolding streams_on_literals
over = refl

-- the envelope of an element
unfoldable of_element : Envelope
of_element = record {
  number = 0;
  size = 5;
  items = Start [] (codes "x") ∷ Close ∷ [];
  strings = [];
}

-- what was read behind a preamble, a piece, and its answer
abbrev Piece : Type 0
Piece = List ℕ × List ℕ × Answer StreamEvent Offence

abbrev AreAnswered : List Piece → Type 0
AreAnswered rows = map (λ (r : Piece). answer (stream usual) (preamble ++ r.0) r.1) rows
    ≡ map (λ (r : Piece). r.2) rows

-- an event at the byte that completes it, nothing, a refusal at its byte in a record and in a
-- payload, at the last byte of a payload and at no byte of it, and what follows the end
pieces : AreAnswered (
    (6 ∷ 5 ∷ 0 ∷ [], 64 ∷ 1 ∷ 120 ∷ 1 ∷ 7 ∷ [], completes 4 (message of_element)) ∷
    ([], 6 ∷ 5 ∷ 0 ∷ 64 ∷ [], goes_on) ∷
    ([], 6 ∷ 129 ∷ 128 ∷ 4 ∷ 170 ∷ [], offends 4 (offence_at 23 reasons.MessageTooLarge)) ∷
    (6 ∷ 9 ∷ 0 ∷ [], 64 ∷ 1 ∷ 120 ∷ 127 ∷ 1 ∷ [], offends 4 (in_payload 0 4 reasons.UnknownNode)) ∷
    (6 ∷ 4 ∷ 0 ∷ [], 64 ∷ 1 ∷ 120 ∷ 1 ∷ [], offends 3 (in_payload 0 4 reasons.DocumentCut)) ∷
    ([], 6 ∷ 0 ∷ 7 ∷ [], offends 2 (in_payload 0 0 reasons.DocumentCut)) ∷
    (7 ∷ [], 13 ∷ 13 ∷ [], goes_on) ∷
    [])
unfolding streams_on_literals of_element
pieces = refl
