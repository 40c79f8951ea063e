-- What is owed for literal streams, by computation alone.
use Rattle.std.proofs.Common.{◌≡◌, ℕ, List, [], ◌∷◌, ◌++◌, map, Some, None, codes, Option, refl}
use Rattle.std.specs.{Prelude.⊤, Char.encode_utf8}
use Rattle.unit_streams.specs.Tellers.{report, state_behind, told_along}
use Rattle.multibyte_ints.specs.{Integer.shortest, Integer.shortest_within, Text.string_bytes_of}
use Rattle.nbfx_values.specs.Limits.{Limits, usual_limits}
use Rattle.stream_reader.proofs.OnLiterals.{streams_on_literals}
use Rattle.soap_envelope.proofs.OnLiterals.{envelopes_on_literals}
use Rattle.action_dispatch.specs.{Answers.Serves, Services.echoed}
use Rattle.duplex_server.specs.ServerStream.{answering_within, owed}

unfoldable owed_on_literals : ⊤
unfolding streams_on_literals encode_utf8 shortest shortest_within string_bytes_of
    envelopes_on_literals report told_along state_behind
owed_on_literals = tt

-- the endpoint, a stream, and what is owed for it
abbrev Row : Type 0
Row = Option (List ℕ) × List ℕ × List ℕ

-- the first strings of the published dictionary that envelopes need
abbrev published : List (ℕ × List ℕ)
published = (0, codes "mustUnderstand") ∷ (2, codes "Envelope")
    ∷ (4, codes "http://www.w3.org/2003/05/soap-envelope")
    ∷ (6, codes "http://www.w3.org/2005/08/addressing")
    ∷ (8, codes "Header") ∷ (10, codes "Action") ∷ (12, codes "To") ∷ (14, codes "Body")
    ∷ (18, codes "RelatesTo")
    ∷ (20, codes "http://www.w3.org/2005/08/addressing/anonymous")
    ∷ (26, codes "MessageID") ∷ (42, codes "Address") ∷ (44, codes "ReplyTo") ∷ []

abbrev AreOwed : Limits → Serves → List Row → Type 0
AreOwed q serves rows =
    map (λ (r : Row). owed (answering_within serves published q q) r.0 r.1) rows
    ≡ map (λ (r : Row). r.2) rows

-- a preamble of this mode and this encoding
abbrev preamble : ℕ → ℕ → List ℕ
preamble mode encoding =
    0 ∷ 1 ∷ 0 ∷ 1 ∷ mode ∷ 2 ∷ 13 ∷ (codes "net.tcp://h/e" ++ 3 ∷ encoding ∷ 12 ∷ [])

-- a Fault record of so many bytes
abbrev fault : ℕ → List ℕ → List ℕ
fault n word =
    8 ∷ n ∷ (codes "http://schemas.microsoft.com/ws/2006/05/framing/faults/" ++ word)

-- nothing, a session without messages in each mode, a stream that breaks off; bytes after the end
without_messages : AreOwed usual_limits echoed (
    (None, [], []) ∷
    (None, preamble 2 8 ++ 7 ∷ [], 11 ∷ 7 ∷ []) ∷
    (None, preamble 3 8 ++ 7 ∷ [], 11 ∷ 7 ∷ []) ∷
    (None, preamble 2 8, 11 ∷ []) ∷
    (None, preamble 2 8 ++ 7 ∷ 13 ∷ [], 11 ∷ 7 ∷ []) ∷
    [])
unfolding owed_on_literals
without_messages = refl

-- a stream that is refused has the Fault record of its offence, if there is one, and no Ack before
-- the preamble's last byte
refused : AreOwed usual_limits echoed (
    (None, 0 ∷ 1 ∷ 0 ∷ 1 ∷ 4 ∷ [], fault 70 (codes "UnsupportedMode")) ∷
    (Some (codes "net.tcp://h/z"), preamble 2 8, fault 71 (codes "EndpointNotFound")) ∷
    (Some (codes "net.tcp://h/e"), preamble 2 8, 11 ∷ []) ∷ (
      None,
      preamble 2 8 ++ 6 ∷ 0x81 ∷ 0x80 ∷ 4 ∷ [],
      11 ∷ fault 82 (codes "MaxMessageSizeExceededFault"),
    ) ∷
    (None, preamble 2 8 ++ 13 ∷ [], 11 ∷ []) ∷
    [])
unfolding owed_on_literals
refused = refl

-- a request up to the content of its Body, and the same of its echo
abbrev head_with : List ℕ → (relates : ℕ) → List ℕ
head_with action relates =
    0x56 ∷ 0x02 ∷ 0x0B ∷ 0x01 ∷ 0x73 ∷ 0x04 ∷ 0x0B ∷ 0x01 ∷ 0x61 ∷ 0x06 ∷ 0x56 ∷ 0x08 ∷ 0x44 ∷ 0x0A
    ∷ 0x1E ∷ 0x00 ∷ 0x82 ∷ 0x99 ∷ (action ++ 0x44 ∷ relates ∷ 0xAD ∷ 0x33 ∷ 0x22 ∷ 0x11 ∷ 0x00
    ∷ 0x55
    ∷ 0x44 ∷ 0x77 ∷ 0x66 ∷ 0x88 ∷ 0x99 ∷ 0xAA ∷ 0xBB ∷ 0xCC ∷ 0xDD ∷ 0xEE ∷ 0xFF ∷ 0x01 ∷ 0x56
    ∷ 0x0E ∷ [])

abbrev request : List ℕ
request = head_with (8 ∷ codes "urn:echo") 0x1A

abbrev echo : List ℕ
echo = head_with (16 ∷ codes "urn:echoResponse") 0x12

-- an element that holds a text, named by the session's first string or in place
abbrev held : List ℕ → List ℕ
held text = 0x42 ∷ 0x01 ∷ 0x99 ∷ 0x02 ∷ (text ++ 0x01 ∷ 0x01 ∷ [])

abbrev plain : List ℕ
plain = 0x40 ∷ 0x01 ∷ 0x78 ∷ 0x99 ∷ 0x02 ∷ (codes "hi" ++ 0x01 ∷ 0x01 ∷ [])

-- a request, echoed in an envelope of its own, in one chunk, and not at all
one_request : AreOwed usual_limits echoed ((
  None,
  preamble 2 8 ++ 0x06 ∷ 0x3C ∷ 0x02 ∷ 0x01 ∷ 0x78 ∷ (request ++ held (codes "hi") ++ 7 ∷ []),
  11 ∷ 0x06 ∷ 0x44 ∷ 0x02 ∷ 0x01 ∷ 0x78 ∷ (echo ++ held (codes "hi") ++ 7 ∷ []),
) ∷ (
  None,
  preamble 1 7 ++ 0x05 ∷ 0x3A ∷ (request ++ plain ++ 0 ∷ 7 ∷ []),
  11 ∷ 0x05 ∷ 0x42 ∷ (echo ++ plain ++ 0 ∷ 7 ∷ []),
) ∷ (
  None,
  preamble 3 8 ++ 0x06 ∷ 0x3C ∷ 0x02 ∷ 0x01 ∷ 0x78 ∷ (request ++ held (codes "hi") ++ 7 ∷ []),
  11 ∷ 7 ∷ [],
) ∷
    [])
unfolding owed_on_literals
one_request = refl
