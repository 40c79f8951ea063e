-- What is sent of literal documents, and what is reported of literal answers, by computation alone.
use Rattle.std.proofs.Common.{◌≡◌, ℕ, List, [], ◌∷◌, ◌++◌, map, length, pos, None, codes, Option}
use Rattle.{std.proofs.Common.refl, stream_reader.specs.Stream.stream}
use Rattle.std.specs.{Prelude.⊤, Char.encode_utf8, Fmt.digits, List.repeat}
use Rattle.unit_streams.specs.Judging.{history, history_from, offence}
use Rattle.unit_streams.specs.Tellers.{report as report_by, state_behind, told_along}
use Rattle.multibyte_ints.specs.{Integer.shortest, Integer.shortest_within, Text.string_bytes_of}
use Rattle.nbfx_values.specs.declared.{content.Item.Item, refusals.Offence.Offence}
use Rattle.nbfx_values.specs.declared.content.Item.TheVariants.{Attr, Close, Start, Text, Xmlns}
use Rattle.nbfx_values.specs.declared.scalars.Scalar.TheVariants.{Number, Text as TextOf, UniqueId}
use Rattle.nbfx_values.specs.declared.{scalars.Value.TheVariants.One, session.Mode.Mode}
use Rattle.nbfx_values.specs.declared.session.Encoding.{Encoding}
use Rattle.nbfx_values.specs.declared.session.Encoding.TheVariants.{Known}
use Rattle.nbfx_values.specs.declared.session.Kind.{TheVariants.Plain, TheVariants.Session}
use Rattle.nbfx_values.specs.declared.session.Mode.TheVariants.{Duplex, Simplex, Singleton}
use Rattle.nbfx_values.specs.Limits.{Limits, limits, usual_limits}
use Rattle.stream_reader.proofs.OnLiterals.{preamble, streams_on_literals}
use Rattle.session_report.specs.Report.{offence_line}
use Rattle.line_notation.specs.{Lines.items_text, Quoted.quoted}
use Rattle.client.specs.Called.{Ack, Awaited, Read}
use Rattle.client.specs.Called.{ack_along, answers_to, dumped, handled_of}
use Rattle.client.specs.Sent.{Sending, sending, sent_by}

unfoldable calls_on_literals : ⊤
unfolding streams_on_literals encode_utf8 shortest shortest_within string_bytes_of digits history
    history_from quoted items_text offence_line report_by told_along state_behind ack_along
calls_on_literals = tt

-- the first strings of the published dictionary that envelopes need
abbrev published : List (ℕ × List ℕ)
published = (0, codes "mustUnderstand") ∷ (2, codes "Envelope")
    ∷ (4, codes "http://www.w3.org/2003/05/soap-envelope")
    ∷ (6, codes "http://www.w3.org/2005/08/addressing")
    ∷ (8, codes "Header") ∷ (10, codes "Action") ∷ (12, codes "To") ∷ (14, codes "Body")
    ∷ (18, codes "RelatesTo") ∷ (26, codes "MessageID") ∷ []

abbrev via : List ℕ
via = codes "net.tcp://h/e"

abbrev text : List ℕ → Item
text bytes = Text (One (TextOf bytes))

-- an identifier's bytes
abbrev identifier : List ℕ
identifier = 0x33 ∷ 0x22 ∷ 0x11 ∷ 0x00 ∷ 0x55 ∷ 0x44 ∷ 0x77 ∷ 0x66
    ∷ 0x88 ∷ 0x99 ∷ 0xAA ∷ 0xBB ∷ 0xCC ∷ 0xDD ∷ 0xEE ∷ 0xFF ∷ []

-- a request `x` that holds `hi`, to the action urn:echo
abbrev request : List Item
request = Start (codes "s") (codes "Envelope")
    ∷ Xmlns (codes "s") (codes "http://www.w3.org/2003/05/soap-envelope")
    ∷ Xmlns (codes "a") (codes "http://www.w3.org/2005/08/addressing")
    ∷ Start (codes "s") (codes "Header")
    ∷ Start (codes "a") (codes "Action")
    ∷ Attr (codes "s") (codes "mustUnderstand") (One (Number (pos 1)))
    ∷ text (codes "urn:echo") ∷ Close
    ∷ Start (codes "a") (codes "MessageID") ∷ Text (One (UniqueId identifier)) ∷ Close
    ∷ Close
    ∷ Start (codes "s") (codes "Body")
    ∷ Start [] (codes "x") ∷ text (codes "hi") ∷ Close
    ∷ Close ∷ Close ∷ []

-- its payload's nodes
abbrev nodes : List ℕ
nodes = 0x56 ∷ 0x02 ∷ 0x0B ∷ 0x01 ∷ 0x73 ∷ 0x04 ∷ 0x0B ∷ 0x01 ∷ 0x61 ∷ 0x06 ∷ 0x56 ∷ 0x08
    ∷ 0x44 ∷ 0x0A ∷ 0x1E ∷ 0x00 ∷ 0x82 ∷ 0x99 ∷ 0x08 ∷ (codes "urn:echo" ++ 0x44 ∷ 0x1A ∷ 0xAD
    ∷ (identifier ++ 0x01 ∷ 0x56 ∷ 0x0E ∷ 0x42 ∷ 0x01 ∷ 0x99 ∷ 0x02 ∷ 0x68 ∷ 0x69 ∷ 0x01 ∷ 0x01
    ∷ []))

-- its first envelope in a session, and each later one
abbrev first_envelope : List ℕ
first_envelope = 0x06 ∷ 0x3C ∷ 0x02 ∷ 0x01 ∷ 0x78 ∷ nodes

abbrev later_envelope : List ℕ
later_envelope = 0x06 ∷ 0x3A ∷ 0x00 ∷ nodes

abbrev in_duplex : List (List Item) → Sending
in_duplex documents = sending usual_limits usual_limits published Duplex (Known Session) documents

-- documents, and what is sent of them
abbrev Row : Type 0
Row = List (List Item) × List ℕ

abbrev AreSent : List Row → Type 0
AreSent rows = map (λ (r : Row). sent_by (in_duplex r.0) via) rows ≡ map (λ (r : Row). r.1) rows

sessions : AreSent (
    ([], preamble ++ 0x07 ∷ []) ∷
    (request ∷ [], preamble ++ (first_envelope ++ 0x07 ∷ [])) ∷
    (request ∷ request ∷ [], preamble ++ (first_envelope ++ (later_envelope ++ 0x07 ∷ []))) ∷
    [])
unfolding calls_on_literals
sessions = refl

-- six documents make 386 bytes
six : length (sent_by (in_duplex (repeat 6 (request ∷ []))) via) ≡ 386
unfolding calls_on_literals
six = refl

-- an element, in each mode and encoding
abbrev element : List Item
element = Start [] (codes "x") ∷ Close ∷ []

-- a preamble of this mode and this encoding
abbrev opening : ℕ → ℕ → List ℕ
opening mode encoding =
    0 ∷ 1 ∷ 0 ∷ 1 ∷ mode ∷ 2 ∷ 13 ∷ (via ++ 3 ∷ encoding ∷ 12 ∷ [])

abbrev ModeRow : Type 0
ModeRow = Mode × Encoding × List ℕ

abbrev AreSentIn : List ModeRow → Type 0
AreSentIn rows =
    map (λ (r : ModeRow).
    sent_by (sending usual_limits usual_limits [] r.0 r.1 (element ∷ [])) via) rows
    ≡ map (λ (r : ModeRow). r.2) rows

modes : AreSentIn (
    (Duplex, Known Plain, opening 2 7 ++ 0x06 ∷ 0x04 ∷ 0x40 ∷ 0x01 ∷ 0x78 ∷ 0x01 ∷ 0x07 ∷ []) ∷
    (Simplex, Known Plain, opening 3 7 ++ 0x06 ∷ 0x04 ∷ 0x40 ∷ 0x01 ∷ 0x78 ∷ 0x01 ∷ 0x07 ∷ []) ∷ (
      Singleton,
      Known Plain,
      opening 1 7 ++ 0x05 ∷ 0x04 ∷ 0x40 ∷ 0x01 ∷ 0x78 ∷ 0x01 ∷ 0x00 ∷ 0x07 ∷ [],
    ) ∷ (
      Duplex,
      Known Session,
      opening 2 8 ++ 0x06 ∷ 0x06 ∷ 0x02 ∷ 0x01 ∷ 0x78 ∷ 0x42 ∷ 0x01 ∷ 0x01 ∷ 0x07 ∷ [],
    ) ∷
    [])
unfolding calls_on_literals
modes = refl

-- a document that is too deep for some quotas
abbrev nested : List Item
nested = Start [] (codes "x") ∷ Start [] (codes "y") ∷ Start [] (codes "x") ∷ Close ∷ Close
    ∷ Close ∷ []

abbrev nested_envelope : List ℕ
nested_envelope = 0x06 ∷ 0x0E ∷ 0x04 ∷ 0x01 ∷ 0x78 ∷ 0x01 ∷ 0x79 ∷ 0x42 ∷ 0x01 ∷ 0x42 ∷ 0x03
    ∷ 0x42 ∷ 0x01 ∷ 0x01 ∷ 0x01 ∷ 0x01 ∷ []

abbrev shallow : Limits
shallow = limits 4096 2 64 4096 2048 4096

abbrev within : (forward back : Limits) → List (List Item) → Sending
within forward back documents = sending forward back [] Duplex (Known Session) documents

-- it ends what is sent within these, and End isn't; of the peer's quotas nothing that is sent depends
unfit : sent_by (within shallow usual_limits (element ∷ nested ∷ element ∷ [])) via
    ≡ preamble ++ 0x06 ∷ 0x06 ∷ 0x02 ∷ 0x01 ∷ 0x78 ∷ 0x42 ∷ 0x01 ∷ 0x01 ∷ []
unfolding calls_on_literals
unfit = refl

sent_deep : sent_by (within usual_limits shallow (nested ∷ [])) via
    ≡ preamble ++ (nested_envelope ++ 0x07 ∷ [])
unfolding calls_on_literals
sent_deep = refl

-- nor does an answer have to fit the quotas of what is sent
read_deep : offence (stream (answers_to (within shallow usual_limits [])))
    (0x0B ∷ (nested_envelope ++ 0x07 ∷ [])) ≡ None
unfolding calls_on_literals
read_deep = refl

-- a peer's bytes, whether they have an Ack, what is reported of them, and why they are refused
abbrev Answer : Type 0
Answer = List ℕ × Ack × List ℕ × Option Offence

abbrev Told : Type 0
Told = Ack × List ℕ × Option Offence

abbrev told : Mode → Answer → Told
told mode a =
    let x : Sending = sending usual_limits usual_limits [] mode (Known Session) [] in
    (ack_along Awaited (handled_of x a.0), dumped x a.0, offence (stream (answers_to x)) a.0)

abbrev wanted : Answer → Told
wanted a = (a.1, a.2, a.3)

abbrev AreReported : Mode → List Answer → Type 0
AreReported mode answers = map (told mode) answers ≡ map wanted answers

answered : AreReported Duplex (
    (0x0B ∷ 0x07 ∷ [], Read, codes "accepted\nended 2\n", None) ∷ (
      0x0B ∷ 0x06 ∷ 0x06 ∷ 0x02 ∷ 0x01 ∷ 0x78 ∷ 0x42 ∷ 0x01 ∷ 0x01 ∷ 0x07 ∷ [],
      Read,
      codes "accepted\nmessage 0 payload 6 items 2 depth 1 content 1 strings 1 used 1\n"
          ++ codes "start \"\" \"x\"\nclose\nended 10\n",
      None,
    ) ∷
    (0x08 ∷ 0x01 ∷ 0x61 ∷ [], Awaited, codes "fault 3 \"a\"\n", None) ∷
    (0x0B ∷ 0x08 ∷ 0x01 ∷ 0x61 ∷ [], Read, codes "accepted\nfault 4 \"a\"\n", None) ∷
    [])
unfolding calls_on_literals
answered = refl

one_way : AreReported Simplex ((0x0B ∷ [], Read, codes "accepted\nended 1\n", None) ∷ [])
unfolding calls_on_literals
one_way = refl
