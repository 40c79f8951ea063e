-- Worked payloads that are documents, computed by the definitions.
use Rattle.std.proofs.Common.{◌≡◌, ℕ, List, [], ◌∷◌, ◌++◌, map, pos, negsuc, None, codes, refl}
use Rattle.unit_streams.specs.Judging.{offence}
use Rattle.nbfx_values.specs.declared.content.ArrayKind.TheVariants.{Int32}
use Rattle.nbfx_values.specs.declared.content.Item.{Item, TheVariants.Xmlns}
use Rattle.nbfx_values.specs.declared.content.Item.TheVariants.{Array, Attr, Close, Start, Text}
use Rattle.nbfx_values.specs.declared.scalars.{Scalar.Scalar, Value.TheVariants.One}
use Rattle.nbfx_values.specs.declared.scalars.Scalar.TheVariants.{Number, Text as TextOf, UniqueId}
use Rattle.nbfx_values.specs.declared.session.Kind.TheVariants.{Plain, Session}
use Rattle.nbfx_decoder.specs.{DecoderState.situation_of, Payload.payload, Payload.Settings}
use Rattle.nbfx_decoder.proofs.OnLiterals.{narrow, payloads_on_literals, usual}

-- the identifier of the worked messages
abbrev message : List ℕ
message = 0x33 ∷ 0x22 ∷ 0x11 ∷ 0x00 ∷ 0x55 ∷ 0x44 ∷ 0x77 ∷ 0x66
    ∷ 0x88 ∷ 0x99 ∷ 0xaa ∷ 0xbb ∷ 0xcc ∷ 0xdd ∷ 0xee ∷ 0xff ∷ []

-- an envelope with an action, an identifier and a body of one text
abbrev envelope : List ℕ → List Item
envelope action = Start (codes "s") (codes "Envelope")
    ∷ Xmlns (codes "s") (codes "http://www.w3.org/2003/05/soap-envelope")
    ∷ Xmlns (codes "a") (codes "http://www.w3.org/2005/08/addressing")
    ∷ Start (codes "s") (codes "Header")
    ∷ Start (codes "a") (codes "Action")
    ∷ Attr (codes "s") (codes "mustUnderstand") (One (Number (pos 1)))
    ∷ Text (One (TextOf action)) ∷ Close
    ∷ Start (codes "a") (codes "MessageID") ∷ Text (One (UniqueId message)) ∷ Close ∷ Close
    ∷ Start (codes "s") (codes "Body") ∷ Start [] (codes "x")
    ∷ Text (One (TextOf (codes "hi"))) ∷ Close ∷ Close ∷ Close ∷ []

-- an element of one text
abbrev element : Scalar → List Item
element scalar = Start [] (codes "x") ∷ Text (One scalar) ∷ Close ∷ []

-- the answer to an envelope
abbrev answered : List Item
answered = Start (codes "s") (codes "Envelope")
    ∷ Xmlns (codes "s") (codes "http://www.w3.org/2003/05/soap-envelope")
    ∷ Xmlns (codes "a") (codes "http://www.w3.org/2005/08/addressing")
    ∷ Start (codes "s") (codes "Header")
    ∷ Start (codes "a") (codes "Action")
    ∷ Attr (codes "s") (codes "mustUnderstand") (One (Number (pos 1)))
    ∷ Text (One (TextOf (codes "urn:echoResponse"))) ∷ Close
    ∷ Start (codes "a") (codes "RelatesTo") ∷ Text (One (UniqueId message)) ∷ Close ∷ Close
    ∷ Start (codes "s") (codes "Body") ∷ Start [] (codes "x")
    ∷ Text (One (TextOf (codes "hi"))) ∷ Close ∷ Close ∷ Close ∷ []

-- an envelope that says where it goes, and where its answer goes
abbrev addressed : List Item
addressed = Start (codes "s") (codes "Envelope")
    ∷ Xmlns (codes "s") (codes "http://www.w3.org/2003/05/soap-envelope")
    ∷ Xmlns (codes "a") (codes "http://www.w3.org/2005/08/addressing")
    ∷ Start (codes "s") (codes "Header")
    ∷ Start (codes "a") (codes "Action")
    ∷ Attr (codes "s") (codes "mustUnderstand") (One (Number (pos 1)))
    ∷ Text (One (TextOf (codes "urn:echo"))) ∷ Close
    ∷ Start (codes "a") (codes "MessageID") ∷ Text (One (UniqueId message)) ∷ Close
    ∷ Start (codes "a") (codes "ReplyTo") ∷ Start (codes "a") (codes "Address")
    ∷ Text (One (TextOf (codes "http://www.w3.org/2005/08/addressing/anonymous"))) ∷ Close ∷ Close
    ∷ Start (codes "a") (codes "To")
    ∷ Attr (codes "s") (codes "mustUnderstand") (One (Number (pos 1)))
    ∷ Text (One (TextOf (codes "net.tcp://h/e"))) ∷ Close ∷ Close
    ∷ Start (codes "s") (codes "Body") ∷ Start [] (codes "x")
    ∷ Text (One (TextOf (codes "hi"))) ∷ Close ∷ Close ∷ Close ∷ []

-- an element that holds an array of three numbers
abbrev three : List Scalar
three = Number (pos 1) ∷ Number (pos 2) ∷ Number (negsuc 0) ∷ []

abbrev numbered : List Item
numbered = Start [] (codes "x")
    ∷ Array (record { prefix = []; local = codes "a"; attrs = []; kind = Int32; values = three })
    ∷ Close ∷ []

-- settings, the strings so far, a document, the strings that its payload brings, and the payload
abbrev Row : Type 0
Row = Settings × List (List ℕ) × List Item × List (List ℕ) × List ℕ

-- nothing refuses the payload, whose items and strings are these
record AreDecoded (rows : List Row) : Type 0 where
  offenceless : map (λ (r : Row). offence (payload r.0 r.1) r.4) rows ≡ map (λ (r : Row). None) rows
  items_are : map (λ (r : Row). (situation_of r.0 r.1 r.4).items) rows
      ≡ map (λ (r : Row). r.2) rows
  strings_are : map (λ (r : Row). (situation_of r.0 r.1 r.4).strings) rows
      ≡ map (λ (r : Row). r.1 ++ r.3) rows

-- an envelope with a string of its own, the next, which names it again, what answers it, and one
-- as WCF writes it, with the action and the address among its strings
envelopes : AreDecoded ((
  usual Session,
  [],
  envelope (codes "urn:echo"),
  codes "x" ∷ [],
  0x02 ∷ 0x01 ∷ 120 ∷ 0x56 ∷ 0x02 ∷ 0x0b ∷ 0x01 ∷ 115 ∷ 0x04 ∷ 0x0b ∷ 0x01 ∷ 97 ∷ 0x06 ∷
      0x56 ∷ 0x08 ∷ 0x44 ∷ 0x0a ∷ 0x1e ∷ 0x00 ∷ 0x82 ∷ 0x99 ∷ 0x08 ∷ 117 ∷ 114 ∷ 110 ∷ 58 ∷ 101 ∷
      99 ∷ 104 ∷ 111 ∷ 0x44 ∷ 0x1a ∷ 0xad ∷ 0x33 ∷ 0x22 ∷ 0x11 ∷ 0x00 ∷ 0x55 ∷ 0x44 ∷ 0x77 ∷
      0x66 ∷ 0x88 ∷ 0x99 ∷ 0xaa ∷ 0xbb ∷ 0xcc ∷ 0xdd ∷ 0xee ∷ 0xff ∷ 0x01 ∷ 0x56 ∷ 0x0e ∷ 0x42 ∷
      0x01 ∷ 0x99 ∷ 0x02 ∷ 104 ∷ 105 ∷ 0x01 ∷ 0x01 ∷ [],
) ∷ (
  usual Session,
  codes "x" ∷ [],
  envelope (codes "urn:echo"),
  [],
  0x00 ∷ 0x56 ∷ 0x02 ∷ 0x0b ∷ 0x01 ∷ 115 ∷ 0x04 ∷ 0x0b ∷ 0x01 ∷ 97 ∷ 0x06 ∷ 0x56 ∷ 0x08 ∷
      0x44 ∷ 0x0a ∷ 0x1e ∷ 0x00 ∷ 0x82 ∷ 0x99 ∷ 0x08 ∷ 117 ∷ 114 ∷ 110 ∷ 58 ∷ 101 ∷ 99 ∷ 104 ∷
      111 ∷ 0x44 ∷ 0x1a ∷ 0xad ∷ 0x33 ∷ 0x22 ∷ 0x11 ∷ 0x00 ∷ 0x55 ∷ 0x44 ∷ 0x77 ∷ 0x66 ∷ 0x88 ∷
      0x99 ∷ 0xaa ∷ 0xbb ∷ 0xcc ∷ 0xdd ∷ 0xee ∷ 0xff ∷ 0x01 ∷ 0x56 ∷ 0x0e ∷ 0x42 ∷ 0x01 ∷ 0x99 ∷
      0x02 ∷ 104 ∷ 105 ∷ 0x01 ∷ 0x01 ∷ [],
) ∷ (
  usual Session,
  [],
  answered,
  codes "x" ∷ [],
  0x02 ∷ 0x01 ∷ 120 ∷ 0x56 ∷ 0x02 ∷ 0x0b ∷ 0x01 ∷ 115 ∷ 0x04 ∷ 0x0b ∷ 0x01 ∷ 97 ∷ 0x06 ∷
      0x56 ∷ 0x08 ∷ 0x44 ∷ 0x0a ∷ 0x1e ∷ 0x00 ∷ 0x82 ∷ 0x99 ∷ 0x10 ∷ 117 ∷ 114 ∷ 110 ∷ 58 ∷ 101 ∷
      99 ∷ 104 ∷ 111 ∷ 82 ∷ 101 ∷ 115 ∷ 112 ∷ 111 ∷ 110 ∷ 115 ∷ 101 ∷ 0x44 ∷ 0x12 ∷ 0xad ∷ 0x33 ∷
      0x22 ∷ 0x11 ∷ 0x00 ∷ 0x55 ∷ 0x44 ∷ 0x77 ∷ 0x66 ∷ 0x88 ∷ 0x99 ∷ 0xaa ∷ 0xbb ∷ 0xcc ∷ 0xdd ∷
      0xee ∷ 0xff ∷ 0x01 ∷ 0x56 ∷ 0x0e ∷ 0x42 ∷ 0x01 ∷ 0x99 ∷ 0x02 ∷ 104 ∷ 105 ∷ 0x01 ∷ 0x01 ∷
      [],
) ∷ (
  usual Session,
  [],
  addressed,
  codes "urn:echo" ∷ codes "net.tcp://h/e" ∷ codes "x" ∷ [],
  0x19 ∷ 0x08 ∷ 117 ∷ 114 ∷ 110 ∷ 58 ∷ 101 ∷ 99 ∷ 104 ∷ 111 ∷ 0x0d ∷ 110 ∷ 101 ∷ 116 ∷ 46 ∷
      116 ∷ 99 ∷ 112 ∷ 58 ∷ 47 ∷ 47 ∷ 104 ∷ 47 ∷ 101 ∷ 0x01 ∷ 120 ∷ 0x56 ∷ 0x02 ∷ 0x0b ∷ 0x01 ∷
      115 ∷ 0x04 ∷ 0x0b ∷ 0x01 ∷ 97 ∷ 0x06 ∷ 0x56 ∷ 0x08 ∷ 0x44 ∷ 0x0a ∷ 0x1e ∷ 0x00 ∷ 0x82 ∷
      0xab ∷ 0x01 ∷ 0x44 ∷ 0x1a ∷ 0xad ∷ 0x33 ∷ 0x22 ∷ 0x11 ∷ 0x00 ∷ 0x55 ∷ 0x44 ∷ 0x77 ∷ 0x66 ∷
      0x88 ∷ 0x99 ∷ 0xaa ∷ 0xbb ∷ 0xcc ∷ 0xdd ∷ 0xee ∷ 0xff ∷ 0x44 ∷ 0x2c ∷ 0x44 ∷ 0x2a ∷ 0xab ∷
      0x14 ∷ 0x01 ∷ 0x44 ∷ 0x0c ∷ 0x1e ∷ 0x00 ∷ 0x82 ∷ 0xab ∷ 0x03 ∷ 0x01 ∷ 0x56 ∷ 0x0e ∷ 0x42 ∷
      0x05 ∷ 0x99 ∷ 0x02 ∷ 104 ∷ 105 ∷ 0x01 ∷ 0x01 ∷ [],
) ∷
    [])
unfolding payloads_on_literals
envelopes = record { offenceless = refl; items_are = refl; strings_are = refl }

-- an element with nothing in it, one with a text of no characters, and a static string, without a
-- table
elements : AreDecoded ((
  usual Session,
  [],
  Start [] (codes "x") ∷ Close ∷ [],
  codes "x" ∷ [],
  0x02 ∷ 0x01 ∷ 120 ∷ 0x42 ∷ 0x01 ∷ 0x01 ∷ [],
) ∷
    (usual Session, [], element (TextOf []), [], 0x00 ∷ 0x40 ∷ 0x01 ∷ 120 ∷ 0xa9 ∷ []) ∷
    (usual Plain, [], Start [] (codes "Envelope") ∷ Close ∷ [], [], 0x42 ∷ 0x02 ∷ 0x01 ∷ []) ∷
    [])
unfolding payloads_on_literals
elements = record { offenceless = refl; items_are = refl; strings_are = refl }

-- numbers, in the fewest bytes and in more
numbers : AreDecoded (
    (usual Plain, [], element (Number (pos 0)), [], 0x40 ∷ 0x01 ∷ 120 ∷ 0x81 ∷ []) ∷
    (usual Plain, [], element (Number (pos 1)), [], 0x40 ∷ 0x01 ∷ 120 ∷ 0x83 ∷ []) ∷
    (usual Plain, [], element (Number (negsuc 127)), [], 0x40 ∷ 0x01 ∷ 120 ∷ 0x89 ∷ 0x80 ∷ []) ∷
    (usual Plain, [], element (Number (pos 128)), [], 0x40 ∷ 0x01 ∷ 120 ∷ 0x8b ∷ 0x80 ∷ 0x00 ∷ [])
    ∷ (
      usual Plain,
      [],
      element (Number (pos 9223372036854775808)),
      [],
      0x40 ∷ 0x01 ∷ 120 ∷ 0xb3 ∷ 0x00 ∷ 0x00 ∷ 0x00 ∷ 0x00 ∷ 0x00 ∷ 0x00 ∷ 0x00 ∷ 0x80 ∷ [],
    ) ∷ (
      usual Plain,
      [],
      element (Number (pos 18446744073709551615)),
      [],
      0x40 ∷ 0x01 ∷ 120 ∷ 0xb3 ∷ 0xff ∷ 0xff ∷ 0xff ∷ 0xff ∷ 0xff ∷ 0xff ∷ 0xff ∷ 0xff ∷ [],
    ) ∷
    (usual Plain, [], element (Number (pos 5)), [], 0x40 ∷ 0x01 ∷ 120 ∷ 0x89 ∷ 0x05 ∷ []) ∷ (
      usual Plain,
      [],
      element (Number (pos 5)),
      [],
      0x40 ∷ 0x01 ∷ 120 ∷ 0x8d ∷ 0x05 ∷ 0x00 ∷ 0x00 ∷ 0x00 ∷ [],
    ) ∷
    [])
unfolding payloads_on_literals
numbers = record { offenceless = refl; items_are = refl; strings_are = refl }

-- an array of 1, 2 and -1, as it is read and as it is written
arrays : AreDecoded ((
  usual Session,
  [],
  numbered,
  [],
  0x00 ∷ 0x40 ∷ 0x01 ∷ 120 ∷ 0x03 ∷ 0x40 ∷ 0x01 ∷ 97 ∷ 0x01 ∷ 0x8d ∷ 0x03 ∷ 0x01 ∷ 0x00 ∷
      0x00 ∷ 0x00 ∷ 0x02 ∷ 0x00 ∷ 0x00 ∷ 0x00 ∷ 0xff ∷ 0xff ∷ 0xff ∷ 0xff ∷ 0x01 ∷ [],
) ∷ (
  usual Session,
  [],
  numbered,
  codes "x" ∷ codes "a" ∷ [],
  0x04 ∷ 0x01 ∷ 120 ∷ 0x01 ∷ 97 ∷ 0x42 ∷ 0x01 ∷ 0x03 ∷ 0x42 ∷ 0x03 ∷ 0x01 ∷ 0x8d ∷ 0x03 ∷
      0x01 ∷ 0x00 ∷ 0x00 ∷ 0x00 ∷ 0x02 ∷ 0x00 ∷ 0x00 ∷ 0x00 ∷ 0xff ∷ 0xff ∷ 0xff ∷ 0xff ∷ 0x01 ∷
      [],
) ∷
    [])
unfolding payloads_on_literals
arrays = record { offenceless = refl; items_are = refl; strings_are = refl }

-- four elements in one another, where four are admitted; a string of eight bytes, where so many are
at_the_quotas : AreDecoded ((
  narrow Plain,
  [],
  Start [] (codes "a") ∷ Start [] (codes "a") ∷ Start [] (codes "a") ∷ Start [] (codes "a") ∷
      Close ∷ Close ∷ Close ∷ Close ∷ [],
  [],
  0x40 ∷ 0x01 ∷ 97 ∷ 0x40 ∷ 0x01 ∷ 97 ∷ 0x40 ∷ 0x01 ∷ 97 ∷ 0x40 ∷ 0x01 ∷ 97 ∷ 0x01 ∷ 0x01 ∷
      0x01 ∷ 0x01 ∷ [],
) ∷ (
  narrow Session,
  [],
  Start [] (codes "x") ∷ Close ∷ [],
  codes "aaaaaaaa" ∷ [],
  0x09 ∷ 0x08 ∷ 97 ∷ 97 ∷ 97 ∷ 97 ∷ 97 ∷ 97 ∷ 97 ∷ 97 ∷ 0x40 ∷ 0x01 ∷ 120 ∷ 0x01 ∷ [],
) ∷
    [])
unfolding payloads_on_literals
at_the_quotas = record { offenceless = refl; items_are = refl; strings_are = refl }
