-- Literal requests for worked cases.
use Prim.Native.String.{String}
use Rattle.std.proofs.Common.{ℕ, List, [], ◌∷◌, ◌++◌, codes}
use Rattle.nbfx_values.specs.declared.content.Item.{Item}
use Rattle.soap_envelope.proofs.Documents.{a, enveloped, hi, s, words}

-- a request with these blocks
abbrev pub request : List Item → List Item
request blocks = enveloped (s "Header" blocks ++ s "Body" hi)

-- a ReplyTo of this address
abbrev pub reply_to : String → List Item
reply_to address = a "ReplyTo" (a "Address" (words address ∷ []))
