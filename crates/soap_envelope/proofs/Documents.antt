-- Literal documents for worked cases.
use Prim.Native.String.{String}
use Rattle.std.proofs.Common.{ℕ, cond, List, [], ◌∷◌, ◌++◌, map, pos, codes, bytes_eq, Option, Some}
use Rattle.nbfx_values.specs.declared.content.ArrayKind.TheVariants.{Int32}
use Rattle.nbfx_values.specs.declared.content.AttrItem.{AttrItem, TheVariants.Xmlns as DeclaresOn}
use Rattle.nbfx_values.specs.declared.content.Item.{Item, TheVariants.Text, TheVariants.Xmlns}
use Rattle.nbfx_values.specs.declared.content.Item.TheVariants.{Array, Attr, Close, Comment, Start}
use Rattle.nbfx_values.specs.declared.scalars.Scalar.{Scalar, TheVariants.Number}
use Rattle.nbfx_values.specs.declared.scalars.Scalar.TheVariants.{Text as TextOf, UniqueId}
use Rattle.nbfx_values.specs.declared.scalars.Value.TheVariants.{One}
use Rattle.soap_envelope.specs.declared.report.{Code.Code, FaultReport.FaultReport, Sub.Sub}
use Rattle.soap_envelope.specs.Names.{addressing, addressing_2004, qualified_name, soap}
use Rattle.soap_envelope.specs.Qualified.{Name}

abbrev pub words_of : List ℕ → Item
words_of bytes = Text (One (TextOf bytes))

abbrev pub words : String → Item
words text = words_of (codes text)

abbrev pub note : String → Item
note text = Comment (codes text)

abbrev pub some : String → Option (List ℕ)
some text = Some (codes text)

abbrev pub identifier : List ℕ
identifier = 0x33 ∷ 0x22 ∷ 0x11 ∷ 0x00 ∷ 0x55 ∷ 0x44 ∷ 0x77 ∷ 0x66 ∷ 0x88 ∷ 0x99 ∷ 0xAA ∷ 0xBB
    ∷ 0xCC ∷ 0xDD ∷ 0xEE ∷ 0xFF ∷ []

-- a name, the beginning of an element, a declaration, and an attribute
abbrev pub called : (uri local : String) → Name
called uri local = qualified_name (codes uri) (codes local)

abbrev pub start : (prefix local : String) → Item
start prefix local = Start (codes prefix) (codes local)

abbrev pub binds : String → List ℕ → Item
binds prefix uri = Xmlns (codes prefix) uri

abbrev pub xmlns : (prefix uri : String) → Item
xmlns prefix uri = binds prefix (codes uri)

abbrev pub valued : (prefix local : String) → Scalar → Item
valued prefix local value = Attr (codes prefix) (codes local) (One value)

abbrev pub attribute : (prefix local value : String) → Item
attribute prefix local value = valued prefix local (TextOf (codes value))

abbrev pub must : String → Item
must value = attribute "s" "mustUnderstand" value

abbrev pub role : String → Item
role value = attribute "s" "role" value

abbrev pub next : String
next = "http://www.w3.org/2003/05/soap-envelope/role/next"

-- an element of SOAP's, of addressing's and of no namespace, with what stands behind its beginning
abbrev pub s : String → List Item → List Item
s local inner = start "s" local ∷ (inner ++ Close ∷ [])

abbrev pub a : String → List Item → List Item
a local inner = start "a" local ∷ (inner ++ Close ∷ [])

abbrev pub x : List Item → List Item
x inner = start "" "x" ∷ (inner ++ Close ∷ [])

-- an array's element, and what it declares
abbrev pub declares_on : (prefix uri : String) → AttrItem
declares_on prefix uri = DeclaresOn (codes prefix) (codes uri)

abbrev pub array : String → List AttrItem → Item
array prefix attributes = Array (record {
  prefix = codes prefix;
  local = codes "n";
  attrs = attributes;
  kind = Int32;
  values = Number (pos 1) ∷ [];
})

-- a document whose prefix of addressing stands for the older namespace
abbrev pub aged_item : Item → Item
aged_item (Xmlns prefix uri) =
    Xmlns prefix (cond (bytes_eq prefix (codes "a")) addressing_2004 uri)
aged_item item = item

abbrev pub aged : List Item → List Item
aged items = map aged_item items

-- an element of the older addressing that declares it itself
abbrev pub older : String → List Item → List Item
older local inner = start "b" local ∷ binds "b" addressing_2004 ∷ (inner ++ Close ∷ [])

-- a root Envelope with the usual declarations: its children begin at place 3
abbrev pub enveloped : List Item → List Item
enveloped children = s "Envelope" (binds "s" soap ∷ binds "a" addressing ∷ children)

-- an envelope with these blocks, which begin at place 4, and one with this content of Body, which
-- begins at place 4
abbrev pub with_blocks : List Item → List Item
with_blocks blocks = enveloped (s "Header" blocks ++ s "Body" [])

abbrev pub with_body : List Item → List Item
with_body content = enveloped (s "Body" content)

-- the texts of an identifier, and a content of Body
abbrev pub identified : List Item
identified = Text (One (UniqueId identifier)) ∷ []

abbrev pub hi : List Item
hi = x (words "hi" ∷ [])

-- the block with an action
abbrev pub acting : String → List Item
acting name = a "Action" (valued "s" "mustUnderstand" (Number (pos 1))
    ∷ words name ∷ [])

-- the block that names what wasn't understood
abbrev pub unknown : (uri name : String) → List Item
unknown uri name = s "NotUnderstood" (xmlns "n" uri ∷ attribute "" "qname" name ∷ [])

-- a block of another namespace that must be understood, with these attributes
abbrev pub secured : List Item → List Item
secured attributes = start "t" "Sec" ∷ xmlns "t" "urn:t" ∷ must "1"
    ∷ (attributes ++ Close ∷ [])

-- the blocks of a request, and a request
abbrev pub action : List Item
action = acting "urn:echo"

abbrev pub message : List Item
message = a "MessageID" identified

abbrev pub echo : List Item
echo = enveloped (s "Header" (action ++ message) ++ s "Body" hi)

-- the block of an answer to the request with the identifier
abbrev pub related : List Item
related = a "RelatesTo" identified

-- a reply of this action and this content
abbrev pub reply : String → List Item → List Item
reply name body = enveloped (s "Header" (acting name ++ related) ++ s "Body" body)

-- a fault of this action and these further blocks, by its code, its subcodes and its reason
abbrev pub fault : (name : String) (blocks : List Item) (code : String) (subcodes : List Item)
    (reason : String) → List Item
fault name blocks code subcodes reason = enveloped (
    s "Header" (acting name ++ blocks)
    ++ s "Body" (
    s "Fault" (
    s "Code" (s "Value" (words code ∷ []) ++ subcodes)
    ++ s "Reason"
    (s "Text" (attribute "xml" "lang" "en" ∷ words reason ∷ []))
    )
    )
    )

-- a subcode, and those in it
abbrev pub subcode : String → List Item → List Item
subcode text inner = s "Subcode" (s "Value" (words text ∷ []) ++ inner)

-- those of a header of addressing that is wrong by the inner one
abbrev pub invalid : String → List Item
invalid text = subcode "a:InvalidAddressingHeader" (subcode text [])

-- what is reported for this reason
abbrev pub why : Code → Sub → List Name → FaultReport
why code sub names = record { code = code; sub = sub; reason = codes "why"; names = names }

-- the actions of faults: SOAP's own, and addressing's
abbrev pub soap_action : String
soap_action = "http://www.w3.org/2005/08/addressing/soap/fault"

abbrev pub addressing_action : String
addressing_action = "http://www.w3.org/2005/08/addressing/fault"

-- and that of all faults in the older version
abbrev pub older_action : String
older_action = "http://schemas.xmlsoap.org/ws/2004/08/addressing/fault"
