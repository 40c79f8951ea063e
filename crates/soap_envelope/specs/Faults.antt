-- Faults, item by item.
use Rattle.std.specs.Prelude.{ℕ, Bool, true, false, ◌&&◌, List, [], ◌∷◌, ◌++◌, codes, drop}
use Rattle.std.specs.Prelude.{flat_map, take}
use Rattle.{std.specs.Str.is_utf8, nbfx_values.specs.declared.scalars.Value.TheVariants.One}
use Rattle.nbfx_values.specs.declared.{content.Item.Item, scalars.Scalar.TheVariants.Text as TextOf}
use Rattle.nbfx_values.specs.declared.content.Item.TheVariants.{Attr, Close, Xmlns}
use Rattle.soap_envelope.specs.declared.report.Code.{Code, TheVariants.VersionMismatch}
use Rattle.soap_envelope.specs.declared.report.Code.TheVariants.{MustUnderstand, Receiver, Sender}
use Rattle.soap_envelope.specs.declared.report.{FaultReport.FaultReport, Sub.Sub}
use Rattle.soap_envelope.specs.Making.{action_block, addressing_start, ending, envelope_items}
use Rattle.soap_envelope.specs.Making.{middle, opening, soap_start, words}
use Rattle.soap_envelope.specs.{Qualified.Name, Versions.fault_action}
use Rattle.soap_envelope.specs.declared.versions.Addressing.{Addressing}
use Rattle.soap_envelope.specs.declared.report.Sub.TheVariants as sub

-- the name of each code, with the prefix that every fault declares
abbrev pub code_text : Code → List ℕ
code_text VersionMismatch = codes "s:VersionMismatch"
code_text MustUnderstand = codes "s:MustUnderstand"
code_text Sender = codes "s:Sender"
code_text Receiver = codes "s:Receiver"

-- the subcodes of addressing, the outer one first
abbrev pub sub_texts : Sub → List (List ℕ)
sub_texts sub.None = []
sub_texts sub.HeaderRequired = codes "a:MessageAddressingHeaderRequired" ∷ []
sub_texts sub.ActionNotSupported = codes "a:ActionNotSupported" ∷ []
sub_texts sub.OnlyAnonymous =
    codes "a:InvalidAddressingHeader" ∷ codes "a:OnlyAnonymousAddressSupported" ∷ []
sub_texts sub.InvalidCardinality =
    codes "a:InvalidAddressingHeader" ∷ codes "a:InvalidCardinality" ∷ []

-- the Value of a code or a subcode
abbrev pub value_items : List ℕ → List Item
value_items text = soap_start (codes "Value") ∷ words text ∷ Close ∷ []

-- subcodes in one another
abbrev pub subcode_items : List (List ℕ) → List Item
subcode_items [] = []
subcode_items (text ∷ more) =
    soap_start (codes "Subcode") ∷ (value_items text ++ (subcode_items more ++ (Close ∷ [])))

abbrev pub reason_items : List ℕ → List Item
reason_items reason =
    soap_start (codes "Reason") ∷ soap_start (codes "Text")
    ∷ Attr (codes "xml") (codes "lang") (One (TextOf (codes "en"))) ∷ words reason
    ∷ Close ∷ Close ∷ []

abbrev pub code_items : FaultReport → List Item
code_items report =
    soap_start (codes "Code")
    ∷ (value_items (code_text report.code)
    ++ (subcode_items (sub_texts report.sub) ++ (Close ∷ [])))

-- the content of a fault's Body
abbrev pub fault_body : FaultReport → List Item
fault_body report =
    soap_start (codes "Fault")
    ∷ (code_items report ++ (reason_items report.reason ++ (Close ∷ [])))

-- the block that names what wasn't understood
abbrev pub not_understood_block : Name → List Item
not_understood_block name =
    soap_start (codes "NotUnderstood") ∷ Xmlns (codes "n") name.uri
    ∷ Attr [] (codes "qname") (One (TextOf (codes "n:" ++ name.local))) ∷ Close ∷ []

-- whether the texts of that block are UTF-8
abbrev pub is_nameable : Name → Bool
is_nameable name = is_utf8 name.uri && is_utf8 (codes "n:" ++ name.local)

abbrev pub fault_items : Addressing → FaultReport → List Item → List Item
fault_items version report relates =
    envelope_items version (fault_action version report.sub) relates
    (flat_map not_understood_block report.names) (fault_body report)

-- what stands in a fault behind the block that names the message
abbrev pub rest_items : FaultReport → List Item
rest_items report =
    flat_map not_understood_block report.names ++ (middle ++ (fault_body report ++ ending))

-- the texts that a fault relates to with the end of their block, and what stands before these: the
-- beginning of the block, where there are some
abbrev pub ended_texts : List Item → List Item
ended_texts [] = []
ended_texts texts = texts ++ (Close ∷ [])

abbrev pub relates_start : Bool → List Item
relates_start true = addressing_start (codes "RelatesTo") ∷ []
relates_start false = []

abbrev pub front_items : Addressing → (action : List ℕ) → (relates : Bool) → List Item
front_items version action relates = opening version ++ (action_block action ++ relates_start
    relates)

-- the texts that a fault relates to, which are so many
abbrev pub related_texts : ℕ → List Item → List Item
related_texts count items = take count (drop 9 items)
