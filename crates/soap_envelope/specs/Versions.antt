-- The versions of WS-Addressing, and what each of them changes.
use Rattle.std.specs.Prelude.{ℕ, Bool, List, [], ◌∷◌, map, if◌then◌else◌, Some, None, codes, Option}
use Rattle.std.specs.{Prelude.bytes_eq, Prelude.unwrap_or, List.list_any, Option.option_or}
use Rattle.soap_envelope.specs.declared.blocks.Block.{Block}
use Rattle.soap_envelope.specs.declared.report.Sub.{Sub, TheVariants.None as NoSub}
use Rattle.soap_envelope.specs.declared.versions.Addressing.{Addressing, TheVariants.V10}
use Rattle.soap_envelope.specs.declared.versions.Addressing.TheVariants.{V200408}
use Rattle.soap_envelope.specs.Names.{addressing, addressing_2004, addressing_fault}
use Rattle.soap_envelope.specs.Names.{addressing_fault_2004, anonymous_address}
use Rattle.soap_envelope.specs.Names.{anonymous_address_2004, no_address, qualified_name}
use Rattle.soap_envelope.specs.Names.{soap_fault}
use Rattle.soap_envelope.specs.Qualified.{Name}

abbrev pub namespace : Addressing → List ℕ
namespace V10 = addressing
namespace V200408 = addressing_2004

-- the address of whoever sent the request
abbrev pub anonymous : Addressing → List ℕ
anonymous V10 = anonymous_address
anonymous V200408 = anonymous_address_2004

-- the address of nobody, which the older version doesn't have
abbrev pub nobody : Addressing → Option (List ℕ)
nobody V10 = Some no_address
nobody V200408 = None

-- a fault of addressing has a subcode, and its action; the older version has one action for all
abbrev pub fault_action : Addressing → Sub → List ℕ
fault_action V10 NoSub = soap_fault
fault_action V10 sub = addressing_fault
fault_action V200408 sub = addressing_fault_2004

-- the header blocks of addressing that servers understand, by their local names
abbrev pub properties : List (List ℕ)
properties =
    codes "Action" ∷ codes "To" ∷ codes "MessageID" ∷ codes "RelatesTo" ∷ codes "ReplyTo" ∷ []

abbrev pub understood : Addressing → List Name
understood version = map (qualified_name (namespace version)) properties

-- the version with this namespace
abbrev pub version_named : List ℕ → Option Addressing
version_named uri =
    if bytes_eq uri addressing
    then Some V10
    else if bytes_eq uri addressing_2004 then Some V200408 else None

-- the version of a block of addressing's that is targeted
abbrev pub version_by : Block → Option Addressing
version_by b =
    if b.targeted
    then if list_any (bytes_eq b.name.local) properties then version_named b.name.uri else None
    else None

-- that of the first such block
abbrev pub first_version : List Block → Option Addressing
first_version [] = None
first_version (b ∷ more) = option_or (version_by b) (first_version more)

-- the version of a document with these blocks
abbrev pub version_of : List Block → Addressing
version_of blocks = unwrap_or (first_version blocks) V10
