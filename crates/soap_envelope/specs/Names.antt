-- The names to which SOAP 1.2, WS-Addressing (1.0, and that of August 2004) and XML Namespaces 1.0
-- give a meaning. The namespaces of addressing stand here alone.
use Rattle.std.specs.Prelude.{ℕ, Bool, ◌&&◌, List, codes, bytes_eq}
use Rattle.soap_envelope.specs.Qualified.{Name}

-- the namespaces of envelopes, of both versions of addressing, and of the prefix `xml`
unfoldable pub soap : List ℕ
soap = codes "http://www.w3.org/2003/05/soap-envelope"

unfoldable pub addressing : List ℕ
addressing = codes "http://www.w3.org/2005/08/addressing"

unfoldable pub addressing_2004 : List ℕ
addressing_2004 = codes "http://schemas.xmlsoap.org/ws/2004/08/addressing"

unfoldable pub xml_namespace : List ℕ
xml_namespace = codes "http://www.w3.org/XML/1998/namespace"

-- the roles of the ultimate receiver
unfoldable pub role_next : List ℕ
role_next = codes "http://www.w3.org/2003/05/soap-envelope/role/next"

unfoldable pub role_ultimate_receiver : List ℕ
role_ultimate_receiver = codes "http://www.w3.org/2003/05/soap-envelope/role/ultimateReceiver"

-- the addresses of nobody, and of whoever sent the request
unfoldable pub no_address : List ℕ
no_address = codes "http://www.w3.org/2005/08/addressing/none"

unfoldable pub anonymous_address : List ℕ
anonymous_address = codes "http://www.w3.org/2005/08/addressing/anonymous"

unfoldable pub anonymous_address_2004 : List ℕ
anonymous_address_2004 = codes "http://schemas.xmlsoap.org/ws/2004/08/addressing/role/anonymous"

-- the actions of faults: those of addressing, and those of SOAP
unfoldable pub addressing_fault : List ℕ
addressing_fault = codes "http://www.w3.org/2005/08/addressing/fault"

unfoldable pub soap_fault : List ℕ
soap_fault = codes "http://www.w3.org/2005/08/addressing/soap/fault"

unfoldable pub addressing_fault_2004 : List ℕ
addressing_fault_2004 = codes "http://schemas.xmlsoap.org/ws/2004/08/addressing/fault"

abbrev pub qualified_name : (uri local : List ℕ) → Name
qualified_name uri local = record { uri = uri; local = local }

-- whether a name is this one
abbrev pub is_named : Name → (uri local : List ℕ) → Bool
is_named name uri local = bytes_eq name.uri uri && bytes_eq name.local local

-- whether two names are one
abbrev pub is_same_name : Name → Name → Bool
is_same_name name other = is_named name other.uri other.local
