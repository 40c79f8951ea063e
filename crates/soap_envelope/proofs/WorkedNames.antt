-- The names of the standards, as these publish them.
use Rattle.std.proofs.Common.{◌≡◌, [], ◌∷◌, codes, refl}
use Rattle.soap_envelope.specs.Names.{addressing, addressing_2004, addressing_fault}
use Rattle.soap_envelope.specs.Names.{addressing_fault_2004, anonymous_address}
use Rattle.soap_envelope.specs.Names.{anonymous_address_2004, no_address}
use Rattle.soap_envelope.specs.Names.{role_next, role_ultimate_receiver, soap, soap_fault}
use Rattle.soap_envelope.{specs.Names.xml_namespace, proofs.OnLiterals.envelopes_on_literals}

names : soap ∷ role_next ∷ role_ultimate_receiver ∷ xml_namespace ∷ addressing ∷ no_address
    ∷ anonymous_address ∷ addressing_fault ∷ soap_fault ∷ addressing_2004 ∷ anonymous_address_2004
    ∷ addressing_fault_2004 ∷ []
    ≡ codes "http://www.w3.org/2003/05/soap-envelope"
    ∷ codes "http://www.w3.org/2003/05/soap-envelope/role/next"
    ∷ codes "http://www.w3.org/2003/05/soap-envelope/role/ultimateReceiver"
    ∷ codes "http://www.w3.org/XML/1998/namespace" ∷ codes "http://www.w3.org/2005/08/addressing"
    ∷ codes "http://www.w3.org/2005/08/addressing/none"
    ∷ codes "http://www.w3.org/2005/08/addressing/anonymous"
    ∷ codes "http://www.w3.org/2005/08/addressing/fault"
    ∷ codes "http://www.w3.org/2005/08/addressing/soap/fault"
    ∷ codes "http://schemas.xmlsoap.org/ws/2004/08/addressing"
    ∷ codes "http://schemas.xmlsoap.org/ws/2004/08/addressing/role/anonymous"
    ∷ codes "http://schemas.xmlsoap.org/ws/2004/08/addressing/fault" ∷ []
unfolding envelopes_on_literals
names = refl
