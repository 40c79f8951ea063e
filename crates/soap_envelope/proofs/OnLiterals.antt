-- What a proof unfolds to compute the definitions on literal documents.
use Rattle.{std.specs.Prelude.⊤, nbfx_values.proofs.OnLiterals.values_on_literals}
use Rattle.soap_envelope.specs.Names.{addressing, addressing_2004, addressing_fault}
use Rattle.soap_envelope.specs.Names.{addressing_fault_2004, anonymous_address}
use Rattle.soap_envelope.specs.Names.{anonymous_address_2004, no_address}
use Rattle.soap_envelope.specs.Names.{role_next, role_ultimate_receiver, soap, soap_fault}
use Rattle.soap_envelope.specs.Names.{xml_namespace}

unfoldable pub envelopes_on_literals : ⊤
unfolding values_on_literals soap addressing xml_namespace role_next role_ultimate_receiver
    no_address anonymous_address addressing_fault soap_fault addressing_2004
    anonymous_address_2004 addressing_fault_2004
envelopes_on_literals = tt
