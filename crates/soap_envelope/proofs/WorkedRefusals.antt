-- Worked cases: documents without a view, and why they have none.
use Prim.Native.String.{String}
use Rattle.std.proofs.Common.{Err, List, Result, [], codes, map, pos, refl, true, ◌++◌, ◌∷◌, ◌≡◌}
use Rattle.nbfx_values.specs.declared.content.AttrItem.TheVariants.{Attr as AttrOn}
use Rattle.nbfx_values.specs.declared.content.Item.TheVariants.{Close, Text}
use Rattle.nbfx_values.specs.declared.scalars.Scalar.TheVariants.{Float, Number, QName, Truth}
use Rattle.nbfx_values.specs.{declared.content.Item.Item, declared.scalars.Value.TheVariants.One}
use Rattle.soap_envelope.proofs.Documents.{a, action, array, attribute, binds, declares_on}
use Rattle.soap_envelope.proofs.Documents.{enveloped, must, next, note, role, s, start, valued}
use Rattle.soap_envelope.proofs.Documents.{with_blocks, with_body, words, words_of, x, xmlns}
use Rattle.soap_envelope.proofs.OnLiterals.{envelopes_on_literals}
use Rattle.soap_envelope.specs.declared.refusals.SoapFault.TheVariants.{BadHeader, BadNames}
use Rattle.soap_envelope.specs.declared.refusals.SoapFault.TheVariants.{Misplaced, NoBody}
use Rattle.soap_envelope.specs.declared.refusals.SoapFault.TheVariants.{NotAnEnvelope}
use Rattle.soap_envelope.specs.declared.refusals.SoapFault.TheVariants.{RepeatedHeader}
use Rattle.soap_envelope.specs.declared.refusals.SoapFault.TheVariants.{VersionMismatch}
use Rattle.soap_envelope.specs.{Names.addressing, Names.soap, View.View, View.view}
use Rattle.soap_envelope.specs.{declared.refusals.SoapFault.SoapFault}

abbrev pub Row : Type 0
Row = List Item × SoapFault

abbrev refused : SoapFault → Result View SoapFault
refused fault = Err fault

abbrev pub AllRefused : List Row → Type 0
AllRefused rows = map (λ (r : Row). view r.0) rows ≡ map (λ (r : Row). refused r.1) rows

-- prefixes that nothing declares, or that an element declares twice; the first such item counts
abbrev pub bad_names : List Row
bad_names = (with_body (start "q" "x" ∷ Close ∷ []), BadNames 4)
    ∷ (with_body (x (attribute "q" "k" "" ∷ [])), BadNames 5)
    ∷ (with_body (x (xmlns "q" "urn:q" ∷ []) ++ start "q" "x" ∷ Close ∷ []), BadNames 7)
    ∷ (with_body (x (xmlns "q" "" ∷ xmlns "q" "" ∷ [])), BadNames 6)
    ∷ (with_body (x (xmlns "" "urn:q" ∷ xmlns "" "urn:r" ∷ [])), BadNames 6)
    ∷ (with_body (start "q" "x" ∷ xmlns "r" "" ∷ xmlns "r" "" ∷ Close ∷ []), BadNames 4)
    ∷ (with_body (x (attribute "q" "k" "" ∷ xmlns "r" "" ∷ xmlns "r" "" ∷ [])), BadNames 5)
    ∷ (with_body (array "q" [] ∷ []), BadNames 4)
    ∷ (
      with_body (array "" (AttrOn (codes "q") (codes "k") (One (Truth true)) ∷ []) ∷ []),
      BadNames 4,
    )
    ∷ (with_body (array "" (declares_on "q" "" ∷ declares_on "q" "" ∷ []) ∷ []), BadNames 4)
    ∷ (with_body (array "" (declares_on "q" "" ∷ []) ∷ start "q" "x" ∷ Close ∷ []), BadNames 5)
    ∷ (start "s" "Envelope" ∷ Close ∷ [], BadNames 0)
    ∷ []

names : AllRefused bad_names
unfolding envelopes_on_literals
names = refl

-- the same at the root, in Header, on Body, and where Header has declared a prefix
abbrev pub bad_names_around : List Row
bad_names_around = (s "Envelope" (binds "s" soap ∷ binds "s" soap ∷ s "Body" []), BadNames 2)
    ∷ (s "Envelope" (attribute "q" "k" "" ∷ binds "s" soap ∷ s "Body" []), BadNames 1)
    ∷ (with_blocks (xmlns "q" "" ∷ xmlns "q" "" ∷ []), BadNames 5)
    ∷ (with_blocks (attribute "q" "k" "" ∷ []), BadNames 4)
    ∷ (with_blocks (start "q" "x" ∷ Close ∷ []), BadNames 4)
    ∷ (with_blocks (a "To" (attribute "q" "k" "" ∷ [])), BadNames 5)
    ∷ (with_blocks (a "To" (xmlns "" "" ∷ xmlns "q" "" ∷ xmlns "" "" ∷ [])), BadNames 7)
    ∷ (with_blocks (array "q" [] ∷ []), BadNames 4)
    ∷ (with_body (xmlns "q" "" ∷ xmlns "q" "" ∷ []), BadNames 5)
    ∷ (
      enveloped (s "Header" (xmlns "q" "" ∷ []) ++ s "Body" (start "q" "x" ∷ Close ∷ [])),
      BadNames 7,
    )
    ∷ []

names_around : AllRefused bad_names_around
unfolding envelopes_on_literals
names_around = refl

-- roots
abbrev pub bad_roots : List Row
bad_roots = (s "Other" (binds "s" soap ∷ []), NotAnEnvelope)
    ∷ (s "envelope" (binds "s" soap ∷ []), NotAnEnvelope)
    ∷ (x [], NotAnEnvelope)
    ∷ (s "Envelope" (binds "s" addressing ∷ []), VersionMismatch)
    ∷ (start "" "Envelope" ∷ binds "s" soap ∷ Close ∷ [], VersionMismatch)
    ∷ (s "Envelope" (xmlns "s" "http://schemas.xmlsoap.org/soap/envelope/" ∷ []), VersionMismatch)
    ∷ (array "" [] ∷ [], NotAnEnvelope)
    ∷ []

roots : AllRefused bad_roots
unfolding envelopes_on_literals
roots = refl

-- children of the root
abbrev pub bad_children : List Row
bad_children = (enveloped [], NoBody)
    ∷ (enveloped (s "Header" []), NoBody)
    ∷ (enveloped (note "note" ∷ words " " ∷ []), NoBody)
    ∷ (enveloped (s "Body" [] ++ s "Header" []), Misplaced 5)
    ∷ (enveloped (s "Header" [] ++ s "Header" []), Misplaced 5)
    ∷ (enveloped (s "Body" [] ++ s "Body" []), Misplaced 5)
    ∷ (enveloped (s "Header" [] ++ x []), Misplaced 5)
    ∷ (enveloped (a "Body" []), Misplaced 3)
    ∷ (enveloped (start "" "Body" ∷ Close ∷ []), Misplaced 3)
    ∷ (enveloped (words "hi" ∷ s "Body" []), Misplaced 3)
    ∷ (enveloped (s "Body" [] ++ words "hi" ∷ []), Misplaced 5)
    ∷ (enveloped (s "Body" [] ++ Text (One (Float 0)) ∷ []), Misplaced 5)
    ∷ (enveloped (s "Body" [] ++ Text (One (QName 0 (codes " "))) ∷ []), Misplaced 5)
    ∷ (enveloped (array "" [] ∷ s "Body" []), Misplaced 3)
    ∷ (enveloped (a "Header" [] ++ s "Body" []), Misplaced 3)
    ∷ (enveloped (s "header" [] ++ s "Body" []), Misplaced 3)
    ∷ (enveloped (words_of (0x0C ∷ []) ∷ s "Body" []), Misplaced 3)
    ∷ (enveloped (words_of (0xC2 ∷ 0xA0 ∷ []) ∷ s "Body" []), Misplaced 3)
    ∷ (enveloped (s "Header" [] ++ words " x " ∷ x []), Misplaced 5)
    ∷ (enveloped (s "Header" (s "Body" [])), NoBody)
    ∷ []

children : AllRefused bad_children
unfolding envelopes_on_literals
children = refl

-- blocks that stand once: a repeated one goes before other faults of Header
abbrev pub repetitions : List Row
repetitions = (with_blocks (action ++ action), RepeatedHeader 8)
    ∷ (with_blocks (a "To" [] ++ a "To" []), RepeatedHeader 6)
    ∷ (with_blocks (a "MessageID" [] ++ action ++ a "MessageID" []), RepeatedHeader 10)
    ∷ (with_blocks (x [] ++ a "ReplyTo" [] ++ a "ReplyTo" []), RepeatedHeader 8)
    ∷ (with_blocks (action ++ a "Action" (role "" ∷ [])), RepeatedHeader 8)
    ∷ (with_blocks (action ++ action ++ action), RepeatedHeader 8)
    ∷ (
      with_blocks (a "To" [] ++ a "MessageID" [] ++ a "MessageID" [] ++ a "To" []),
      RepeatedHeader 8,
    )
    ∷ (with_blocks (a "To" [] ++ a "To" (role "urn:other" ∷ []) ++ a "To" []), RepeatedHeader 9)
    ∷ (with_blocks (a "ReplyTo" [] ++ note "" ∷ words "hi" ∷ a "ReplyTo" []), RepeatedHeader 8)
    ∷ []

repeated_blocks : AllRefused repetitions
unfolding envelopes_on_literals
repeated_blocks = refl

-- what stands in Header and isn't as the standards have it
abbrev pub address : String → List Item
address text = a "Address" (words text ∷ [])

abbrev pub bad_headers : List Row
bad_headers = (with_blocks (words "hi" ∷ []), BadHeader 4)
    ∷ (with_blocks (Text (One (Float 0)) ∷ []), BadHeader 4)
    ∷ (with_blocks (Text (One (QName 0 (codes " "))) ∷ []), BadHeader 4)
    ∷ (with_blocks (note "" ∷ words " " ∷ words_of (0x0C ∷ []) ∷ []), BadHeader 6)
    ∷ (with_blocks (array "" [] ∷ []), BadHeader 4)
    ∷ (with_blocks (x []), BadHeader 4)
    ∷ (with_blocks (start "q" "x" ∷ xmlns "q" "" ∷ Close ∷ []), BadHeader 4)
    ∷ (with_blocks (x (role "urn:other" ∷ [])), BadHeader 4)
    ∷ (with_blocks (x (must "TRUE" ∷ [])), BadHeader 4)
    ∷ (with_blocks (a "Sec" (role "urn:other" ∷ must "TRUE" ∷ [])), BadHeader 6)
    ∷ (with_blocks (a "Sec" (must "TRUE" ∷ [])), BadHeader 5)
    ∷ (with_blocks (a "Sec" (must "" ∷ [])), BadHeader 5)
    ∷ (with_blocks (a "Sec" (must " 1" ∷ [])), BadHeader 5)
    ∷ (with_blocks (a "Sec" (valued "s" "mustUnderstand" (Number (pos 2)) ∷ [])), BadHeader 5)
    ∷ (with_blocks (a "Sec" (must "no" ∷ must "1" ∷ [])), BadHeader 5)
    ∷ (with_blocks (a "Sec" (valued "s" "role" (Float 0) ∷ role "" ∷ [])), BadHeader 5)
    ∷ (with_blocks (a "Action" (valued "s" "role" (Float 0) ∷ x [])), BadHeader 5)
    ∷ (with_blocks (a "Sec" (valued "s" "mustUnderstand" (Float 0) ∷ [])), BadHeader 5)
    ∷ (with_blocks (a "Sec" (valued "s" "role" (Float 0) ∷ [])), BadHeader 5)
    ∷ (with_blocks (a "Sec" (valued "s" "role" (Float 0) ∷ must "TRUE" ∷ [])), BadHeader 5)
    ∷ (with_blocks (a "Sec" (must "TRUE" ∷ valued "s" "role" (Float 0) ∷ [])), BadHeader 5)
    ∷ (with_blocks (a "Action" (must "TRUE" ∷ x [])), BadHeader 4)
    ∷ (with_blocks (a "Action" (Text (One (Float 0)) ∷ [])), BadHeader 4)
    ∷ (with_blocks (a "To" (array "" [] ∷ [])), BadHeader 4)
    ∷ (with_blocks (a "To" (Text (One (Float 0)) ∷ [])), BadHeader 4)
    ∷ (with_blocks (a "MessageID" (x [])), BadHeader 4)
    ∷ (with_blocks (a "MessageID" (words "b" ∷ array "" [] ∷ [])), BadHeader 4)
    ∷ (with_blocks (a "ReplyTo" []), BadHeader 4)
    ∷ (with_blocks (a "ReplyTo" (s "Address" [])), BadHeader 4)
    ∷ (with_blocks (a "ReplyTo" (address "" ++ address "")), BadHeader 4)
    ∷ (with_blocks (a "ReplyTo" (a "Address" (x []))), BadHeader 4)
    ∷ (with_blocks (a "ReplyTo" (a "Address" (Text (One (Float 0)) ∷ []))), BadHeader 4)
    ∷ (with_blocks (a "ReplyTo" (a "x" (address ""))), BadHeader 4)
    ∷ (with_blocks (a "ReplyTo" (words "urn:a" ∷ [])), BadHeader 4)
    ∷ (with_blocks (a "Sec" [] ++ a "To" (x []) ++ x []), BadHeader 6)
    ∷ (with_blocks (action ++ a "Sec" (attribute "" "role" "" ∷ must "no" ∷ [])), BadHeader 10)
    ∷ (with_blocks (a "Sec" (x (must "TRUE" ∷ []) ++ x []) ++ x []), BadHeader 11)
    ∷ (
      with_blocks (start "q" "Sec" ∷ valued "q" "role" (Float 0) ∷ binds "q" soap ∷ Close ∷ []),
      BadHeader 5,
    )
    ∷ (
      with_blocks (a "Action" (role "urn:other" ∷ x []) ++ words " " ∷ a "Action" (note "" ∷ x [])),
      BadHeader 10,
    )
    ∷ (
      with_blocks (a "ReplyTo" (role "urn:other" ∷ []) ++ a "ReplyTo" (role next ∷ [])),
      BadHeader 7,
    )
    ∷ []

headers : AllRefused bad_headers
unfolding envelopes_on_literals
headers = refl

-- names go before the root, the root before its children, and those before Header
abbrev pub several : List Row
several = (start "" "x" ∷ attribute "q" "k" "" ∷ Close ∷ [], BadNames 1)
    ∷ (s "Envelope" (binds "s" addressing ∷ x []), VersionMismatch)
    ∷ (enveloped (s "Header" (x []) ++ x []), Misplaced 7)
    ∷ (enveloped (s "Header" (x [])), NoBody)
    ∷ (enveloped (s "Header" (action ++ action) ++ x []), Misplaced 13)
    ∷ (with_blocks (action ++ action ++ start "q" "x" ∷ Close ∷ []), BadNames 12)
    ∷ []

in_order : AllRefused several
unfolding envelopes_on_literals
in_order = refl
