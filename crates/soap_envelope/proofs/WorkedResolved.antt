-- Worked cases: documents with other prefixes that are resolved to the same names.
use Rattle.std.proofs.Common.{List, [], codes, map, pos, refl, ℕ, ◌++◌, ◌∷◌, ◌≡◌}
use Rattle.nbfx_values.specs.declared.content.AttrItem.TheVariants.{Attr as AttrOn}
use Rattle.nbfx_values.specs.declared.scalars.Scalar.TheVariants.{Number, Text as TextOf}
use Rattle.nbfx_values.specs.{declared.content.ArrayKind.TheVariants.Int32}
use Rattle.nbfx_values.specs.{declared.content.Item.Item, declared.content.Item.TheVariants.Close}
use Rattle.nbfx_values.specs.{declared.scalars.Value.Value, declared.scalars.Value.TheVariants.One}
use Rattle.soap_envelope.proofs.Documents.{array, attribute, binds, called, declares_on, enveloped}
use Rattle.soap_envelope.proofs.Documents.{note, s, start, with_body, words, x, xmlns}
use Rattle.soap_envelope.proofs.OnLiterals.{envelopes_on_literals}
use Rattle.soap_envelope.specs.Names.{qualified_name, soap, xml_namespace}
use Rattle.soap_envelope.specs.Resolved.{Arrays, Attribute, Comments, Declares, Element, Ends}
use Rattle.soap_envelope.specs.Resolved.{Resolved, Texts, content_within, resolved}

abbrev in_soap : List ℕ → Resolved
in_soap local = Element (qualified_name soap local)

abbrev value : List ℕ → Value
value text = One (TextOf text)

abbrev AllResolved : List (List Item) → List Resolved → Type 0
AllResolved documents names = map resolved documents ≡ map (λ document. names) documents

-- by a prefix of the root's, of each element's own, or by none; a prefix that is bound again
envelopes : AllResolved (
    s "Envelope" (binds "s" soap ∷ s "Body" (xmlns "" "" ∷ x []))
    ∷ (start "" "Envelope" ∷ binds "" soap ∷ start "" "Body"
    ∷ xmlns "q" "" ∷ start "q" "x" ∷ Close ∷ Close ∷ Close ∷ [])
    ∷ (start "a" "Envelope" ∷ binds "a" soap ∷ start "b" "Body" ∷ binds "b" soap ∷ x (Close ∷ Close
    ∷ []))
    ∷ [])
    (in_soap (codes "Envelope") ∷ Declares ∷ in_soap (codes "Body") ∷ Declares
    ∷ Element (called "" "x") ∷ Ends ∷ Ends ∷ Ends ∷ [])
unfolding envelopes_on_literals
envelopes = refl

-- a default declaration says nothing of attributes
defaults : AllResolved (
    (start "" "x" ∷ binds "" soap ∷ attribute "" "k" "" ∷ Close ∷ [])
    ∷ (start "s" "x" ∷ binds "s" soap ∷ attribute "" "k" ""
    ∷ Close ∷ [])
    ∷ [])
    (in_soap (codes "x") ∷ Declares ∷ Attribute (called "" "k") (value [])
    ∷ Ends ∷ [])
unfolding envelopes_on_literals
defaults = refl

-- attributes, values and arrays
contents : AllResolved (
    x (binds "q" soap ∷ attribute "q" "k" ""
    ∷ attribute "xml" "lang" "en" ∷ note "b"
    ∷ words "hi"
    ∷ array "" (declares_on "q" "" ∷ AttrOn (codes "q") (codes "k") (value []) ∷ []) ∷ [])
    ∷ x (binds "s" soap ∷ attribute "s" "k" ""
    ∷ attribute "xml" "lang" "en" ∷ note "b"
    ∷ words "hi"
    ∷ array "p" (AttrOn [] (codes "k") (value []) ∷ declares_on "p" "" ∷ []) ∷ [])
    ∷ [])
    (Element (called "" "x") ∷ Declares
    ∷ Attribute (qualified_name soap (codes "k")) (value [])
    ∷ Attribute (qualified_name xml_namespace (codes "lang")) (value (codes "en"))
    ∷ Comments (codes "b") ∷ Texts (value (codes "hi"))
    ∷ Arrays (called "" "n") ((called "" "k", value []) ∷ []) Int32
    (Number (pos 1) ∷ []) ∷ Ends ∷ [])
unfolding envelopes_on_literals
contents = refl

-- the content of Body, which begins at place 3: without attributes of Body, without declarations,
-- and up to its end
abbrev k : Resolved
k = Attribute (called "" "k") (value [])

abbrev no_name : Resolved
no_name = Element (called "" "x")

abbrev content_rows : List (List Item × List Resolved)
content_rows = (with_body [], [])
    ∷ (
      with_body (attribute "" "k" "" ∷ xmlns "q" "" ∷ x (attribute "" "k" "" ∷ binds "q" soap ∷ [])
          ++ words "hi" ∷ []),
      no_name ∷ k ∷ Ends ∷ Texts (value (codes "hi")) ∷ [],
    )
    ∷ (
      with_body (binds "" soap ∷ x (x (xmlns "" "" ∷ x []) ++ note "b" ∷ [])),
      in_soap (codes "x") ∷ no_name ∷ no_name ∷ Ends ∷ Ends ∷ Comments (codes "b") ∷ Ends ∷ [],
    )
    ∷ (enveloped (s "Body" (s "x" []) ++ note "b" ∷ []), in_soap (codes "x") ∷ Ends ∷ [])
    ∷ []

contents_within : map (λ r. content_within (resolved r.0) 3) content_rows
    ≡ map (λ r. r.1) content_rows
unfolding envelopes_on_literals
contents_within = refl
