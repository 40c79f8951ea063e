-- Worked cases: the view of literal documents.
use Prim.Native.String.{String}
use Rattle.std.proofs.Common.{Bool, Err, List, None, Ok, Option, Result, Some, [], codes, false}
use Rattle.std.proofs.Common.{map, pos, refl, true, ℕ, ◌++◌, ◌∷◌, ◌≡◌}
use Rattle.nbfx_values.specs.declared.content.Item.TheVariants.{Close, Text}
use Rattle.nbfx_values.specs.declared.scalars.Scalar.TheVariants.{Float, Number, QName, Truth}
use Rattle.nbfx_values.specs.{declared.content.Item.Item, declared.scalars.Value.TheVariants.One}
use Rattle.soap_envelope.proofs.Documents.{a, action, array, attribute, binds, called, declares_on}
use Rattle.soap_envelope.proofs.Documents.{echo, enveloped, identified, message, must, next, note}
use Rattle.soap_envelope.proofs.Documents.{role, s, some, start, valued, with_blocks, with_body}
use Rattle.soap_envelope.proofs.Documents.{words, words_of, x, xmlns}
use Rattle.soap_envelope.proofs.OnLiterals.{envelopes_on_literals}
use Rattle.soap_envelope.specs.Names.{addressing, qualified_name, soap, xml_namespace}
use Rattle.soap_envelope.specs.{Fitting.fits, Qualified.Name, View.View, View.view}
use Rattle.soap_envelope.specs.{declared.blocks.Block.Block, declared.refusals.SoapFault.SoapFault}
use Rattle.soap_envelope.specs.{declared.versions.Addressing.TheVariants.V10}

-- a targeted block of addressing's
abbrev block_at : String → Bool → (from to : ℕ) → Block
block_at local must_understand from to = record {
  name = qualified_name addressing (codes local);
  must_understand = must_understand;
  targeted = true;
  from = from;
  to = to;
}

-- an envelope as WCF sends them
an_echo : view echo ≡ Ok (record {
  blocks = block_at "Action" true 4 7 ∷ block_at "MessageID" false 8 10 ∷ [];
  version = V10;
  action = some "urn:echo";
  reply_address = None;
  message_id = identified;
  body_at = 12;
  body = start "" "x" ∷ words "hi" ∷ Close ∷ [];
})
unfolding envelopes_on_literals
an_echo = refl

-- what a view says of one thing
abbrev Told : Type 0 → Type 0
Told X = List Item × Result X SoapFault

abbrev pub told : {X : Type 0} → (View → X) → Result View SoapFault → Result X SoapFault
told f (Ok v) = Ok (f v)
told f (Err fault) = Err fault

abbrev seen : {X : Type 0} → X → Result X SoapFault
seen v = Ok v

abbrev pub AllTold : {X : Type 0} → (View → X) → List (List Item × X) → Type 0
AllTold {X} f rows =
    map (λ (r : List Item × X). told f (view r.0)) rows ≡ map (λ (r : List Item × X). seen r.1) rows

-- for each block, whether it must be understood, and whether it is targeted
abbrev flags : View → List (Bool × Bool)
flags v = map (λ (b : Block). (b.must_understand, b.targeted)) v.blocks

abbrev pub block : List Item → List Item
block inner = with_blocks (a "Sec" inner)

abbrev pub flagged : List (List Item × List (Bool × Bool))
flagged = (block [], (false, true) ∷ [])
    ∷ (block (must "1" ∷ []), (true, true) ∷ [])
    ∷ (block (must "true" ∷ []), (true, true) ∷ [])
    ∷ (block (must "0" ∷ []), (false, true) ∷ [])
    ∷ (block (must "false" ∷ []), (false, true) ∷ [])
    ∷ (block (valued "s" "mustUnderstand" (Truth true) ∷ []), (true, true) ∷ [])
    ∷ (block (must "1" ∷ must "TRUE" ∷ []), (true, true) ∷ [])
    ∷ (block (attribute "" "mustUnderstand" "1" ∷ []), (false, true) ∷ [])
    ∷ (block (attribute "a" "mustUnderstand" "1" ∷ []), (false, true) ∷ [])
    ∷ (block (attribute "" "mustUnderstand" "TRUE" ∷ []), (false, true) ∷ [])
    ∷ (block (valued "s" "mustUnderstand" (Truth false) ∷ []), (false, true) ∷ [])
    ∷ (block (binds "" soap ∷ attribute "" "mustUnderstand" "1" ∷ []), (false, true) ∷ [])
    ∷ (block (attribute "p" "mustUnderstand" "1" ∷ binds "p" soap ∷ []), (true, true) ∷ [])
    ∷ (block (role "" ∷ []), (false, true) ∷ [])
    ∷ (block (role " " ∷ []), (false, false) ∷ [])
    ∷ (block (attribute "a" "role" "urn:other" ∷ []), (false, true) ∷ [])
    ∷ (block (attribute "" "role" "urn:other" ∷ []), (false, true) ∷ [])
    ∷ (block (must "1" ∷ role "urn:other" ∷ []), (true, false) ∷ [])
    ∷ (block (role next ∷ []), (false, true) ∷ [])
    ∷ (
      block (role "http://www.w3.org/2003/05/soap-envelope/role/ultimateReceiver"
          ∷ []),
      (false, true) ∷ [],
    )
    ∷ (block (role "http://www.w3.org/2003/05/soap-envelope/role/none" ∷ []), (false, false) ∷ [])
    ∷ (block (role "urn:other" ∷ role next ∷ []), (false, false) ∷ [])
    ∷ (block (role next ∷ valued "s" "role" (Float 0) ∷ []), (false, true) ∷ [])
    ∷ (with_blocks (a "RelatesTo" [] ++ a "RelatesTo" []), (false, true) ∷ (false, true) ∷ [])
    ∷ (with_blocks (a "RelatesTo" (x [])), (false, true) ∷ [])
    ∷ (with_blocks (s "Action" [] ++ action), (false, true) ∷ (true, true) ∷ [])
    ∷ []

flags_of_blocks : AllTold flags flagged
unfolding envelopes_on_literals
flags_of_blocks = refl

-- the names of blocks: by a prefix that the block, Header or the root declares, by one that the
-- block
-- binds to no namespace, by none, and by `xml`, which an element may declare as it likes
abbrev names : View → List Name
names v = map (λ (b : Block). b.name) v.blocks

abbrev q : String → List Item → List Item
q uri inner = start "q" "x" ∷ xmlns "q" uri ∷ (inner ++ Close ∷ [])

abbrev xml : List Item → List Item
xml inner = start "xml" "x" ∷ (inner ++ Close ∷ [])

abbrev pub named : List (List Item × List Name)
named = (with_blocks (q "urn:q" (q "urn:r" [])), called "urn:q" "x" ∷ [])
    ∷ (
      with_blocks (xmlns "q" "urn:q" ∷ start "q" "x" ∷ Close ∷ q "urn:r" [] ++ start "q" "y"
          ∷ Close ∷ []),
      called "urn:q" "x" ∷ called "urn:r" "x" ∷ called "urn:q" "y" ∷ [],
    )
    ∷ (with_blocks (xmlns "" "urn:d" ∷ x []), called "urn:d" "x" ∷ [])
    ∷ (with_blocks (a "To" []), qualified_name addressing (codes "To") ∷ [])
    ∷ (with_blocks (xmlns "a" "urn:a" ∷ a "Action" []), called "urn:a" "Action" ∷ [])
    ∷ (
      with_blocks (xml [] ++ xml (xmlns "xml" "urn:q" ∷ [])),
      qualified_name xml_namespace (codes "x") ∷ called "urn:q" "x" ∷ [],
    )
    ∷ []

names_of_blocks : AllTold names named
unfolding envelopes_on_literals
names_of_blocks = refl

-- the action: the first that is targeted, its texts joined, nothing trimmed
abbrev acting : List Item → List Item
acting inner = with_blocks (a "Action" inner)

abbrev pub acted : List (List Item × Option (List ℕ))
acted = (with_blocks [], None)
    ∷ (with_body [], None)
    ∷ (acting [], Some [])
    ∷ (acting (words " a" ∷ note "b" ∷ Text (One (Number (pos 1))) ∷ []), some " a1")
    ∷ (acting (role "urn:other" ∷ words "b" ∷ []), None)
    ∷ (with_blocks (a "Action" (role "urn:other" ∷ words "b" ∷ []) ++ action), some "urn:echo")
    ∷ (with_blocks (a "Action" (role "urn:other" ∷ x []) ++ action), some "urn:echo")
    ∷ (with_blocks (s "Action" (words "b" ∷ [])), None)
    ∷ []

actions : AllTold (λ v. v.action) acted
unfolding envelopes_on_literals
actions = refl

-- the texts of the first MessageID that is targeted, as they stand, and not what is between them
abbrev elsewhere : List Item → List Item
elsewhere inner = role "urn:other" ∷ inner

abbrev naming : List Item → List Item
naming inner = with_blocks (a "MessageID" inner)

abbrev pub identifying : List (List Item × List Item)
identifying = (with_blocks [], [])
    ∷ (with_body [], [])
    ∷ (naming [], [])
    ∷ (naming (note "b" ∷ []), [])
    ∷ (with_blocks message, identified)
    ∷ (naming (words "b" ∷ words " c" ∷ []), words "b" ∷ words " c" ∷ [])
    ∷ (
      naming (note "" ∷ words "b" ∷ note "c" ∷ Text (One (Number (pos 1))) ∷ []),
      words "b" ∷ Text (One (Number (pos 1))) ∷ [],
    )
    ∷ (naming (elsewhere (words "b" ∷ [])), [])
    ∷ (with_blocks (a "MessageID" (elsewhere (words "b" ∷ [])) ++ message), identified)
    ∷ (with_blocks (message ++ a "MessageID" (elsewhere (words "b" ∷ []))), identified)
    ∷ (with_blocks (s "MessageID" identified), [])
    ∷ (with_blocks (a "RelatesTo" identified), [])
    ∷ []

message_ids : AllTold (λ v. v.message_id) identifying
unfolding envelopes_on_literals
message_ids = refl

-- the reply address: the only Address of characters alone
abbrev replying : List Item → List Item
replying inner = with_blocks (a "ReplyTo" inner)

abbrev pub replied : List (List Item × Option (List ℕ))
replied = (with_blocks [], None)
    ∷ (replying (a "Address" []), Some [])
    ∷ (replying (a "Address" (note "a" ∷ [])), Some [])
    ∷ (replying (elsewhere (a "Address" (words "urn:a" ∷ []))), None)
    ∷ (
      with_blocks (a "ReplyTo" (elsewhere (a "Address" (words "b" ∷ [])))
          ++ a "ReplyTo" (a "Address" (words "urn:a" ∷ []))),
      some "urn:a",
    )
    ∷ (
      replying (a "Address" (Text (One (Float 0)) ∷ []) ++ a "Address" (words "urn:a" ∷ [])),
      some "urn:a",
    )
    ∷ (replying (a "Address" (words "urn:" ∷ note "" ∷ words "a" ∷ [])), some "urn:a")
    ∷ (with_blocks (a "ReplyTo" (role "urn:other" ∷ [])), None)
    ∷ (replying (a "Address" (words "urn:a" ∷ [])), some "urn:a")
    ∷ (replying (x [] ++ a "Address" (words "urn:a" ∷ []) ++ words "z" ∷ []), some "urn:a")
    ∷ (replying (a "Address" (x []) ++ a "Address" (words "urn:a" ∷ [])), some "urn:a")
    ∷ (
      replying (start "q" "Address" ∷ binds "q" addressing ∷ words "urn:a" ∷ Close ∷ []),
      some "urn:a",
    )
    ∷ []

reply_addresses : AllTold (λ v. v.reply_address) replied
unfolding envelopes_on_literals
reply_addresses = refl

-- blocks that may stand once are no repetition where one isn't targeted, nor is one of SOAP's
abbrev pub single : List (List Item × List (Bool × Bool))
single = (with_blocks (a "To" (elsewhere []) ++ a "To" []), (false, false) ∷ (false, true) ∷ [])
    ∷ (with_blocks (a "To" [] ++ a "To" (elsewhere [])), (false, true) ∷ (false, false) ∷ [])
    ∷ (
      with_blocks (a "To" (elsewhere []) ++ a "To" (elsewhere [])),
      (false, false) ∷ (false, false) ∷ [],
    )
    ∷ (with_blocks (a "MessageID" (elsewhere []) ++ message), (false, false) ∷ (false, true) ∷ [])
    ∷ (
      with_blocks (a "ReplyTo" (a "Address" []) ++ a "ReplyTo" (elsewhere [])),
      (false, true) ∷ (false, false) ∷ [],
    )
    ∷ (
      with_blocks (s "To" [] ++ a "To" [] ++ s "To" []),
      (false, true) ∷ (false, true) ∷ (false, true) ∷ [],
    )
    ∷ []

single_blocks : AllTold flags single
unfolding envelopes_on_literals
single_blocks = refl

-- what may stand about, and other prefixes for the same namespaces
abbrev pub about : List (List Item × List Item)
about = (
  enveloped (words " " ∷ s "Header" [] ++ note "" ∷ s "Body" [] ++ words_of (0x0D ∷ 0x0A ∷ 0x09
      ∷ []) ∷ []),
  [],
)
    ∷ (enveloped (words "" ∷ note "hi" ∷ s "Body" []), [])
    ∷ (with_blocks (note "" ∷ words "" ∷ action ++ words " " ∷ []), [])
    ∷ (
      start "" "Envelope" ∷ binds "" soap ∷ start "" "Body" ∷ words "hi" ∷ Close ∷ Close ∷ [],
      words "hi" ∷ [],
    )
    ∷ (start "e" "Envelope" ∷ binds "e" soap ∷ start "e" "Body" ∷ Close ∷ Close ∷ [], [])
    ∷ (with_body (x (attribute "xml" "lang" "en" ∷ [])), x (attribute "xml" "lang" "en" ∷ []))
    ∷ (
      with_body (x (attribute "q" "k" "" ∷ xmlns "q" "" ∷ [])),
      x (attribute "q" "k" "" ∷ xmlns "q" "" ∷ []),
    )
    ∷ (
      with_body (x (Text (One (QName 1 (codes "x"))) ∷ [])),
      x (Text (One (QName 1 (codes "x"))) ∷ []),
    )
    ∷ []

passed : AllTold (λ v. v.body) about
unfolding envelopes_on_literals
passed = refl

-- the declarations that children of Body need, by the order of their prefixes
abbrev pub declaring : List Item → List Item
declaring inner = s "Envelope"
    (binds "s" soap ∷ xmlns "z" "urn:z" ∷ xmlns "a" "urn:a"
    ∷ s "Body" (xmlns "b" "urn:b" ∷ xmlns "" "urn:d" ∷ inner))

abbrev pub contents : List (List Item × List Item)
contents = (declaring [], [])
    ∷ (with_body (attribute "" "id" "b" ∷ x []), x [])
    ∷ (with_body (xmlns "" "" ∷ x []), x (xmlns "" "" ∷ []))
    ∷ (
      with_body (xmlns "ba" "" ∷ xmlns "b" "" ∷ xmlns "B" "" ∷ x []),
      x (xmlns "B" "" ∷ xmlns "b" "" ∷ xmlns "ba" "" ∷ []),
    )
    ∷ (enveloped (s "Header" (xmlns "q" "" ∷ []) ++ s "Body" (x [] ++ x [])), x [] ++ x [])
    ∷ (
      enveloped (s "Body" (binds "b" addressing ∷ (x [] ++ x []))),
      x (binds "b" addressing ∷ []) ++ x (binds "b" addressing ∷ []),
    )
    ∷ (declaring (words "hi" ∷ note "" ∷ []), words "hi" ∷ note "" ∷ [])
    ∷ (
      with_body (binds "s" soap ∷ binds "a" soap ∷ x (xmlns "b" "" ∷ [])),
      x (binds "a" soap ∷ xmlns "b" "" ∷ []),
    )
    ∷ (
      with_body (xmlns "r" "urn:r" ∷ xmlns "q" "urn:q" ∷ x (xmlns "q" "" ∷ xmlns "p" "" ∷ x [])
          ++ x (xmlns "r" "" ∷ [])),
      x (xmlns "r" "urn:r" ∷ xmlns "q" "" ∷ xmlns "p" "" ∷ x []) ++ x (xmlns "q" "urn:q"
          ∷ xmlns "r" "" ∷ []),
    )
    ∷ (
      declaring (x (x [])),
      start "" "x" ∷ xmlns "" "urn:d" ∷ xmlns "a" "urn:a" ∷ xmlns "b" "urn:b" ∷ xmlns "z" "urn:z"
          ∷ (x [] ++ Close ∷ []),
    )
    ∷ (
      declaring (x (xmlns "b" "urn:c" ∷ words "hi" ∷ [])),
      start "" "x" ∷ xmlns "" "urn:d" ∷ xmlns "a" "urn:a" ∷ xmlns "z" "urn:z" ∷ xmlns "b" "urn:c"
          ∷ words "hi" ∷ Close ∷ [],
    )
    ∷ (
      declaring (array "" (declares_on "a" "" ∷ []) ∷ []),
      array "" (declares_on "" "urn:d" ∷ declares_on "b" "urn:b" ∷ declares_on "z" "urn:z"
          ∷ declares_on "a" "" ∷ []) ∷ [],
    )
    ∷ (
      s "Envelope" (binds "s" soap ∷ xmlns "q" "urn:q" ∷ s "Body" (xmlns "q" "urn:r" ∷ x [])),
      x (xmlns "q" "urn:r" ∷ []),
    )
    ∷ (
      s "Envelope" (binds "s" soap ∷ xmlns "xml" "urn:q" ∷ s "Body" (x [])),
      x (xmlns "xml" "urn:q" ∷ []),
    )
    ∷ (
      start "e" "Envelope" ∷ binds "e" soap ∷ xmlns "s" "urn:s" ∷ start "e" "Body" ∷ (x [] ++ Close
          ∷ Close ∷ []),
      x (binds "e" soap ∷ xmlns "s" "urn:s" ∷ []),
    )
    ∷ []

bodies : AllTold (λ v. v.body) contents
unfolding envelopes_on_literals
bodies = refl

-- whether the content of Body fits: it counts 24 bytes, of which its declarations are 23
fitting_bodies : map (λ quota. told (λ v. fits quota v.body) (view (declaring (x []))))
    (24 ∷ 23 ∷ [])
    ≡ map seen (true ∷ false ∷ [])
unfolding envelopes_on_literals
fitting_bodies = refl
