-- A document that sends a body is read as what it sends.
use Rattle.soap_envelope.specs.declared.versions.Addressing.TheVariants.{V10}
use Rattle.std.proofs.Common.{◌≡◌, ℕ, ◌+◌, ◌^◌, ◌<◌, Bool, true, false, not, List, [], ◌∷◌, ◌++◌, drop}
use Rattle.std.proofs.Common.{slice_get, Some, None, Ok, codes, filter, option_map}
use Rattle.std.proofs.Common.{refl, ap, ◌∙◌, append-nil}
use Rattle.std.specs.{Fmt.decimal}
use Rattle.nbfx_values.specs.declared.content.Item.{Item}
use Rattle.soap_envelope.specs.declared.blocks.Block.{Block}
use Rattle.soap_envelope.specs.declared.refusals.SoapFault.{TheVariants.BadNames}
use Rattle.soap_envelope.specs.BadNames.{bad_name, first_bad_name}
use Rattle.soap_envelope.specs.Body.{behind_head, body_items, needed, self_standing}
use Rattle.soap_envelope.specs.Characters.{is_passed}
use Rattle.soap_envelope.specs.Children.{children_from}
use Rattle.soap_envelope.specs.Made.{reply_root, reply_scope, StandsInReplies}
use Rattle.soap_envelope.specs.Making.{ending, IsContent, middle, soap_start}
use Rattle.soap_envelope.specs.Names.{qualified_name, soap}
use Rattle.soap_envelope.specs.Parts.{is_element, parts_among, parts_of, root_scope, wrong_root}
use Rattle.soap_envelope.specs.Scopes.{declared, within}
use Rattle.soap_envelope.specs.View.{header_scope, unless, View, view, viewed_by}
use Rattle.soap_envelope.proofs.MadeNames.{begins-with-content, names-inside}
use Rattle.soap_envelope.proofs.Nesting.{children-inside, leads-nested, standing-inside}
use Rattle.soap_envelope.proofs.OnLiterals.{envelopes_on_literals}
use Rattle.reliable_sequence.specs.declared.parts.Data.{Data}
use Rattle.reliable_sequence.specs.Made.{data_items}
use Rattle.nbfx_values.specs.declared.content.Item.TheVariants.{Close}
use Rattle.soap_envelope.specs.Elements.{header_in}
use Rattle.std.proofs.lemmas.Slice.Eq.{bytes_eq-Decides}
use Rattle.reliable_sequence.specs.Blocks.{numbered, or_broken, sequence_in, with_identifier}
use Rattle.reliable_sequence.specs.Names.{messaging}
use Rattle.reliable_sequence.specs.Numbers.{number_in}
use Rattle.reliable_sequence.specs.Reading.{data_in, if_same, numbered_body, Place, placed_by, said}
use Rattle.reliable_sequence.specs.Reading.{sequence_at, then_by}
use Rattle.reliable_sequence.proofs.ReadNumbers.{number-read}

-- from the end of Header on, names are good
pub tail-named : (body : List Item) → IsContent body → StandsInReplies V10 body → (at : ℕ)
    → first_bad_name (reply_scope V10) at (middle ++ (body ++ ending)) ≡ None
unfolding envelopes_on_literals
tail-named body content named at =
    let begins = begins-with-content body (Close ∷ []) content in
    rw (begins.declares, begins.attributes (reply_scope V10) (at + 1 + 1))
    (names-inside body (Close ∷ []) (reply_scope V10) (at + 1 + 1) (named (at + 1 + 1)))

-- the place of Body, and that of the block's end
abbrev pub body_place : Bool → ℕ
body_place true = 17
body_place false = 15

abbrev pub block_end : Bool → ℕ
block_end true = 15
block_end false = 13

abbrev pub sequence_seen : Bool → Block
sequence_seen last = record {
  name = qualified_name messaging (codes "Sequence");
  must_understand = true;
  targeted = true;
  from = 4;
  to = block_end last;
}

abbrev pub sent_items : List ℕ → ℕ → Bool → List Item → List Item
sent_items identifier number last body =
    data_items identifier (record { number = number; last = last; body = body })

pub names-good : (identifier : List ℕ) (number : ℕ) (last : Bool) (body : List Item)
    → IsContent body → StandsInReplies V10 body
    → bad_name (sent_items identifier number last body) ≡ None
unfolding envelopes_on_literals messaging
names-good identifier number true body content named = tail-named body content named 16
names-good identifier number false body content named = tail-named body content named 14

-- a Header and a Body are the parts of an envelope
pub parts-by : (all : List Item) (at : ℕ) → slice_get all at ≡ Some (soap_start (codes "Body"))
    → declared (drop (at + 1) all) ≡ []
    → is_element all (reply_root V10) soap (codes "Header") 3 ≡ true
    → parts_among all (reply_root V10) (3 ∷ at ∷ []) ≡ Ok (record { header = Some 3; body = at })
unfolding envelopes_on_literals
parts-by all at got none first = rw (first, got, none) refl

-- what is nested in Body has none of the root's children
pub root-ended : (body : List Item) (at : ℕ) → IsContent body
    → children_from (Some 1) at (body ++ ending) ≡ []
root-ended body at content =
    children-inside body ending 0 0 at (leads-nested body 0 0 false false content)

-- the content of Body, where this stands after its beginning
abbrev pub standing_behind : List Item → List Item
standing_behind tail =
    self_standing (needed V10 (declared tail ∷ (reply_root V10))) (Some 0) (behind_head tail)

pub body-stands : (body : List Item) → IsContent body → standing_behind (body ++ ending) ≡ body
unfolding envelopes_on_literals
body-stands body content =
    let begins = begins-with-content body (Close ∷ []) content in
    rw (begins.declares, begins.head)
    (standing-inside body ending 0 0 (leads-nested body 0 0 false false content)
    ∙ append-nil body)

root-children : (identifier : List ℕ) (number : ℕ) (last : Bool) (body : List Item)
    → IsContent body
    → children_from (Some 0) 1 (drop 1 (sent_items identifier number last body))
    ≡ 3 ∷ body_place last ∷ []
unfolding envelopes_on_literals messaging
root-children identifier number true body content =
    ap (λ (l : List ℕ). 3 ∷ 17 ∷ l) (root-ended body 18 content)
root-children identifier number false body content =
    ap (λ (l : List ℕ). 3 ∷ 15 ∷ l) (root-ended body 16 content)

pub kept-both : (all : List Item) (at : ℕ) → slice_get all at ≡ Some (soap_start (codes "Body"))
    → is_passed (slice_get all 3) ≡ false
    → filter (λ (child : ℕ). not (is_passed (slice_get all child))) (3 ∷ at ∷ []) ≡ 3 ∷ at ∷ []
kept-both all at got first = rw (first, got) refl

body-there : (identifier : List ℕ) (number : ℕ) (last : Bool) (body : List Item)
    → slice_get (sent_items identifier number last body) (body_place last)
    ≡ Some (soap_start (codes "Body"))
body-there identifier number true body = refl
body-there identifier number false body = refl

behind-body : (identifier : List ℕ) (number : ℕ) (last : Bool) (body : List Item)
    → drop (body_place last + 1) (sent_items identifier number last body) ≡ body ++ ending
behind-body identifier number true body = refl
behind-body identifier number false body = refl

pub parts-there : (identifier : List ℕ) (number : ℕ) (last : Bool) (body : List Item)
    → IsContent body
    → parts_of (sent_items identifier number last body)
    ≡ Ok (record { header = Some 3; body = body_place last })
unfolding envelopes_on_literals messaging
parts-there identifier number last body content =
    let all = sent_items identifier number last body in
    let place = body_place last in
    let there = body-there identifier number last body in
    let kept =
    ap (filter (λ (child : ℕ). not (is_passed (slice_get all child))))
    (root-children identifier number last body content)
    ∙ kept-both all place there refl in
    ap (parts_among all (root_scope all)) kept
    ∙ parts-by all place there
    (ap declared (behind-body identifier number last body)
    ∙ (begins-with-content body (Close ∷ []) content).declares) refl

-- what is seen of the document
abbrev pub view_with : Bool → List Item → View
view_with last body = record {
  blocks = sequence_seen last ∷ [];
  version = V10;
  action = None;
  reply_address = None;
  message_id = [];
  body_at = body_place last;
  body = body;
}

viewed-with : (identifier : List ℕ) (number : ℕ) (last : Bool) (body : List Item)
    → let all = sent_items identifier number last body in
    viewed_by all (Ok (record { header = Some 3; body = body_place last }))
    ≡ Ok (view_with last (body_items V10 all (root_scope all) (body_place last)))
unfolding envelopes_on_literals messaging
viewed-with identifier number true body = refl
viewed-with identifier number false body = refl

body-again : (identifier : List ℕ) (number : ℕ) (last : Bool) (body : List Item)
    → IsContent body
    → let all = sent_items identifier number last body in
    body_items V10 all (root_scope all) (body_place last) ≡ body
unfolding envelopes_on_literals messaging
body-again identifier number last body content =
    ap standing_behind (behind-body identifier number last body) ∙ body-stands body content

pub sent-viewed : (identifier : List ℕ) (number : ℕ) (last : Bool) (body : List Item)
    → IsContent body → StandsInReplies V10 body
    → view (sent_items identifier number last body) ≡ Ok (view_with last body)
unfolding envelopes_on_literals messaging
sent-viewed identifier number last body content named =
    let all = sent_items identifier number last body in
    ap (λ o. unless (option_map BadNames o)
    (unless (wrong_root all) (viewed_by all (parts_of all))))
    (names-good identifier number last body content named)
    ∙ ap (viewed_by all) (parts-there identifier number last body content)
    ∙ viewed-with identifier number last body
    ∙ ap (λ (b : List Item). Ok (view_with last b))
    (body-again identifier number last body content)

-- what its block says
sequence-told : (identifier : List ℕ) (number : ℕ) (last : Bool) (body : List Item)
    → let all = sent_items identifier number last body in
    said (sequence_in (record {
      items = all;
      at = 4;
      scope = within all 4 (header_scope all (Some 3));
    }) (block_end last))
    ≡ said (with_identifier (identifier ++ [])
    (or_broken 10 (number_in (decimal number ++ [])) (λ n. Ok (n, last))))
unfolding envelopes_on_literals messaging
sequence-told identifier number true body = refl
sequence-told identifier number false body = refl

sequence-said : (identifier : List ℕ) (number : ℕ) (last : Bool) (body : List Item)
    → IsContent body → 0 < number → number < 2 ^ 63
    → sequence_at (sent_items identifier number last body)
    (record { from = 4; to = block_end last })
    ≡ Ok (record { identifier = identifier; number = number; last = last })
sequence-said identifier number last body content some small =
    let all = sent_items identifier number last body in
    ap (λ p. said (sequence_in (record {
      items = all;
      at = 4;
      scope = within all 4 (header_scope all (header_in p));
    }) (block_end last))) (parts-there identifier number last body content)
    ∙ sequence-told identifier number last body
    ∙ ap (λ o. said (with_identifier (identifier ++ []) (or_broken 10 o (λ n. Ok (n, last)))))
    (ap number_in (append-nil (decimal number)) ∙ number-read number some small)
    ∙ ap (λ t. Ok (numbered t number last)) (append-nil identifier)

place-there : (identifier : List ℕ) (last : Bool) (body : List Item)
    → placed_by (codes "Sequence") (Ok (view_with last body))
    ≡ Ok (record {
      span = record { from = 4; to = block_end last };
      body_at = body_place last;
      body = body;
    })
unfolding envelopes_on_literals messaging
place-there identifier last body = refl

pub same-if : {X : Type 0} (identifier : List ℕ) (x : X) → if_same identifier identifier x ≡ Ok x
same-if identifier x = rw ((bytes_eq-Decides identifier identifier).1 refl) refl

pub data-read : (identifier : List ℕ) (sent : Data) → IsContent sent.body
    → StandsInReplies V10 sent.body → 0 < sent.number → sent.number < 2 ^ 63
    → data_in identifier (data_items identifier sent) ≡ Ok sent
data-read identifier sent content named some small =
    let all = data_items identifier sent in
    let last = sent.last in
    let body = sent.body in
    let number = sent.number in
    ap (λ p. then_by p (λ (q : Place). then_by (sequence_at all q.span)
    (λ n. if_same identifier n.identifier (numbered_body n q.body))))
    (ap (placed_by (codes "Sequence")) (sent-viewed identifier number last body content named)
    ∙ place-there identifier last body)
    ∙ ap (λ s. then_by s (λ n. if_same identifier n.identifier (numbered_body n body)))
    (sequence-said identifier number last body content some small)
    ∙ same-if identifier sent
