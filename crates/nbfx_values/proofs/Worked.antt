-- Worked cases: what the definitions make of literal items and values.
use Rattle.std.proofs.Common.{◌≡◌, ℕ, ◌-◌, ◌^◌, List, [], ◌∷◌, pos, negsuc, Some, codes, refl}
use Rattle.{std.proofs.Common.arith, nbfx_values.specs.declared.content.ArrayKind.TheVariants.Int32}
use Rattle.nbfx_values.specs.declared.content.Item.{Item, TheVariants.Xmlns}
use Rattle.nbfx_values.specs.declared.content.Item.TheVariants.{Array, Attr, Close, Start, Text}
use Rattle.nbfx_values.specs.declared.scalars.Scalar.TheVariants.{Number, QName, Text as TextOf}
use Rattle.nbfx_values.specs.declared.scalars.Scalar.TheVariants.{UniqueId, Uuid}
use Rattle.nbfx_values.specs.{declared.scalars.Value.TheVariants.One, Characters.value_characters}
use Rattle.nbfx_values.specs.Documents.{array, IsDocument, IsRefusedAt, no_more}
use Rattle.nbfx_values.specs.Limits.{limits, usual_limits}
use Rattle.nbfx_values.specs.Measures.{content_of, depth_of}
use Rattle.nbfx_values.proofs.{OnLiterals.values_on_literals, Walks.stops-refused}

-- the quotas of a stack that nobody has set otherwise
usual_numbers : usual_limits ≡ limits 65536 32 2048 262144 2048 (2 ^ 48)
usual_numbers = refl

name : List ℕ → Item
name local = Start [] local

number : ℕ → Item
number n = Attr [] (codes "k") (One (Number (pos n)))

words : List ℕ → Item
words bytes = Text (One (TextOf bytes))

-- an attribute behind a text
late_attribute-refused : IsRefusedAt (name (codes "x") ∷ number 1 ∷ words (codes "hi") ∷ number 2
    ∷ Close ∷ []) 3
unfolding values_on_literals name number words
late_attribute-refused = stops-refused _ 3
    (record { within = omega arith; front = refl; stops = λ _. refl; unfinished = λ e. cc })

-- no items, and a root that doesn't end
nothing-refused : IsRefusedAt [] 0
nothing-refused = stops-refused [] 0
    (record {
      within = omega arith;
      front = refl;
      stops = λ h. absurd (omega arith);
      unfinished =
          λ e. cc;
    })

open_root-refused : IsRefusedAt (name (codes "x") ∷ []) 1
unfolding values_on_literals name
open_root-refused = stops-refused _ 1
    (record {
      within = omega arith;
      front = refl;
      stops = λ h. absurd (omega arith);
      unfinished =
          λ e. cc;
    })

-- two roots, and a text before the root
second_root-refused : IsRefusedAt (name (codes "x") ∷ Close ∷ name (codes "y") ∷ Close ∷ []) 2
unfolding values_on_literals name
second_root-refused = stops-refused _ 2
    (record { within = omega arith; front = refl; stops = λ _. refl; unfinished = λ e. cc })

text_first-refused : IsRefusedAt (words (codes "hi") ∷ name (codes "x") ∷ Close ∷ []) 0
unfolding values_on_literals name words
text_first-refused = stops-refused _ 0
    (record { within = omega arith; front = refl; stops = λ _. refl; unfinished = λ e. cc })

-- an array of no values
empty_array-refused :
    IsRefusedAt
    (name (codes "x")
    ∷ Array (record { prefix = []; local = codes "a"; attrs = []; kind = Int32; values = [] })
    ∷ Close ∷ []) 1
unfolding values_on_literals name
empty_array-refused = stops-refused _ 1
    (record { within = omega arith; front = refl; stops = λ _. refl; unfinished = λ e. cc })

-- the numbers 1, 2 and -1 as an array
three : Item
three = Array (record {
  prefix = [];
  local = codes "a";
  attrs = [];
  kind = Int32;
  values = Number (pos 1) ∷ Number (pos 2) ∷ Number (negsuc 0) ∷ [];
})

holding_array : List Item
holding_array = name (codes "x") ∷ three ∷ Close ∷ []

holding_array-document : IsDocument holding_array
unfolding values_on_literals holding_array name three
holding_array-document = record {
  prefix = [];
  local = codes "x";
  attributes = [];
  children = array (record {
    prefix = [];
    local = codes "a";
    attrs = [];
    kind = Int32;
    values = Number (pos 1) ∷ Number (pos 2) ∷ Number (negsuc 0) ∷ [];
  }) no_more;
  walked = refl;
  valid = refl;
}

holding_array-depth : depth_of holding_array ≡ 2
unfolding holding_array name three
holding_array-depth = refl

holding_array-content : content_of holding_array ≡ 26
unfolding holding_array name three
holding_array-content = refl

-- an envelope
identifier : List ℕ
identifier = 0x33 ∷ 0x22 ∷ 0x11 ∷ 0x00 ∷ 0x55 ∷ 0x44 ∷ 0x77 ∷ 0x66 ∷ 0x88 ∷ 0x99 ∷ 0xAA ∷ 0xBB
    ∷ 0xCC ∷ 0xDD ∷ 0xEE ∷ 0xFF ∷ []

envelope : List Item
envelope =
    Start (codes "s") (codes "Envelope") ∷ Xmlns (codes "s")
    (codes "http://www.w3.org/2003/05/soap-envelope")
    ∷ Xmlns (codes "a") (codes "http://www.w3.org/2005/08/addressing") ∷ Start (codes "s")
    (codes "Header")
    ∷ Start (codes "a") (codes "Action") ∷ Attr (codes "s") (codes "mustUnderstand")
    (One (Number (pos 1))) ∷ words (codes "urn:echo") ∷ Close
    ∷ Start (codes "a") (codes "MessageID") ∷ Text (One (UniqueId identifier)) ∷ Close ∷ Close
    ∷ Start (codes "s") (codes "Body") ∷ name (codes "x") ∷ words (codes "hi") ∷ Close ∷ Close
    ∷ Close ∷ []

envelope-depth : depth_of envelope ≡ 3
unfolding envelope identifier name words
envelope-depth = refl

envelope-content : content_of envelope ≡ 165
unfolding envelope identifier name words
envelope-content = refl

-- characters
unique_id-characters : value_characters (One (UniqueId identifier))
    ≡ Some (codes "urn:uuid:00112233-4455-6677-8899-aabbccddeeff")
unfolding identifier values_on_literals
unique_id-characters = refl

uuid-characters : value_characters (One (Uuid identifier))
    ≡ Some (codes "00112233-4455-6677-8899-aabbccddeeff")
unfolding identifier values_on_literals
uuid-characters = refl

least-characters : value_characters (One (Number (negsuc (2 ^ 63 - 1))))
    ≡ Some (codes "-9223372036854775808")
unfolding values_on_literals
least-characters = refl

greatest-characters : value_characters (One (Number (pos (2 ^ 64 - 1))))
    ≡ Some (codes "18446744073709551615")
unfolding values_on_literals
greatest-characters = refl

name-characters : value_characters (One (QName 18 (codes "Envelope"))) ≡ Some (codes "s:Envelope")
name-characters = refl
