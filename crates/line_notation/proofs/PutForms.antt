-- The lines that are put have the forms that they say, where records can hold what they say.
use Rattle.std.proofs.Common.{◌≡◌, ℕ, ◌+◌, ◌/◌, ◌%◌, ◌^◌, ◌<◌, ◌≤◌, Bool, true, false, cond, ◌⊎◌}
use Rattle.std.proofs.Common.{List, [], ◌∷◌, ◌++◌, map, length, ℤ, pos, negsuc, nat_lt, nat_le, sym}
use Rattle.std.proofs.Common.{refl, ap, ◌∙◌, inl, inr, arith, ltb-true, lt-ltb, leb-true}
use Rattle.std.proofs.Math.Utf8.{encode, encodes, next, scalar, scalar_cases, scalars}
use Rattle.std.proofs.lemmas.Bool.{and_parts, Decides.nat_tests}
use Rattle.std.proofs.lemmas.{List.Folds.list_all-append, Str.IsUtf8-from_is_utf8}
use Rattle.std.specs.{Int.Signed.mag, List.list_all, Str.is_utf8}
use Rattle.nbfx_values.specs.declared.content.{ArrayItem.ArrayItem, Item.Item}
use Rattle.nbfx_values.specs.declared.content.AttrItem.{AttrItem, TheVariants.Attr as AttrOn}
use Rattle.nbfx_values.specs.declared.content.AttrItem.TheVariants.{Xmlns as DeclaresOn}
use Rattle.nbfx_values.specs.declared.content.Item.TheVariants.{Array, Attr, Close, Comment, Start}
use Rattle.nbfx_values.specs.declared.content.Item.TheVariants.{Text as TextItem, Xmlns}
use Rattle.nbfx_values.specs.declared.scalars.{Scalar.Scalar, Value.Value}
use Rattle.nbfx_values.specs.declared.scalars.Scalar.TheVariants.{Bytes, DateTime, Decimal, Double}
use Rattle.nbfx_values.specs.declared.scalars.Scalar.TheVariants.{Float, Number, QName, Text}
use Rattle.nbfx_values.specs.declared.scalars.Scalar.TheVariants.{TimeSpan, Truth, UniqueId, Uuid}
use Rattle.nbfx_values.specs.declared.scalars.Value.TheVariants.{List as ListOf, One}
use Rattle.nbfx_values.specs.Items.{are_texts, is_valid_array, is_valid_attribute, is_valid_item}
use Rattle.nbfx_values.specs.Scalars.{is_number, is_unsigned, is_valid_scalar, is_valid_value}
use Rattle.line_notation.specs.Forms.{AreQuoted, array, attr, close, comment, Form, form_words}
use Rattle.line_notation.specs.Forms.{IsForm, IsLine, line_of, ns, start, text, values}
use Rattle.line_notation.specs.Lines.{AreLines, attribute_form, forms_of, item_forms, lines_of}
use Rattle.line_notation.specs.Quoted.{IsQuoted, quoted}
use Rattle.line_notation.specs.Scalars.{IsScalar, scalar_words}
use Rattle.line_notation.specs.Values.{AreValues, how_many, IsOneValue, value_words}
use Rattle.line_notation.specs.Values.{written_scalars, written_value}
use Rattle.line_notation.proofs.NaturalFacts.{count_digits-natural, decimal-integer}
use Rattle.line_notation.proofs.{NaturalFacts.decimal-natural, PiecesFacts.quoted-quoted}
use Rattle.line_notation.proofs.PrintFacts.{how_many-scalars}
use Rattle.line_notation.proofs.ValidFacts.{array-some, array_parts, number-64}

-- the bytes of a text are bytes
abbrev are_small : List ℕ → Bool
are_small = list_all (λ b. nat_lt b 256)

next-small : (bits : ℕ) → nat_lt (next bits) 256 ≡ true
next-small bits = lt-ltb (128 + bits % 64) 256 (omega arith)

encode-small : (c : ℕ) → scalar c ≡ true → are_small (encode c) ≡ true
unfolding encode
encode-small c is = go (nat_lt c 128) (nat_lt c 2048) (nat_lt c 65536) refl refl refl
    (below (scalar_cases c is))
  where
    below : (c < 55296) ⊎ ((57344 ≤ c) × (c < 1114112)) → c < 1114112
    below (inl h) = omega arith
    below (inr (h, k)) = k

    go : (one two three : Bool) → nat_lt c 128 ≡ one → nat_lt c 2048 ≡ two → nat_lt c 65536 ≡ three
        → c < 1114112
        → are_small
        (cond one (c ∷ [])
        (cond two ((192 + c / 64) ∷ next c ∷ [])
        (cond three ((224 + c / 4096) ∷ next (c / 64) ∷ next c ∷ [])
        ((240 + c / 262144) ∷ next (c / 4096) ∷ next (c / 64) ∷ next c ∷ [])))) ≡ true
    go true two three e f g most = let small = ltb-true c 128 e in rw (lt-ltb c 256 (omega arith))
        refl
    go false true three e f g most = let small = ltb-true c 2048 f in
        rw (lt-ltb (192 + c / 64) 256 (omega arith), next-small c) refl
    go false false true e f g most = let small = ltb-true c 65536 g in
        rw (lt-ltb (224 + c / 4096) 256 (omega arith), next-small (c / 64), next-small c) refl
    go false false false e f g most = rw (
      lt-ltb (240 + c / 262144) 256 (omega arith),
      next-small
          (c / 4096),
      next-small (c / 64),
      next-small c,
    ) refl

encodes-small : (cs : List ℕ) → scalars cs ≡ true → are_small (encodes cs) ≡ true
encodes-small [] h = refl
encodes-small (c ∷ cs) h =
    let p = and_parts (scalar c) (scalars cs) h in
    list_all-append (λ b. nat_lt b 256) (encode c) (encodes cs) ∙
    rw (encode-small c p.0, encodes-small cs p.1) refl

text-quoted : (bytes : List ℕ) → is_utf8 bytes ≡ true → IsQuoted bytes (quoted bytes)
text-quoted bytes h =
    let u = IsUtf8-from_is_utf8 bytes h in
    quoted-quoted bytes (ap are_small (sym u.1.1) ∙ encodes-small u.0 u.1.0)

texts-quoted : (first second : List ℕ) → are_texts first second ≡ true → AreQuoted first second
    (quoted first) (quoted second)
texts-quoted first second h = let p = and_parts (is_utf8 first) (is_utf8 second) h in
    (text-quoted first p.0, text-quoted second p.1)

-- a value's words
number-small : (n : ℤ) → is_number n ≡ true → mag n + 1 < 10 ^ 64
number-small (pos n) h = grind (arith, nat_tests)
number-small (negsuc n) h = grind (arith, nat_tests)

decimal-small : (n : ℕ) → n < 2 ^ 96 → n < 10 ^ 64
decimal-small n h = omega arith

scalar-put : (s : Scalar) → is_valid_scalar s ≡ true → IsScalar s (scalar_words s)
scalar-put (Number n) h = (_, refl, decimal-integer n (number-small n h))
scalar-put (Truth truth) h = refl
scalar-put (Float bits) h = (h, refl)
scalar-put (Double bits) h = (h, refl)
scalar-put (Decimal d) h =
    let p = and_parts (nat_le d.scale 28) (is_unsigned 96 d.magnitude) h in
    let scale = leb-true d.scale 28 p.0 in (
      _,
      _,
      refl,
      decimal-natural d.scale (omega arith),
      decimal-natural d.magnitude
          (decimal-small d.magnitude (ltb-true d.magnitude (2 ^ 96) p.1)),
    )
scalar-put (DateTime pattern) h = (h, refl)
scalar-put (TimeSpan span) h =
    (_, refl, decimal-integer span (number-small span (number-64 span h)))
scalar-put (Text bytes) h = (quoted bytes, refl, text-quoted bytes h)
scalar-put (Bytes bytes) h = (h, refl)
scalar-put (UniqueId bytes) h = (h, refl)
scalar-put (Uuid bytes) h = (h, refl)
scalar-put (QName letter name) h =
    let p = and_parts (nat_le letter 25) (is_utf8 name) h in
    (leb-true letter 25 p.0, quoted name, refl, text-quoted name p.1)

-- several values', and one value's
scalars-put : (ss : List Scalar) → list_all is_valid_scalar ss ≡ true
    → AreValues (written_scalars ss) (value_words (written_scalars ss))
scalars-put [] h = refl
scalars-put (s ∷ ss) h =
    let p = and_parts (is_valid_scalar s) (list_all is_valid_scalar ss) h in
    (scalar_words s, value_words (written_scalars ss), refl, scalar-put s p.0, scalars-put ss p.1)

value-put : (v : Value) → is_valid_value v ≡ true → IsOneValue (written_value v)
    (value_words (written_value v))
value-put (One s) h = record {
  one = refl;
  values = (scalar_words s, [], refl, scalar-put s h, refl);
}
value-put (ListOf ss) h =
    record {
      one = refl;
      values = (
        _,
        value_words (written_scalars ss),
        [],
        refl,
        count_digits-natural
            (how_many (written_scalars ss)),
        scalars-put ss h,
        refl,
      );
    }

-- lines that are put
line-put : (form : Form) → IsForm form (form_words form) → IsLine form (line_of form)
line-put form h = (form_words form, refl, h)

unfoldable ArePut : List Form → Type 0
ArePut [] = Unit {0}
ArePut (form ∷ forms) = IsLine form (line_of form) × ArePut forms

put-append : (forms more : List Form) → ArePut forms → ArePut more → ArePut (forms ++ more)
unfolding ArePut
put-append [] more h k = k
put-append (form ∷ forms) more h k = (h.0, put-append forms more h.1 k)

lines-put : (forms : List Form) → ArePut forms → AreLines forms (map line_of forms)
unfolding ArePut
lines-put [] h = refl
lines-put (form ∷ forms) h = (line_of form, map line_of forms, refl, h.0, lines-put forms h.1)

-- those of attributes, of items and of documents
attribute-put : (one : AttrItem) → is_valid_attribute one ≡ true → IsLine (attribute_form one)
    (line_of (attribute_form one))
attribute-put (DeclaresOn prefix uri) h = line-put (ns prefix uri)
    (_, _, refl, texts-quoted prefix uri h)
attribute-put (AttrOn prefix local value) h =
    let p = and_parts (are_texts prefix local) (is_valid_value value) h in
    line-put (attr prefix local (written_value value))
    (_, _, _, refl, texts-quoted prefix local p.0, value-put value p.1)

attributes-put : (all : List AttrItem) → list_all is_valid_attribute all ≡ true
    → ArePut (map attribute_form all)
unfolding ArePut
attributes-put [] h = tt
attributes-put (one ∷ all) h = let p = and_parts (is_valid_attribute one)
    (list_all is_valid_attribute all) h in (attribute-put one p.0, attributes-put all p.1)

array-put : (a : ArrayItem) → is_valid_array a ≡ true → ArePut (item_forms (Array a))
unfolding ArePut
array-put a h =
    let p = array_parts a h in
    let some : 0 < length a.values = array-some a h in
    let counted : 0 < how_many (written_scalars a.values) = rw (how_many-scalars a.values) some in
    put-append (array a.kind a.prefix a.local ∷ map attribute_form a.attrs)
    (values (written_scalars a.values) ∷ []) (
      line-put (array a.kind a.prefix a.local) (_, _, refl, texts-quoted a.prefix a.local p.texts),
      attributes-put a.attrs p.attributes,
    ) (
      line-put (values (written_scalars a.values))
          (_, refl, record { some = counted; values = scalars-put a.values p.valid }),
      tt,
    )

item-put : (item : Item) → is_valid_item item ≡ true → ArePut (item_forms item)
unfolding ArePut
item-put (Start prefix local) h =
    (line-put (start prefix local) (_, _, refl, texts-quoted prefix local h), tt)
item-put (Xmlns prefix uri) h = (attribute-put (DeclaresOn prefix uri) h, tt)
item-put (Attr prefix local value) h = (attribute-put (AttrOn prefix local value) h, tt)
item-put (TextItem value) h = (
  line-put (text (written_value value)) (_, refl, value-put value h),
  tt,
)
item-put (Comment bytes) h = (line-put (comment bytes) (_, refl, text-quoted bytes h), tt)
item-put (Array a) h = array-put a h
item-put Close h = (line-put close refl, tt)

items-put : (items : List Item) → list_all is_valid_item items ≡ true → ArePut (forms_of items)
unfolding ArePut
items-put [] h = tt
items-put (item ∷ items) h =
    let p = and_parts (is_valid_item item) (list_all is_valid_item items) h in
    put-append (item_forms item) (forms_of items) (item-put item p.0) (items-put items p.1)

pub lines_of-lines : (items : List Item) → list_all is_valid_item items ≡ true
    → AreLines (forms_of items) (lines_of items)
lines_of-lines items h = lines-put (forms_of items) (items-put items h)
