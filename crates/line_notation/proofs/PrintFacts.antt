-- The texts of items, part by part.
use Rattle.std.proofs.Common.{◌≡◌, ℕ, suc, ◌^◌, ◌<◌, false, List, [], ◌∷◌, ◌++◌, map, length, codes}
use Rattle.std.proofs.Common.{decimal, flat_map, sym, refl, ap, ◌∙◌, append_assoc, append-nil}
use Rattle.std.{proofs.Common.arith, proofs.Common.rules, specs.Fmt.digits_onto}
use Rattle.std.proofs.lemmas.Fmt.{decimal_from_prepends, length-decimal-le_succ}
use Rattle.std.proofs.lemmas.{Grind.flat_map-append, List.Folds.flat_map-map}
use Rattle.nbfx_values.specs.declared.{content.ArrayItem.ArrayItem, scalars.Scalar.Scalar}
use Rattle.nbfx_values.specs.declared.content.Item.{Item, TheVariants.Array}
use Rattle.nbfx_values.specs.declared.scalars.Value.{Value, TheVariants.List as ListOf}
use Rattle.line_notation.specs.Forms.{array, attr, line_of, values}
use Rattle.line_notation.specs.Lines.{attribute_form, form_text, forms_of, item_forms, item_text}
use Rattle.line_notation.specs.Lines.{items_text, with_line_feed}
use Rattle.line_notation.specs.{Numerals.count_digits, Scalars.scalar_words}
use Rattle.line_notation.specs.Quoted.{quoted, quoted_byte}
use Rattle.line_notation.specs.Values.{how_many, value_words, written_scalars, written_value}
use Rattle.line_notation.specs.Words.{behind_spaces, spaced}

-- a list of lists, and what is made of each
pub flat_map-flat_map : {A B C : Type 0} (f : B → List C) (g : A → List B) (xs : List A)
    → flat_map f (flat_map g xs) ≡ flat_map (λ x. flat_map f (g x)) xs
flat_map-flat_map f g [] = refl
flat_map-flat_map f g (x ∷ xs) = flat_map-append f (g x) (flat_map g xs) ∙
    ap (λ l. flat_map f (g x) ++ l) (flat_map-flat_map f g xs)

pub value_words-scalars : (ss : List Scalar) → value_words (written_scalars ss)
    ≡ flat_map scalar_words ss
value_words-scalars [] = refl
value_words-scalars (s ∷ ss) = ap (λ l. scalar_words s ++ l) (value_words-scalars ss)

pub how_many-scalars : (ss : List Scalar) → how_many (written_scalars ss) ≡ length ss
how_many-scalars [] = refl
how_many-scalars (s ∷ ss) = ap suc (how_many-scalars ss)

pub behind_spaces-scalars : (ss : List Scalar) → behind_spaces (flat_map scalar_words ss)
    ≡ flat_map (λ s. behind_spaces (scalar_words s)) ss
behind_spaces-scalars ss = flat_map-flat_map (λ word. 32 ∷ word) scalar_words ss

-- a count that a program can have is put as std puts it
pub count_digits-decimal : (n : ℕ) → n < 2 ^ 64 → count_digits n ≡ decimal n
count_digits-decimal n small =
    decimal_from_prepends (λ k m acc. digits_onto k 10 false m acc) (search rules) (suc n) n []
    small (let h = length-decimal-le_succ n small in omega (arith, h))
    ∙ append-nil (decimal n)

-- a list's words
pub list_words : (ss : List Scalar) → length ss < 2 ^ 64
    → behind_spaces (value_words (written_value (ListOf ss)))
    ≡ behind_spaces (codes "list" ∷ decimal (length ss) ∷ [])
    ++ behind_spaces (flat_map scalar_words ss)
list_words ss small =
    ap (λ l. behind_spaces (codes "list" ∷ count_digits (how_many (written_scalars ss)) ∷ l))
    (append-nil (value_words (written_scalars ss)) ∙ value_words-scalars ss)
    ∙ ap (λ n. behind_spaces (codes "list" ∷ n ∷ flat_map scalar_words ss))
    (ap count_digits (how_many-scalars ss) ∙ count_digits-decimal (length ss) small)
    ∙ flat_map-append (λ word. 32 ∷ word) (codes "list" ∷ decimal (length ss) ∷ [])
    (flat_map scalar_words ss)

-- the lines of items, item by item
pub text-items : (items : List Item) → items_text items ≡ flat_map item_text items
unfolding items_text
text-items items = flat_map-map with_line_feed line_of (forms_of items) ∙ flat_map-flat_map
    form_text item_forms items

-- an array's lines
pub array_text : (a : ArrayItem)
    → item_text (Array a)
    ≡ form_text (array a.kind a.prefix a.local) ++ flat_map form_text (map attribute_form a.attrs)
    ++ form_text (values (written_scalars a.values))
array_text a =
    let start = form_text (array a.kind a.prefix a.local) in
    let attributes = flat_map form_text (map attribute_form a.attrs) in
    ap (λ l. start ++ l) (flat_map-append form_text (map attribute_form a.attrs)
    (values (written_scalars a.values) ∷ []))
    ∙ ap (λ l. start ++ (attributes ++ l))
    (append-nil (form_text (values (written_scalars a.values))))
    ∙ sym (append_assoc start attributes (form_text (values (written_scalars a.values))))

-- a word and two texts in quotes
pub two_quoted : (word first second : List ℕ)
    → spaced (word ∷ quoted first ∷ quoted second ∷ [])
    ≡ word ++
    (32 ∷ 34 ∷
    (flat_map quoted_byte first ++ (34 ∷ 32 ∷ 34 ∷ (flat_map quoted_byte second ++ (34 ∷ [])))))
unfolding quoted
two_quoted word first second =
    let own = flat_map quoted_byte first in
    let last = flat_map quoted_byte second ++ (34 ∷ []) in
    ap (λ l. word ++ (32 ∷ 34 ∷ l)) (append_assoc own (34 ∷ []) (32 ∷ 34 ∷ (last ++ [])) ∙
    ap (λ l. own ++ (34 ∷ 32 ∷ 34 ∷ l)) (append-nil last))

-- an attribute's line: its names, and then its value
pub attribute_line : (prefix local : List ℕ) (value : Value)
    → form_text (attr prefix local (written_value value))
    ≡ with_line_feed (spaced (codes "attr" ∷ quoted prefix ∷ quoted local ∷ [])
    ++ behind_spaces (value_words (written_value value)))
attribute_line prefix local value =
    let names = quoted prefix ∷ quoted local ∷ [] in
    ap (λ l. with_line_feed (codes "attr" ++ l))
    (flat_map-append (λ word. 32 ∷ word) names (value_words (written_value value)))
