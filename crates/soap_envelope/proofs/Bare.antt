-- What of a document is seen without its prefixes.
use Rattle.std.proofs.Common.{◌≡◌, ℕ, ◌+◌, ◌&&◌, List, [], ◌∷◌, map, drop, if◌then◌else◌, ◌==◌}
use Rattle.std.proofs.Common.{Some, None, Option, option_map, refl, ap, ◌∙◌}
use Rattle.std.proofs.{Math.Path.fun_ext, lemmas.List.drop-map}
use Rattle.nbfx_values.specs.declared.content.{ArrayItem.ArrayItem, ArrayKind.TheVariants.Int16}
use Rattle.nbfx_values.specs.declared.content.Item.{Item, TheVariants.Text, TheVariants.Xmlns}
use Rattle.nbfx_values.specs.declared.content.Item.TheVariants.{Array, Attr, Close, Comment, Start}
use Rattle.soap_envelope.specs.Characters.{characters_of, is_passed, is_plain}
use Rattle.soap_envelope.specs.Children.{children_from, children_of, close_from, close_of, ends_at}
use Rattle.soap_envelope.specs.Children.{is_child, is_start, open_behind}
use Rattle.soap_envelope.specs.Resolved.{Arrays, Attribute, Comments, Declares, Element, Ends}
use Rattle.soap_envelope.specs.Resolved.{Resolved, resolved_from, resolved_item, scope_behind}
use Rattle.soap_envelope.specs.{Resolved.Texts, Scopes.Scope, View.text_item}

-- an item without what its prefixes and the declarations say
abbrev some_array : ArrayItem
some_array = record { prefix = []; local = []; attrs = []; kind = Int16; values = [] }

abbrev pub bare : Item → Item
bare (Start p l) = Start [] l
bare (Xmlns p u) = Xmlns [] []
bare (Attr p l v) = Attr [] l v
bare (Text v) = Text v
bare (Comment v) = Comment v
bare (Array a) = Array some_array
bare Close = Close

abbrev pub bare_of : Resolved → Item
bare_of (Element name) = Start [] name.local
bare_of Declares = Xmlns [] []
bare_of (Attribute name v) = Attr [] name.local v
bare_of (Texts v) = Text v
bare_of (Comments v) = Comment v
bare_of (Arrays name attributes kind values) = Array some_array
bare_of Ends = Close

one-bare : (scope : Scope) (x : Item) (xs : List Item) → bare_of (resolved_item scope x xs) ≡ bare x
one-bare scope Close xs = refl
one-bare scope x xs = refl

pub all-bare : (scope : Scope) (xs : List Item) → map bare_of (resolved_from scope xs) ≡ map bare xs
all-bare scope [] = refl
all-bare scope (x ∷ xs) =
    rw (one-bare scope x xs) (ap (λ l. bare x ∷ l) (all-bare (scope_behind scope x xs) xs))

-- children by their places
pub child-same : (item : Item) → is_child (bare item) ≡ is_child item
child-same Close = refl
child-same item = refl

pub opens-same : (n : ℕ) (item : Item) → open_behind n (bare item) ≡ open_behind n item
opens-same n Close = refl
opens-same n item = refl

pub children-same : (o : Option ℕ) (at : ℕ) (xs : List Item)
    → children_from o at (map bare xs) ≡ children_from o at xs
children-same None at xs = refl
children-same (Some n) at [] = refl
children-same (Some n) at (x ∷ xs) =
    rw (child-same x, opens-same n x)
    (ap (λ l. if n == 0 && is_child x then at ∷ l else l)
    (children-same (open_behind n x) (at + 1) xs))

pub close-same : (n at : ℕ) (xs : List Item) → close_from n at (map bare xs) ≡ close_from n at xs
close-same n at [] = refl
close-same n at (x ∷ xs) =
    rw (opens-same n x)
    (ap (ends_at (open_behind n x) at) (fun_ext (λ k. close-same k (at + 1) xs)))

-- and what an item is
pub record SeenAlike (one other : Option Item) : Type 0 where
  pub passed : is_passed one ≡ is_passed other
  pub plain : is_plain one ≡ is_plain other
  pub start : is_start one ≡ is_start other
  pub characters : characters_of one ≡ characters_of other
  pub text : text_item one ≡ text_item other

pub seen-alike : (o : Option Item) → SeenAlike (option_map bare o) o
seen-alike (Some Close) =
    record { passed = refl; plain = refl; start = refl; characters = refl; text = refl }
seen-alike o =
    record { passed = refl; plain = refl; start = refl; characters = refl; text = refl }

pub children-bare : (xs : List Item) (at : ℕ) → children_of (map bare xs) at ≡ children_of xs at
children-bare xs at =
    ap (children_from (Some 0) (at + 1)) (drop-map bare (at + 1) xs)
    ∙ children-same (Some 0) (at + 1) (drop (at + 1) xs)

pub closes-bare : (xs : List Item) (at : ℕ) → close_of (map bare xs) at ≡ close_of xs at
closes-bare xs at =
    ap (close_from 0 (at + 1)) (drop-map bare (at + 1) xs)
    ∙ close-same 0 (at + 1) (drop (at + 1) xs)
