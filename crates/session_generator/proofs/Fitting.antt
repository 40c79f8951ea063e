-- Each document of a seed fits, whatever strings the session has, under all good quotas.
use Rattle.std.proofs.Common.{◌≡◌, ℕ, zero, suc, ◌+◌, ◌*◌, ◌/◌, ◌%◌, ◌≤◌, Bool, true, false, List}
use Rattle.std.proofs.Common.{[], ◌∷◌, ◌++◌, length, drop, ℤ, pos, if◌then◌else◌, nat_lt}
use Rattle.std.proofs.Common.{unsigned_abs, Some, None, Ok, codes, Option, flat_map, int_eq, sym}
use Rattle.std.proofs.Common.{refl, ap, ◌∙◌, append_assoc, append-nil, arith, length-append, w8}
use Rattle.std.{proofs.Common.w16, proofs.Common.w32, proofs.Common.w64, specs.Int.to_le_bytes}
use Rattle.std.proofs.{Math.Seq.drop-append_seam, lemmas.List.Concat.flat_map-append}
use Rattle.string_tables.specs.StringTable.{chosen_id, StringTable, with_strings}
use Rattle.multibyte_ints.specs.{Integer.shortest, Integer.shortest_within, Text.string_bytes_of}
use Rattle.nbfx_values.specs.{declared.scalars.Scalar.TheVariants.Number, Scalars.is_signed}
use Rattle.nbfx_values.specs.declared.session.Kind.TheVariants.{Session}
use Rattle.nbfx_values.specs.Limits.{IsGood, Limits}
use Rattle.nbfx_records.specs.{declared.kinds.LengthForm.LengthForm, Shapes.width_in}
use Rattle.nbfx_records.specs.declared.kinds.LengthForm.TheVariants.{FourBytes, OneByte, TwoBytes}
use Rattle.nbfx_records.specs.declared.nodes.NameRef.{NameRef, TheVariants.Id, TheVariants.Inline}
use Rattle.nbfx_records.specs.declared.nodes.{Node.Node, RawValue.TheVariants.One}
use Rattle.nbfx_records.specs.declared.nodes.Node.TheVariants.{Attribute, Element, EndElement, Text}
use Rattle.nbfx_records.specs.declared.nodes.RawScalar.{RawScalar, TheVariants.Known}
use Rattle.nbfx_records.specs.Chosen.{chosen_bytes, chosen_number, chosen_scalar, least_form}
use Rattle.nbfx_records.specs.Chosen.{name_bytes, signed, sized, table_bytes, TextRecord}
use Rattle.nbfx_encoder.specs.Placing.{has_room, place, place_found, Placed, spell_text, text_found}
use Rattle.nbfx_encoder.specs.Placing.{Writing}
use Rattle.nbfx_encoder.specs.Spelling.{Fits, opening_bytes, spell, strings_behind, writing}
use Rattle.session_generator.specs.Documents.{document, letters, root_name}
use Rattle.session_generator.proofs.DocumentFacts.{content_low, letters_length, root_length}
use Rattle.nbfx_records.specs.declared.kinds.TextKind.TheVariants as texts

-- an integer has at most five bytes
within_length : (more n : ℕ) → length (shortest_within more n) ≤ more + 1
unfolding shortest_within
within_length zero n = omega arith
within_length (suc more) n = by (nat_lt n 128) (within_length more (n / 128))
  where
    by : (b : Bool) → length (shortest_within more (n / 128)) ≤ more + 1
        → length (if b then n ∷ [] else (n % 128 + 128) ∷ shortest_within more (n / 128))
        ≤ suc more + 1
    by true h = omega arith
    by false h = omega (arith, h)

int_length : (n : ℕ) → length (shortest n) ≤ 5
unfolding shortest
int_length n = within_length 4 n

string_length : (text : List ℕ) → length (string_bytes_of text) ≤ 5 + length text
unfolding string_bytes_of
string_length text =
    let n = int_length (length text) in let m = length-append (shortest (length text)) text in
    omega (arith, n, m)

-- what a name takes where it stands, and as a string that it brings
record TakesFew (table : StringTable) (text : List ℕ) (placed : Placed NameRef) : Type 0 where
  own : List (List ℕ)
  grown : placed.1.strings ≡ table.strings ++ own
  brings : length (flat_map string_bytes_of own) ≤ 5 + length text
  name : length (name_bytes placed.0) ≤ 5 + length text

module _ (w : Writing) (table : StringTable) (text : List ℕ) where
  new_few : (b : Bool) → TakesFew table text (if b
      then (Id (2 * length table.strings + 1), with_strings table (text ∷ []))
      else (Inline text, table))
  new_few true = record {
    own = text ∷ [];
    grown = refl;
    brings = (let n = string_length text in let m = length-append (string_bytes_of text) [] in
        omega (arith, n, m));
    name = (let n = int_length (2 * length table.strings + 1) in omega (arith, n));
  }
  new_few false = record {
    own = [];
    grown = sym (append-nil table.strings);
    brings = omega arith;
    name = string_length text;
  }

  found_few : (found : Option ℕ) → TakesFew table text (place_found w table text found)
  found_few (Some id) = record {
    own = [];
    grown = sym (append-nil table.strings);
    brings = omega arith;
    name = (let n = int_length id in omega (arith, n));
  }
  found_few None = new_few (has_room w table text)

  place_few : TakesFew table text (place w table text)
  place_few = found_few (chosen_id table text)

-- of two records by a test
either : (b : Bool) (one other : TextRecord) (most : ℕ) → length one.body ≤ most
    → length other.body ≤ most → length (if b then one else other).body ≤ most
either true one other most first second = first
either false one other most first second = second

number_length : (n : ℤ) → length (chosen_number n).body ≤ 8
number_length n =
    either (int_eq n (pos 0)) _ _ 8 (omega arith)
    (either (int_eq n (pos 1)) _ _ 8 (omega arith)
    (either (is_signed 8 n) (signed texts.Int8 w8 n) _ 8 (omega arith)
    (either (is_signed 16 n) (signed texts.Int16 w16 n) _ 8 (omega arith)
    (either (is_signed 32 n) (signed texts.Int32 w32 n) _ 8 (omega arith)
    (either (is_signed 64 n) (signed texts.Int64 w64 n) (sized texts.UInt64 w64 (unsigned_abs n)) 8
    (omega arith) (omega arith))))))

counted_length : (form : LengthForm) (content : List ℕ)
    → length (to_le_bytes (width_in form) (length content) ++ content) ≤ 4 + length content
counted_length OneByte content = omega arith
counted_length TwoBytes content = omega arith
counted_length FourBytes content = omega arith

found_length : (text : List ℕ) (c : ℕ) (found : Option ℕ)
    → length (chosen_scalar (text_found (c ∷ text) found)).body ≤ 5 + length (c ∷ text)
found_length text c (Some id) = let n = int_length id in omega (arith, n)
found_length text c None =
    let n = counted_length (least_form (length (c ∷ text))) (c ∷ text) in omega (arith, n)

text_length : (table : StringTable) (text : List ℕ)
    → length (chosen_scalar (spell_text table text)).body ≤ 5 + length text
text_length table [] = omega arith
text_length table (c ∷ text) = found_length text c (chosen_id table (c ∷ text))

-- the records of such a document
nodes_length : (a b c : NameRef) (x y : ℤ) (text : RawScalar) → length (name_bytes a) ≤ 8
    → length (name_bytes b) ≤ 6 → length (name_bytes c) ≤ 6
    → length (chosen_scalar text).body ≤ 304
    → length (flat_map chosen_bytes (Element [] a ∷ Attribute [] b (One (Known (Number x)))
    ∷ Text (One (Known (Number y))) false ∷ Element [] c ∷ Text (One text) true ∷ EndElement ∷ []))
    ≤ 400
nodes_length a b c x y text low_a low_b low_c low =
    let n = number_length x in
    let m = number_length y in
    simp length-append (omega (arith, low_a, low_b, low_c, low, n, m))

module _ (limits : Limits) (good : IsGood limits) (table : StringTable) (number d : ℕ) where
  abbrev w : Writing
  w = writing limits Session

  -- the three names, one behind the other
  abbrev root : Placed NameRef
  root = place w table (root_name d)

  abbrev key : Placed NameRef
  key = place w root.1 (codes "k")

  abbrev inner : Placed NameRef
  inner = place w key.1 (codes "t")

  abbrev nodes : List Node
  nodes = Element [] root.0
      ∷ Attribute [] key.0 (One (Known (Number (pos number))))
      ∷ Text (One (Known (Number (pos d)))) false
      ∷ Element [] inner.0
      ∷ Text (One (spell_text inner.1 (letters d))) true
      ∷ EndElement
      ∷ []

  spelled : spell w table (document number d) ≡ Ok (nodes, inner.1)
  spelled = refl

  root_few : TakesFew table (root_name d) root
  root_few = place_few w table (root_name d)

  key_few : TakesFew root.1 (codes "k") key
  key_few = place_few w root.1 (codes "k")

  inner_few : TakesFew key.1 (codes "t") inner
  inner_few = place_few w key.1 (codes "t")

  -- the strings that they bring
  abbrev own : List (List ℕ)
  own = root_few.own ++ (key_few.own ++ inner_few.own)

  grown : inner.1.strings ≡ table.strings ++ own
  grown = inner_few.grown ∙ ap (λ s. s ++ inner_few.own) key_few.grown
      ∙ ap (λ s. (s ++ key_few.own) ++ inner_few.own) root_few.grown
      ∙ append_assoc (table.strings ++ root_few.own) key_few.own inner_few.own
      ∙ append_assoc table.strings root_few.own (key_few.own ++ inner_few.own)

  brought : strings_behind table inner.1 ≡ own
  brought = ap (drop (length table.strings)) grown ∙ drop-append_seam table.strings own

  brings_few : length (table_bytes own) ≤ 32
  brings_few =
      let content : List ℕ = flat_map string_bytes_of own in
      let size = int_length (length content) in
      let all = length-append (shortest (length content)) content in
      let parts : length content ≡ length (flat_map string_bytes_of root_few.own)
      + (length (flat_map string_bytes_of key_few.own)
      + length (flat_map string_bytes_of inner_few.own)) =
      ap length (flat_map-append string_bytes_of root_few.own (key_few.own ++ inner_few.own)
      ∙ ap (λ b. flat_map string_bytes_of root_few.own ++ b)
      (flat_map-append string_bytes_of key_few.own inner_few.own))
      ∙ length-append (flat_map string_bytes_of root_few.own)
      (flat_map string_bytes_of key_few.own ++ flat_map string_bytes_of inner_few.own)
      ∙ ap (λ n. length (flat_map string_bytes_of root_few.own) + n)
      (length-append (flat_map string_bytes_of key_few.own)
      (flat_map string_bytes_of inner_few.own)) in
      let a = root_few.brings in
      let b = key_few.brings in
      let c = inner_few.brings in
      let name = root_length d in
      omega (arith, size, all, parts, a, b, c, name)

  nodes_few : length (flat_map chosen_bytes nodes) ≤ 400
  nodes_few =
      let a = root_few.name in
      let name = root_length d in
      let text = text_length inner.1 (letters d) in
      let letters_few = letters_length d in
      nodes_length root.0 key.0 inner.0 (pos number) (pos d) (spell_text inner.1 (letters d))
      (omega (arith, a, name)) key_few.name inner_few.name (omega (arith, text, letters_few))

  pub document_fits : Fits limits Session table (document number d)
  document_fits = record {
    depth = (let deep = good.depth_least in omega (arith, deep));
    content = (let low = content_low number d in let n = good.payload_least in
        let m = good.content_least in omega (arith, low, n, m));
    payload = (
      opening_bytes Session (strings_behind table inner.1) ++ flat_map chosen_bytes nodes,
      inner.1,
    );
    chosen_is = refl;
    within = (let n = length-append (table_bytes (strings_behind table inner.1))
        (flat_map chosen_bytes nodes) in let own_few = ap (λ s. length (table_bytes s)) brought in
        let brings = brings_few in let few = nodes_few in let least = good.payload_least in
        omega (arith, n, own_few, brings, few, least));
  }
