-- Facts about a table's two maps.
use Rattle.std.proofs.Common.{◌≡◌, ℕ, zero, suc, ◌*◌, ◌/◌, ◌%◌, true, false, cond, ◌⊎◌, List, []}
use Rattle.std.proofs.Common.{◌∷◌, ◌++◌, map, length, is_some, IfSome, IfOk, IfErr, OnOk, ◌==◌}
use Rattle.std.proofs.Common.{slice_get, Some, None, Ok, Err, string_bytes, Option, Result, String}
use Rattle.std.proofs.Common.{option_map, bytes_eq, nat_cmp, Ordering, Less, Equal, Greater}
use Rattle.std.proofs.Common.{BTreeMap, sym, refl, ap, ◌∙◌, subst, inl, inr, arith}
use Rattle.{std.proofs.lemmas.Bool.cases_Bool, string_tables.proofs.EntryFacts.least_static_id-with}
use Rattle.std.specs.{BTreeMap.insert_entry, BTreeMap.is_at, Map.lookup, Ordering.match_ordering}
use Rattle.std.specs.Cmp.{unsigned_tied, Lexicographic.bytes_decides}
use Rattle.string_tables.proofs.StaticFacts.{least_static_id-named, static_text-stands}
use Rattle.string_tables.specs.StaticStrings.{Entry, IsStaticId, IsStaticMap, least_static_id}
use Rattle.string_tables.specs.StaticStrings.{least_with, static_text, with_entry}
use Rattle.static_dictionary.specs.declared.fault.TableFault.{TableFault, TheVariants.Memory}
use Rattle.static_dictionary.specs.{Faults.Tells, Rows.Fault, Rows.fault_or}
use Rattle.static_dictionary.specs.Inside.{ArePlaced, entries_in}
use Rattle.static_dictionary.specs.declared.fault.TableKind.TheVariants as kind

module _ {A : Type 0} where
  -- the entries of a map, as `entries_in` shows them
  abbrev pub shown : List (ℕ × String A) → List Entry
  shown entries = map (λ (entry : ℕ × String A). (entry.0, string_bytes entry.1)) entries

  shown-choice : (o : Ordering) (a b c : List (ℕ × String A))
      → shown (match_ordering o a b c) ≡ match_ordering o (shown a) (shown b) (shown c)
  shown-choice Less a b c = refl
  shown-choice Equal a b c = refl
  shown-choice Greater a b c = refl

  -- an insertion shows one more entry
  pub shown-insert : (entries : List (ℕ × String A)) (id : ℕ) (text : String A)
      → shown (insert_entry nat_cmp entries id text)
      ≡ with_entry (shown entries) (id, string_bytes text)
  shown-insert [] id text = refl
  shown-insert (entry ∷ entries) id text =
      shown-choice (nat_cmp id entry.0) ((id, text) ∷ entry ∷ entries) ((entry.0, text) ∷ entries)
      (entry ∷ insert_entry nat_cmp entries id text)
      ∙ ap (λ rest. match_ordering (nat_cmp id entry.0) (shown ((id, text) ∷ entry ∷ entries))
      (shown ((entry.0, text) ∷ entries)) ((entry.0, string_bytes entry.1) ∷ rest))
      (shown-insert entries id text)

  -- a look-up finds the text that an identifier has
  pub static_text-shown : (entries : List (ℕ × String A)) (id : ℕ)
      → static_text (shown entries) id
      ≡ option_map string_bytes (lookup (is_at (nat_cmp id)) entries)
  static_text-shown [] id = refl
  static_text-shown (entry ∷ entries) id =
      elim (cases_Bool (id == entry.0)) [
        | inl here ↦ rw (unsigned_tied id entry.0, here) refl
        | inr other ↦ rw (unsigned_tied id entry.0, other) (static_text-shown entries id)
      ]

-- the least identifier of each text, where one more entry came under a new identifier
pub least_static_id-updated : (entries : List Entry) (id least : ℕ) (text q : List ℕ)
    (before : Option ℕ) → static_text entries id ≡ None
    → before ≡ least_static_id entries q → least ≡ least_with id (least_static_id entries text)
    → cond (bytes_eq text q) (Some least) before ≡ least_static_id (with_entry entries (id, text)) q
least_static_id-updated entries id least text q before fresh was is =
    elim (cases_Bool (bytes_eq text q)) [
      | inl here ↦
          let same : text ≡ q = (bytes_decides text q).0 here in
          rw (least_static_id-with id text entries q fresh, here)
          (ap Some (is ∙ ap (λ t. least_with id (least_static_id entries t)) same))
      | inr other ↦ rw (least_static_id-with id text entries q fresh, other) was
    ]

is_some-mapped : {X Y : Type 0} (f : X → Y) (o : Option X) → is_some (option_map f o) ≡ is_some o
is_some-mapped f None = refl
is_some-mapped f (Some x) = refl

module _ {A : Type 0} where
  -- a map has a key where the identifier has a text
  pub is_some-shown : (entries : List (ℕ × String A)) (id : ℕ)
      → is_some (static_text (shown entries) id) ≡ is_some (lookup (is_at (nat_cmp id)) entries)
  is_some-shown entries id = ap is_some (static_text-shown entries id)
      ∙ is_some-mapped string_bytes (lookup (is_at (nat_cmp id)) entries)

pub none-from_is_some : {X : Type 0} (o : Option X) → is_some o ≡ false → o ≡ None
none-from_is_some None is_none = refl
none-from_is_some (Some x) is_none = cc is_none

-- the fault of a row whose identifier was seen, whatever comes after it
pub fault_or-repeated : (later : ℕ → List Entry → Option Fault) (n : ℕ) (before : List Entry)
    (entry : Entry) → is_some (static_text before entry.0) ≡ true
    → fault_or later n before (Ok entry) ≡ Some (n, kind.Repeated)
fault_or-repeated later n before entry seen = rw seen refl

-- the identifier that a look-up of a text finds is a static one
pub found-static : (entries : List Entry) (text : List ℕ) (found : Option ℕ)
    → found ≡ least_static_id entries text → IsStaticMap entries
    → IfSome found (λ id. IsStaticId id)
found-static entries text None is rises = tt
found-static entries text (Some id) is rises =
    (static_text-stands 0 entries id text rises
    (least_static_id-named entries text id rises (sym is))).static_id

-- what is at a place, where one more came
slice_get-more : {X : Type 0} (xs : List X) (y : X) (k : ℕ) (x : X)
    → slice_get (xs ++ y ∷ []) k ≡ Some x → (slice_get xs k ≡ Some x) ⊎ ((k ≡ length xs) × (x ≡ y))
slice_get-more [] y zero x e = inr (refl, cc)
slice_get-more [] y (suc k) x e = cc
slice_get-more (w ∷ xs) y zero x e = inl e
slice_get-more (w ∷ xs) y (suc k) x e =
    elim (slice_get-more xs y k x e)
    [ inl before ↦ inl before | inr here ↦ inr (ap suc here.0, here.1) ]

module _ {A : Type 0} where
  -- one more text at its place
  pub placed-more : (placed : List (Option (List ℕ))) (by_id : BTreeMap ℕ (String A))
      (text : Option (List ℕ)) (id : ℕ) → ArePlaced placed by_id → id ≡ 2 * length placed
      → text ≡ static_text (entries_in by_id) id → ArePlaced (placed ++ text ∷ []) by_id
  placed-more placed by_id text id are is same = record {
    are = λ place held e. elim (slice_get-more placed text place held e) [
      | inl before ↦ are.are place held before
      | inr here ↦ here.1 ∙ same ∙ ap (static_text (entries_in by_id))
          (is ∙ ap (λ n. 2 * n) (sym here.0))
    ];
  }

  -- what is at a place, for an even identifier
  pub placed-here : (placed : List (Option (List ℕ))) (by_id : BTreeMap ℕ (String A))
      (text : Option (List ℕ)) (id : ℕ) → ArePlaced placed by_id
      → Some text ≡ slice_get placed (id / 2) → id % 2 ≡ 0
      → text ≡ static_text (entries_in by_id) id
  placed-here placed by_id text id are e even =
      let twice : 2 * (id / 2) ≡ id = omega arith in
      are.are (id / 2) text (sym e) ∙ ap (static_text (entries_in by_id)) twice

-- what holds of the table that is made, and of the want of memory for it
pub table_made : (r : Result (List Entry) TableFault) (entries : List Entry)
    (P : List Entry → Type 0) → IfOk r (λ table. table ≡ entries) → P entries → IfOk r P
table_made (Ok table) entries P is here = subst P (sym is) here
table_made (Err fault) entries P is here = tt

pub made_anyhow : (r : Result (List Entry) TableFault) {P : Type 0} → P → OnOk r P
made_anyhow (Ok table) here = here
made_anyhow (Err fault) here = tt

pub memory_told : (r : Result (List Entry) TableFault) (first : Option Fault)
    → IfErr r (λ fault. fault ≡ Memory) → IfErr r (Tells first)
memory_told (Ok table) first is = tt
memory_told (Err fault) first is = subst (Tells first) (sym is) tt
