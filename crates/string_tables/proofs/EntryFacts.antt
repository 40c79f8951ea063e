-- What one more entry changes in a list of entries.
use Rattle.std.proofs.Common.{◌≡◌, ℕ, ◌+◌, ◌<◌, ◌≤◌, Bool, true, false, List, [], ◌∷◌, ◌++◌}
use Rattle.std.proofs.Common.{if◌then◌else◌, ◌==◌, Some, None, Option, bytes_eq, nat_cmp, is_eq}
use Rattle.std.proofs.Common.{Ordering, Less, Equal, Greater, sym, refl, ap, ◌∙◌, inl, inr, arith}
use Rattle.std.proofs.Common.{eq-eqb, eqb-true}
use Rattle.std.proofs.lemmas.Bool.{cases_Bool, false≢true}
use Rattle.std.specs.{Cmp.ranks, Cmp.unsigned_tied, Option.option_or}
use Rattle.std.specs.Ordering.{MatchOrdering, match_ordering}
use Rattle.string_tables.specs.StaticStrings.{Entry, IsStaticId, least_static_id, least_with}
use Rattle.string_tables.specs.StaticStrings.{RisesFrom, static_text, with_entry}

-- two choices that exclude each other, in either order
choices : {A : Type 0} (a b : Bool) (x y z : A) → (a ≡ true → b ≡ true → ⊥)
    → (if a then x else if b then y else z) ≡ (if b then y else if a then x else z)
choices true true x y z not_both = absurd (not_both refl refl)
choices true false x y z not_both = refl
choices false b x y z not_both = refl

-- a choice made twice
again : {A : Type 0} (a : Bool) (x y z : A) → (if a then x else z)
    ≡ (if a then x else if a then y else z)
again true x y z = refl
again false x y z = refl

-- the least of three, in either order
least_of_both : (m n : ℕ) (least : Option ℕ) → least_with m (Some (least_with n least))
    ≡ least_with n (Some (least_with m least))
least_of_both m n None = omega arith
least_of_both m n (Some k) = omega arith

leasts : (a b : Bool) (m n : ℕ) (least : Option ℕ)
    → (if a then Some (least_with m (if b then Some (least_with n least) else least)) else if b
    then Some (least_with n least) else least)
    ≡ (if b then Some (least_with n (if a then Some (least_with m least) else least)) else if a
    then Some (least_with m least) else least)
leasts true true m n least = ap Some (least_of_both m n least)
leasts true false m n least = refl
leasts false b m n least = refl

module _ (id : ℕ) (text : List ℕ) where
  -- the text of an identifier, with one more entry
  pub static_text-with : (entries : List Entry) (q : ℕ)
      → static_text (with_entry entries (id, text)) q
      ≡ (if q == id then Some text else static_text entries q)
  static_text-with [] q = refl
  static_text-with (entry ∷ entries) q = go (static_text-with entries q) (nat_cmp id entry.0) refl
    where
      go : static_text (with_entry entries (id, text)) q
          ≡ (if q == id then Some text else static_text entries q) → (o : Ordering)
          → nat_cmp id entry.0 ≡ o
          → static_text (match_ordering o ((id, text) ∷ entry ∷ entries) ((entry.0, text) ∷ entries)
          (entry ∷ with_entry entries (id, text))) q
          ≡ (if q == id then Some text else if q == entry.0 then Some entry.1 else static_text
          entries q)
      go rest Less is = refl
      go rest Equal is =
          let same : id ≡ entry.0 = eqb-true id entry.0
          (sym (unsigned_tied id entry.0) ∙ ap is_eq is) in
          rw (← same) (again (q == id) (Some text) (Some entry.1) (static_text entries q))
      go rest Greater is =
          let differ : (id == entry.0) ≡ false = sym (unsigned_tied id entry.0) ∙ ap is_eq is in
          ap (λ texts. if q == entry.0 then Some entry.1 else texts) rest
          ∙ choices (q == entry.0) (q == id) (Some entry.1) (Some text) (static_text entries q)
          (λ here there. false≢true
          (sym differ ∙ eq-eqb id entry.0 (sym (eqb-true q id there) ∙ eqb-true q entry.0 here)))

  -- the least identifier of a text, with one more entry under a new identifier
  pub least_static_id-with : (entries : List Entry) (q : List ℕ) → static_text entries id ≡ None
      → least_static_id (with_entry entries (id, text)) q
      ≡ (if bytes_eq text q then Some (least_with id (least_static_id entries q))
      else least_static_id entries q)
  least_static_id-with [] q fresh = refl
  least_static_id-with (entry ∷ entries) q fresh = go (least_static_id-with entries q)
      (nat_cmp id entry.0) refl
    where
      go : (static_text entries id ≡ None → least_static_id (with_entry entries (id, text)) q
          ≡ (if bytes_eq text q then Some (least_with id (least_static_id entries q))
          else least_static_id entries q))
          → (o : Ordering) → nat_cmp id entry.0 ≡ o
          → least_static_id (match_ordering o ((id, text) ∷ entry ∷ entries)
          ((entry.0, text) ∷ entries) (entry ∷ with_entry entries (id, text))) q
          ≡ (if bytes_eq text q then Some (least_with id (least_static_id (entry ∷ entries) q))
          else least_static_id (entry ∷ entries) q)
      go rest Less is = refl
      go rest Equal is = cc (rw (sym (unsigned_tied id entry.0) ∙ ap is_eq is) at fresh)
      go rest Greater is =
          let later : static_text entries id
          ≡ None = rw (sym (unsigned_tied id entry.0) ∙ ap is_eq is) at fresh in
          ap (λ least. if bytes_eq entry.1 q then Some (least_with entry.0 least) else least)
          (rest later)
          ∙ leasts (bytes_eq entry.1 q) (bytes_eq text q) entry.0 id (least_static_id entries q)

  -- the text of an identifier, with one more entry at the end
  static_text-push : (entries : List Entry) (q : ℕ) → static_text (entries ++ (id, text) ∷ []) q
      ≡ option_or (static_text entries q) (if q == id then Some text else None)
  static_text-push [] q = refl
  static_text-push (entry ∷ entries) q =
      elim (cases_Bool (q == entry.0)) [
        | inl here ↦ rw here refl
        | inr other ↦ rw other (static_text-push entries q)
      ]

  -- entries in rising order, with one more
  pub rises-with : (least : ℕ) (entries : List Entry) → RisesFrom least entries → least ≤ id
      → IsStaticId id → RisesFrom least (with_entry entries (id, text))
  rises-with least [] rises above static_id = (above, static_id, tt)
  rises-with least (entry ∷ entries) rises above static_id =
      elim (nat_cmp id entry.0) as (λ o. MatchOrdering o (id < entry.0) (id ≡ entry.0)
      (entry.0 < id)
      → RisesFrom least (match_ordering o ((id, text) ∷ entry ∷ entries) ((entry.0, text) ∷ entries)
      (entry ∷ with_entry entries (id, text)))) [
        | Less ↦ λ below. (above, static_id, (omega arith, rises.1, rises.2))
        | Equal ↦ λ same. rises
        | Greater ↦ λ behind. (
          rises.0,
          rises.1,
          rises-with (entry.0 + 1) entries rises.2
              (omega arith) static_id,
        )
      ] (ranks id entry.0)

  -- two lists that give the same texts still do, with one more entry under a new identifier
  pub same-with : (sorted listed : List Entry)
      → ((q : ℕ) → static_text sorted q ≡ static_text listed q) → static_text listed id ≡ None
      → (q : ℕ) → static_text (with_entry sorted (id, text)) q
      ≡ static_text (listed ++ (id, text) ∷ []) q
  same-with sorted listed same fresh q =
      elim (cases_Bool (q == id)) [
        | inl here ↦
            let absent : static_text listed q ≡ None = ap (static_text listed) (eqb-true q id here)
            ∙ fresh in
            rw (static_text-with sorted q, static_text-push listed q, here, absent) refl
        | inr other ↦ rw (static_text-with sorted q, static_text-push listed q, other)
            (same q ∙ sym (or_none (static_text listed q)))
      ]
    where
      or_none : (o : Option (List ℕ)) → option_or o None ≡ o
      or_none None = refl
      or_none (Some x) = refl
