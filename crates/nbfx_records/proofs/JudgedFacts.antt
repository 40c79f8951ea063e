-- What is made of whole parts, by their own parts.
use Rattle.std.proofs.Common.{◌≡◌, ℕ, Bool, true, false, ◌&&◌, List, [], ◌∷◌, ◌++◌, IsErrAnd, Some}
use Rattle.std.proofs.Common.{None, Ok, Err, IsUtf8, Option, Result, option_map, option_and_then}
use Rattle.std.proofs.Common.{sym, refl, ap, ◌∙◌, subst, append_assoc}
use Rattle.std.proofs.lemmas.{Bool.false_from_ne_true, Result.err_from_is_err_and}
use Rattle.std.proofs.lemmas.Str.{IsUtf8-from_is_utf8, is_utf8-from_IsUtf8}
use Rattle.std.specs.{List.list_all, Str.is_utf8}
use Rattle.nbfx_records.specs.declared.nodes.{NodeFault.NodeFault, RecordFault.RecordFault}
use Rattle.nbfx_records.specs.declared.nodes.NodeFault.TheVariants.{Memory, Record}
use Rattle.nbfx_records.specs.Contents.{behind_texts, each, judge, led}
use Rattle.nbfx_records.specs.Judged.{Made, Makes}
use Rattle.nbfx_records.specs.declared.nodes.RecordFault.TheVariants as faults

-- a text that is UTF-8, and one that isn't
pub text_made : (bytes text made : List ℕ) → IsUtf8 bytes → text ≡ bytes → made ≡ text
    → Makes (Ok made) (judge (is_utf8 bytes) (Some bytes))
text_made bytes text made utf8 same own = record
    { made = rw (is_utf8-from_IsUtf8 bytes utf8) (ap Ok (sym (own ∙ same))) }

pub text_refused : (bytes : List ℕ) → (IsUtf8 bytes → ⊥) → Makes {X = List ℕ}
    (Err (Record faults.BadUtf8)) (judge (is_utf8 bytes) (Some bytes))
text_refused bytes bad = record
    { made = rw (false_from_ne_true (is_utf8 bytes) (λ h. bad (IsUtf8-from_is_utf8 bytes h))) refl }

pub utf8_told : (bytes : List ℕ) → IsUtf8 bytes → true ≡ is_utf8 bytes
utf8_told bytes utf8 = sym (is_utf8-from_IsUtf8 bytes utf8)

pub utf8_refused : (bytes : List ℕ) → (IsUtf8 bytes → ⊥) → false ≡ is_utf8 bytes
utf8_refused bytes bad = sym
    (false_from_ne_true (is_utf8 bytes) (λ h. bad (IsUtf8-from_is_utf8 bytes h)))

-- what is made of a part has its texts in UTF-8
pub texts_of_made : {X : Type 0} (texts : Bool) (found : Option X) (x : X) → judge texts found
    ≡ Ok x → texts ≡ true
texts_of_made true found x e = refl
texts_of_made false found x e = cc

-- some things, judged one by one
module _ {A B : Type 0} (texts : A → Bool) (value : A → Option B) where
  abbrev pub all_judged : List A → Result (List B) RecordFault
  all_judged items = judge (list_all texts items) (each value items)

  -- the first is what it is, where the others are judged behind it
  pub first_made : (a : A) (items : List A) (b : B) → behind_texts (list_all texts items)
      (judge (texts a) (value a)) ≡ Ok b → all_judged (a ∷ items) ≡ led (b ∷ []) (all_judged items)
  first_made a items b e = by (texts a) (value a) (list_all texts items) (each value items) e
    where
      by : (t : Bool) (v : Option B) (ts : Bool) (vs : Option (List B)) → behind_texts ts
          (judge t v) ≡ Ok b
          → judge (t && ts) (option_and_then (λ y. option_map (λ ys. y ∷ ys) vs) v)
          ≡ led (b ∷ []) (judge ts vs)
      by true (Some x) true (Some xs) e = let same : x ≡ b = cc in ap (λ y. Ok (y ∷ xs)) same
      by true (Some x) true None e = refl
      by true (Some x) false vs e = refl
      by true None true vs e = cc
      by true None false vs e = cc
      by false v ts vs e = cc

  pub first_unmade : (a : A) (items : List A) (fault : RecordFault)
      → behind_texts (list_all texts items) (judge (texts a) (value a)) ≡ Err fault
      → all_judged (a ∷ items) ≡ Err fault
  first_unmade a items fault e = by (texts a) (value a) (list_all texts items) (each value items) e
    where
      by : (t : Bool) (v : Option B) (ts : Bool) (vs : Option (List B)) → behind_texts ts
          (judge t v) ≡ Err fault
          → judge (t && ts) (option_and_then (λ y. option_map (λ ys. y ∷ ys) vs) v) ≡ Err fault
      by true (Some x) ts vs e = cc
      by true None true vs e = let same : faults.BadValue ≡ fault = cc in ap Err same
      by true None false vs e = let same : faults.BadUtf8 ≡ fault = cc in ap Err same
      by false v ts vs e = let same : faults.BadUtf8 ≡ fault = cc in ap Err same

pub led_led : {A : Type 0} (front : List A) (a : A) (rest : Result (List A) RecordFault)
    → led front (led (a ∷ []) rest) ≡ led (front ++ a ∷ []) rest
led_led front a (Ok items) = ap Ok (sym (append_assoc front (a ∷ []) items))
led_led front a (Err fault) = refl

-- the loop over them
module _ {A B : Type 0} (texts : A → Bool) (value : A → Option B) (all here : List A) (a : A)
    (items : List A) (made : List B)
    (so_far : all_judged texts value all ≡ led made (all_judged texts value here))
    (first : here ≡ a ∷ items) where
  pub judged_more : (b : B) → behind_texts (list_all texts items) (judge (texts a) (value a)) ≡ Ok b
      → all_judged texts value all ≡ led (made ++ b ∷ []) (all_judged texts value items)
  judged_more b e = so_far ∙ ap (λ c. led made (all_judged texts value c)) first ∙ ap (led made)
      (first_made texts value a items b e) ∙ led_led made b (all_judged texts value items)

  pub judged_wrong : (fault : RecordFault) → behind_texts (list_all texts items)
      (judge (texts a) (value a)) ≡ Err fault → all_judged texts value all ≡ Err fault
  judged_wrong fault e = so_far ∙ ap (λ c. led made (all_judged texts value c)) first ∙
      ap (led made) (first_unmade texts value a items fault e)

  -- what a `?` hands on
  pub unmade : (unfit : NodeFault) → Makes {X = B} (Err unfit)
      (behind_texts (list_all texts items) (judge (texts a) (value a))) → Makes {X = List B}
      (Err unfit) (all_judged texts value all)
  unmade (Record fault) h = record { made = judged_wrong fault h.made }
  unmade Memory h = record { made = tt }

pub exit : {X : Type 0} {judged : Result X RecordFault} {unfit : NodeFault} {r : Result X NodeFault}
    → IsErrAnd r (λ y. y ≡ unfit) → Makes (Err unfit) judged → Makes r judged
exit {X} {judged} {unfit} {r} e h =
    let p = err_from_is_err_and r e in
    subst (λ (q : Result X NodeFault). Makes q judged) (ap Err (sym p.2) ∙ sym p.1) h

-- what isn't made of a part isn't made of what is the part otherwise
pub unmade_otherwise : {X Y : Type 0} (see : X → Y) (texts : Bool) (found : Option X)
    {unfit : NodeFault} → Makes {X = X} (Err unfit) (judge texts found) → Makes {X = Y} (Err unfit)
    (judge texts (option_map see found))
unmade_otherwise {X} {Y} see texts found {unfit} h = by texts found unfit h.made
  where
    by : (texts : Bool) (found : Option X) (unfit : NodeFault) → Made {X = X} (Err unfit)
        (judge texts found) → Makes {X = Y} (Err unfit) (judge texts (option_map see found))
    by texts found Memory e = record { made = tt }
    by true (Some x) (Record fault) e = cc
    by true None (Record fault) e = record {
      made = let same : faults.BadValue
          ≡ fault = cc in ap Err same;
    }
    by false found (Record fault) e = record {
      made = let same : faults.BadUtf8
          ≡ fault = cc in ap Err same;
    }
