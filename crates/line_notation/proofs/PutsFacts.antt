-- Puts, one behind the other.
use Rattle.std.proofs.Common.{◌≡◌, ℕ, ◌+◌, ◌/◌, ◌%◌, ◌<◌, ◌≤◌, List, [], ◌∷◌, ◌++◌, length}
use Rattle.std.proofs.Common.{get_or, take, drop, slice_index, Ok, Err, flat_map, sym, refl}
use Rattle.std.proofs.Common.{ap, ◌∙◌, subst, append_assoc, append-nil, take-append-drop, drop-cons}
use Rattle.std.proofs.{Common.drop-drop, lemmas.Grind.flat_map-append, lemmas.List.drop_all}
use Rattle.hex.specs.Hex.{encode_lower, encode_with, lower_digits}
use Rattle.io_edges.proofs.Putting.{Puts-cut, Puts-nothing, Puts-then}
use Rattle.io_edges.specs.{declared.SinkFault.SinkFault, Puts.Puts}
use Rattle.io_edges.specs.Views.{SinkView}

-- what is said of lists is said of one list behind another
pub record Joins {A : Type 0} (spell : List A → List ℕ) : Type 0 where
  pub none : spell [] ≡ []
  pub both : (xs ys : List A) → spell (xs ++ ys) ≡ spell xs ++ spell ys

-- all before the rest was put
pub record HavePut {A : Type 0} (spell : List A → List ℕ) (all rest : List A)
    (k k' : SinkView) : Type 0 where
  pub done : List A
  pub whole : all ≡ done ++ rest
  pub put : Puts k k' (spell done) (Ok tt)

pub HavePut-none : {A : Type 0} {spell : List A → List ℕ} (all : List A) (k : SinkView)
    → Joins spell → HavePut spell all all k k
HavePut-none all k j = record { done = []; whole = refl; put = rw j.none (Puts-nothing k) }

-- and then the first of the rest
pub HavePut-more : {A : Type 0} {spell : List A → List ℕ} {all left : List A} (n : ℕ)
    {k k1 k2 : SinkView} → Joins spell
    → HavePut spell all left k k1 → Puts k1 k2 (spell (take n left)) (Ok tt)
    → HavePut spell all (drop n left) k k2
HavePut-more {left = left} n j h p = record {
  done = h.done ++ take n left;
  whole = h.whole ∙ ap (λ l. h.done ++ l) (sym (take-append-drop n left)) ∙ sym
      (append_assoc h.done (take n left) (drop n left));
  put = rw j.both (Puts-then (Ok tt) h.put p);
}

-- or less than these
pub HavePut-cut : {A : Type 0} {spell : List A → List ℕ} {all left : List A} (n : ℕ) {e : SinkFault}
    {k k1 k2 : SinkView} → Joins spell
    → HavePut spell all left k k1 → Puts k1 k2 (spell (take n left)) (Err e)
    → Puts k k2 (spell all) (Err e)
HavePut-cut {spell = spell} {all = all} {left = left} n {e = e} j h p =
    let shape : spell all ≡ (spell h.done ++ spell (take n left)) ++ spell (drop n left) =
    ap spell (h.whole ∙ ap (λ l. h.done ++ l) (sym (take-append-drop n left))) ∙ j.both h.done
    (take n left ++ drop n left)
    ∙ ap (λ l. spell h.done ++ l) (j.both (take n left) (drop n left)) ∙ sym
    (append_assoc (spell h.done) (spell (take n left)) (spell (drop n left))) in
    rw shape (Puts-cut (spell (drop n left)) (Puts-then (Err e) h.put p))

pub HavePut-all : {A : Type 0} {spell : List A → List ℕ} {all left : List A}
    {k k1 : SinkView}
    → HavePut spell all left k k1 → left ≡ [] → Puts k k1 (spell all) (Ok tt)
HavePut-all h e = rw (h.whole ∙ ap (λ l. h.done ++ l) e ∙ append-nil h.done) h.put

-- the digits of bytes
encode_with-append : (t xs ys : List ℕ) → encode_with t (xs ++ ys) ≡ encode_with t xs
    ++ encode_with t ys
unfolding encode_with
encode_with-append t [] ys = refl
encode_with-append t (x ∷ xs) ys = ap (λ l. slice_index t (x / 16) ∷ slice_index t (x % 16) ∷ l)
    (encode_with-append t xs ys)

pub encode_lower-joins : Joins encode_lower
unfolding encode_with
encode_lower-joins = record { none = refl; both = encode_with-append lower_digits }

pub flat_map-joins : {A : Type 0} (f : A → List ℕ) → Joins (flat_map f)
flat_map-joins f = record { none = refl; both = flat_map-append f }

-- in a loop over a list: one more, or less than one more
one_of : {A : Type 0} (f : A → List ℕ) (all : List A) (i : ℕ) (d : A) → i < length all
    → flat_map f (take 1 (drop i all)) ≡ f (get_or all i d)
one_of f all i d below = ap (λ l. flat_map f (take 1 l)) (drop-cons all i d below) ∙ append-nil
    (f (get_or all i d))

pub HavePut-one : {A : Type 0} (f : A → List ℕ) {all : List A} (i : ℕ) (d : A)
    {k k1 k2 : SinkView} → i < length all
    → HavePut (flat_map f) all (drop i all) k k1 → Puts k1 k2 (f (get_or all i d)) (Ok tt)
    → HavePut (flat_map f) all (drop (i + 1) all) k k2
HavePut-one f {all = all} i d {k2 = k2} below h p =
    let more = HavePut-more 1 {k2 = k2} (flat_map-joins f) h
    (rw (one_of f all i d below) p) in
    rw drop-drop at more

pub HavePut-one_cut : {A : Type 0} (f : A → List ℕ) {all : List A} (i : ℕ) (d : A) {e : SinkFault}
    {k k1 k2 : SinkView} → i < length all
    → HavePut (flat_map f) all (drop i all) k k1 → Puts k1 k2 (f (get_or all i d)) (Err e)
    → Puts k k2 (flat_map f all) (Err e)
HavePut-one_cut f {all = all} i d below h p = HavePut-cut 1 (flat_map-joins f) h
    (rw (one_of f all i d below) p)

-- the same of an element that owns memory
pub HavePut-item : {A : Type 0} (f : A → List ℕ) {all : List A} (i : ℕ) (x : A)
    {k k1 k2 : SinkView} → i < length all
    → x ≡ get_or all i x
    → HavePut (flat_map f) all (drop i all) k k1 → Puts k1 k2 (f x) (Ok tt)
    → HavePut (flat_map f) all (drop (i + 1) all) k k2
HavePut-item f {all = all} i x {k1 = k1} {k2 = k2} below e h p =
    HavePut-one f i x below h (subst (λ y. Puts k1 k2 (f y) (Ok tt)) e p)

pub HavePut-item_cut : {A : Type 0} (f : A → List ℕ) {all : List A} (i : ℕ) (x : A) {e : SinkFault}
    {k k1 k2 : SinkView} → i < length all
    → x ≡ get_or all i x
    → HavePut (flat_map f) all (drop i all) k k1 → Puts k1 k2 (f x) (Err e)
    → Puts k k2 (flat_map f all) (Err e)
HavePut-item_cut f {all = all} i x {e = e} {k1 = k1} {k2 = k2} below same h p =
    HavePut-one_cut f i x below h (subst (λ y. Puts k1 k2 (f y) (Err e)) same p)

-- at the loop's end
pub HavePut-list : {A : Type 0} (f : A → List ℕ) {all : List A} (i : ℕ) {k k1 : SinkView}
    → length all ≤ i
    → HavePut (flat_map f) all (drop i all) k k1 → Puts k k1 (flat_map f all) (Ok tt)
HavePut-list f {all = all} i over h = HavePut-all h (drop_all i all over)
