-- Where the last declaration of a prefix stands, and what a map has of that.
use Rattle.std.proofs.Common.{◌≡◌, ℕ, zero, suc, ◌+◌, ◌-◌, ◌<◌, ◌≤◌, Bool, true, false, List, []}
use Rattle.std.proofs.Common.{◌∷◌, ◌++◌, map, reverse, length, get_or, take, drop, is_some, le-leb}
use Rattle.std.proofs.Common.{if◌then◌else◌, nat_le, Some, None, Option, bytes_eq, nat_cmp}
use Rattle.std.proofs.Common.{BTreeMap, sym, refl, ap, ◌∙◌, inl, inr, arith, length-drop}
use Rattle.std.proofs.Common.{take-append-drop, length-take-le, drop_at, Bor, le-ltb, lt-ltb}
use Rattle.std.proofs.lemmas.Bool.{cases_Bool, cases_lt, lt-leb}
use Rattle.std.proofs.lemmas.List.{drop-map, get_or_append_left, get_or_at, length-map}
use Rattle.std.proofs.lemmas.List.{length-reverse, reverse-append, reverse-reverse, take_more}
use Rattle.std.proofs.lemmas.Slice.Eq.{bytes_eq-Decides}
use Rattle.std.specs.{BTreeMap.is_at, Cmp.Lexicographic.slice_cmp, Global.Vec, Map.lookup}
use Rattle.soap_envelope.specs.{declared.bindings.Binding.Binding, Layers.place_in}
use Rattle.soap_envelope.specs.Bindings.{AreHidden, AreKept, bound_as, declarations, few}
use Rattle.soap_envelope.specs.Bindings.{last_beyond, last_of, newest}
use Rattle.soap_envelope.specs.Scopes.{Declaration, uri_in}

pub newest-more : {X : Type 0} (xs : List X) (x : X) → reverse (xs ++ x ∷ []) ≡ x ∷ reverse xs
newest-more xs x = reverse-append xs (x ∷ [])

-- the first so many of a list, from the end
pub newest-take : {X : Type 0} (n : ℕ) (xs : List X)
    → reverse (take n xs) ≡ drop (length xs - n) (reverse xs)
newest-take n xs =
    let split : reverse xs ≡ reverse (drop n xs) ++ reverse (take n xs) =
    ap reverse (sym (take-append-drop n xs)) ∙ reverse-append (take n xs) (drop n xs) in
    let before : length (reverse (drop n xs)) ≡ length xs - n =
    length-reverse (drop n xs) ∙ length-drop n xs in
    sym (ap (drop (length xs - n)) split
    ∙ drop_at (reverse (drop n xs)) (reverse (take n xs)) (length xs - n) before)

pub declarations-take : (n : ℕ) (xs : List Binding)
    → map bound_as (reverse (take n xs)) ≡ drop (length xs - n) (map bound_as (reverse xs))
declarations-take n xs =
    ap (map bound_as) (newest-take n xs) ∙ sym (drop-map bound_as (length xs - n) (reverse xs))

pub declarations-length : (xs : List Binding) → length (map bound_as (reverse xs)) ≡ length xs
declarations-length xs = length-map (reverse xs) bound_as ∙ length-reverse xs

-- one declaration more among the first so many
pub last-more : (q : List ℕ) (xs : List Binding) (i : ℕ) (b : Binding) → i < length xs
    → b ≡ get_or xs i b
    → last_of q (map bound_as (reverse (take (i + 1) xs)))
    ≡ (if bytes_eq b.prefix.now q
    then Some i
    else last_of q (map bound_as (reverse (take i xs))))
last-more q xs i b h e =
    let front = map bound_as (reverse (take i xs)) in
    let count : length front ≡ i =
    declarations-length (take i xs) ∙ length-take-le i xs (omega arith) in
    let more : reverse (take (i + 1) xs) ≡ b ∷ reverse (take i xs) =
    ap reverse (take_more xs i b h ∙ ap (λ y. take i xs ++ y ∷ []) (sym e))
    ∙ newest-more (take i xs) b in
    ap (λ l. last_of q (map bound_as l)) more
    ∙ ap (λ n. if bytes_eq b.prefix.now q then Some n else last_of q front) count

-- a place is that of a declaration
pub last-within : (q : List ℕ) (ds : List Declaration) (at : ℕ) → last_of q ds ≡ Some at
    → at < length ds
last-within q [] at h = absurd cc
last-within q (d ∷ ds) at h = elim (cases_Bool (bytes_eq d.prefix q)) [
  | inl is ↦
      let here : Some (length ds) ≡ Some at = rw is at h in
      let same : length ds ≡ at = cc in omega arith
  | inr other ↦ let r = last-within q ds at (rw other at h) in omega arith
]

pub last-none : (q : List ℕ) (ds : List Declaration) → last_of q ds ≡ None → uri_in ds q ≡ None
last-none q [] h = refl
last-none q (d ∷ ds) h = elim (cases_Bool (bytes_eq d.prefix q)) [
  | inl is ↦ let here : Some (length ds) ≡ None = rw is at h in absurd cc
  | inr other ↦ rw other (last-none q ds (rw other at h))
]

-- what the declaration at the place says, in a list from the last one on
last-uri-newest : (q : List ℕ) (bs : List Binding) (at : ℕ) (b : Binding)
    → last_of q (map bound_as bs) ≡ Some at
    → uri_in (map bound_as bs) q ≡ Some (get_or (reverse bs) at b).uri.now
last-uri-newest q [] at b h = absurd cc
last-uri-newest q (d ∷ bs) at b h = elim (cases_Bool (bytes_eq d.prefix.now q)) [
  | inl is ↦
      let here : Some (length (map bound_as bs)) ≡ Some at = rw is at h in
      let same : length (map bound_as bs) ≡ at = cc in
      let place : length (reverse bs) ≡ at =
      length-reverse bs ∙ sym (length-map bs bound_as) ∙ same in
      rw is (ap (λ x. Some x.uri.now) (sym (get_or_at (reverse bs) d [] b at place))
      ∙ ap (λ l. Some (get_or l at b).uri.now) (sym (turned d bs)))
  | inr other ↦
      let rest : last_of q (map bound_as bs) ≡ Some at = rw other at h in
      let within : at < length (reverse bs) =
      omega (
        arith,
        last-within q (map bound_as bs) at rest,
        length-map bs bound_as,
        length-reverse bs,
      ) in
      rw other (last-uri-newest q bs at b rest
      ∙ ap (λ x. Some x.uri.now) (sym (get_or_append_left (reverse bs) (d ∷ []) b at within))
      ∙ ap (λ l. Some (get_or l at b).uri.now) (sym (turned d bs)))
]
  where
    turned : (d : Binding) (bs : List Binding) → reverse (d ∷ bs) ≡ reverse bs ++ d ∷ []
    turned d bs = reverse-append (d ∷ []) bs

pub last-uri : (q : List ℕ) (xs : List Binding) (at : ℕ) (b : Binding)
    → last_of q (map bound_as (reverse xs)) ≡ Some at
    → uri_in (map bound_as (reverse xs)) q ≡ Some (get_or xs at b).uri.now
last-uri q xs at b h =
    last-uri-newest q (reverse xs) at b h
    ∙ ap (λ l. Some (get_or l at b).uri.now) (reverse-reverse xs)

-- whether a place is there, and of one of the last so many of declarations
abbrev pub is_near : (count length : ℕ) → Option ℕ → Bool
is_near count length None = false
is_near count length (Some at) = nat_le (length - at) count

not-near : (q : List ℕ) (ds : List Declaration) (count n : ℕ) → count + length ds ≤ n
    → is_near count n (last_of q ds) ≡ false
not-near q [] count n h = refl
not-near q (d ∷ ds) count n h = elim (cases_Bool (bytes_eq d.prefix q)) [
  | inl is ↦ rw is (lt-leb (n - length ds) count (omega arith))
  | inr other ↦ rw other (not-near q ds count n (omega arith))
]

near-from : (q : List ℕ) (ds : List Declaration) (count k : ℕ) → count ≤ length ds
    → is_near (count + k) (length ds + k) (last_of q ds) ≡ is_some (uri_in (take count ds) q)
near-from q ds zero k h = not-near q ds (zero + k) (length ds + k) (omega arith)
near-from q [] (suc count) k h = absurd (omega arith)
near-from q (d ∷ ds) (suc count) k h = elim (cases_Bool (bytes_eq d.prefix q)) [
  | inl is ↦ rw is (le-leb (length (d ∷ ds) + k - length ds) (suc count + k) (omega arith))
  | inr other ↦
      let counted : suc count + k ≡ count + (k + 1) = omega arith in
      let all : length (d ∷ ds) + k ≡ length ds + (k + 1) = omega arith in
      rw (other, counted, all) (near-from q ds count (k + 1) (omega arith))
]

pub last-near : (q : List ℕ) (ds : List Declaration) (count : ℕ) → count ≤ length ds
    → is_near count (length ds) (last_of q ds) ≡ is_some (uri_in (take count ds) q)
last-near q ds count h =
    let counted : count + 0 ≡ count = omega arith in
    let all : length ds + 0 ≡ length ds = omega arith in
    rw (counted, all) at (near-from q ds count 0 h)

-- behind the first few
pub beyond-few : (q : List ℕ) (ds : List Declaration) → length ds ≤ few → last_beyond q ds ≡ None
beyond-few q [] h = refl
beyond-few q (d ∷ ds) h = rw (lt-ltb (length ds) few (omega arith)) refl

pub beyond-more : (q : List ℕ) (d : Declaration) (ds : List Declaration) → few ≤ length ds
    → last_beyond q (d ∷ ds)
    ≡ (if bytes_eq d.prefix q then Some (length ds) else last_beyond q ds)
beyond-more q d ds h = rw (le-ltb (length ds) few h) refl

pub beyond-some : (q : List ℕ) (ds : List Declaration) (at : ℕ) → last_beyond q ds ≡ Some at
    → last_of q ds ≡ Some at
beyond-some q [] at h = absurd cc
beyond-some q (d ∷ ds) at h = elim (cases_lt (length ds) few) [
  | inl below ↦
      let e : None ≡ Some at = rw (lt-ltb (length ds) few below) at h in absurd cc
  | inr above ↦ elim (cases_Bool (bytes_eq d.prefix q)) [
    | inl is ↦ rw is (rw (le-ltb (length ds) few above, is) at h)
    | inr other ↦ rw other (beyond-some q ds at (rw (le-ltb (length ds) few above, other) at h))
  ]
]

pub beyond-none : (q : List ℕ) (ds : List Declaration) → few ≤ length ds → last_beyond q ds ≡ None
    → last_of q ds ≡ last_of q (drop (length ds - few) ds)
beyond-none q [] few_are h = absurd (omega arith)
beyond-none q (d ∷ ds) few_are h = elim (cases_lt (length ds) few) [
  | inl below ↦
      let all : length (d ∷ ds) - few ≡ 0 = omega arith in rw all refl
  | inr above ↦ elim (cases_Bool (bytes_eq d.prefix q)) [
    | inl is ↦
        let e : Some (length ds) ≡ None = rw (le-ltb (length ds) few above, is) at h in absurd cc
    | inr other ↦
        let left : length (d ∷ ds) - few ≡ suc (length ds - few) = omega arith in
        rw (other, left)
        (beyond-none q ds above (rw (le-ltb (length ds) few above, other) at h))
  ]
]

same-bytes : (p : List ℕ) → bytes_eq p p ≡ true
same-bytes p = (bytes_eq-Decides p p).1 refl

-- the last declaration behind the first few has a place
pub beyond-there : (d : Declaration) (ds : List Declaration) → few ≤ length ds
    → is_some (last_beyond d.prefix (d ∷ ds)) ≡ true
beyond-there d ds h = rw (beyond-more d.prefix d ds h, same-bytes d.prefix) refl

hidden-few : (bs : List Binding) → length bs ≤ few → AreHidden bs
hidden-few [] h = tt
hidden-few (b ∷ bs) h = ((λ many. absurd (omega arith)), hidden-few bs (omega arith))

-- no more than the first few
pub kept-few : (bound : Vec Binding) (places : BTreeMap (Bor (List ℕ)) ℕ)
    → length bound.items ≤ few
    → ((q : List ℕ) → place_in q places ≡ None)
    → AreKept bound places
kept-few bound places h none =
    let ds = declarations bound in
    record {
      found = λ q. none q ∙ sym (beyond-few q ds (omega (arith, declarations-length bound.items)));
      hidden = hidden-few (newest bound) (omega (arith, length-reverse bound.items));
    }

pub kept-none : (bound : Vec Binding) (places : BTreeMap (Bor (List ℕ)) ℕ) (q : List ℕ)
    → length bound.items ≤ few → AreKept bound places → place_in q places ≡ None
kept-none bound places q h kept =
    kept.found q
    ∙ beyond-few q (declarations bound) (omega (arith, declarations-length bound.items))

-- one more behind them
pub kept-more : (old new : Vec Binding) (places more : BTreeMap (Bor (List ℕ)) ℕ) (b : Binding)
    → new.items ≡ old.items ++ b ∷ []
    → few ≤ length old.items
    → AreKept old places
    → b.hidden ≡ place_in b.prefix.now places
    → ((q : List ℕ) → place_in q more
    ≡ (if bytes_eq b.prefix.now q then Some (length old.items) else place_in q places))
    → AreKept new more
kept-more old new places more b e h kept hides put =
    let ds = declarations old in
    let many : few ≤ length ds = omega (arith, declarations-length old.items) in
    let all : newest new ≡ b ∷ newest old = ap reverse e ∙ newest-more old.items b in
    record {
      found = λ q. put q
          ∙ ap (λ o. if bytes_eq b.prefix.now q then Some (length old.items) else o) (kept.found q)
          ∙ ap (λ n. if bytes_eq b.prefix.now q then Some n else last_beyond q ds)
          (sym (declarations-length old.items))
          ∙ sym (beyond-more q (bound_as b) ds many)
          ∙ ap (λ l. last_beyond q (map bound_as l)) (sym all);
      hidden = rw all ((λ _. hides ∙ kept.found b.prefix.now), kept.hidden);
    }

-- and one less
pub kept-less : (old new : Vec Binding) (places left : BTreeMap (Bor (List ℕ)) ℕ) (b : Binding)
    → old.items ≡ new.items ++ b ∷ []
    → few ≤ length new.items
    → AreKept old places
    → ((q : List ℕ) → place_in q left
    ≡ (if bytes_eq b.prefix.now q then b.hidden else place_in q places))
    → AreKept new left
kept-less old new places left b e h kept back =
    let ds = declarations new in
    let p = b.prefix.now in
    let many : few ≤ length ds = omega (arith, declarations-length new.items) in
    let many_newest : few ≤ length (newest new) = omega (arith, length-reverse new.items) in
    let all : newest old ≡ b ∷ newest new = ap reverse e ∙ newest-more new.items b in
    let hidden : AreHidden (b ∷ newest new) = rw all at kept.hidden in
    let was : (q : List ℕ) → place_in q places
    ≡ (if bytes_eq p q then Some (length ds) else last_beyond q ds) =
    λ q. kept.found q ∙ ap (λ l. last_beyond q (map bound_as l)) all
    ∙ beyond-more q (bound_as b) ds many in
    record {
      found = λ q. back q ∙ elim (cases_Bool (bytes_eq p q)) [
        | inl is ↦
            rw is (hidden.0 many_newest ∙ ap (λ x. last_beyond x ds) ((bytes_eq-Decides p q).0 is))
        | inr other ↦ let w = rw other at (was q) in rw other w
      ];
      hidden = hidden.1;
    }

-- where a declaration more found no memory, and its place is taken back
pub kept-back : (old new : Vec Binding) (places more left : BTreeMap (Bor (List ℕ)) ℕ)
    (b : Binding) (at : ℕ)
    → new.items ≡ old.items
    → AreKept old places
    → b.hidden ≡ place_in b.prefix.now places
    → ((q : List ℕ) → place_in q more
    ≡ (if bytes_eq b.prefix.now q then Some at else place_in q places))
    → ((q : List ℕ) → place_in q left
    ≡ (if bytes_eq b.prefix.now q then b.hidden else place_in q more))
    → AreKept new left
kept-back old new places more left b at e kept hides put back =
    let p = b.prefix.now in
    record {
      found = λ q. back q ∙ elim (cases_Bool (bytes_eq p q)) [
        | inl is ↦
            rw is (hides ∙ ap (λ x. place_in x places) ((bytes_eq-Decides p q).0 is)
            ∙ kept.found q ∙ ap (λ l. last_beyond q (map bound_as (reverse l))) (sym e))
        | inr other ↦
            let w = rw other at (put q) in
            rw other (w ∙ kept.found q
            ∙ ap (λ l. last_beyond q (map bound_as (reverse l))) (sym e))
      ];
      hidden = rw e kept.hidden;
    }

-- the last of the declarations behind the first few has a place
pub kept-there : (old new : Vec Binding) (places : BTreeMap (Bor (List ℕ)) ℕ) (b : Binding)
    → old.items ≡ new.items ++ b ∷ []
    → few ≤ length new.items
    → AreKept old places
    → is_some (place_in b.prefix.now places) ≡ true
kept-there old new places b e h kept =
    let many : few ≤ length (declarations new) = omega (arith, declarations-length new.items) in
    let all : newest old ≡ b ∷ newest new = ap reverse e ∙ newest-more new.items b in
    ap is_some (kept.found b.prefix.now
    ∙ ap (λ l. last_beyond b.prefix.now (map bound_as l)) all)
    ∙ beyond-there (bound_as b) (declarations new) many

-- an empty map has no places
pub none-in_empty : (places : BTreeMap (Bor (List ℕ)) ℕ) (q : List ℕ) → places.entries ≡ []
    → place_in q places ≡ None
none-in_empty places q e = ap (λ es. lookup (is_at (λ k. slice_cmp nat_cmp q k.now)) es) e

-- what is left of the first so many when the last is dropped
pub keep-step : (ds : List Declaration) (count : ℕ) → count < length ds
    → drop (length (drop 1 ds) - count) (drop 1 ds) ≡ drop (length ds - count) ds
keep-step [] count h = absurd (omega arith)
keep-step (d ∷ ds) count h =
    let left : length (d ∷ ds) - count ≡ suc (length ds - count) = omega arith in rw left refl

pub keep-all : (ds : List Declaration) (count : ℕ) → length ds ≤ count
    → drop (length ds - count) ds ≡ ds
keep-all ds count h = let all : length ds - count ≡ 0 = omega arith in rw all refl
