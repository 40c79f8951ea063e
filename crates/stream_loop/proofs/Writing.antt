-- What is told before and afterwards, what counts say, and what is written after what was.
use Rattle.std.proofs.Common.{◌≡◌, ℕ, List, [], ◌++◌, length, take, OnOk, OnErr, Some}
use Rattle.std.proofs.Common.{None, Ok, Err, Option, Result, sym, refl, ap, ◌∙◌, subst}
use Rattle.std.proofs.Common.{inl, inr, append_assoc, append-nil, arith, take_all}
use Rattle.std.{specs.Prelude.⊤, proofs.lemmas.Bool.cases_lt, proofs.lemmas.List.take-append-le}
use Rattle.io_edges.proofs.Putting.{Puts-then}
use Rattle.io_edges.specs.{declared.SinkFault.SinkFault, Faults.CountsFaults, Puts.Puts}
use Rattle.io_edges.specs.Flow.{GrowsByPrefix, Passes, Told}
use Rattle.stream_loop.specs.Reported.{Grows}
use Rattle.io_edges.specs.Views.{SinkView}

-- what was told before, and what it became
pub told_some : (P : List ℕ → List ℕ → Type 0) (old new : Option (List ℕ)) (w : List ℕ)
    → old ≡ Some w → Told old new P → (w' : List ℕ) × (new ≡ Some w') × P w w'
told_some P None new w e h = cc
told_some P (Some v) None w e h = absurd h
told_some P (Some v) (Some v') w e h = let same : v ≡ w = cc in (v', refl, rw same at h)

-- what is told afterwards wherever it was told before
pub known_told : (P : List ℕ → List ℕ → Type 0) (old new : Option (List ℕ))
    → ((l : List ℕ) → old ≡ Some l → (l' : List ℕ) × (new ≡ Some l') × P l l') → Told old new P
known_told P None new known = tt
known_told P (Some old) new known = let k = known old refl in rw k.1 k.2

-- what is told says what follows from it
pub told_as : (P Q : List ℕ → List ℕ → Type 0) (old new : Option (List ℕ)) → Told old new P
    → ((l l' : List ℕ) → P l l' → Q l l') → Told old new Q
told_as P Q None new told weaker = tt
told_as P Q (Some l) None told weaker = absurd told
told_as P Q (Some l) (Some l') told weaker = weaker l l' told

-- what holds whatever is answered
pub on_ok : {A E P : Type 0} (r : Result A E) → P → OnOk r P
on_ok (Ok a) p = p
on_ok (Err e) p = tt

-- a count that stood still, and what a call left of it then
counted_later : (a b c : ℕ) (failed : Type 0) → b ≡ a → CountsFaults b c failed
    → CountsFaults a c failed
counted_later a b c failed still h = subst (λ (n : ℕ). CountsFaults n c failed) still h

-- the same of a call that fails where another does
pub counted_with : (a b c : ℕ) (failed other : Type 0) → b ≡ a → CountsFaults b c other
    → (failed → other) → (other → failed) → CountsFaults a c failed
counted_with a b c failed other still h to back =
    counted_later a b c failed still (record {
      rose = λ f. h.rose (to f);
      same = λ none. h.same
          (λ o. none (back o));
      grows = h.grows;
    })

-- a count that stood still where nothing failed
pub counted_none : (a b : ℕ) (failed : Type 0) → b ≡ a → (failed → ⊥) → CountsFaults a b failed
counted_none a b failed still never = record {
  rose = λ f. absurd (never f);
  same = λ none. still;
  grows = omega (arith, still);
}

-- the first bytes of what is to come, and of more
pub grown_within : (w w' b c : List ℕ) → GrowsByPrefix w w' b → GrowsByPrefix w w' (b ++ c)
grown_within w w' b c h =
    elim (cases_lt (length b) h.kept) [
      | inl lt ↦
          let all : take h.kept b ≡ b = take_all h.kept b (omega arith) in
          let front : take (length b) (b ++ c) ≡ b = take-append-le (length b) b c (omega arith)
          ∙ take_all (length b) b (omega arith) in
          record { kept = length b; grown = h.grown ∙ ap (λ l. w ++ l) (all ∙ sym front) }
      | inr ge ↦ record {
        kept = h.kept;
        grown = h.grown
            ∙ ap (λ l. w ++ l) (sym (take-append-le h.kept b c ge));
      }
    ]

-- what a put leaves, whether it is refused or not
pub put_either : (answer : Result ⊤ SinkFault) (old new : Option (List ℕ)) (b : List ℕ)
    → OnOk answer (Told old new (λ w w'. w' ≡ w ++ b))
    → OnErr answer (Told old new (λ w w'. GrowsByPrefix w w' b))
    → Told old new (λ w w'. GrowsByPrefix w w' b)
put_either (Ok u) None new b h k = tt
put_either (Ok u) (Some w) None b h k = absurd h
put_either (Ok u) (Some w) (Some w') b h k = record {
  kept = length b;
  grown = h
      ∙ ap (λ l. w ++ l) (sym (take_all (length b) b (omega arith)));
}
put_either (Err fault) old new b h k = k

-- what a put adds to what is written
pub prefix_grows : (b : List ℕ) (w w' : Option (List ℕ)) → Told w w' (λ w w'. GrowsByPrefix w w' b)
    → Told w w' Grows
prefix_grows b w w' h = told_as (λ l l'. GrowsByPrefix l l' b) Grows w w' h
    (λ l l' k. record { more = take k.kept b; grown = k.grown })

pub puts_grow : {lines : List ℕ} (r : Result ⊤ SinkFault) {k k' : SinkView} → Puts k k' lines r
    → Told k.written k'.written Grows
puts_grow {lines = lines} (Ok u) {k = k} {k' = k'} p = told_as
    (λ l l'. Passes l l' k.held k'.held lines) Grows k.written k'.written p.written
    (λ l l' m. record { more = m.put; grown = m.grown })
puts_grow {lines = lines} (Err fault) {k = k} {k' = k'} p =
    prefix_grows (k.held ++ lines) k.written k'.written p.refused

-- more is written after what was
pub grows_more : (front : List ℕ → List ℕ) (w w1 w2 : Option (List ℕ))
    → Told w w1 (λ w w'. Grows (front w) w') → Told w1 w2 Grows
    → Told w w2 (λ w w'. Grows (front w) w')
grows_more front None w1 w2 h more = tt
grows_more front (Some w) None w2 h more = absurd h
grows_more front (Some w) (Some w1) None h more = absurd more
grows_more front (Some w) (Some w1) (Some w2) h more = record {
  more = h.more ++ more.more;
  grown = more.grown ∙ ap (λ l. l ++ more.more) h.grown
      ∙ append_assoc (front w) h.more more.more;
}

-- what was put, and then written
pub after_flush : {lines : List ℕ} (r : Result ⊤ SinkFault) {k k1 k2 : SinkView}
    → Puts k k1 lines (Ok tt) → Puts k1 k2 [] r → Puts k k2 lines r
after_flush r p flushed = rw append-nil at (Puts-then r p flushed)
