-- What stands behind others when one more is appended, and when there is no memory for it.
use Rattle.std.proofs.Common.{◌≡◌, ℕ, suc, ◌<◌, Bool, true, false, List, ◌∷◌, ◌++◌, length, get_or}
use Rattle.std.proofs.Common.{take, drop, IsErr, IsTrue, Ok, Err, Result, flat_map, sym, refl, ap}
use Rattle.std.proofs.Common.{◌∙◌, subst, append_assoc, take-append-drop}
use Rattle.{std.proofs.Math.Seq.drop-cons, std.specs.List.list_all, nbfx_records.specs.Putting.Puts}
use Rattle.std.proofs.lemmas.{Grind.flat_map-append, List.Folds.list_all_at}

-- of those that all pass each does
pub passes_at : {X : Type 0} (p : X → Bool) (xs : List X) (i : ℕ) (x : X) → IsTrue (list_all p xs)
    → i < length xs → x ≡ get_or xs i x → IsTrue (p x)
passes_at p xs i x all lt is = by (p x) refl
  where
    by : (b : Bool) → p x ≡ b → IsTrue (p x)
    by true e = e
    by false e = let none : list_all p xs ≡ false = list_all_at p xs i x lt (ap p (sym is) ∙ e) in
        cc

-- the same bytes, said otherwise
pub puts_as : {T E : Type 0} {r : Result T E} {old new bytes all : List ℕ} → Puts r old new bytes
    → bytes ≡ all → Puts r old new all
puts_as {r = r} {old = old} {new = new} puts same = subst (Puts r old new) same puts

-- where the first of two stops, so do both
pub put_first : {T S E F : Type 0} {e : E} {r : Result S F} {old new bytes : List ℕ}
    (behind : List ℕ) → IsErr r → Puts {T = T} (Err e) old new bytes
    → Puts r old new (bytes ++ behind)
put_first {r = Ok _} behind h puts = cc h
put_first {r = Err _} behind h puts =
    let (first, rest, is, stand) = puts.put in
    record {
      put = (
        first,
        rest ++ behind,
        ap (λ b. b ++ behind) is
            ∙ append_assoc first rest behind,
        stand,
      );
    }

-- behind the first of two both come as far as the second
pub put_second : {T S E F : Type 0} {t : T} {r : Result S F} {old mid new before bytes : List ℕ}
    → Puts {E = E} (Ok t) old mid before → Puts r mid new bytes → Puts r old new (before ++ bytes)
put_second {r = Ok _} {old = old} {before = before} {bytes = bytes} ok puts =
    record { put = puts.put ∙ ap (λ c. c ++ bytes) ok.put ∙ append_assoc old before bytes }
put_second {r = Err _} {old = old} {before = before} ok puts =
    let (first, rest, is, stand) = puts.put in
    record {
      put = (
        before ++ first,
        rest,
        ap (λ b. before ++ b) is
            ∙ sym (append_assoc before first rest),
        stand ∙ ap (λ c. c ++ first) ok.put
            ∙ append_assoc old before first,
      );
    }

-- where one of many stops, so do all of them
pub put_stopped : {T X S E F : Type 0} {e : E} {r : Result S F} {old mid new : List ℕ}
    (f : X → List ℕ) (xs : List X) (i : ℕ) (x : X) → i < length xs → x ≡ get_or xs i x → IsErr r
    → mid ≡ old ++ flat_map f (take i xs) → Puts {T = T} (Err e) mid new (f x)
    → Puts r old new (flat_map f xs)
put_stopped {e = e} {r = r} {old = old} {mid = mid} {new = new} f xs i x lt is err stood puts =
    let before : Puts {T = ℕ} {E = ℕ} (Ok 0) old mid (flat_map f (take i xs)) =
    record { put = stood } in
    let here : Puts r mid new (f x ++ flat_map f (drop (suc i) xs)) =
    put_first (flat_map f (drop (suc i) xs)) err puts in
    let one : drop i xs ≡ x ∷ drop (suc i) xs =
    drop-cons xs i x lt ∙ ap (λ y. y ∷ drop (suc i) xs) (sym is) in
    let all : flat_map f (take i xs) ++ (f x ++ flat_map f (drop (suc i) xs)) ≡ flat_map f xs =
    ap (λ ys. flat_map f (take i xs) ++ flat_map f ys) (sym one)
    ∙ sym (flat_map-append f (take i xs) (drop i xs))
    ∙ ap (flat_map f) (take-append-drop i xs) in
    puts_as (put_second before here) all
