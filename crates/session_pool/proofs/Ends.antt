-- What follows the bytes with which a stream ends.
use Rattle.std.proofs.Common.{◌≡◌, ℕ, suc, ◌<◌, Bool, true, false, if◌then◌else◌, List, [], ◌∷◌}
use Rattle.std.proofs.Common.{◌++◌}
use Rattle.std.proofs.Common.{length, take, Some, None, Option, sym, refl, ap, ◌∙◌}
use Rattle.std.proofs.Common.{append_assoc, append-nil, arith}
use Rattle.std.proofs.lemmas.List.{take-take}
use Rattle.unit_streams.proofs.{Ends.ends_are_closed, Histories.history_next}
use Rattle.unit_streams.proofs.Histories.{history_refused}
use Rattle.unit_streams.specs.Grammar.{Grammar}
use Rattle.unit_streams.specs.Judging.{History, history, history_from, is_over_at, offence}
use Rattle.unit_streams.specs.{Judging.refusal_at, Tellers.Closes}
use Rattle.stream_loop.specs.Followed.{EndsWith}
use Rattle.session_pool.specs.OwedTurns.{behind_end, unless_refused}

module _ {Z U E R : Type 0} (g : Grammar Z U E R) where
  abbrev offence_from : List ℕ → List ℕ → Option R
  offence_from p y = (history_from g p y).offence

  -- what isn't refused at last isn't refused here
  unrefused_here : (p y : List ℕ) → offence_from p y ≡ None → refusal_at g p ≡ None
  unrefused_here p y none = by (refusal_at g p) refl where
    by : (refusal : Option R) → refusal_at g p ≡ refusal → refusal ≡ None
    by None is = refl
    by (Some r) is =
        let refused = ap (λ (h : History E R). h.offence) (history_refused g p y r is) in cc

  offence_next : (p : List ℕ) (b : ℕ) (y : List ℕ) → refusal_at g p ≡ None
      → offence_from p (b ∷ y) ≡ offence_from (p ++ b ∷ []) y
  offence_next p b y none = ap (λ (h : History E R). h.offence) (history_next g p b y none)

  found_here : (p y : List ℕ) → refusal_at g p ≡ None → is_over_at g p ≡ true
      → behind_end g p y ≡ Some y
  unfolding behind_end
  found_here p [] none over = rw (none, over) refl
  found_here p (b ∷ y) none over = rw (none, over) refl

  not_here : (p : List ℕ) (b : ℕ) (y : List ℕ) → refusal_at g p ≡ None → is_over_at g p ≡ false
      → behind_end g p (b ∷ y) ≡ behind_end g (p ++ b ∷ []) y
  unfolding behind_end
  not_here p b y none on = rw (none, on) refl

  found_along : (c p rest : List ℕ)
      → ((n : ℕ) → n < length c → is_over_at g (p ++ take n c) ≡ false)
      → is_over_at g (p ++ c) ≡ true → offence_from p (c ++ rest) ≡ None
      → behind_end g p (c ++ rest) ≡ Some rest
  found_along [] p rest on over clean =
      found_here p rest (unrefused_here p rest clean)
      (ap (is_over_at g) (sym (append-nil p)) ∙ over)
  found_along (b ∷ c) p rest on over clean =
      let none = unrefused_here p (b ∷ (c ++ rest)) clean in
      not_here p b (c ++ rest) none
      (ap (is_over_at g) (sym (append-nil p)) ∙ on 0 (omega arith))
      ∙ found_along c (p ++ b ∷ []) rest
      (λ n lt. ap (is_over_at g) (append_assoc p (b ∷ []) (take n c))
      ∙ on (suc n) (omega (arith, lt)))
      (ap (is_over_at g) (append_assoc p (b ∷ []) c) ∙ over)
      (sym (offence_next p b (c ++ rest) none) ∙ clean)

  -- what follows the bytes with which it ends
  pub behind_session : (session rest : List ℕ) → EndsWith g session
      → offence g (session ++ rest) ≡ None → behind_end g [] (session ++ rest) ≡ Some rest
  unfolding offence history
  behind_session session rest e clean = found_along session [] rest
      (λ n lt. ap (is_over_at g) (sym (take-take n n session (omega arith)))
      ∙ (e.first n lt).going_on n) e.over clean

  -- a stream that is refused doesn't end
  module _ (ends : E → Bool) (c : Closes g ends) where
    over_never : (p y : List ℕ) (r : R) → refusal_at g p ≡ None → offence_from p y ≡ Some r
        → is_over_at g p ≡ false
    over_never p y r none refused = by (is_over_at g p) refl where
      by : (over : Bool) → is_over_at g p ≡ over → over ≡ false
      by false is = refl
      by true is = let well = ap (λ (h : History E R). h.offence)
          (ends_are_closed g c.readable c.quiet p y is none) in cc

    none_at : (p y : List ℕ) (r : R) → offence_from p y ≡ Some r → (more : Option (List ℕ))
        → (refusal_at g p ≡ None → more ≡ None)
        → unless_refused (refusal_at g p) (if is_over_at g p then Some y else more) ≡ None
    none_at p y r refused more none = by (refusal_at g p) refl where
      by : (refusal : Option R) → refusal_at g p ≡ refusal
          → unless_refused (refusal_at g p) (if is_over_at g p then Some y else more) ≡ None
      by (Some o) is = ap (λ (v : Option R). unless_refused v
          (if is_over_at g p then Some y else more)) is
      by None is = rw (is, over_never p y r is refused) (none is)

    none_along : (y p : List ℕ) (r : R) → offence_from p y ≡ Some r → behind_end g p y ≡ None
    unfolding behind_end
    none_along [] p r refused = none_at p [] r refused None (λ is. refl)
    none_along (b ∷ y) p r refused = none_at p (b ∷ y) r refused (behind_end g (p ++ b ∷ []) y)
        (λ is. none_along y (p ++ b ∷ []) r (sym (offence_next p b y is) ∙ refused))

    pub none_behind : (bytes : List ℕ) (r : R) → offence g bytes ≡ Some r
        → behind_end g [] bytes ≡ None
    unfolding offence history
    none_behind bytes r refused = none_along bytes [] r refused
