-- What is known of a stream that was followed, where the bytes that its input had are known.
use Rattle.std.proofs.Common.{◌≡◌, ℕ, ◌⊎◌, List, [], ◌++◌, Some, Option, sym, ap, ◌∙◌, subst, inl}
use Rattle.std.proofs.Common.{inr, append-nil}
use Rattle.unit_streams.{proofs.Pending.pending_open, specs.Grammar.Grammar}
use Rattle.unit_streams.specs.Judging.{events, events_of, History, offence}
use Rattle.stream_loop.{specs.Edges.Input, proofs.Bringing.first_of_open, proofs.Writing.told_some}
use Rattle.stream_loop.specs.Followed.{AreFirst, Breaks, Decides, IsWhole, Starves}

module _ {Z U E R : Type 0} (g : Grammar Z U E R) where
  -- what the history of bytes says
  pub offence_of : (es : List E) (judged : Option R) (bytes : List ℕ) → IsWhole g es judged bytes
      → offence g bytes ≡ judged
  unfolding offence
  offence_of es judged bytes whole = ap (λ (h : History E R). h.offence) whole

  pub events_are : (es : List E) (judged : Option R) (bytes : List ℕ) → IsWhole g es judged bytes
      → events g bytes ≡ es
  unfolding events
  events_are es judged bytes whole = ap (λ (h : History E R). h.events) whole

  module _ (i i' : Input) (bytes : List ℕ) (left : i.left ≡ Some bytes) (Handled : List E → Type 0)
    where
      -- a stream that is judged
      pub whole_of : (judged : Option R) (d : Decides g Handled i i' judged)
          → IsWhole g d.events judged bytes
      whole_of judged d =
          let Whole : List ℕ → Type 0 = IsWhole g d.events judged in
          let k = told_some (λ all rest. (all ≡ d.bytes ++ rest) × ((rest ≡ [])
          ⊎ ((more : List ℕ) → Whole (d.bytes ++ more)))) i.left i'.left bytes left d.stream in
          subst Whole (sym k.2.0) (elim k.2.1 [
            | inl none ↦ subst Whole (sym (ap (λ l. d.bytes ++ l) none ∙ append-nil d.bytes))
                d.whole
            | inr all ↦ all k.0
          ])

      -- first events of one that isn't
      pub first_broken : (b : Breaks g Handled i i') → AreFirst g (events_of g b.bytes) bytes
      first_broken b =
          let k = told_some (λ all rest. all ≡ b.bytes ++ rest) i.left i'.left bytes left b.stream
          in
          subst (AreFirst g (events_of g b.bytes)) (sym k.2)
          (first_of_open g b.bytes (pending_open g b.bytes b.pending) k.0)

      pub first_starved : (s : Starves g Handled i i') → AreFirst g s.events bytes
      first_starved s =
          let k = told_some (λ all rest. all ≡ s.before ++ s.piece ++ rest) i.left i'.left bytes
          left s.stream in
          subst (AreFirst g s.events) (sym k.2) (s.first k.0)
