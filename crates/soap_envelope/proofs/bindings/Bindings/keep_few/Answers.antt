use Rattle.std.proofs.Common.{◌≡◌, ℕ, ◌-◌, ◌≤◌, List, map, reverse, length, take, drop, None, sym}
use Rattle.std.proofs.Common.{ap, ◌∙◌, arith, length-take}
use Rattle.soap_envelope.specs.Bindings.{bound_as, declarations, few}
use Rattle.soap_envelope.specs.Layers.{place_in}
use Rattle.soap_envelope.proofs.BindingFacts.{declarations-length, declarations-take, kept-few}
use Rattle.soap_envelope.proofs.BindingFacts.{kept-none, none-in_empty}
use Rattle.soap_envelope.proofs.bindings.Bindings.keep_few.Goals.{else-len-gt-FEW, then-len-gt-FEW}
use Rattle.soap_envelope.proofs.bindings.Bindings.keep_few.Goals as goal

pub invariant_of-self : goal.invariant_of-self
invariant_of-self c =
    let bound = c.self.inside.bound in
    let left = c.if-len-gt-FEW.self-inside in
    let count = ap length c.truncate.ensures.items
    ∙ length-take c.args.count left.bound.items in
    let none : (q : List ℕ) → place_in q left.places ≡ None =
    λ q. elim c.if-len-gt-FEW.branch [
      | then-len-gt-FEW w ↦
          ap (λ s. place_in q s.places) w.self-inside-is
          ∙ none-in_empty w.clear.new.self q w.clear.ensures.empty
      | else-len-gt-FEW w ↦
          let are_few : length bound.items ≤ few =
          omega (arith, w.if-len-gt-FEW.false, c.len.ensures, bound.ok.0) in
          ap (λ s. place_in q s.places) w.self-inside-is
          ∙ kept-none bound c.self.inside.places q are_few c.self.invariant
    ] in
    kept-few c.truncate.new.self left.places (omega (arith, count, c.requires)) none

pub returns : goal.returns
returns c =
    let bound = c.self.inside.bound in
    let left = c.if-len-gt-FEW.self-inside in
    let same : left.bound ≡ bound = elim c.if-len-gt-FEW.branch [
      | then-len-gt-FEW w ↦ ap (λ s. s.bound) w.self-inside-is
      | else-len-gt-FEW w ↦ ap (λ s. s.bound) w.self-inside-is
    ] in
    ap (λ xs. map bound_as (reverse xs))
    (c.truncate.ensures.items ∙ ap (λ v. take c.args.count v.items) same)
    ∙ declarations-take c.args.count bound.items
    ∙ ap (λ n. drop (n - c.args.count) (declarations bound)) (sym (declarations-length bound.items))
    ∙ ap (λ ds. drop (length ds - c.args.count) ds) c.self.view_is
