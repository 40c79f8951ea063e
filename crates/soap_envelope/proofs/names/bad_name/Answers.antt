use Rattle.std.proofs.Common.{◌≡◌, ℕ, ◌+◌, ◌-◌, false, [], length, drop, is_some, Some, None}
use Rattle.std.proofs.Common.{Option, sym, refl, ap, ◌∙◌, arith}
use Rattle.{std.specs.Option.option_or, soap_envelope.proofs.ResolvedPlaces.further}
use Rattle.soap_envelope.specs.{BadNames.first_bad_name, Bindings.scope_to}
use Rattle.soap_envelope.proofs.RootScope.{document-ended, last-good}
use Rattle.soap_envelope.proofs.names.bad_name.Goals as goal

none-or : (bad other : Option ℕ) → is_some bad ≡ false → option_or bad other ≡ other
none-or None other h = refl
none-or (Some at) other h = absurd cc

pub loop-at-preserved : goal.loop-at-preserved
loop-at-preserved c =
    let items = c.args.items.now in
    let at = c.loop-at.at in
    let bad = c.in_ok-bad.bad in
    let next = first_bad_name c.bad_item.new.scopes (at + 1) (drop (at + 1) items) in
    let none : is_some bad ≡ false = sym c.is_some.ensures ∙ c.if-is_some.false in
    record {
      rest = sym (none-or bad next none) ∙ sym c.in_ok-bad.ensures.bad ∙ c.loop-at.invariant.rest;
      inside = c.in_ok-bad.ensures.inside
          ∙ ap (λ s. scope_to s 1 (drop at items)) c.loop-at.invariant.inside
          ∙ sym (further [] at 1 items);
    }

pub returns-clause-bad : goal.returns-clause-bad
returns-clause-bad c =
    let items = c.args.items.now in
    let at = c.loop-at.at in
    let end : at ≡ length items - 1 =
    omega (arith, c.loop-at-test.false, c.saturating_sub-at-end.ensures, c.loop-at.auto.at-end) in
    let last = ap (λ n. drop n items) end ∙ (document-ended items c.requires.document).last in
    sym (last-good c.loop-at.scopes at (drop at items) last) ∙ c.loop-at.invariant.rest

pub returns-clause-root : goal.returns-clause-root
returns-clause-root c =
    let items = c.args.items.now in
    let at = c.loop-at.at in
    let end : at ≡ length items - 1 =
    omega (arith, c.loop-at-test.false, c.saturating_sub-at-end.ensures, c.loop-at.auto.at-end) in
    c.loop-at.invariant.inside
    ∙ ap (λ n. scope_to [] n items) end
    ∙ (document-ended items c.requires.document).scope
