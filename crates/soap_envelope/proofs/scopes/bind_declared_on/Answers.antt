use Rattle.std.proofs.Common.{◌≡◌, ◌+◌, ◌-◌, ◌<◌, ◌++◌, length, drop, sym, ap, ◌∙◌, append_assoc}
use Rattle.{std.proofs.Common.arith, soap_envelope.proofs.ScopeFacts.declared_on-at}
use Rattle.soap_envelope.specs.{Bindings.declared_there, Scopes.declared_on}
use Rattle.soap_envelope.proofs.scopes.bind_declared_on.Goals as goal

pub loop-more-preserved : goal.loop-more-preserved
loop-more-preserved c =
    let attributes = c.args.attributes.now in
    let start = c.args.bound.now in
    let more = c.loop-more.more in
    let inv = c.loop-more.invariant in
    let attribute = c.index-attributes-more.result in
    let below : more - 1 < length attributes =
    omega (arith, c.loop-more-test.true, inv.within) in
    let back : more - 1 + 1 ≡ more = omega (arith, c.loop-more-test.true) in
    let at : declared_on (drop (more - 1) attributes)
    ≡ declared_there attribute ++ declared_on (drop more attributes) =
    declared_on-at attributes (more - 1) attribute below c.index-attributes-more.is
    ∙ ap (λ n. declared_there attribute ++ declared_on (drop n attributes)) back in
    record {
      within = omega (arith, inv.within);
      same = c.in_ok-bind_attribute.ensures.put
          ∙ ap (λ ds. declared_there attribute ++ ds) inv.same
          ∙ sym (append_assoc (declared_there attribute) (declared_on (drop more attributes)) start)
          ∙ ap (λ ds. ds ++ start) (sym at);
    }

pub returns : goal.returns
returns c =
    let attributes = c.args.attributes.now in
    let start = c.args.bound.now in
    let none : c.loop-more.more ≡ 0 = omega (arith, c.loop-more-test.false) in
    record {
      put = c.loop-more.invariant.same ∙ ap (λ n. declared_on (drop n attributes) ++ start) none;
      grown = (declared_on (drop c.loop-more.more attributes), c.loop-more.invariant.same);
    }
