use Rattle.std.proofs.Common.{◌≡◌, ◌+◌, false, ◌∷◌, take, drop, is_some, sym, ap, ◌∙◌, arith}
use Rattle.soap_envelope.specs.{BadNames.are_good, Bindings.innermost}
use Rattle.soap_envelope.specs.Scopes.{declared_on, uri_in}
use Rattle.soap_envelope.proofs.{Lists.drop-at, names.are_good.Goals.in-Attr+else-not-is_bound}
use Rattle.soap_envelope.proofs.NameFacts.{declares-step, has-step}
use Rattle.soap_envelope.proofs.names.are_good.Goals.{in-Xmlns+else-declares_before}
use Rattle.soap_envelope.proofs.names.are_good.Goals as goal

pub loop-attribute-preserved : goal.loop-attribute-preserved
loop-attribute-preserved c =
    let scope = c.args.inner.now in
    let own = innermost scope in
    let attributes = c.args.attributes.now in
    let i = c.loop-attribute.attribute-index in
    let rest = drop (i + 1) attributes in
    let before = c.loop-attribute.before in
    let inv = c.loop-attribute.invariant in
    let here = drop-at attributes i c.attribute-item.result c.loop-attribute-test.true
    c.attribute-item.is in
    elim c.match-attribute.branch [
      | in-Xmlns+else-declares_before w ↦
          let p = w.in-Xmlns.prefix in
          let at_i = here ∙ ap (λ y. y ∷ rest) w.in-Xmlns.is in
          let fresh : is_some (uri_in (take before own) p) ≡ false =
          rw (← w.as_str.ensures.same) (sym w.declares_before.ensures ∙ w.if-declares_before.false)
          in
          let s = declares-step scope own before p w.in-Xmlns.uri rest
          (inv.left ∙ ap declared_on at_i) fresh in
          rw w.before-is (record {
            few = omega arith;
            within = s.0;
            left = s.1;
            same = sym s.2 ∙ ap (are_good scope (take before own)) (sym at_i) ∙ inv.same;
          })
      | in-Attr+else-not-is_bound w ↦
          let at_i = here ∙ ap (λ y. y ∷ rest) w.in-Attr.is in
          let s = has-step scope (take before own) w.in-Attr.prefix w.in-Attr.local w.in-Attr.value
          rest
          (sym w.is_bound.ensures ∙ w.if-not-is_bound.false) in
          rw w.before-is (record {
            few = omega arith;
            within = inv.within;
            left = inv.left ∙ ap declared_on at_i;
            same = sym s ∙ ap (are_good scope (take before own)) (sym at_i) ∙ inv.same;
          })
    ]
