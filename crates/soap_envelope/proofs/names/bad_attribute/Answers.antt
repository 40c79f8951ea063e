use Rattle.std.proofs.Common.{◌≡◌, ◌+◌, false, ◌∷◌, take, drop, is_some, sym, ap, ◌∙◌, arith}
use Rattle.soap_envelope.specs.{BadNames.bad_attribute, Bindings.innermost}
use Rattle.soap_envelope.specs.Scopes.{declared, uri_in}
use Rattle.soap_envelope.proofs.{Lists.drop-at, names.bad_attribute.Goals.in-Attr+else-not-is_bound}
use Rattle.soap_envelope.proofs.NameFacts.{attr-step, xmlns-step}
use Rattle.soap_envelope.proofs.names.bad_attribute.Goals.{in-Xmlns+else-declares_before}
use Rattle.soap_envelope.proofs.names.bad_attribute.Goals as goal

pub loop-i-preserved : goal.loop-i-preserved
loop-i-preserved c =
    let scope = c.args.inner.now in
    let own = innermost scope in
    let behind = c.args.behind.now in
    let i = c.loop-i.i in
    let rest = drop (i + 1) behind in
    let before = c.loop-i.before in
    let inv = c.loop-i.invariant in
    let place : c.args.at + (i + 1) ≡ c.args.at + i + 1 = omega arith in
    let here = drop-at behind i c.index-behind-i.result c.loop-i-test.true c.index-behind-i.is in
    elim c.match-item.branch [
      | in-Xmlns+else-declares_before w ↦
          let p = w.in-Xmlns.prefix in
          let at_i = here ∙ ap (λ y. y ∷ rest) w.in-Xmlns.is in
          let fresh : is_some (uri_in (take before own) p) ≡ false =
          rw (← w.as_str.ensures.same) (sym w.declares_before.ensures ∙ w.if-declares_before.false)
          in
          let s = xmlns-step scope own before (c.args.at + i) p w.in-Xmlns.uri rest
          (inv.left ∙ ap declared at_i) fresh in
          rw (w.before-is, place) (record {
            few = omega arith;
            within = s.0;
            left = s.1;
            same = sym s.2 ∙ ap (bad_attribute scope (take before own) (c.args.at + i)) (sym at_i) ∙
                inv.same;
          })
      | in-Attr+else-not-is_bound w ↦
          let at_i = here ∙ ap (λ y. y ∷ rest) w.in-Attr.is in
          let s = attr-step scope (take before own) (c.args.at + i) w.in-Attr.prefix w.in-Attr.local
          w.in-Attr.value rest
          (sym w.is_bound.ensures ∙ w.if-not-is_bound.false) in
          rw (w.before-is, place) (record {
            few = omega arith;
            within = inv.within;
            left = inv.left ∙ ap declared at_i;
            same = sym s ∙ ap (bad_attribute scope (take before own) (c.args.at + i)) (sym at_i) ∙
                inv.same;
          })
    ]
