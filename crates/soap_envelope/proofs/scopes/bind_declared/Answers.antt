use Rattle.std.proofs.Common.{◌≡◌, ◌+◌, ◌-◌, ◌<◌, ◌++◌, drop, sym, ap, ◌∙◌, append_assoc, arith}
use Rattle.soap_envelope.specs.{Bindings.declared_by, Bindings.head_len, Scopes.declared}
use Rattle.soap_envelope.proofs.ScopeFacts.{declared-at, declared-end}
use Rattle.soap_envelope.proofs.scopes.bind_declared.Goals as goal

pub loop-more-init : goal.loop-more-init
loop-more-init c =
    let behind = c.args.behind.now in
    let head = c.head_len-more.ensures.head in
    let none = ap (λ n. declared (drop n behind)) head ∙ declared-end behind in
    record {
      within = c.head_len-more.ensures.within;
      head = omega (arith, head);
      same = ap (λ ds. ds ++ c.args.bound.now) (sym none);
    }

pub loop-more-preserved : goal.loop-more-preserved
loop-more-preserved c =
    let behind = c.args.behind.now in
    let start = c.args.bound.now in
    let more = c.loop-more.more in
    let inv = c.loop-more.invariant in
    let item = c.index-behind-more.result in
    let below : more - 1 < head_len behind = omega (arith, c.loop-more-test.true, inv.head) in
    let back : more - 1 + 1 ≡ more = omega (arith, c.loop-more-test.true) in
    let at : declared (drop (more - 1) behind) ≡ declared_by item ++ declared (drop more behind) =
    declared-at behind (more - 1) item below c.index-behind-more.is
    ∙ ap (λ n. declared_by item ++ declared (drop n behind)) back in
    record {
      within = omega (arith, inv.within);
      head = omega (arith, inv.head);
      same = c.in_ok-bind_item.ensures.put
          ∙ ap (λ ds. declared_by item ++ ds) inv.same
          ∙ sym (append_assoc (declared_by item) (declared (drop more behind)) start)
          ∙ ap (λ ds. ds ++ start) (sym at);
    }

pub returns : goal.returns
returns c =
    let behind = c.args.behind.now in
    let start = c.args.bound.now in
    let none : c.loop-more.more ≡ 0 = omega (arith, c.loop-more-test.false) in
    record {
      put = c.loop-more.invariant.same ∙ ap (λ n. declared (drop n behind) ++ start) none;
      grown = (declared (drop c.loop-more.more behind), c.loop-more.invariant.same);
    }
