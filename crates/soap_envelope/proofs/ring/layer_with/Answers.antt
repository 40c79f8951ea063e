-- One declaration more, from the last one on.
use Rattle.std.proofs.Common.{◌≡◌, suc, ◌-◌, ◌<◌, [], ◌∷◌, drop, length, map, sym, ap, ◌∙◌, arith}
use Rattle.std.proofs.Common.{get_or}
use Rattle.{std.specs.List.drop-map, std.proofs.Math.Seq.drop-cons}
use Rattle.soap_envelope.specs.{declared.layers.Declared.Declared, Layers.kept}
use Rattle.soap_envelope.proofs.ring.layer_with.Goals as goal

-- what stands for one where there is none
abbrev none : Declared
none = record {
  prefix = record { ref_ptr = (0, 0); now = [] };
  uri = record { ref_ptr = (0, 0); now = [] };
}

pub loop-more-preserved : goal.loop-more-preserved
loop-more-preserved c =
    let declarations = c.args.declarations.now in
    let more = c.loop-more.more in
    let inv = c.loop-more.invariant in
    let one = get_or declarations (more - 1) none in
    let below : more - 1 < length declarations =
    omega (arith, c.loop-more-test.true, inv.within) in
    let back : suc (more - 1) ≡ more = omega (arith, c.loop-more-test.true) in
    let at : drop (more - 1) declarations ≡ one ∷ drop more declarations =
    drop-cons declarations (more - 1) none below
    ∙ ap (λ n. one ∷ drop n declarations) back in
    record {
      within = omega (arith, inv.within);
      same = c.in_ok-push.ensures.put
          ∙ ap (λ ds. kept one ∷ ds) (inv.same ∙ drop-map kept more declarations)
          ∙ sym (ap (λ ds. map kept ds) at)
          ∙ sym (drop-map kept (more - 1) declarations);
    }
