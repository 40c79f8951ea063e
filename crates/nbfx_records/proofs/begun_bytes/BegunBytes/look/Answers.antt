use Rattle.std.proofs.Common.{ℕ, List, [], sym, ◌∙◌, subst, append-nil}
use Rattle.nbfx_records.{specs.Resuming.Fits, proofs.ResumeFacts.still_fits}
use Rattle.nbfx_records.proofs.begun_bytes.BegunBytes.look.Goals as goal

pub shape_at-seen-requires : goal.shape_at-seen-requires
shape_at-seen-requires c =
    subst (λ (b : List ℕ). Fits c.self.inside.resume b)
    (append-nil c.self.inside.bytes.items ∙ sym c.as_slice.ensures.value) (c.self.invariant.1 [])

pub invariant_of-self : goal.invariant_of-self
invariant_of-self c = (
  c.self.invariant.0,
  λ more. still_fits c.shape_at-seen.new.resume c.self.inside.bytes.items more
      (subst (λ (b : List ℕ). Fits c.shape_at-seen.new.resume b) c.as_slice.ensures.value
      c.shape_at-seen.ensures.fits),
)
