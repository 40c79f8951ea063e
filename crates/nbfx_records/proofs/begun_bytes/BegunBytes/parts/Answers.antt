use Rattle.std.proofs.Common.{ℕ, List, [], sym, ◌∙◌, subst, append-nil}
use Rattle.{multibyte_ints.specs.Integer.IsBytes, nbfx_records.specs.Resuming.Fits}
use Rattle.nbfx_records.proofs.begun_bytes.BegunBytes.parts.Goals as goal

pub shape_at-requires : goal.shape_at-requires
shape_at-requires c =
    subst (λ (b : List ℕ). Fits c.self.inside.resume b)
    (append-nil c.self.inside.bytes.items ∙ sym c.as_slice.ensures.value) (c.self.invariant.1 [])

pub returns-clause-bytes : goal.returns-clause-bytes
returns-clause-bytes c = subst (λ (b : List ℕ). IsBytes b) c.self.view_is c.self.invariant.0
