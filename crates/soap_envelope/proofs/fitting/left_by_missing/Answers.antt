-- What an element needs that declares nothing.
use Rattle.std.proofs.Common.{rules, ◌≡◌, List, [], ◌∷◌, length, refl, arith}
use Rattle.soap_envelope.specs.{Fitting.counted, Scopes.Declaration}
use Rattle.soap_envelope.proofs.FitFacts.{all-missing}
use Rattle.soap_envelope.proofs.fitting.left_by_missing.Goals as goal

none : (ds : List Declaration) → length ds ≡ 0 → ds ≡ []
none [] h = refl
none (d ∷ ds) h = absurd (omega (arith, h))

pub returns-then-len-eq0 : goal.returns-then-len-eq0
returns-then-len-eq0 c =
    let own = none c.args.own.now (omega (arith, c.len.ensures, c.if-len-eq0.true)) in
    rw (all-missing (counted c.args.needs.now) c.args.own.now own) (search rules)
