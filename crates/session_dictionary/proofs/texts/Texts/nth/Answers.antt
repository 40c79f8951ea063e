use Rattle.std.proofs.Common.{◌≡◌, ℕ, zero, suc, List, [], ◌∷◌, get_or, slice_get, None, refl}
use Rattle.session_dictionary.proofs.texts.Texts.nth.Goals as goal

-- where there is nothing, the default stands
none_there : (xs : List (List ℕ)) (i : ℕ) → None ≡ slice_get xs i → [] ≡ get_or xs i []
none_there [] i e = refl
none_there (x ∷ xs) zero e = cc e
none_there (x ∷ xs) (suc i) e = none_there xs i e

pub returns-in-None : goal.returns-in-None
returns-in-None c = none_there c.args.self.now c.args.place c.in-None.ensures
