-- Lists of jobs that end.
use Rattle.std.specs.Prelude.{◌≡◌, Bool, true, false, List, [], ◌∷◌, ◌++◌}

module _ {T : Type 0} (is_last : T → Bool) where
  -- no job of these is the last
  unfoldable pub AreFirst : List T → Type 0
  AreFirst [] = Unit {0}
  AreFirst (job ∷ jobs) = (is_last job ≡ false) × AreFirst jobs

  -- the last job is the only one that is a last one
  pub record IsEnded (jobs : List T) : Type 0 where
    pub before : List T
    pub last : T
    pub joined : jobs ≡ before ++ last ∷ []
    pub first : AreFirst before
    pub ended : is_last last ≡ true
