-- What a call that went well ensures.
use Rattle.std.proofs.Common.{◌≡◌, true, is_ok, OnOk, Ok, Err, Result}

pub on_ok : {T E P : Type 0} (r : Result T E) → is_ok r ≡ true → OnOk r P → P
on_ok (Ok x) e p = p
on_ok (Err x) e p = absurd (cc e)
