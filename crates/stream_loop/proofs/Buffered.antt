-- What is left in a buffer when more of it is used.
use Rattle.std.proofs.Common.{◌≡◌, ℕ, ◌+◌, ◌-◌, ◌≤◌, List, take, drop, sym, ap, ◌∙◌, arith}
use Rattle.std.proofs.lemmas.List.{drop-drop, drop-take}

pub used_more : (room : List ℕ) (from to n : ℕ) → n ≤ to - from
    → take (to - (from + n)) (drop (from + n) room) ≡ drop n (take (to - from) (drop from room))
used_more room from to n within =
    let m : ℕ = to - (from + n) in
    let sum : to - from ≡ n + m = omega (arith, within) in
    sym (ap (λ k. drop n (take k (drop from room))) sum ∙ drop-take n m (drop from room)
    ∙ ap (take m) (drop-drop n from room))
