-- Units of two bytes, one after the other.
use Rattle.std.proofs.Common.{◌≡◌, ℕ, ◌*◌, ◌/◌, ◌<◌, ◌≤◌, List, [], ◌∷◌, ◌++◌, length, drop, sym}
use Rattle.std.proofs.Common.{refl, ap, ◌∙◌, append-nil, arith, length-drop}
use Rattle.nbfx_records.specs.Contents.{units_of}

-- fewer than two bytes have none
few_units : (rest : List ℕ) → length rest < 2 → units_of rest ≡ []
few_units [] lt = refl
few_units (x ∷ []) lt = refl
few_units (x ∷ y ∷ rest) lt = absurd (omega arith)

pub units_all : (units all bytes : List ℕ) (place : ℕ) → length bytes / 2 ≤ place → units
    ++ units_of (drop (2 * place) bytes) ≡ all → units ≡ all
units_all units all bytes place end h =
    let none : units_of (drop (2 * place) bytes) ≡ [] = few_units (drop (2 * place) bytes)
    (omega (arith, length-drop (2 * place) bytes)) in
    sym (ap (λ us. units ++ us) none ∙ append-nil units) ∙ h
