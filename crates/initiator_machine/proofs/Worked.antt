-- Openings by computation: each mode and encoding, with and without a Via.
use Rattle.std.proofs.Common.{◌≡◌, ℕ, List, [], ◌∷◌, ◌++◌, map, codes, refl}
use Rattle.multibyte_ints.specs.{Integer.shortest, Integer.shortest_within, Text.string_bytes_of}
use Rattle.nbfx_values.specs.declared.session.Encoding.{Encoding, TheVariants.Extensible}
use Rattle.nbfx_values.specs.declared.session.Encoding.TheVariants.{Known}
use Rattle.nbfx_values.specs.declared.session.Kind.TheVariants.{Plain, Session}
use Rattle.nbfx_values.specs.declared.session.Mode.{Mode}
use Rattle.nbfx_values.specs.declared.session.Mode.TheVariants.{Duplex, Simplex, Singleton}
use Rattle.initiator_machine.specs.Opening.{opening_bytes}

-- a mode, an encoding, a Via, and what opens their session
abbrev Row : Type 0
Row = Mode × Encoding × List ℕ × List ℕ

abbrev AllOpen : List Row → Type 0
AllOpen rows = map (λ (row : Row). opening_bytes row.0 row.1 row.2) rows
    ≡ map (λ (row : Row). row.3) rows

abbrev via : List ℕ
via = codes "net.tcp://h/e"

openings : AllOpen (
    (Duplex, Known Session, via, 0 ∷ 1 ∷ 0 ∷ 1 ∷ 2 ∷ 2 ∷ 13 ∷ via ++ 3 ∷ 8 ∷ 12 ∷ []) ∷
    (Duplex, Known Plain, via, 0 ∷ 1 ∷ 0 ∷ 1 ∷ 2 ∷ 2 ∷ 13 ∷ via ++ 3 ∷ 7 ∷ 12 ∷ []) ∷
    (Singleton, Known Session, via, 0 ∷ 1 ∷ 0 ∷ 1 ∷ 1 ∷ 2 ∷ 13 ∷ via ++ 3 ∷ 8 ∷ 12 ∷ []) ∷
    (Singleton, Known Plain, via, 0 ∷ 1 ∷ 0 ∷ 1 ∷ 1 ∷ 2 ∷ 13 ∷ via ++ 3 ∷ 7 ∷ 12 ∷ []) ∷
    (Simplex, Known Session, via, 0 ∷ 1 ∷ 0 ∷ 1 ∷ 3 ∷ 2 ∷ 13 ∷ via ++ 3 ∷ 8 ∷ 12 ∷ []) ∷ (
      Duplex,
      Extensible Session,
      via,
      0 ∷ 1 ∷ 0 ∷ 1 ∷ 2 ∷ 2 ∷ 13 ∷ via ++ 4 ∷ 30
          ∷ codes "application/soap+msbinsession1" ++ 12 ∷ [],
    ) ∷ (
      Singleton,
      Extensible Plain,
      [],
      0 ∷ 1 ∷ 0 ∷ 1 ∷ 1 ∷ 2 ∷ 0 ∷ 4 ∷ 23
          ∷ codes "application/soap+msbin1" ++ 12 ∷ [],
    ) ∷
    (Simplex, Known Plain, [], 0 ∷ 1 ∷ 0 ∷ 1 ∷ 3 ∷ 2 ∷ 0 ∷ 3 ∷ 7 ∷ 12 ∷ []) ∷
    [])
unfolding shortest shortest_within string_bytes_of
openings = refl
