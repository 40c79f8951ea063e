-- Worked sessions, by computation.
use Rattle.std.proofs.Common.{◌≡◌, ℕ, List, [], ◌∷◌, ◌++◌, map, length, Some, None, Ok, Err, codes}
use Rattle.std.proofs.Common.{Option, Result, refl}
use Rattle.std.specs.{Char.encode_utf8, Fmt.digits, List.repeat}
use Rattle.multibyte_ints.specs.{Integer.shortest, Integer.shortest_within, Text.string_bytes_of}
use Rattle.nbfx_values.specs.Limits.{Limits, limits, usual_limits}
use Rattle.nbfx_encoder.specs.{Envelopes.UnfitAt, Placing.Placed}
use Rattle.session_generator.specs.Documents.{documents, documents_from}
use Rattle.session_generator.specs.Generated.{session_of}

-- what every session begins with
abbrev preamble : List ℕ
preamble = 0x00 ∷ 0x01 ∷ 0x00 ∷ 0x01 ∷ 0x02 ∷ 0x02 ∷ 0x0d
    ∷ (codes "net.tcp://h/e" ++ 0x03 ∷ 0x08 ∷ 0x0c ∷ [])

-- without documents, and with the first of seed 0
empty : session_of usual_limits [] (documents 0 0)
    ≡ Ok (preamble ++ 0x07 ∷ [], record { statics = []; strings = [] })
unfolding encode_utf8 shortest shortest_within string_bytes_of documents_from
empty = refl

of_one : session_of usual_limits [] (documents 0 1)
    ≡ Ok (
      preamble
          ++ (0x06 ∷ 0xbe ∷ 0x02 ∷ 0x08 ∷ 0x03
          ∷ (codes "n14" ++ 0x01 ∷ (codes "k" ++ 0x01 ∷ (codes "t"
          ++ 0x42 ∷ 0x01 ∷ 0x06 ∷ 0x03 ∷ 0x80 ∷ 0x8c ∷ 0x7e ∷ 0x7b ∷ 0x05 ∷ 0x14 ∷ 0x42 ∷ 0x05
          ∷ 0x9b
          ∷ 0x25 ∷ 0x01 ∷ (repeat 293 (codes "x") ++ 0x01 ∷ 0x07 ∷ []))))),
      record { statics = []; strings = codes "n14" ∷ codes "k" ∷ codes "t" ∷ [] },
    )
unfolding encode_utf8 shortest shortest_within string_bytes_of documents_from digits
of_one = refl

-- how long a session is, and its strings
abbrev measured : Result (Placed (List ℕ)) UnfitAt → Option (ℕ × List (List ℕ))
measured (Ok session) = Some (length session.0, session.1.strings)
measured (Err unfit) = None

-- quotas on the dictionary, a seed, a number of documents, bytes, strings
abbrev Row : Type 0
Row = ℕ × ℕ × ℕ × ℕ × List (List ℕ)

abbrev dictionary_of : ℕ → Limits
dictionary_of dictionary = limits 4096 4 dictionary 4096 16 1

abbrev AreMeasured : List Row → Type 0
AreMeasured rows =
    map (λ (r : Row). measured (session_of (dictionary_of r.0) [] (documents r.1 r.2))) rows
    ≡ map (λ (r : Row). Some (r.3, r.4)) rows

sizes : AreMeasured (
    (4096, 0, 0, 24, [])
    ∷ (4096, 0, 1, 345, codes "n14" ∷ codes "k" ∷ codes "t" ∷ [])
    ∷ (4096, 0, 2, 556, codes "n14" ∷ codes "k" ∷ codes "t" ∷ codes "n49" ∷ [])
    ∷ (0, 0, 1, 342, [])
    ∷ (4, 7, 3, 612, codes "n6" ∷ codes "k" ∷ codes "t" ∷ [])
    ∷ [])
unfolding encode_utf8 shortest shortest_within string_bytes_of documents_from digits
sizes = refl
