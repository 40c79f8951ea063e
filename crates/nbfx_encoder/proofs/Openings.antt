-- What a payload begins with has few bytes.
use Rattle.std.proofs.Common.{◌≡◌, ℕ, ◌^◌, ◌<◌, ◌≤◌, List, [], ◌++◌, length, take, drop, IsErr, Ok}
use Rattle.std.proofs.Common.{Err, Result, flat_map, sym, ap, ◌∙◌, append_assoc, arith}
use Rattle.{std.proofs.Common.take-append-drop, multibyte_ints.proofs.ShortestLaws.shortest_spells}
use Rattle.string_tables.{proofs.SessionFacts.used_cost-append, specs.SessionStrings.used_cost}
use Rattle.multibyte_ints.specs.{Integer.shortest, Text.string_bytes_of}
use Rattle.nbfx_records.{proofs.PayloadFacts.strings_length, specs.Putting.Puts}

pub few_bytes : (strings : List (List ℕ)) (n : ℕ) (cleared out : List ℕ)
    → used_cost strings ≤ 2 ^ 28 → cleared ≡ []
    → out ≡ cleared ++ flat_map string_bytes_of (drop n strings) → length out < 2 ^ 31
few_bytes strings n cleared out few none written =
    let own : used_cost (drop n strings) ≤ 2 ^ 28 =
    omega (
      arith,
      few,
      used_cost-append (take n strings) (drop n strings),
      ap used_cost
          (take-append-drop n strings),
    ) in
    let long = strings_length (drop n strings) own in
    omega (
      arith,
      own,
      long,
      ap length written,
      ap
          (λ (l : List ℕ). length (l ++ flat_map string_bytes_of (drop n strings))) none,
    )

pub short_head : (n : ℕ) → n < 2 ^ 31 → length (shortest n) ≤ 5
short_head n few = (shortest_spells n few).0.at_most_five

-- where the last of three pieces finds no memory, the first two stand there
pub third_stopped : {T E : Type 0} (a b c old one two three : List ℕ) (r : Result T E) → IsErr r
    → one ≡ old ++ a → two ≡ one ++ b → three ≡ two → Puts r old three (a ++ (b ++ c))
third_stopped a b c old one two three (Ok t) err first second third = cc err
third_stopped a b c old one two three (Err e) err first second third = record {
  put = (
    a ++ b,
    c,
    sym (append_assoc a b c),
    third ∙ second ∙ ap (λ l. l ++ b) first
        ∙ append_assoc old a b,
  );
}
