-- For worked examples: streams of which each byte is an event, up to the byte 0, and what is
-- written of them.
use Rattle.std.specs.Prelude.{ℕ, ◌+◌, min, Bool, false, List, [], ◌∷◌, if◌then◌else◌, nat_le, ◌==◌}
use Rattle.std.specs.Prelude.{Some, None, Option}
use Rattle.unit_streams.specs.Front.{begun, Front, whole, wrong}
use Rattle.unit_streams.specs.{Grammar.Grammar, Tellers.Teller}

module _ {R : Type 0} (bad cut too_long : R) where
  -- the byte 255 is none
  abbrev pub byte_at : Bool → List ℕ → Front ℕ R
  byte_at over [] = begun
  byte_at over (b ∷ rest) = if over then begun else if b == 255 then wrong bad 1 else whole b 1

  -- bytes up to one that is 0, of which there have to be fewer than 200,000
  abbrev pub bytes_to_0 : Grammar Bool ℕ ℕ R
  bytes_to_0 = record {
    start = false;
    unit_at = λ over from bytes. byte_at over bytes;
    after = λ over from b. b == 0;
    refused = λ over from b. None;
    completed = λ over from to b. Some b;
    is_over = λ over. over;
    at_length = λ over from n.
        if over then None else if nat_le 200000 n then Some too_long else None;
    at_end = λ over from n. if over then None else Some cut;
  }

-- each byte is written as it is, and at last a question mark where the stream is refused, and how
-- many bytes there were, up to 255
abbrev pub bytes_and_count : {R : Type 0} → Teller ℕ ℕ R
bytes_and_count = record {
  start = 0;
  told = λ n b. b ∷ [];
  next = λ n b. min (n + 1) 255;
  ends = count;
} where
  count : {R : Type 0} → ℕ → Option R → List ℕ
  count n None = n ∷ []
  count n (Some r) = 63 ∷ n ∷ []
