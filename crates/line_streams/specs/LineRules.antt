-- Input whose units are lines, each of which may bring an event, as a stream.
use Rattle.std.proofs.lemmas.Option.{none-some}
use Rattle.std.specs.Prelude.{◌≡◌, ℕ, ◌+◌, Bool, false, List, [], ◌∷◌, if◌then◌else◌, nat_lt}
use Rattle.std.specs.Prelude.{nat_le, ◌==◌, Some, None, Ok, Err, Option, Result, refl}
use Rattle.unit_streams.specs.Front.{begun, Front, whole, wrong}
use Rattle.unit_streams.specs.Grammar.{Grammar}

-- what lines mean: situations are in Z, events in E and refusals in R
pub record LineRules (Z E R : Type 0) : Type 0 where
  -- the situation before the first line, and behind a line
  pub start : Z
  pub after : Z → List ℕ → Z
  -- why a line is refused, and the event that it brings
  pub refused : Z → List ℕ → Option R
  pub brings : Z → List ℕ → Option E
  -- why the input may not end, within a line or behind one
  pub at_end : (within_line : Bool) → Z → Option R
  -- so many bytes are too many, which refuses them
  pub most : ℕ
  pub too_long : R

-- a line at the front of some bytes, with one byte more before it
abbrev pub with_byte : {R : Type 0} → ℕ → Front (List ℕ) R → Front (List ℕ) R
with_byte b begun = begun
with_byte b (whole line n) = whole (b ∷ line) (n + 1)
with_byte b (wrong fault n) = wrong fault (n + 1)

-- the line at the front of some bytes, up to its line feed
abbrev pub line_at : {R : Type 0} → List ℕ → Front (List ℕ) R
line_at [] = begun
line_at (b ∷ bytes) = if b == 10 then whole [] 1 else with_byte b (line_at bytes)

module _ {Z E R : Type 0} where
  -- of what a line brings: the situation behind it, its event, and why it is refused
  abbrev pub situation_behind : Z → Result (Z × E) R → Z
  situation_behind z (Ok brought) = brought.0
  situation_behind z (Err r) = z

  abbrev pub event_in : Result (Z × E) R → Option E
  event_in (Ok brought) = Some brought.1
  event_in (Err r) = None

  abbrev pub refusal_in : Result (Z × E) R → Option R
  refusal_in (Ok brought) = None
  refusal_in (Err r) = Some r

  -- rules by which each line brings an event or is refused
  abbrev pub each_brings : (start : Z) → (brings : Z → List ℕ → Result (Z × E) R)
      → (at_end : Bool → Z → Option R) → (most : ℕ) → (too_long : R) → LineRules Z E R
  each_brings start brings at_end most too_long = record {
    start = start;
    after = λ z line. situation_behind z (brings z line);
    refused = λ z line. refusal_in (brings z line);
    brings = λ z line. event_in (brings z line);
    at_end = at_end;
    most = most;
    too_long = too_long;
  }

  -- so one that is refused brings nothing
  silent_by : (v : Result (Z × E) R) (r : R) → refusal_in v ≡ Some r → event_in v ≡ None
  silent_by (Ok brought) r e = absurd (none-some r e)
  silent_by (Err other) r e = refl

  pub each_silent : (brings : Z → List ℕ → Result (Z × E) R) (z : Z) (line : List ℕ) (r : R)
      → refusal_in (brings z line) ≡ Some r → event_in (brings z line) ≡ None
  each_silent brings z line r e = silent_by (brings z line) r e

  module _ (x : LineRules Z E R) where
    -- a line that is refused brings nothing
    abbrev pub IsSilent : Type 0
    IsSilent = (z : Z) (line : List ℕ) (r : R) → x.refused z line ≡ Some r
        → x.brings z line ≡ None

    -- as many bytes as are too many are refused
    abbrev pub length_refused : ℕ → Option R
    length_refused n = if nat_le x.most n then Some x.too_long else None

    -- why the input may not end, where the unfinished line begins at an offset
    abbrev pub end_refused : (from n : ℕ) → Z → Option R
    end_refused from n z = x.at_end (nat_lt from n) z

    abbrev pub lines_by : Grammar Z (List ℕ) E R
    lines_by = record {
      start = x.start;
      unit_at = λ z from bytes. line_at bytes;
      after = λ z from line. x.after z line;
      refused = λ z from line. x.refused z line;
      completed = λ z from to line. x.brings z line;
      is_over = λ z. false;
      at_length = λ z from n. length_refused n;
      at_end = λ z from n. end_refused from n z;
    }
