-- Where lines lead, line by line.
use Rattle.std.proofs.Common.{◌≡◌, ℕ, ◌+◌, List, [], ◌∷◌, ◌++◌, length, Ok, Err, Result, sym, refl}
use Rattle.std.proofs.Common.{ap, ◌∙◌, subst, append_assoc, append-nil, arith, length-append}
use Rattle.line_notation.specs.declared.reader.LineFault.{LineFault, TheVariants.Bad}
use Rattle.line_notation.specs.{declared.reader.LineKind.LineKind, Laws.IsRefusedAt}
use Rattle.line_notation.specs.LineReaderState.{after, at_start, ends, failed, going, on, outcome}
use Rattle.line_notation.specs.LineReaderState.{Placed, Standing, standing, standing_from}
use Rattle.line_notation.specs.LineReaderState.{standing_of}

-- a line more
more-from : (z : Standing) (lines : List (List ℕ)) (line : List ℕ) → standing_from z
    (lines ++ line ∷ []) ≡ after (standing_from z lines) line
more-from z [] line = refl
more-from z (first ∷ lines) line = more-from (after z first) lines line

pub standing-more : (lines : List (List ℕ)) (line : List ℕ) → standing (lines ++ line ∷ [])
    ≡ after (standing lines) line
standing-more lines line = more-from at_start lines line

-- so many lines, or one that is refused
abbrev IsCounted : List (List ℕ) → Standing → Type 0
IsCounted lines (failed fault) = IsRefusedAt lines fault
IsCounted lines (going n items opened) = n ≡ length lines

more-counted : (lines : List (List ℕ)) (line : List ℕ) (z : Standing) → standing lines ≡ z
    → IsCounted lines z → IsCounted (lines ++ line ∷ []) (after z line)
more-counted lines line (failed fault) stands h = record {
  front = h.front;
  line = h.line;
  rest = h.rest ++ line ∷ [];
  items = h.items;
  opened = h.opened;
  kind = h.kind;
  lines_are = ap (λ l. l ++ line ∷ []) h.lines_are ∙ append_assoc h.front (h.line ∷ h.rest)
      (line ∷ []);
  stood = h.stood;
  refused = h.refused;
  fault_is = h.fault_is;
}
more-counted lines line (going n items opened) stands h = go (outcome items opened line) refl
  where
    go : (o : Result Placed LineKind) → outcome items opened line ≡ o
        → IsCounted (lines ++ line ∷ []) (standing_of (n + 1) o)
    go (Ok (on then then_opened)) e = omega (arith, h, length-append lines (line ∷ []))
    go (Ok (ends doc)) e = omega (arith, h, length-append lines (line ∷ []))
    go (Err kind) e = record {
      front = lines;
      line = line;
      rest = [];
      items = items;
      opened = opened;
      kind = kind;
      lines_are = refl;
      stood = stands ∙ ap (λ n. going n items opened) h;
      refused = e;
      fault_is = ap (λ n. Bad (n + 1) kind) h;
    }

all-counted : (left lines : List (List ℕ)) (z : Standing) → standing lines ≡ z → IsCounted lines z
    → IsCounted (lines ++ left) (standing_from z left)
all-counted [] lines z stands h = subst (λ l. IsCounted l z) (sym (append-nil lines)) h
all-counted (line ∷ left) lines z stands h =
    subst (λ l. IsCounted l (standing_from (after z line) left))
    (append_assoc lines (line ∷ []) left)
    (all-counted left (lines ++ line ∷ []) (after z line)
    (standing-more lines line ∙ ap (λ y. after y line) stands) (more-counted lines line z stands h))

pub standing-refused : (lines : List (List ℕ)) (fault : LineFault) → standing lines ≡ failed fault
    → IsRefusedAt lines fault
standing-refused lines fault e = subst (IsCounted lines) e (all-counted lines [] at_start refl refl)
