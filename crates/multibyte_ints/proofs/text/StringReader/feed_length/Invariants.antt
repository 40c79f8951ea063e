use Rattle.std.proofs.Common.{◌≡◌, ℕ, List, ◌++◌, take}
use Rattle.multibyte_ints.specs.{declared.text.Part.TheVariants.Length, TextReader.InLength}
use Rattle.multibyte_ints.proofs.text.StringReader.feed_length.Given as goal

abbrev pub invariant-loop-i : goal.invariant-loop-i
invariant-loop-i l = record {
  part : l.self.part ≡ Length;
  limit : l.self.limit ≡ l.fn.self.limit;
  reached : (p : List ℕ) → InLength l.fn.self p → InLength l.self (p ++ take l.i l.piece);
}
