use Rattle.std.proofs.Common.{drop, flat_map}
use Rattle.line_notation.{specs.Puts.spaced_word, proofs.PutsFacts.HavePut}
use Rattle.line_notation.proofs.puts.put_spaced_words.Given as goal

abbrev pub invariant-loop-word : goal.invariant-loop-word
invariant-loop-word g l =
    HavePut (flat_map spaced_word) l.words (drop l.word-index l.words) (g.K.Sink.view l.fn.sink)
    (g.K.Sink.view l.sink)
