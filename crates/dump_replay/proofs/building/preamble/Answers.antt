use Rattle.std.proofs.Common.{ℕ, ◌≤◌, List, ◌++◌, length, sym, ap, ◌∙◌, subst}
use Rattle.command_words.specs.Asking.{opening_of}
use Rattle.dump_replay.{specs.Building.preamble_of, proofs.BuildEndings.preamble_short}
use Rattle.dump_replay.proofs.building.preamble.Goals as goal

pub returns-clause-short : goal.returns-clause-short
returns-clause-short c =
    subst (λ (l : List ℕ). length l ≤ 65536) (sym (c.in_ok-opening.ensures.written
    ∙ ap (λ (l : List ℕ). l ++ preamble_of (opening_of c.args.wanted)) c.new-bytes.ensures.items))
    (preamble_short (opening_of c.args.wanted) c.requires)
