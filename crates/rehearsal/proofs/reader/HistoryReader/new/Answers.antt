use Rattle.std.proofs.Common.{◌≡◌, [], sym, subst}
use Rattle.line_streams.{specs.LineStreamState.Reached, proofs.StreamFacts.starts}
use Rattle.rehearsal.specs.declared.{reader.HistoryLines.HistoryLines, TheConstants.MOST_BYTES}
use Rattle.rehearsal.specs.{History.history_rules, PlayerState.Plays, PlayerState.set_to}
use Rattle.rehearsal.specs.HistoryReaderState.{StandsFor}
use Rattle.rehearsal.proofs.reader.HistoryReader.new.Goals as goal

pub returns-clause-stands : goal.returns-clause-stands
unfolding StandsFor
returns-clause-stands c =
    let r = c.new-2.result in
    let e = c.new-2.ensures in
    subst (λ (l : HistoryLines). (MOST_BYTES ≡ r.most)
    × Reached (history_rules (set_to l)) (λ z. Plays z l.player) r.begun.items r.taken [])
    (sym e.lines) (
      sym e.most,
      starts (history_rules _) _ r.begun.items r.taken e.begun e.taken
          c.in_ok-player.ensures,
    )
