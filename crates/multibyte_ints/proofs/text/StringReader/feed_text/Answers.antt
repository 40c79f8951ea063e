use Rattle.std.proofs.Common.{◌≡◌, ◌≤◌, ◌-◌, ◌++◌, length, take, arith, refl}
use Rattle.std.proofs.lemmas.Grind.{common_steps}
use Rattle.multibyte_ints.proofs.TextSteps.{in_text, reached_text, judged, goes_on_in_text}
use Rattle.multibyte_ints.proofs.text.StringReader.feed_text.Goals as goal
use Rattle.multibyte_ints.proofs.text.StringReader.feed_text.Goals.{then-used-left, else-used-left}

pub returns-clause-reached : goal.returns-clause-reached
returns-clause-reached c p s =
    let before = in_text c.args.self.now p _ c.in-Text.left c.in-Text.is s in
    let few : c.min-used.result ≤ c.in-Text.left = omega (arith, c.min-used.ensures) in
    let within : c.min-used.result ≤ length c.args.piece.now = omega (arith, c.min-used.ensures) in
    let bytes : c.extend_from_slice.new.self.items ≡ c.args.self.now.bytes.items
    ++ take c.min-used.result c.args.piece.now =
    grind (arith, common_steps, c.extend_from_slice.ensures.items, c.unwrap.ensures) in
    elim c.if-used-left.branch [
      | then-used-left w ↦ reached_text _ _ _ (c.in-Text.left - c.min-used.result) w.self-is
          (goes_on_in_text c.args.self.now _ c.in-Text.left c.min-used.result p c.args.piece.now
          before refl bytes few within)
      | else-used-left w ↦ judged _ _ (c.in-Text.left - c.min-used.result) _ _ _
          (goes_on_in_text c.args.self.now _ c.in-Text.left c.min-used.result p c.args.piece.now
          before refl bytes few within)
          (omega arith) w.deref.ensures.value w.judge.ensures w.self-is
    ]
