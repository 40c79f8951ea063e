use Rattle.std.proofs.Common.{◌≡◌, ◌++◌, length, rules}
use Rattle.session_dictionary.proofs.PieceFacts.{are-push, pieces-push}
use Rattle.session_dictionary.proofs.texts.Texts.push.Goals as goal

pub invariant_of-self-2 : goal.invariant_of-self-2
invariant_of-self-2 c =
    let t = c.self.inside in
    let long : c.len.result ≡ length (t.bytes.items ++ c.args.text.now) =
    rw (← c.as_bytes.ensures.value, ← c.in_ok-extend_from_slice.ensures.items) (search rules) in
    rw (
      c.in_ok-push.ensures.items,
      c.in_ok-reserve.ensures.items,
      c.in_ok-extend_from_slice.ensures.items,
      c.as_bytes.ensures.value,
      long,
    )
    (are-push t.bytes.items c.args.text.now 0 t.ends.items c.utf8.text c.self.invariant)

pub returns-clause-added : goal.returns-clause-added
returns-clause-added c =
    let t = c.self.inside in
    let long : c.len.result ≡ length (t.bytes.items ++ c.args.text.now) =
    rw (← c.as_bytes.ensures.value, ← c.in_ok-extend_from_slice.ensures.items) (search rules) in
    rw (
      ← c.self.view_is,
      c.in_ok-push.ensures.items,
      c.in_ok-reserve.ensures.items,
      c.in_ok-extend_from_slice.ensures.items,
      c.as_bytes.ensures.value,
      long,
    )
    (pieces-push t.bytes.items c.args.text.now 0 t.ends.items c.self.invariant)
