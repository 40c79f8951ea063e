use Rattle.{std.proofs.Common.rules, session_dictionary.proofs.PieceFacts.length-pieces}
use Rattle.session_dictionary.proofs.texts.Texts.len.Goals as goal

pub returns : goal.returns
returns c = let t = c.self.inside in
    rw (← c.self.view_is) (rw (length-pieces 0 t.ends.items t.bytes.items) (search rules))
