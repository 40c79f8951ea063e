use Rattle.std.proofs.Common.{◌∙◌, sym}
use Rattle.static_dictionary.proofs.FileFacts.{no_header, other_header}
use Rattle.static_dictionary.proofs.header.take_header.Goals as goal
use Rattle.static_dictionary.proofs.header.take_header.Goals.{else-branch-via-then-branch+else-is_header}
use Rattle.static_dictionary.proofs.header.take_header.Goals.{else-branch-via-else-branch}

pub returns-clause-bad : goal.returns-clause-bad
returns-clause-bad c =
    let old = c.args.rows.now in
    let new = c.advance.new.self in
    let found = c.in_ok-advance.field-0 in
    let next = c.in_ok-advance.ensures in
    elim c.else-branch.branch [
      | else-branch-via-then-branch+else-is_header w ↦
          other_header old.coming new.coming new.row found next
          (sym w.is_header.ensures ∙ w.if-is_header.false)
      | else-branch-via-else-branch w ↦
          no_header old.coming new.coming new.row found next w.if-branch.false
    ]
