use Rattle.std.proofs.Common.{◌-◌, None, Ok, sym, refl, ap, ◌∙◌, arith}
use Rattle.std.proofs.Math.Nat.{le-max_left, le-max_right}
use Rattle.line_notation.specs.Between.{next_line}
use Rattle.line_notation.specs.LineReaderState.{after, answer, Standing}
use Rattle.document_lines.specs.declared.line_encoder.LineEncoder.{LineEncoder}
use Rattle.document_lines.specs.LineEncoderState.{settings_in}
use Rattle.document_lines.proofs.Sending.{counted, line_done, line_in, line_more, set_moved}
use Rattle.document_lines.proofs.Sending.{set_sent}
use Rattle.document_lines.proofs.{Stepping.few_read}
use Rattle.document_lines.proofs.line_encoder.LineEncoderLineEnd.line.Goals.{else-is_full}
use Rattle.document_lines.proofs.line_encoder.LineEncoderLineEnd.line.Goals.{then-is_full+else-not-is_between}
use Rattle.document_lines.proofs.line_encoder.LineEncoderLineEnd.line.Goals as goal

pub line-requires : goal.line-requires
line-requires c =
    let e = c.args.self.now in
    let most = le-max_left (next_line e.lines - 1) e.documents in
    record { few = few_read e.lines (let few = c.requires in omega (arith, most, few)) }

pub send-requires : goal.send-requires
send-requires c =
    let e = c.args.self.now in
    let most = le-max_right (next_line e.lines - 1) e.documents in
    let few = c.requires in omega (arith, most, few)

-- a document is whole
pub returns-in-Ok-Done-clause-answers : goal.returns-in-Ok-Done-clause-answers
returns-in-Ok-Done-clause-answers c = λ z at.
    let old = c.args.self.now in
    let new = c.send.new.self in
    let line = c.args.line.now in
    let stands = c.in-Ok-Done.ensures.stands in
    let said = c.in-Ok-Done.ensures.answer in
    let e = c.send.ensures in
    line_in old new (set_sent old new e.kept e.mode) z line c.send.result
    (line_done (settings_in old) z old new at line
    (e.lines ∙ stands ∙ ap (λ (s : Standing). after s line) at.lines) c.in-Ok-Done.doc
    (ap (λ (s : Standing). answer s line) (sym at.lines) ∙ sym said
    ∙ ap Ok c.in-Ok-Done.field-0-is) e.kept e.mode e.documents c.send.result e.sent)

pub returns-in-Ok-Done-clause-settings : goal.returns-in-Ok-Done-clause-settings
returns-in-Ok-Done-clause-settings c =
    set_sent c.args.self.now c.send.new.self c.send.ensures.kept c.send.ensures.mode

pub returns-in-Ok-Done-clause-count : goal.returns-in-Ok-Done-clause-count
returns-in-Ok-Done-clause-count c =
    let more = c.send.ensures.documents in
    counted c.args.self.now c.send.new.self c.args.line.now
    (c.send.ensures.lines ∙ c.in-Ok-Done.ensures.stands) (omega (arith, more))

-- it isn't
pub returns-in-Ok-More-clause-settings : goal.returns-in-Ok-More-clause-settings
returns-in-Ok-More-clause-settings c = set_moved c.args.self.now c.line.new.self

pub returns-in-Ok-More-clause-count : goal.returns-in-Ok-More-clause-count
returns-in-Ok-More-clause-count c =
    counted c.args.self.now (record c.args.self.now { lines = c.line.new.self }) c.args.line.now
    c.in-Ok-More.ensures.stands (omega arith)

pub returns-in-Ok-More-2-clause-answers : goal.returns-in-Ok-More-2-clause-answers
returns-in-Ok-More-2-clause-answers c = λ z at.
    let old = c.args.self.now in
    let new : LineEncoder = record old { lines = c.line.new.self } in
    let line = c.args.line.now in
    let stands = c.in-Ok-More.ensures.stands in
    let said = c.in-Ok-More.ensures.answer in
    line_in old new (set_moved old c.line.new.self) z line (Ok None)
    (line_more (settings_in old) z old new at line
    (stands ∙ ap (λ (s : Standing). after s line) at.lines)
    (ap (λ (s : Standing). answer s line) (sym at.lines) ∙ sym said
    ∙ ap Ok c.in-Ok-More.field-0-is) refl refl refl
    (λ full. elim c.if-is_full.branch [
      | then-is_full+else-not-is_between w ↦
          sym w.is_between.ensures ∙ w.if-not-is_between.false
      | else-is_full w ↦ let none = sym c.is_full.ensures ∙ w.if-is_full.false in cc
    ]))

pub returns-in-Ok-More-2-clause-settings : goal.returns-in-Ok-More-2-clause-settings
returns-in-Ok-More-2-clause-settings c = set_moved c.args.self.now c.line.new.self

pub returns-in-Ok-More-2-clause-count : goal.returns-in-Ok-More-2-clause-count
returns-in-Ok-More-2-clause-count c =
    counted c.args.self.now (record c.args.self.now { lines = c.line.new.self }) c.args.line.now
    c.in-Ok-More.ensures.stands (omega arith)

-- it is refused
pub returns-in-Err-Bad-clause-settings : goal.returns-in-Err-Bad-clause-settings
returns-in-Err-Bad-clause-settings c = set_moved c.args.self.now c.line.new.self

pub returns-in-Err-Bad-clause-count : goal.returns-in-Err-Bad-clause-count
returns-in-Err-Bad-clause-count c =
    counted c.args.self.now (record c.args.self.now { lines = c.line.new.self }) c.args.line.now
    (rw c.in-Err-Bad.field-0-is at c.in-Err-Bad.ensures.stands) (omega arith)

-- or there is no memory
pub returns-in-Err-Memory-clause-settings : goal.returns-in-Err-Memory-clause-settings
returns-in-Err-Memory-clause-settings c = set_moved c.args.self.now c.line.new.self
