use Rattle.line_notation.proofs.ReadingFacts.{reads-array, reads-attribute, reads-comment}
use Rattle.line_notation.proofs.ReadingFacts.{reads-declaration, reads-start, reads-text}
use Rattle.line_notation.proofs.ReadingFacts.{reads-values}
use Rattle.line_notation.proofs.lines.read_behind.Goals as goal

pub returns-in-Start : goal.returns-in-Start
returns-in-Start c = rw (c.in-Start.is, reads-start c.args.kind c.args.words.now) c.start.ensures

pub returns-in-Ns : goal.returns-in-Ns
returns-in-Ns c = rw (c.in-Ns.is, reads-declaration c.args.kind c.args.words.now)
    c.declaration.ensures

pub returns-in-Attr : goal.returns-in-Attr
returns-in-Attr c = rw (c.in-Attr.is, reads-attribute c.args.kind c.args.words.now)
    c.attribute.ensures

pub returns-in-Text : goal.returns-in-Text
returns-in-Text c = rw (c.in-Text.is, reads-text c.args.kind c.args.words.now) c.text_item.ensures

pub returns-in-Comment : goal.returns-in-Comment
returns-in-Comment c = rw (c.in-Comment.is, reads-comment c.args.kind c.args.words.now)
    c.comment.ensures

pub returns-in-Array : goal.returns-in-Array
returns-in-Array c = rw (c.in-Array.is, reads-array c.args.kind c.args.words.now) c.array.ensures

pub returns-in-Values : goal.returns-in-Values
returns-in-Values c = rw (c.in-Values.is, reads-values c.args.kind c.args.words.now)
    c.values.ensures
