use Rattle.std.proofs.Common.{[], refl, ◌∙◌, arith}
use Rattle.nbfx_encoder.specs.{EncoderState.kind_in, EncoderState.names_in, ReadBack.IsRead}
use Rattle.nbfx_decoder.specs.DecoderState.{settings_of}
use Rattle.session_ends.proofs.BothEnds.{level-again, taken, whole, whole-again, written_read}
use Rattle.session_ends.proofs.carrying.carry.Goals.{After-deref}
use Rattle.session_ends.proofs.carrying.carry.Goals as goal

-- what was written is read so
is_read : (c : After-deref)
    → IsRead (settings_of c.args.decoder.now).limits (kind_in c.args.encoder.now)
    (names_in c.args.encoder.now) c.args.doc.now c.deref.result.now (names_in c.encode.new.self)
is_read c =
    let e = c.args.encoder.now in
    let d = c.args.decoder.now in
    written_read (settings_of d).limits (kind_in e) (names_in e) c.args.doc.now
    c.clear.new.self.items c.encode.new.out.items c.deref.result.now (names_in c.encode.new.self)
    (c.in_default.ensures.payload (settings_of d).limits c.requires.admits) c.clear.ensures.items
    c.deref.ensures.value

pub feed-requires : goal.feed-requires
feed-requires c =
    let e = c.args.encoder.now in
    let d = c.args.decoder.now in
    let read = is_read (goal.at.feed-requires c).After-deref in
    let all = whole e d c.requires c.args.doc.now c.deref.result.now (names_in c.encode.new.self)
    read in
    let none = c.taken-taken.ensures.stands (names_in e).strings [] c.requires.stands in
    λ _. omega (
      arith,
      all.within.payload,
      none,
      c.taken-taken.ensures.counted (omega (arith, none)),
    )

pub unreachable-requires : goal.unreachable-requires
unreachable-requires c =
    let e = c.args.encoder.now in
    let d = c.args.decoder.now in
    let read = is_read (goal.at.unreachable-requires c).After-deref in
    let going = taken e d c.requires c.args.doc.now c.deref.result.now
    (names_in c.encode.new.self) read c.payloads.ensures
    (c.answers.ensures.make_the_history (settings_of d) (names_in e).strings) in
    let answers = c.in-Err-Payload.ensures.answers (names_in e).strings [] c.requires.stands in
    cc (going, (rw c.in-Err-Payload.field-0-is at answers).1)

pub unreachable-requires-in-Err-finish : goal.unreachable-requires-in-Err-finish
unreachable-requires-in-Err-finish c =
    let e = c.args.encoder.now in
    let d = c.args.decoder.now in
    let read = is_read (goal.at.unreachable-requires-in-Err-finish c).After-deref in
    let again = whole-again e d c.requires c.args.doc.now c.deref.result.now
    (names_in c.encode.new.self) read c.feed.new.self c.feed.ensures.settings in
    let stands = c.in-Ok.ensures.stands (names_in e).strings [] c.requires.stands in
    let done = (c.finish.ensures.whole (names_in e).strings c.deref.result.now stands
    c.args.doc.now).1 (read.own, again) in
    cc (done, c.in-Err-finish.is)

pub returns-clause-read : goal.returns-clause-read
returns-clause-read c =
    let e = c.args.encoder.now in
    let d = c.args.decoder.now in
    let read = is_read (goal.at.returns-clause-read c).After-deref in
    let again = whole-again e d c.requires c.args.doc.now c.deref.result.now
    (names_in c.encode.new.self) read c.feed.new.self c.feed.ensures.settings in
    let stands = c.in-Ok.ensures.stands (names_in e).strings [] c.requires.stands in
    let done = (c.finish.ensures.whole (names_in e).strings c.deref.result.now stands
    c.args.doc.now).1 (read.own, again) in
    cc (done, c.in-Ok-finish.is)

pub returns-clause-level : goal.returns-clause-level
returns-clause-level c =
    let e = c.args.encoder.now in
    let d = c.args.decoder.now in
    let read = is_read (goal.at.returns-clause-level c).After-deref in
    let again = whole-again e d c.requires c.args.doc.now c.deref.result.now
    (names_in c.encode.new.self) read c.feed.new.self c.feed.ensures.settings in
    let stands = c.in-Ok.ensures.stands (names_in e).strings [] c.requires.stands in
    level-again e d c.requires c.args.doc.now c.deref.result.now (names_in c.encode.new.self) read
    c.encode.new.self c.finish.new.self c.encode.ensures.kept refl
    (c.finish.ensures.settings ∙ c.feed.ensures.settings)
    (c.in-Ok-finish.ensures.carried (names_in e).strings c.deref.result.now stands read.own
    c.args.doc.now again)
