use Rattle.session_generator.specs.declared.session.Session.{Session}
use Rattle.session_generator.proofs.Sending.{memory_stops, only_memory, sent_says, stopped_says}
use Rattle.session_generator.proofs.session.Session.send.Goals as goal

pub unsent-requires : goal.unsent-requires
unsent-requires c =
    only_memory _ _ c.in-Err.fault c.requires.payload c.in-Err.ensures.refused c.requires.ready
    c.requires.fits

pub returns-in-Ok-clause-sent : goal.returns-in-Ok-clause-sent
returns-in-Ok-clause-sent c =
    let t : Session = record {
      sender = c.message.new.self;
      receiver = c.read.new.receiver;
      room = c.message.new.out;
    } in
    sent_says c.args.self.now c.args.doc.now c.requires c.clear.new.self.items
    c.message.new.out.items c.deref.result.now t c.clear.ensures.items c.deref.ensures.value
    c.in-Ok.ensures.written c.taken-taken.ensures.within c.read.result c.read.ensures.answered
    c.message.ensures.kept c.in-Ok.ensures.state c.read.ensures.settings

pub returns-in-Ok-clause-stopped : goal.returns-in-Ok-clause-stopped
returns-in-Ok-clause-stopped c =
    let t : Session = record {
      sender = c.message.new.self;
      receiver = c.read.new.receiver;
      room = c.message.new.out;
    } in
    stopped_says c.args.self.now c.args.doc.now c.requires c.clear.new.self.items
    c.message.new.out.items c.deref.result.now t c.clear.ensures.items c.deref.ensures.value
    c.in-Ok.ensures.written c.taken-taken.ensures.within c.read.result c.read.ensures.answered

pub returns-in-Err-clause-stopped : goal.returns-in-Err-clause-stopped
returns-in-Err-clause-stopped c = λ l statics done good is_map u.
    memory_stops l statics _ c.unsent.result c.unsent.ensures
