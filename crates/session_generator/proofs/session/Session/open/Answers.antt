use Rattle.std.proofs.Common.{ℕ, List, ◌++◌, Ok, Err, refl, ap, ◌∙◌, arith}
use Rattle.{std.proofs.lemmas.Result.err_from_is_err_and, nbfx_values.specs.QuotasOf.limits_of}
use Rattle.session_generator.specs.Generated.{opening}
use Rattle.session_generator.proofs.Sending.{opened_says, opening_stops}
use Rattle.session_generator.proofs.session.Session.open.Goals as goal

pub opening-requires : goal.opening-requires
opening-requires c = omega arith

pub returns-in_err-opening-clause-opened : goal.returns-in_err-opening-clause-opened
returns-in_err-opening-clause-opened c =
    let p = err_from_is_err_and c.from_residual.result c.from_residual.ensures.1 in rw p.1 tt

pub returns-in_err-opening-clause-stopped : goal.returns-in_err-opening-clause-stopped
returns-in_err-opening-clause-stopped c =
    let p = err_from_is_err_and c.from_residual.result c.from_residual.ensures.1 in
    rw (p.1, p.2) tt

pub returns-in_err-receiver-clause-opened : goal.returns-in_err-receiver-clause-opened
returns-in_err-receiver-clause-opened c =
    let p = err_from_is_err_and c.from_residual-in_err-receiver.result
    c.from_residual-in_err-receiver.ensures.1 in
    rw p.1 tt

pub returns-in_err-receiver-clause-stopped : goal.returns-in_err-receiver-clause-stopped
returns-in_err-receiver-clause-stopped c =
    let p = err_from_is_err_and c.from_residual-in_err-receiver.result
    c.from_residual-in_err-receiver.ensures.1 in
    rw (p.1, p.2) tt

pub returns-in_err-read-clause-opened : goal.returns-in_err-read-clause-opened
returns-in_err-read-clause-opened c =
    let p = err_from_is_err_and c.from_residual-in_err-read.result
    c.from_residual-in_err-read.ensures.1 in
    rw p.1 tt

pub returns-in_err-read-clause-stopped : goal.returns-in_err-read-clause-stopped
returns-in_err-read-clause-stopped c =
    let p = err_from_is_err_and c.from_residual-in_err-read.result
    c.from_residual-in_err-read.ensures.1 in
    rw (p.1, p.2)
    (opening_stops c.args.statics.now (limits_of c.args.quotas) c.args.quotas.good
    c.is_map.ensures c.in_ok-receiver.receiver c.read.new.receiver c.deref.result.now
    (c.deref.ensures.value ∙ c.in_ok-opening.ensures.written
    ∙ ap (λ (b : List ℕ). b ++ opening) c.new-room.ensures.items)
    c.in_ok-receiver.ensures.stands c.in_ok-receiver.ensures.settings
    (Err c.in_err-read.field-0.0) c.in_err-read.ensures.answered c.in_err-read.field-0.0 refl)

pub returns-clause-opened : goal.returns-clause-opened
returns-clause-opened c =
    opened_says c.args.statics.now (limits_of c.args.quotas) c.args.quotas.good
    c.is_map.ensures c.in_ok-receiver.receiver c.read.new.receiver c.deref.result.now
    (c.deref.ensures.value ∙ c.in_ok-opening.ensures.written
    ∙ ap (λ (b : List ℕ). b ++ opening) c.new-room.ensures.items)
    c.in_ok-receiver.ensures.stands c.in_ok-receiver.ensures.settings
    (Ok tt) c.in_ok-read.ensures.answered
    (record {
      sender = c.new-sender.result;
      receiver = c.read.new.receiver;
      room = c.opening.new.out;
    })
    refl refl c.new-sender.ensures.limits c.new-sender.ensures.kind c.new-sender.ensures.mode
    c.new-sender.ensures.side c.new-sender.ensures.state c.new-sender.ensures.names
    c.read.ensures.settings
