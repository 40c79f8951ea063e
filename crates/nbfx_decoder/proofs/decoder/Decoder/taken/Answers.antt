use Rattle.std.proofs.Common.{◌≡◌, length, ap, subst, arith}
use Rattle.nbfx_decoder.specs.DecoderState.{IsPlacedAt, from_of, settings_of}
use Rattle.nbfx_decoder.proofs.StandsFacts.{stands_as, taken_as, counts_taken, payload_small}
use Rattle.nbfx_decoder.proofs.ShownFacts.{failed_bytes, failed_place}
use Rattle.nbfx_decoder.proofs.decoder.Decoder.taken.Goals as goal

pub returns-clause-counted : goal.returns-clause-counted
returns-clause-counted c few =
    let sum = c.saturating_add.ensures in
    let from = c.from.ensures in
    let begun = c.min-begun.ensures in
    let len = c.len.ensures in
    let taken = taken_as c.args.self.now in
    omega (arith, few, sum, from, begun, len, taken)

pub returns-clause-stands : goal.returns-clause-stands
returns-clause-stands c strings p h =
    let sum = c.saturating_add.ensures in
    let from = c.from.ensures in
    let begun = c.min-begun.ensures in
    let len = c.len.ensures in
    let taken = counts_taken c.args.self.now strings p h in
    let le = (stands_as c.args.self.now strings p h).within in
    let most = payload_small c.args.self.now in
    omega (arith, sum, from, begun, len, taken, le, most)

pub returns-clause-placed : goal.returns-clause-placed
returns-clause-placed c fault strings p h =
    let sum = c.saturating_add.ensures in
    let from = c.from.ensures in
    let begun = c.min-begun.ensures in
    let len = c.len.ensures in
    let none = ap length (failed_bytes c.args.self.now fault strings p h) in
    let same : c.args.self.now.units.from ≡ c.saturating_add.result = omega
    (arith, sum, from, begun, len, none) in
    subst (IsPlacedAt (from_of (settings_of c.args.self.now) strings p) fault) same
    (failed_place c.args.self.now fault strings p h)
