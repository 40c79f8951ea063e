use Rattle.std.proofs.Common.{[], refl, arith}
use Rattle.{nbfx_values.specs.QuotasOf.limits_of, nbfx_decoder.specs.Payload.Settings}
use Rattle.nbfx_decoder.proofs.StandsFacts.{settings_at, stands_first}
use Rattle.nbfx_decoder.proofs.decoder.Decoder.new.Goals as goal

pub returns-clause-stands : goal.returns-clause-stands
returns-clause-stands c =
    let x : Settings = record {
      statics = c.args.statics.now;
      kind = c.args.kind;
      limits = limits_of
          c.args.quotas;
    } in
    let at = c.new.ensures.at x refl in
    stands_first _ x [] (settings_at _ x _ 0 at) at c.new-2.ensures refl (omega arith)

pub returns-clause-settings : goal.returns-clause-settings
returns-clause-settings c =
    let x : Settings = record {
      statics = c.args.statics.now;
      kind = c.args.kind;
      limits = limits_of
          c.args.quotas;
    } in
    settings_at _ x _ 0 (c.new.ensures.at x refl)
