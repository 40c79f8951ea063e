-- What a reader of units has, another has that keeps it.
use Rattle.std.proofs.Common.{◌≡◌, ℕ, List, ap, ◌∙◌}
use Rattle.nbfx_values.specs.QuotasOf.{limits_of}
use Rattle.nbfx_decoder.specs.declared.units.UnitReader.{UnitReader}
use Rattle.nbfx_decoder.specs.Payload.{Settings, Situation}
use Rattle.nbfx_decoder.specs.Units.{HasStrings, IsAt, KeepsTable, KeepsSettings, Stays}

-- what keeps all of it keeps its settings
pub keeps_settings : {old new : UnitReader} → KeepsTable old new → KeepsSettings old new
keeps_settings same = record { statics = same.statics; quotas = same.quotas; kind = same.kind }

-- what keeps them twice keeps them
pub settings_through : {old mid new : UnitReader} → KeepsSettings old mid → KeepsSettings mid new
    → KeepsSettings old new
settings_through first then = record {
  statics = then.statics ∙ first.statics;
  quotas = then.quotas
      ∙ first.quotas;
  kind = then.kind ∙ first.kind;
}

-- its strings stay, wherever its unit begins
pub strings_kept : {old new : UnitReader} {x : Settings} {strings : List (List ℕ)} {at from : ℕ}
    → KeepsTable old new → HasStrings old x strings at → new.from ≡ from
    → HasStrings new x strings from
strings_kept same set from = record {
  statics = ap (λ s. s.now) same.statics ∙ set.statics;
  kind = same.kind ∙ set.kind;
  limits = ap limits_of same.quotas ∙ set.limits;
  table = same.table ∙ set.table;
  from_is = from;
}

-- where it stands where it stood, it is in the same situation
pub stays_at : {old new : UnitReader} {x : Settings} {z : Situation} {from : ℕ} → Stays old new
    → IsAt old x z from → IsAt new x z from
stays_at same at = record {
  set = strings_kept same.kept at.set (same.from_is ∙ at.set.from_is);
  section = same.section ∙ at.section;
  items = same.items ∙ at.items;
}
