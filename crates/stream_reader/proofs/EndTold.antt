-- What a machine that wants no memory at the end of the input says of it, where its reader says so.
use Rattle.std.proofs.Common.{◌≡◌, Some, None, Ok, Err, Option, Result, refl, ap}
use Rattle.{std.specs.Prelude.⊤, nbfx_values.specs.declared.refusals.Offence.Offence}
use Rattle.stream_reader.specs.{declared.reader.ReadRefusal.ReadRefusal, Calls.told_at_end}
use Rattle.stream_reader.specs.declared.reader.ReadRefusal.TheVariants.{Offence as Refused}
use Rattle.stream_reader.specs.Saying.{said_at_end}

pub ends_well : (v : Option Offence) → ◌≡◌ {A = Result ⊤ ReadRefusal} (Ok tt) (said_at_end v)
    → ◌≡◌ {A = Result ⊤ Offence} (Ok tt) (told_at_end v)
ends_well None e = refl
ends_well (Some o) e = cc

pub ends_refused : (v : Option Offence) (o : Offence)
    → ◌≡◌ {A = Result ⊤ ReadRefusal} (Err (Refused o)) (said_at_end v)
    → ◌≡◌ {A = Result ⊤ Offence} (Err o) (told_at_end v)
ends_refused None o e = cc
ends_refused (Some given) o e =
    let same : Refused o ≡ Refused given = cc in let is : o ≡ given = cc in ap Err is
