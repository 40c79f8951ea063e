use Rattle.std.proofs.Common.{◌-◌, Ok, ap, ◌∙◌, arith}
use Rattle.nbfx_decoder.specs.{declared.strings.StringRead.TheVariants.Done, Tables.TableString}
use Rattle.nbfx_decoder.specs.{Payload.table_string, Sections.section_of, Units.StringStands}
use Rattle.nbfx_decoder.proofs.UnitSteps.{behind_string, left_some, string_refused, string_size}
use Rattle.nbfx_decoder.proofs.UnitSteps.{string_unrefused, string_waits, string_whole}
use Rattle.nbfx_decoder.proofs.units.UnitReader.table_string.Goals as goal

pub returns-in_err-wants-clause-answers : goal.returns-in_err-wants-clause-answers
returns-in_err-wants-clause-answers c x z from at =
    string_refused c.args.self.now x z from at c.args.left c.requires.here
    (left_some c.args.self.now c.args.left c.requires.here) c.used.result
    c.saturating_sub-room.result c.used.ensures.cost c.saturating_sub-room.ensures
    c.args.bytes.now _ c.from_residual.result c.from_residual.ensures.1 c.in_err-wants.ensures

pub overflow_cast-used : goal.overflow_cast-used
overflow_cast-used c =
    let there : StringStands c.saturating_sub-room.result c.args.left c.args.bytes.now
    (Ok (Done c.in-Done.text c.in-Done.used)) = rw c.in-Done.is at c.in_ok-wants.ensures in
    let size = string_size c.saturating_sub-room.result c.args.left c.args.bytes.now _
    c.in-Done.used (left_some c.args.self.now c.args.left c.requires.here) there.0 in
    let few = c.requires.few in
    omega (arith, size.1, few)

pub advance-requires : goal.advance-requires
advance-requires c =
    let there : StringStands c.saturating_sub-room.result c.args.left c.args.bytes.now
    (Ok (Done c.in-Done.text c.in-Done.used)) = rw c.in-Done.is at c.in_ok-wants.ensures in
    let size = string_size c.saturating_sub-room.result c.args.left c.args.bytes.now _
    c.in-Done.used (left_some c.args.self.now c.args.left c.requires.here) there.0 in
    let few = c.requires.few in
    omega (arith, size.1, few)

pub returns-in-More-clause-answers : goal.returns-in-More-clause-answers
returns-in-More-clause-answers c x z from at = (
  string_waits c.args.self.now x z from at c.args.left c.requires.here
      (left_some c.args.self.now c.args.left c.requires.here) c.used.result
      c.saturating_sub-room.result c.used.ensures.cost c.saturating_sub-room.ensures
      c.args.bytes.now c.in-More.wants (rw c.in-More.is at c.in_ok-wants.ensures),
  at,
)

pub returns-in-Ok-clause-answers : goal.returns-in-Ok-clause-answers
returns-in-Ok-clause-answers c x z from at =
    let there : StringStands c.saturating_sub-room.result c.args.left c.args.bytes.now
    (Ok (Done c.in-Done.text c.in-Done.used)) = rw c.in-Done.is at c.in_ok-wants.ensures in
    let some = left_some c.args.self.now c.args.left c.requires.here in
    let s : TableString = record { text = c.in-Done.text.now; left = c.args.left - c.in-Done.used }
    in
    let kept = c.advance.ensures.kept in
    rw c.advance.ensures.done (
      table_string s,
      string_whole c.args.self.now x z from at c.args.left c.requires.here some c.used.result
          c.saturating_sub-room.result c.used.ensures.cost c.saturating_sub-room.ensures
          c.args.bytes.now s c.in-Done.used there.0,
      string_unrefused x z s,
      behind_string c.args.self.now x z from at c.args.left c.requires.here some c.used.result
          c.saturating_sub-room.result c.used.ensures.cost c.saturating_sub-room.ensures
          c.advance.new.self s c.in-Done.used kept.statics kept.kind kept.quotas
          (kept.table ∙ c.in-Ok.ensures.added) c.advance.ensures.from
          (c.advance.ensures.section ∙ c.behind-self.ensures ∙ ap section_of c.saturating_sub.ensures)
          c.advance.ensures.items,
    )

pub returns-in-Ok-clause-counts : goal.returns-in-Ok-clause-counts
returns-in-Ok-clause-counts c =
    let there : StringStands c.saturating_sub-room.result c.args.left c.args.bytes.now
    (Ok (Done c.in-Done.text c.in-Done.used)) = rw c.in-Done.is at c.in_ok-wants.ensures in
    rw c.advance.ensures.done (string_size c.saturating_sub-room.result c.args.left c.args.bytes.now _
    c.in-Done.used (left_some c.args.self.now c.args.left c.requires.here) there.0)
