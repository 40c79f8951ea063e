use Rattle.{std.proofs.Common.sym, std.proofs.Common.◌∙◌, csv.specs.Records.fields_of}
use Rattle.csv_rows.proofs.FieldFacts.{two_of-no_first, two_of-no_second, two_of-two}
use Rattle.csv_rows.proofs.reader.RowReader.two.Goals as goal

pub returns-in_err-first : goal.returns-in_err-first
returns-in_err-first c =
    rw (c.from_residual.ensures, ← c.self.view_is)
    (sym (two_of-no_first (fields_of c.self.inside.row) (sym c.in_err-first.ensures.value)))

pub returns-in_err-second : goal.returns-in_err-second
returns-in_err-second c =
    rw (c.from_residual-in_err-second.ensures, ← c.self.view_is)
    (sym (two_of-no_second (fields_of c.self.inside.row) (sym c.in_err-second.ensures.value)))

pub returns-then-len-eq2 : goal.returns-then-len-eq2
returns-then-len-eq2 c =
    rw (← c.self.view_is)
    (sym (two_of-two (fields_of c.self.inside.row) _ _ (sym c.len.ensures ∙ c.if-len-eq2.true)
    (sym c.in_ok-first.ensures.value) (sym c.in_ok-second.ensures.value)))
