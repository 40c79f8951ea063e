use Rattle.std.proofs.{Common.sym, Common.◌∙◌, Common.inl, Common.inr, lemmas.Bool.cases_Bool}
use Rattle.csv.specs.{Reading.has_failed, Records.fields_of}
use Rattle.csv_rows.proofs.ReaderFacts.{failed-none, read-on}
use Rattle.csv_rows.proofs.reader.read_row.Goals as goal

pub returns-in-Ok-clause-kept : goal.returns-in-Ok-clause-kept
returns-in-Ok-clause-kept c going =
    let reading = c.requires (sym c.in-Ok.ensures.goes ∙ going) in
    (read-on c.args.reader.now c.read_byte_record.new.self c.in-Ok.found
    (fields_of c.read_byte_record.new.row) reading
    (c.in-Ok.ensures.reads reading.untrimmed reading.ready)
    (c.in-Ok.ensures.ready reading.untrimmed) c.in-Ok.ensures.flexible).0

pub returns-in-Ok-clause-read : goal.returns-in-Ok-clause-read
returns-in-Ok-clause-read c =
    elim (cases_Bool (has_failed c.args.reader.now)) [
      | inl failed ↦
          failed-none c.args.reader.now c.read_byte_record.new.self c.in-Ok.found
          (fields_of c.read_byte_record.new.row) failed (cc (c.in-Ok.ensures.failed failed))
      | inr going ↦
          let reading = c.requires going in
          (read-on c.args.reader.now c.read_byte_record.new.self c.in-Ok.found
          (fields_of c.read_byte_record.new.row) reading
          (c.in-Ok.ensures.reads reading.untrimmed reading.ready)
          (c.in-Ok.ensures.ready reading.untrimmed) c.in-Ok.ensures.flexible).1
    ]
