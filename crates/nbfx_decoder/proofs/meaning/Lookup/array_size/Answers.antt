use Rattle.std.specs.Str.{is_utf8}
use Rattle.nbfx_records.specs.{Contents.name_is_text, Views.array_seen}
use Rattle.nbfx_decoder.{specs.Meant.table_of, proofs.MeasureFacts.array_measured}
use Rattle.nbfx_decoder.proofs.meaning.Lookup.array_size.Goals as goal

pub returns : goal.returns
returns c =
    let a = array_seen c.args.part.now in
    let names = c.in_ok-names.ensures.told in
    let parts = c.in_ok-parts.ensures.told in
    rw (c.together-2.ensures, c.together.ensures) (record {
      told = array_measured (table_of c.args.self.now) a (is_utf8 a.prefix) (name_is_text a.name)
          names.0 names.1 parts.0 parts.1 c.in_ok-names.names c.in_ok-parts.parts
          c.in_ok-cells.cells names.2 parts.2 c.in_ok-cells.ensures.told;
    })
