use Rattle.std.proofs.Common.{Some, refl, ap, ◌∙◌}
use Rattle.std.proofs.lemmas.Result.{err_from_is_err_and}
use Rattle.line_notation.proofs.{HeldFacts.behind-held, PlacingFacts.behind-stops}
use Rattle.line_notation.proofs.placing.place_read.Goals as goal

pub returns-in_err-read_behind : goal.returns-in_err-read_behind
returns-in_err-read_behind c =
    let p = err_from_is_err_and c.from_residual.result c.from_residual.ensures.1 in
    record {
      places = rw (p.1, p.2)
          (behind-stops c.args.builder.now c.args.array.now _ c.in_err-read_behind.field-0.0
          (rw c.open_kind.ensures at c.in_err-read_behind.ensures));
      is_open = c.requires;
    }

pub returns-in_err-line : goal.returns-in_err-line
returns-in_err-line c =
    let p = err_from_is_err_and c.from_residual-in_err-line.result
    c.from_residual-in_err-line.ensures.1 in
    let e = rw c.open_kind.ensures at (c.in_ok-read_behind.ensures ∙ ap Some c.in_err-line.was) in
    record { places = rw (p.1, p.2, e) refl; is_open = c.requires }

pub place-requires-clause-held : goal.place-requires-clause-held
place-requires-clause-held c = behind-held _ c.args.keyword c.args.words.now c.in_ok-line.line
    (rw c.open_kind.ensures at (c.in_ok-read_behind.ensures ∙ ap Some c.in_ok-line.was))

pub returns : goal.returns
returns c =
    let e = rw c.open_kind.ensures at (c.in_ok-read_behind.ensures ∙ ap Some c.in_ok-line.was) in
    record { places = rw e c.place.ensures.places; is_open = c.place.ensures.open }
