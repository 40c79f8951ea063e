use Rattle.std.proofs.Common.{[], sym, ap, ◌∙◌}
use Rattle.session_dictionary.specs.Strings.{LimitedStrings}
use Rattle.{nbfx_encoder.specs.EncoderState.names_in, session_ends.proofs.BothEnds.no_strings}
use Rattle.nbfx_decoder.specs.DecoderState.{settings_of}
use Rattle.session_ends.proofs.carrying.tables.Goals as goal

pub returns-clause-same : goal.returns-clause-same
returns-clause-same c =
    let strings = (names_in c.args.encoder.now).strings in
    c.table.ensures.strings ∙ sym (no_strings (settings_of c.args.decoder.now) strings)
    ∙ sym (ap (λ (t : LimitedStrings). t.strings)
    (c.table-2.ensures.strings strings [] c.requires.stands))

pub returns-clause-read : goal.returns-clause-read
returns-clause-read c =
    c.table-2.ensures.strings (names_in c.args.encoder.now).strings [] c.requires.stands
