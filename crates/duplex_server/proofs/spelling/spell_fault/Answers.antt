use Rattle.std.proofs.Common.{List, Ok, subst}
use Rattle.nbfx_values.specs.declared.content.Item.{Item}
use Rattle.nbfx_encoder.specs.Sending.{kind_in, limits_in, mode_in, names_in, state_in}
use Rattle.nbfx_encoder.specs.Spelling.{encoded}
use Rattle.duplex_server.specs.Spelling.{Tries}
use Rattle.duplex_server.proofs.spelling.spell_fault.Goals as goal

pub returns-clause-tries : goal.returns-clause-tries
returns-clause-tries c =
    let s = c.args.sender.now in
    let s1 = c.spell_if_fits.new.sender in
    subst (λ (l : List Item). Tries (mode_in s) c.args.out.now.items c.spell_if_fits.new.out.items
    (names_in s) (names_in s1) (state_in s) (state_in s1)
    (encoded (limits_in s) (kind_in s) (names_in s) l) (Ok c.in_ok-fits.fits))
    c.in_ok-fault.ensures c.in_ok-fits.ensures.tries
