use Rattle.std.proofs.Common.{◌≡◌, ℕ, List, OnErr, Result, refl, subst, rules}
use Rattle.nbfx_encoder.specs.{declared.sender.SendState.TheVariants.Ready, Placing.Placed}
use Rattle.nbfx_encoder.specs.Sending.{kind_in, limits_in, mode_in, names_in, state_in}
use Rattle.nbfx_encoder.specs.Spelling.{encoded, Unfit}
use Rattle.action_dispatch.specs.Refusals.{unfit_fault}
use Rattle.duplex_server.proofs.Spelled.{only_try, second_try}
use Rattle.duplex_server.proofs.spelling.spell_answer.Goals as goal

pub returns-else-branch-clause-spells : goal.returns-else-branch-clause-spells
returns-else-branch-clause-spells c =
    let s = c.args.sender.now in
    let s1 = c.spell_if_fits.new.sender in
    let s2 = c.spell_fault.new.sender in
    let kept = c.spell_if_fits.ensures.kept in
    let first = rw c.if-branch.false at c.in_ok-spell_if_fits-in-Some.ensures.tries in
    let ready : state_in s ≡ Ready = search rules in
    let fault = unfit_fault c.args.relates.version c.args.relates.items in
    let other : Result (Placed (List ℕ)) Unfit =
    encoded (limits_in s) (kind_in s) (names_in s) fault in
    let again : Result (Placed (List ℕ)) Unfit =
    encoded (limits_in s1) (kind_in s1) (names_in s1) fault in
    let limits = kept.limits in
    let kind = kept.kind in
    let names = first.2.table in
    let same : again ≡ other = cc in
    rw c.in-Some.is (second_try (mode_in s) (mode_in s1) c.args.out.now.items
    c.spell_if_fits.new.out.items c.spell_fault.new.out.items (names_in s) (names_in s1)
    (names_in s2) (state_in s) (state_in s1) (state_in s2)
    (encoded (limits_in s) (kind_in s) (names_in s) c.in-Some.doc.now) other again kept.mode same
    ready first c.spell_fault.result c.spell_fault.ensures.tries)

-- where the first try appended nothing, nor did the second
pub returns-else-branch-clause-unchanged : goal.returns-else-branch-clause-unchanged
returns-else-branch-clause-unchanged c =
    let first = rw c.if-branch.false at c.in_ok-spell_if_fits-in-Some.ensures.tries in
    let second = c.spell_fault in
    subst (λ (l : List ℕ). OnErr second.result (second.new.out.items ≡ l)) first.2.written
    second.ensures.unchanged

pub returns-in-None-clause-spells : goal.returns-in-None-clause-spells
returns-in-None-clause-spells c =
    let s = c.args.sender.now in
    let s1 = c.spell_fault-in-None.new.sender in
    let ready : state_in s ≡ Ready = search rules in
    let other : Result (Placed (List ℕ)) Unfit =
    encoded (limits_in s) (kind_in s) (names_in s) (unfit_fault c.args.relates.version
    c.args.relates.items) in
    rw c.in-None.is (only_try (mode_in s) c.args.out.now.items c.spell_fault-in-None.new.out.items
    (names_in s) (names_in s1) (state_in s) (state_in s1) other other refl ready
    c.spell_fault-in-None.result c.spell_fault-in-None.ensures.tries)
