-- A fault counts at least what its names do.
use Rattle.std.proofs.Common.{List, [], arith, flat_map, length, sum_by, ℕ, ◌*◌, ◌++◌, ◌∷◌, ◌≡◌}
use Rattle.std.proofs.Common.{le_trans, ◌≤◌}
use Rattle.std.proofs.lemmas.List.Sums.{sum_by-append, sum_by-cons}
use Rattle.least_payloads.specs.Least.{least_of_item, least_payload}
use Rattle.nbfx_values.specs.Measures.{content_of, item_content}
use Rattle.nbfx_values.specs.declared.content.Item.{Item}
use Rattle.soap_envelope.proofs.OnLiterals.{envelopes_on_literals}
use Rattle.soap_envelope.proofs.ReplySizes.{behind-least, fits-less, within-least}
use Rattle.soap_envelope.specs.Faults.{fault_body, fault_items, not_understood_block}
use Rattle.soap_envelope.specs.Fitting.{least_of_name, name_content, names_content}
use Rattle.soap_envelope.specs.Making.{action_block, ending, middle, opening, relates_block}
use Rattle.soap_envelope.specs.{Laws.UnfitNamesAreUnfit, Qualified.Name, Versions.fault_action}
use Rattle.soap_envelope.specs.{declared.report.FaultReport.FaultReport}
use Rattle.soap_envelope.specs.{declared.versions.Addressing.Addressing}

block-content : (name : Name) → name_content name ≤ content_of (not_understood_block name)
unfolding envelopes_on_literals
block-content name = omega arith

content-least : (names : List Name)
    → names_content names ≤ content_of (flat_map not_understood_block names)
content-least [] = omega arith
content-least (name ∷ more) =
    let rest = content-least more in
    let one = block-content name in
    rw (sum_by-append item_content (not_understood_block name) (flat_map not_understood_block more))
    (omega (arith, sum_by-cons name_content name more))

block-payload : (name : Name) → least_payload (not_understood_block name) ≡ least_of_name
unfolding envelopes_on_literals
block-payload name = omega arith

payload-least : (names : List Name)
    → least_of_name * length names ≤ least_payload (flat_map not_understood_block names)
payload-least [] = omega arith
payload-least (name ∷ more) =
    let rest = payload-least more in
    let one = block-payload name in
    rw (sum_by-append least_of_item (not_understood_block name)
    (flat_map not_understood_block more))
    (omega arith)

-- what the blocks of names count by any measure, the fault counts at least
fault-least : (f : Item → ℕ) (version : Addressing) (report : FaultReport) (relates : List Item)
    → sum_by f (flat_map not_understood_block report.names)
    ≤ sum_by f (fault_items version report relates)
fault-least f version report relates =
    let blocks = flat_map not_understood_block report.names in
    let action = action_block (fault_action version report.sub) in
    let behind = middle ++ (fault_body report ++ ending) in
    let inner = within-least f (relates_block relates) blocks behind in
    let around = behind-least f action (relates_block relates ++ (blocks ++ behind)) in
    let all =
    behind-least f (opening version) (action ++ (relates_block relates ++ (blocks ++ behind))) in
    omega arith

pub unfit_names_are_unfit : UnfitNamesAreUnfit
unfit_names_are_unfit limits version report relates unfit =
    let fault = fault_items version report relates in
    fits-less limits (names_content report.names) (least_of_name * length report.names)
    (content_of fault) (least_payload fault)
    (le_trans (content-least report.names) (fault-least item_content version report relates))
    (le_trans (payload-least report.names) (fault-least least_of_item version report relates)) unfit
