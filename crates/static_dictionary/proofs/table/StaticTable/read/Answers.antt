use Rattle.std.proofs.Common.{◌≡◌, ◌∙◌, ℕ, drop, sym}
use Rattle.std.proofs.lemmas.Result.{err_from_is_err_and}
use Rattle.string_tables.specs.StaticStrings.{static_text}
use Rattle.static_dictionary.specs.Rows.{entries_of, fault_of, rows_of, table_of}
use Rattle.static_dictionary.proofs.MapFacts.{made_anyhow, memory_told, table_made}
use Rattle.static_dictionary.proofs.FileFacts.{read_all, read_bad, read_first, read_more}
use Rattle.static_dictionary.proofs.table.StaticTable.read.Goals as goal

pub returns-in_err-take_header-clause-bad : goal.returns-in_err-take_header-clause-bad
returns-in_err-take_header-clause-bad c =
    let p = err_from_is_err_and c.from_residual.result c.from_residual.ensures.1 in
    rw (p.1, p.2, ← c.new-rows.ensures.coming) c.in_err-take_header.ensures.bad

pub loop-number-init : goal.loop-number-init
loop-number-init c =
    let rows = c.take_header.new.rows in
    read_first c.args.bytes.now rows.row rows.coming c.new-by_id.result c.in_ok-names.names
    (sym c.new-rows.ensures.coming ∙ c.in_ok-take_header.ensures.next)
    c.in_ok-take_header.ensures.headed c.new-by_id.ensures.empty c.in_ok-names.ensures

pub returns-then-not-branch-clause-table : goal.returns-then-not-branch-clause-table
returns-then-not-branch-clause-table c =
    let none = rw c.if-not-branch.true at c.in_ok-advance.ensures in
    let rows = rows_of c.args.bytes.now in
    let read =
    read_all c.args.bytes.now c.loop-number.number c.loop-number.rows.coming c.loop-number.by_id
    c.loop-number.names c.loop-number.invariant none in
    table_made c.with_places.result _ (λ table. table ≡ table_of rows) c.with_places.ensures.table
    read.0

pub returns-then-not-branch-clause-sound : goal.returns-then-not-branch-clause-sound
returns-then-not-branch-clause-sound c =
    let none = rw c.if-not-branch.true at c.in_ok-advance.ensures in
    let read =
    read_all c.args.bytes.now c.loop-number.number c.loop-number.rows.coming c.loop-number.by_id
    c.loop-number.names c.loop-number.invariant none in
    made_anyhow c.with_places.result read.1

pub returns-in_err-add_row-clause-bad : goal.returns-in_err-add_row-clause-bad
returns-in_err-add_row-clause-bad c =
    let p =
    err_from_is_err_and c.from_residual-in_err-add_row.result
    c.from_residual-in_err-add_row.ensures.1 in
    let next = rw c.if-not-branch.false at c.in_ok-advance.ensures in
    let new = c.advance.new.self in
    rw (p.1, p.2) (read_bad c.args.bytes.now c.loop-number.number c.loop-number.rows.coming
    c.loop-number.by_id c.loop-number.names c.loop-number.invariant
    new.row new.coming c.in_err-add_row.field-0.0 next c.in_err-add_row.ensures.bad)

pub loop-number-preserved : goal.loop-number-preserved
loop-number-preserved c =
    let next = rw c.if-not-branch.false at c.in_ok-advance.ensures in
    let new = c.advance.new.self in
    read_more c.args.bytes.now c.loop-number.number c.loop-number.rows.coming c.loop-number.by_id
    c.loop-number.names c.loop-number.invariant
    new.row new.coming c.add_row.new.by_id c.add_row.new.names next c.in_ok-add_row.ensures.added
    c.in_ok-add_row.ensures.maps

pub returns-then-not-branch-clause-texts : goal.returns-then-not-branch-clause-texts
returns-then-not-branch-clause-texts c =
    let none = rw c.if-not-branch.true at c.in_ok-advance.ensures in
    let entries = entries_of (drop 1 (rows_of c.args.bytes.now)) in
    let read =
    read_all c.args.bytes.now c.loop-number.number c.loop-number.rows.coming c.loop-number.by_id
    c.loop-number.names c.loop-number.invariant none in
    table_made c.with_places.result _
    (λ table. (id : ℕ) → static_text table id ≡ static_text entries id) c.with_places.ensures.table
    read.2

pub returns-then-not-branch-clause-bad : goal.returns-then-not-branch-clause-bad
returns-then-not-branch-clause-bad c =
    memory_told c.with_places.result (fault_of (rows_of c.args.bytes.now))
    c.with_places.ensures.memory
