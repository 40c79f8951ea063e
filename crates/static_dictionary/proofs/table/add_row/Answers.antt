use Rattle.std.proofs.Common.{None, sym, ap, ◌∙◌}
use Rattle.static_dictionary.specs.{Inside.entries_in, Rows.fault_or}
use Rattle.static_dictionary.proofs.MapFacts.{fault_or-repeated, is_some-shown, none-from_is_some}
use Rattle.static_dictionary.proofs.table.add_row.Goals as goal

pub returns-then-contains_key-clause-bad : goal.returns-then-contains_key-clause-bad
returns-then-contains_key-clause-bad c =
    let seen = is_some-shown c.args.by_id.now.entries c.in-Ok.entry.0 ∙ sym c.contains_key.ensures
    ∙ c.if-contains_key.true in
    ap (fault_or (λ _ _. None) c.args.number (entries_in c.args.by_id.now)) (sym c.in-Ok.ensures)
    ∙ fault_or-repeated (λ _ _. None) c.args.number (entries_in c.args.by_id.now)
    (c.in-Ok.entry.0, c.in-Ok.entry.1.now) seen

pub put_entry-requires-clause-fresh : goal.put_entry-requires-clause-fresh
put_entry-requires-clause-fresh c =
    none-from_is_some _
    (is_some-shown c.args.by_id.now.entries c.in-Ok.entry.0 ∙ sym c.contains_key.ensures
    ∙ c.if-contains_key.false)

pub returns-clause-added : goal.returns-clause-added
returns-clause-added c =
    record {
      entry = (c.in-Ok.entry.0, c.in-Ok.entry.1.now);
      written = sym c.in-Ok.ensures;
      fresh =
          none-from_is_some _
          (is_some-shown c.args.by_id.now.entries c.in-Ok.entry.0 ∙ sym c.contains_key.ensures
          ∙ c.if-contains_key.false);
      entries = c.in_ok-put_entry.ensures.entries;
    }
