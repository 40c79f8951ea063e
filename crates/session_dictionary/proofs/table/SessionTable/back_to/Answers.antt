use Rattle.std.proofs.Common.{◌≡◌, ◌∙◌, sym, ap, take, arith}
use Rattle.std.proofs.lemmas.List.Sums.{sum_by-take-le}
use Rattle.string_tables.specs.SessionStrings.{cost, used_cost}
use Rattle.session_dictionary.proofs.table.SessionTable.back_to.Goals as goal

pub invariant_of-self : goal.invariant_of-self
invariant_of-self c =
    let t = c.self.inside in
    let count = c.args.mark.count in
    let cost_then : used_cost (take count t.texts) ≡ c.args.mark.used =
    rw (← c.self.view_is) at c.requires.cost in
    record {
      cost_kept = sym cost_then ∙ ap used_cost (sym c.truncate.ensures.texts);
      within =
          omega (
            arith,
            cost_then,
            sum_by-take-le cost t.texts count,
            c.self.invariant.cost_kept,
            c.self.invariant.within,
          );
      small = c.self.invariant.small;
      order = c.truncate.ensures.order;
    }
