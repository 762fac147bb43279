use Rattle.std.proofs.Common.{◌∙◌, Some, refl, subst, sym}
use Rattle.std.specs.HashMap.{UpdatesBy}
use Rattle.row_groups.proofs.Leading.{has_cells, leads_after, leads_hashed, same_key}
use Rattle.row_groups.proofs.numbers.GroupNumbers.insert.Goals as goal

pub returns-clause-ok : goal.returns-clause-ok
returns-clause-ok c =
    let cells = c.args.cells.now in
    let mid = c.reach.new.self in
    let new = record mid { by_cells = c.insert.new.self } in
    leads_after cells (Some c.args.number) c.args.self.now mid new c.reach.ensures
    (leads_hashed cells (Some c.args.number) mid new (sym c.place_of.ensures ∙ c.in_default.is) refl
    (subst (λ cs. UpdatesBy same_key (has_cells cs) mid.by_cells c.insert.new.self (Some c.args.number)) c.in_ok-key.ensures.items c.in_ok-insert.ensures.updates))
