use Rattle.std.proofs.Common.{◌≡◌, Some, ℕ}
use Rattle.std.proofs.lemmas.Result.{IfOk-weaker}
use Rattle.row_groups.{specs.Members.IsNumberOf, specs.Rows.cells_with, specs.Indexes.names_of, proofs.Named.number_is}
use Rattle.row_groups.proofs.numbered.NumberedGroups.regroup.Goals as goal

pub returns-clause-number : goal.returns-clause-number
returns-clause-number c =
    let new = c.regroup.new.self in
    IfOk-weaker c.regroup.result (λ (number : ℕ). cells_with number new.lists.groups ≡ Some c.args.cells.now) (λ (number : ℕ). IsNumberOf number c.args.cells.now (names_of new.lists.groups))
    (λ number. number_is new c.regroup.ensures.sound number c.args.cells.now) c.regroup.ensures.number
