use Rattle.std.proofs.Common.{◌≡◌, ◌∙◌, ap, arith, length, rules, subst, sym, take, true}
use Rattle.std.{specs.List.AllByRecursion, proofs.lemmas.List.Sorted.IsPartitionPoint-from_clause}
use Rattle.key_lists.proofs.Parts.{front_part}
use Rattle.chunk_list.specs.Chunked.{joined}
use Rattle.sort_op.{specs.Entries.comes_before, specs.Ranks.{IsRanking, Ranking, arrived, listed}, proofs.Ranked.{cells_before, cells_parted, front_before, listed_count}}
use Rattle.sort_op.proofs.row_order.RowOrder.count_cells_before.Goals as goal

pub returns-clause-within : goal.returns-clause-within
returns-clause-within c =
    let was : Ranking = record { by = c.self.inside.by; handles = c.self.inside.handles; cells = c.self.inside.cells; rows = joined c.self.inside.rows } in
    let count : length (joined c.self.inside.rows) ≡ length (listed c.args.self.now) = sym (listed_count was) ∙ ap (λ (order : Ranking). length (listed order)) c.self.view_is in
    omega (arith, c.partition_point.ensures.within, count)

pub returns-clause-before : goal.returns-clause-before
returns-clause-before c =
    let was : Ranking = record { by = c.as_slice-by.result.now; handles = c.self.inside.handles; cells = c.self.inside.cells; rows = joined c.self.inside.rows } in
    let same : was ≡ c.args.self.now = ap (λ by. let order : Ranking = record was { by = by } in order) c.as_slice-by.ensures ∙ c.self.view_is in
    let place = c.partition_point.result in
    let point = IsPartitionPoint-from_clause (cells_before was c.args.row) was.rows place c.partition_point.ensures.partitioned (cells_parted was c.args.row was.rows (subst IsRanking (sym same) (subst IsRanking c.self.view_is c.self.invariant)).rising) (λ a r f h. search rules) in
    subst (λ (order : Ranking). AllByRecursion (λ entry. comes_before order.by entry (arrived order c.args.row) ≡ true) (take place (listed order))) same
    (front_before was c.args.row was.rows place (front_part (cells_before was c.args.row) was.rows place point))
