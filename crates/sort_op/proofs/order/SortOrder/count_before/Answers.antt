use Rattle.std.proofs.Common.{◌≡◌, rules, subst, sym, true, false, take, drop}
use Rattle.std.{specs.List.AllByRecursion, proofs.lemmas.List.Sorted.IsPartitionPoint-from_clause}
use Rattle.key_lists.proofs.Parts.{front_part, back_part}
use Rattle.chunk_list.specs.Chunked.{joined}
use Rattle.sort_op.{specs.Entries.{comes_before, entries, IsOrder, Rises}, proofs.Rises.parted}
use Rattle.sort_op.proofs.order.SortOrder.count_before.Goals as goal

pub returns-clause-before : goal.returns-clause-before
returns-clause-before c =
    let by = c.as_slice-by.result.now in
    let xs = joined c.self.inside.entries in
    let point = IsPartitionPoint-from_clause (λ other. comes_before by other c.args.entry.now) xs c.partition_point.result c.partition_point.ensures.partitioned (parted by c.args.entry.now xs (subst (λ sorts. Rises sorts xs) (sym c.as_slice-by.ensures) c.self.invariant.rising)) (λ a r f h. search rules) in
    subst (λ order. AllByRecursion (λ other. comes_before order.by other c.args.entry.now ≡ true) (take c.partition_point.result (entries order))) c.self.view_is
    (subst (λ sorts. AllByRecursion (λ other. comes_before sorts other c.args.entry.now ≡ true) (take c.partition_point.result xs)) c.as_slice-by.ensures
    (front_part (λ other. comes_before by other c.args.entry.now) xs c.partition_point.result point))

pub returns-clause-others : goal.returns-clause-others
returns-clause-others c =
    let by = c.as_slice-by.result.now in
    let xs = joined c.self.inside.entries in
    let point = IsPartitionPoint-from_clause (λ other. comes_before by other c.args.entry.now) xs c.partition_point.result c.partition_point.ensures.partitioned (parted by c.args.entry.now xs (subst (λ sorts. Rises sorts xs) (sym c.as_slice-by.ensures) c.self.invariant.rising)) (λ a r f h. search rules) in
    subst (λ order. AllByRecursion (λ other. comes_before order.by other c.args.entry.now ≡ false) (drop c.partition_point.result (entries order))) c.self.view_is
    (subst (λ sorts. AllByRecursion (λ other. comes_before sorts other c.args.entry.now ≡ false) (drop c.partition_point.result xs)) c.as_slice-by.ensures
    (back_part (λ other. comes_before by other c.args.entry.now) xs c.partition_point.result point))

pub returns-clause-order : goal.returns-clause-order
returns-clause-order c = subst IsOrder c.self.view_is c.self.invariant
