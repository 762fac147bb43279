use Rattle.std.proofs.Common.{ap, subst}
use Rattle.std.specs.List.Sorted.{IsPermutation}
use Rattle.agg_by.proofs.Counted.{sorted_in_order}
use Rattle.agg_by.proofs.values.ascending.Goals as goal

pub returns-clause-cells : goal.returns-clause-cells
returns-clause-cells c =
    let sorted = c.sort_unstable.new.self.items in
    sorted_in_order c.args.cells.data.items sorted (subst (λ cells. IsPermutation cells sorted) (ap (λ vec. vec.items) c.into_vec-cells.ensures.value) c.sort_unstable.ensures.permutation) c.sort_unstable.ensures.sorted
