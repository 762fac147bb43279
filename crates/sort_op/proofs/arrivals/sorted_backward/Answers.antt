use Rattle.std.proofs.Common.{rules, subst}
use Rattle.std.{specs.List.Sorted.IsPermutation, specs.Ordering.is_lt, proofs.lemmas.Fn.always_returns_same}
use Rattle.sort_op.{specs.Firsts.coming_cmp, proofs.Coming.{coming_fall, coming_permuted, coming_weak}}
use Rattle.sort_op.proofs.arrivals.sorted_backward.Goals as goal

pub returns-clause-permutation : goal.returns-clause-permutation
returns-clause-permutation c =
    let sorted = c.sort_unstable_by.new.self.items in
    coming_permuted c.args.by.now c.args.cells.now c.args.rows.items sorted (subst (λ coming. IsPermutation coming sorted) c.in_ok-coming.ensures c.sort_unstable_by.ensures.permutation)

pub returns-clause-backward : goal.returns-clause-backward
returns-clause-backward c =
    let by = c.args.by.now in
    let cells = c.args.cells.now in
    let sorted = c.sort_unstable_by.new.self.items in
    coming_fall by cells c.args.rows.items sorted (subst (λ coming. IsPermutation coming sorted) c.in_ok-coming.ensures c.sort_unstable_by.ensures.permutation)
    (c.sort_unstable_by.ensures.sorted (λ a b. is_lt (coming_cmp by cells b a)) (coming_weak by cells) (always_returns_same _ _ _ (λ a r g h. search rules)))
