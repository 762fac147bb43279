use Rattle.std.proofs.Common.{rules}
use Rattle.std.{proofs.lemmas.Result.on_ok_weaker, proofs.lemmas.Fn.always_returns_same}
use Rattle.tick_model.proofs.SortOrders.{comes_before, comes_before_weak, sorted_in_order}
use Rattle.plain_evaluator.proofs.sort.sort_rows.Goals as goal

pub returns-clause-ok : goal.returns-clause-ok
returns-clause-ok c =
    on_ok_weaker c.sort_by.result
    (λ sorted. sorted_in_order c.args.by.now c.args.rows.now.items c.sort_by.new.self.items
    (sorted (comes_before c.args.by.now) (comes_before_weak c.args.by.now) (always_returns_same _ _ _ (λ a r g h. search rules)))
    (c.sort_by.ensures.stable (comes_before c.args.by.now) (comes_before_weak c.args.by.now) (always_returns_same _ _ _ (λ a r g h. search rules))))
    c.sort_by.ensures.sorted
