use Rattle.std.proofs.Common.{rules}
use Rattle.std.proofs.lemmas.Fn.{always_returns_same}
use Rattle.sort_op.{specs.Entries.comes_before, proofs.Arrived.{backward_weak, falls}}
use Rattle.sort_op.proofs.batch.sort_backward.Goals as goal

pub returns-clause-backward : goal.returns-clause-backward
returns-clause-backward c =
    falls c.args.by.now c.sort_unstable_by.new.self.items
    (c.sort_unstable_by.ensures.sorted (λ a b. comes_before c.args.by.now b a) (backward_weak c.args.by.now) (always_returns_same _ _ _ (λ a r g h. search rules)))
