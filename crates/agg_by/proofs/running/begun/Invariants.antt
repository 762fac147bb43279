use Rattle.std.proofs.Common.{ℕ, List, [], take}
use Rattle.row_groups.specs.Members.{Names}
use Rattle.agg_by.specs.Kept.{AnswerAll}
use Rattle.agg_by.proofs.running.begun.Given as goal

abbrev pub invariant-loop-agg : goal.invariant-loop-agg
invariant-loop-agg l = (by : List ℕ) (names : Names) → AnswerAll by names (take l.agg-index l.aggs) [] l.all.items
