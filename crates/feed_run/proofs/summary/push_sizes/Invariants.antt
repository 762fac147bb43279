use Rattle.std.proofs.Common.{◌≡◌, ◌++◌, take}
use Rattle.feed_run.specs.Summaries.{sizes}
use Rattle.feed_run.proofs.summary.push_sizes.Given as goal

abbrev pub invariant-loop-number : goal.invariant-loop-number
invariant-loop-number l = l.records ≡ l.initial.records ++ sizes l.rows 0 (take l.number l.nodes)
