use Rattle.std.proofs.Common.{◌≤◌, length, drop}
use Rattle.feed_reader.specs.Ranked.{FindsFrom}
use Rattle.feed_reader.proofs.ranks.Ranks.of.Given as goal

abbrev pub invariant-loop-rank : goal.invariant-loop-rank
invariant-loop-rank l = (l.rank ≤ length l.texts) × FindsFrom l.rank (drop l.rank l.texts) l.ranks

abbrev pub decreases-loop-rank : goal.decreases-loop-rank
decreases-loop-rank l = l.rank
