use Rattle.std.proofs.Common.{◌≡◌, drop, max}
use Rattle.replay.specs.Kept.{largest_words}
use Rattle.replay.proofs.kept.largest_words.Given as goal

-- the largest so far, and of those to come
abbrev pub invariant-loop-table : goal.invariant-loop-table
invariant-loop-table l = max l.largest (largest_words (drop l.table-index l.published)) ≡ largest_words l.published
