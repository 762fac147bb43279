use Rattle.std.proofs.Common.{◌≡◌, take}
use Rattle.feed_reader.specs.Coding.{ranks_among}
use Rattle.feed_reader.proofs.coding.ranks_of.Given as goal

abbrev pub invariant-loop-text : goal.invariant-loop-text
invariant-loop-text l = l.own.items ≡ ranks_among l.ranks (take l.text-index l.texts)
