use Rattle.std.proofs.Common.{◌≡◌, filter, length, map}
use Rattle.key_lists.specs.Keys.{without}
use Rattle.tick_model.specs.Updates.{kept_pair}
use Rattle.agg_by.specs.Steps.{stays}
use Rattle.agg_by.proofs.staying.staying_firsts.Given as goal

abbrev pub invariant-loop-old : goal.invariant-loop-old
invariant-loop-old l = record {
  position : l.position ≡ length l.yielded;
  staying : l.staying ≡ filter (stays l.kept.by l.input) (map (kept_pair l.input.update) (without l.input.update.removed l.yielded));
}
