use Rattle.std.proofs.Common.{◌≡◌, drop}
use Rattle.std.specs.List.{list_all}
use Rattle.tick_model.specs.Columns.{same_kind_at}
use Rattle.tick_model.proofs.columns.are_pairs_of_kind.Given as goal

abbrev pub invariant-loop-pair : goal.invariant-loop-pair
invariant-loop-pair l = list_all (same_kind_at l.left l.right) (drop l.pair-index l.on) ≡ list_all (same_kind_at l.left l.right) l.on
