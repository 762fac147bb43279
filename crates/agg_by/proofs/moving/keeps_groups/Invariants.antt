use Rattle.std.proofs.Common.{◌≡◌, false, take}
use Rattle.std.specs.List.{list_any}
use Rattle.key_lists.specs.Keys.{is_among}
use Rattle.agg_by.proofs.moving.keeps_groups.Given as goal

abbrev pub invariant-loop-column : goal.invariant-loop-column
invariant-loop-column l = list_any (λ column. is_among column l.input.update.columns) (take l.column-index l.by) ≡ false
