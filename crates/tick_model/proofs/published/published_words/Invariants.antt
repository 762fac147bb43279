use Rattle.std.proofs.Common.{◌≡◌, ◌*◌, ◌^◌, ◌≤◌, take}
use Rattle.std.specs.List.{sum_by}
use Rattle.tick_model.specs.Plans.{table_words}
use Rattle.tick_model.proofs.published.published_words.Given as goal

abbrev pub invariant-loop-table : goal.invariant-loop-table
invariant-loop-table l = (l.words ≡ sum_by table_words (take l.table-index l.table-items)) × (l.words ≤ l.table-index * 2 ^ 64)
