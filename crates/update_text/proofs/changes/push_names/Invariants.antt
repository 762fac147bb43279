use Rattle.std.proofs.Common.{◌≡◌, ◌++◌, length, map}
use Rattle.std.specs.Prelude.{flat_map}
use Rattle.tick_model.specs.Texts.{column_name, comma_before}
use Rattle.update_text.proofs.ChangeRecords.{chosen_from}
use Rattle.update_text.proofs.changes.push_names.Given as goal

-- the names that are still to come stand after what was written
abbrev pub invariant-loop-place : goal.invariant-loop-place
invariant-loop-place l =
    l.text.items ++ flat_map comma_before (map (column_name l.columns) (chosen_from l.chosen l.place (length l.columns)))
    ≡ l.fn.text.items ++ flat_map comma_before (map (column_name l.columns) l.chosen)
