-- The parts of an update that two make.
use Rattle.std.proofs.Common.{cond, List, [], ℕ}
use Rattle.row_set.specs.Sets.{united}
use Rattle.tick_model.{specs.declared.update.ShiftRange.ShiftRange, specs.Changes.is_none, specs.Updates.Update}

abbrev pub made : List ℕ → List ℕ → List ℕ → List ShiftRange → List ℕ → Update
made removed added modified shifted columns = record { removed = removed; added = added; modified = modified; shifted = shifted; columns = columns }

-- the columns of both, where a row is modified
abbrev pub columns_where : List ℕ → List ℕ → List ℕ → List ℕ
columns_where modified columns others = cond (is_none modified) [] (united columns others)
