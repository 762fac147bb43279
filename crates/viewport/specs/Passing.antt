-- What a step does to some rows of a table.
--     passing places update      what it removes and moves of the rows under these keys
use Rattle.std.specs.Prelude.{ℕ, List, []}
use Rattle.row_set.specs.Sets.{common}
use Rattle.tick_model.specs.Updates.{Update}

abbrev pub passing : List ℕ → Update → Update
passing places update = record { removed = common update.removed places; added = []; modified = []; shifted = update.shifted; columns = [] }
