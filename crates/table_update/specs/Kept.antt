-- The rows that an update of a table keeps.
--     places_fault survivors update      the first rule that the added and the modified keys break, where these rows stay
--     old_modified old update      the old keys of the modified rows
use Rattle.std.{specs.Prelude.{ℕ, not, List, ◌++◌, Option, find, filter, option_map}, specs.Option.option_or}
use Rattle.key_lists.specs.Keys.{is_among, without}
use Rattle.tick_model.{specs.declared.update.UpdateFault.UpdateFault, specs.declared.update.UpdateFault.TheVariants.{AddedTaken, ModifiedAbsent, ModifiedAdded}, specs.Rules.landed, specs.Shifts.{moved, as_key}, specs.Updates.Update}

abbrev pub places_fault : List ℕ → Update → Option UpdateFault
places_fault survivors update =
    let moved_keys = landed update.shifted survivors in
    option_or (option_map AddedTaken (find (λ key. is_among key moved_keys) update.added))
    (option_or (option_map ModifiedAbsent (find (λ key. not (is_among key (moved_keys ++ update.added))) update.modified))
    (option_map ModifiedAdded (find (λ key. is_among key update.added) update.modified)))

abbrev pub old_modified : List ℕ → Update → List ℕ
old_modified old update = filter (λ key. is_among (as_key (moved update.shifted key)) update.modified) (without update.removed old)
