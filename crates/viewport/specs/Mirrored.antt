-- What a mirror makes of changes.
--     fault_of fault      what a mirror answers where the check of an update gives this fault
--     mirror_fault table change      why a change cannot be taken, where the mirror has these rows
--     mirrored table changes      the rows after changes, one after the other, or none where one of them cannot be taken
use Rattle.std.{specs.Prelude.{ℕ, ◌*◌, ◌^◌, ◌==◌, List, [], ◌∷◌, length, Option, Some, None, option_map, if◌then◌else◌}, specs.Option.option_or}
use Rattle.tick_model.{specs.declared.table.PlainTable.PlainTable, specs.declared.update.UpdateFault.UpdateFault, specs.declared.update.UpdateFault.TheVariants.Memory as NoMemory, specs.Changes.{Change, changed, told_keys}, specs.Rules.update_fault, specs.Tables.keys}
use Rattle.viewport.{specs.declared.mirror.MirrorFault.MirrorFault, specs.declared.mirror.MirrorFault.TheVariants.{Memory, Update as ByUpdate, CellCount}}

abbrev pub fault_of : UpdateFault → MirrorFault
fault_of NoMemory = Memory
fault_of fault = ByUpdate fault

-- the cells are not those of whole rows, one for each key that is told
abbrev pub count_fault : ℕ → Change → Option MirrorFault
count_fault width change =
    let wanted = length (told_keys change.update) * width in
    if length change.cells == wanted then None else Some (CellCount (length change.cells) wanted)

abbrev pub mirror_fault : PlainTable → Change → Option MirrorFault
mirror_fault table change = option_or (option_map ByUpdate (update_fault (2 ^ 62) (keys table.rows) change.update)) (count_fault table.width change)

abbrev pub unless : Option MirrorFault → Option PlainTable → Option PlainTable
unless None table = table
unless (Some fault) table = None

abbrev pub mirrored : PlainTable → List Change → Option PlainTable
mirrored table [] = Some table
mirrored table (change ∷ changes) = unless (mirror_fault table change) (mirrored (changed table change) changes)
