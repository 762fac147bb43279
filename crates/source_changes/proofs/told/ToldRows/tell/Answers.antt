use Rattle.std.proofs.Common.{◌≡◌, ap, ap₂, sym, ◌∙◌, subst, List}
use Rattle.std.specs.Map.{keys_of as map_keys}
use Rattle.tick_table.{proofs.CarriedRows.keys-removing, specs.Placed.put_rows}
use Rattle.key_lists.specs.Keys.{without}
use Rattle.row_set.specs.Ranges.{keys_of}
use Rattle.shift_data.specs.Moves.{IsLawful}
use Rattle.tick_model.{specs.declared.table.PlainRow.PlainRow, specs.declared.update.ShiftRange.ShiftRange, specs.Sources.update_of, specs.Tables.keys, specs.Updates.{Update, shifting}}
use Rattle.source_changes.proofs.Mapped.{keys-told, ranges_ascend, told_left}
use Rattle.source_changes.proofs.told.ToldRows.tell.Goals as goal

pub remove_ranges-requires : goal.remove_ranges-requires
remove_ranges-requires c = ranges_ascend 0 c.ranges-2.result.now c.ranges-2.ensures.apart

pub shift_rows-requires : goal.shift_rows-requires
shift_rows-requires c =
    let said : Update = update_of c.args.block.now in
    let removed : keys_of c.ranges-2.result.now ≡ said.removed = c.ranges-2.ensures.held ∙ c.removed.ensures.keys ∙ ap (λ (update : Update). update.removed) c.requires.update in
    let left = told_left said.removed (keys_of c.ranges-2.result.now) c.remove_ranges.new.rows.entries c.put_block.new.told.entries c.args.self.now c.remove_ranges.ensures removed (c.in_ok-put_block.ensures ∙ c.self.view_is) in
    let shifts : c.shifted.result.now ≡ said.shifted = c.shifted.ensures ∙ ap (λ (update : Update). update.shifted) c.requires.update in
    let same : map_keys c.remove_ranges.new.rows.entries ≡ without said.removed (keys c.args.self.now) =
    sym (keys-told c.remove_ranges.new.rows.entries) ∙ ap keys left ∙ keys-removing said.removed c.args.self.now in
    subst (λ (shifts : List ShiftRange). IsLawful shifts (map_keys c.remove_ranges.new.rows.entries)) (sym shifts) (subst (IsLawful said.shifted) (sym same) c.requires.lawful)

pub returns : goal.returns
returns c =
    let said : Update = update_of c.args.block.now in
    let removed : keys_of c.ranges-2.result.now ≡ said.removed = c.ranges-2.ensures.held ∙ c.removed.ensures.keys ∙ ap (λ (update : Update). update.removed) c.requires.update in
    let left = told_left said.removed (keys_of c.ranges-2.result.now) c.remove_ranges.new.rows.entries c.put_block.new.told.entries c.args.self.now c.remove_ranges.ensures removed (c.in_ok-put_block.ensures ∙ c.self.view_is) in
    let shifts : c.shifted.result.now ≡ said.shifted = c.shifted.ensures ∙ ap (λ (update : Update). update.shifted) c.requires.update in
    ap (λ (rows : List PlainRow). put_rows c.args.block.now.modified (put_rows c.args.block.now.added rows)) (c.in_ok-shift_rows.ensures ∙ ap₂ shifting shifts left)
