use Rattle.std.proofs.Common.{◌≡◌, ◌^◌, ap, sym, ◌∙◌, subst, false}
use Rattle.std.specs.List.{AllByRecursion}
use Rattle.tick_model.{specs.Shifts.moved, specs.Rules.{is_past, shift_fault}}
use Rattle.row_handles.{specs.Entries.{moved_rows, keys_of}, specs.Blocks.rows, specs.Moves.IsBesideRange, proofs.Moving.{each_movable, inside_rows, rows-moved, moved_index}}
use Rattle.row_handles.proofs.index.HandleIndex.shift.Goals as goal

pub move_blocks-moved-requires-clause-movable : goal.move_blocks-moved-requires-clause-movable
move_blocks-moved-requires-clause-movable c =
    let mid = c.cut_ranges.new.self in
    let sound = c.cut_ranges.ensures.sound in
    each_movable c.args.shifts.now mid.blocks.items sound.sound sound.small
    (subst (AllByRecursion (λ x. is_past (2 ^ 62) (moved c.args.shifts.now x.key) ≡ false)) (sym c.cut_ranges.ensures.same) (inside_rows c.args.shifts.now (rows c.args.self.now.blocks.items) c.requires.lawful))

pub returns-clause-ok : goal.returns-clause-ok
returns-clause-ok c =
    let shifts = c.args.shifts.now in
    let mid = c.cut_ranges.new.self in
    let sound = c.cut_ranges.ensures.sound in
    let same = c.cut_ranges.ensures.same in
    c.join_between.ensures.same
    ∙ ap rows c.move_blocks-moved.ensures.blocks
    ∙ rows-moved shifts mid.blocks.items sound.sound sound.ascend
    (subst (AllByRecursion (λ range. AllByRecursion (IsBesideRange range) mid.blocks.items)) c.ranges-2.ensures.ranges c.in_ok-cut_ranges.ensures.ok)
    (subst (AllByRecursion (λ x. is_past (2 ^ 62) (moved shifts x.key) ≡ false)) (sym same) (inside_rows shifts (rows c.args.self.now.blocks.items) c.requires.lawful))
    ∙ ap (moved_rows shifts) same

pub join_between-requires : goal.join_between-requires
join_between-requires c =
    let shifts = c.args.shifts.now in
    let mid = c.cut_ranges.new.self in
    moved_index shifts mid c.move_blocks-moved.new.self c.cut_ranges.ensures.sound
    (subst (AllByRecursion (λ range. AllByRecursion (IsBesideRange range) mid.blocks.items)) c.ranges-2.ensures.ranges c.in_ok-cut_ranges.ensures.ok)
    (ap (λ rs. shift_fault (2 ^ 62) shifts (keys_of rs)) c.cut_ranges.ensures.same ∙ c.requires.lawful)
    c.move_blocks-moved.ensures.blocks c.move_blocks-moved.ensures.held c.move_blocks-moved.ensures.places
