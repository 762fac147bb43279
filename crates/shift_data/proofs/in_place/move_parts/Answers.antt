use Rattle.std.proofs.Common.{ap, ◌∙◌}
use Rattle.row_set.specs.Sets.{united}
use Rattle.shift_data.proofs.InPlace.{moved_in_place}
use Rattle.shift_data.proofs.in_place.move_parts.Goals as goal

pub returns : goal.returns
returns c =
    let left = c.part_keys.new.left in
    let came = c.part_keys.new.came in
    c.in_ok-insert_all.ensures.ok
    ∙ ap (united came) c.in_ok-remove_all.ensures.ok
    ∙ moved_in_place c.args.shifts.now c.args.keys left came c.part_keys.ensures.keys c.requires.lawful c.in_ok-part_keys.ensures.left c.in_ok-part_keys.ensures.came
