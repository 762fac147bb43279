use Rattle.shift_data.proofs.Lawful.{lawful}
use Rattle.shift_data.proofs.in_place.move_keys.Goals as goal

pub move_ranges-requires-clause-inside : goal.move_ranges-requires-clause-inside
move_ranges-requires-clause-inside c = (lawful c.args.shifts.now c.args.keys c.requires.lawful).inside

pub move_ranges-requires-clause-rising : goal.move_ranges-requires-clause-rising
move_ranges-requires-clause-rising c = (lawful c.args.shifts.now c.args.keys c.requires.lawful).rising

pub move_ranges-requires-in_default-2-clause-inside : goal.move_ranges-requires-in_default-2-clause-inside
move_ranges-requires-in_default-2-clause-inside c = (lawful c.args.shifts.now c.args.keys c.requires.lawful).inside

pub move_ranges-requires-in_default-2-clause-rising : goal.move_ranges-requires-in_default-2-clause-rising
move_ranges-requires-in_default-2-clause-rising c = (lawful c.args.shifts.now c.args.keys c.requires.lawful).rising
