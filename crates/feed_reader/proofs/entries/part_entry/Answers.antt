use Rattle.std.proofs.Common.{refl, sym, subst}
use Rattle.feed_reader.{specs.Records.at_hand, specs.Said.kinds_within, proofs.EntryLemmas.{TellsNoRow, removed_no_row, shift_no_row, read_nothing}}
use Rattle.feed_reader.proofs.entries.part_entry.Goals as goal

pub returns-in-Removed-clause-read : goal.returns-in-Removed-clause-read
returns-in-Removed-clause-read c =
    let read = c.args.read.now in
    let kinds = kinds_within c.args.plan.now c.args.place in
    read_nothing kinds read read.texts c.removed_entry.result refl (subst TellsNoRow (sym (c.removed_entry.ensures read.texts kinds read.cells.items)) (removed_no_row c.in-Some.last (at_hand c.args.fields.now)))

pub returns-in-Shifts-clause-read : goal.returns-in-Shifts-clause-read
returns-in-Shifts-clause-read c =
    let read = c.args.read.now in
    let kinds = kinds_within c.args.plan.now c.args.place in
    read_nothing kinds read read.texts c.shift_entry.result refl (subst TellsNoRow (sym (c.shift_entry.ensures read.texts kinds read.cells.items)) (shift_no_row c.in-Some.last (at_hand c.args.fields.now)))
