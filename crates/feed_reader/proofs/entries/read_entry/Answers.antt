use Rattle.std.proofs.Common.{refl, sym, subst}
use Rattle.feed_reader.{specs.Records.at_hand, specs.Said.kinds_within, proofs.EntryLemmas.{TellsNoRow, block_no_row, end_no_row, read_nothing}}
use Rattle.feed_reader.proofs.entries.read_entry.Goals as goal

pub returns-in-Some-Block-clause-read : goal.returns-in-Some-Block-clause-read
returns-in-Some-Block-clause-read c =
    let read = c.args.read.now in
    let kinds = kinds_within c.args.plan.now c.args.place in
    read_nothing kinds read read.texts c.block_entry.result refl (subst TellsNoRow (sym (c.block_entry.ensures read.texts kinds read.cells.items)) (block_no_row c.args.plan.now (at_hand c.args.fields.now)))

pub returns-in-Some-End-clause-read : goal.returns-in-Some-End-clause-read
returns-in-Some-End-clause-read c =
    let read = c.args.read.now in
    let kinds = kinds_within c.args.plan.now c.args.place in
    read_nothing kinds read read.texts c.end_entry.result refl (subst TellsNoRow (sym (c.end_entry.ensures read.texts kinds read.cells.items)) (end_no_row c.args.steps (at_hand c.args.fields.now)))
