use Rattle.std.proofs.lemmas.Option.{same_Some}
use Rattle.run_output.proofs.EntryTexts.{update_same}
use Rattle.run_output.proofs.one_entry.read_change.Goals as goal

pub returns-clause-told : goal.returns-clause-told
returns-clause-told c table step change is named e =
    let same = same_Some c.in-Some.table table (c.in-Some.ensures.told table c.requires.names is.0 named) in
    let read = c.in_ok-printed.printed in
    update_same c.args.tables.now c.args.texts.now c.requires c.in-Some.table table read.step step c.index-tables-table.result read.change change c.args.bytes.now is.0 same c.index-tables-table.is
    c.in_ok-printed.ensures.printed is.1 c.in_ok-printed.ensures.text e
