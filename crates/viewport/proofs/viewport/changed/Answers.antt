use Rattle.std.proofs.Common.{sym, ◌∙◌, length}
use Rattle.row_changes.proofs.MadeChange.{parts_there}
use Rattle.viewport.{specs.Slices.cut, proofs.MessageReads.few_reads}
use Rattle.viewport.proofs.viewport.changed.Goals as goal

pub change_of_touched-requires-clause-ready : goal.change_of_touched-requires-clause-ready
change_of_touched-requires-clause-ready g c = (c.requires.asked.columns, sym c.requires.parts.1.tick.one_width)

pub change_of_touched-requires-clause-width : goal.change_of_touched-requires-clause-width
change_of_touched-requires-clause-width g c = c.width.ensures.now ∙ sym c.requires.parts.1.tick.one_width

pub change_of_touched-requires-clause-few : goal.change_of_touched-requires-clause-few
change_of_touched-requires-clause-few g c = c.width.ensures.few

pub change_of_touched-requires-clause-even : goal.change_of_touched-requires-clause-even
change_of_touched-requires-clause-even g c = c.requires.parts.1.compared.even

pub change_of_touched-requires-clause-added : goal.change_of_touched-requires-clause-added
change_of_touched-requires-clause-added g c = (parts_there c.args.last.now.new (cut c.args.slice.now c.args.table.now.new) c.args.touched c.requires.parts.0 c.requires.parts.1).0

pub change_of_touched-requires-clause-before : goal.change_of_touched-requires-clause-before
change_of_touched-requires-clause-before g c = (parts_there c.args.last.now.new (cut c.args.slice.now c.args.table.now.new) c.args.touched c.requires.parts.0 c.requires.parts.1).1

pub change_of_touched-requires-clause-now : goal.change_of_touched-requires-clause-now
change_of_touched-requires-clause-now g c = (parts_there c.args.last.now.new (cut c.args.slice.now c.args.table.now.new) c.args.touched c.requires.parts.0 c.requires.parts.1).2

pub returns-clause-change : goal.returns-clause-change
returns-clause-change g c = c.change_of_touched.ensures.change

pub returns-clause-reads : goal.returns-clause-reads
returns-clause-reads g c = few_reads c.args.last.now.new (cut c.args.slice.now c.args.table.now.new) c.args.touched c.requires.parts.0 c.requires.parts.1 (length c.args.slice.now.columns) c.args.reads.now c.change_of_touched.new.reads c.change_of_touched.ensures.reads
