use Rattle.run_output.proofs.RunTables.{tables_made, updates_before}
use Rattle.run_output.proofs.laws.updates_make_tables.Goals as goal

pub returns-clause-tables : goal.returns-clause-tables
returns-clause-tables c run h step last is within node there = tables_made run h node there step last is within

pub returns-clause-before : goal.returns-clause-before
returns-clause-before c = updates_before
