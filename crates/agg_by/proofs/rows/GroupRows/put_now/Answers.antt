use Rattle.agg_by.proofs.rows.GroupRows.put_now.Goals as goal

pub put_group-requires-clause-table : goal.put_group-requires-clause-table
put_group-requires-clause-table g c = c.requires.ready.exact.tick.new_table
