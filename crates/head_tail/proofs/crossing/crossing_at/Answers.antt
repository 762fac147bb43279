use Rattle.shown_rows.proofs.Restricted.{kept}
use Rattle.tick_model.specs.Tables.{keys}
use Rattle.head_tail.{proofs.Crossed.{added_there, end_comes, end_leaves, from_before, from_now, removed_there}, proofs.Sides.enough}
use Rattle.head_tail.proofs.crossing.crossing_at.Goals as goal

pub staying_before-stayed-requires : goal.staying_before-stayed-requires
staying_before-stayed-requires c = rw (c.removed-removed.ensures.keys, c.update-update.ensures, c.prev_rows-before.ensures.keys) (removed_there c.args.input.now c.requires)

pub staying_before-stay-requires : goal.staying_before-stay-requires
staying_before-stay-requires c = rw (c.added-added.ensures.keys, c.update-update.ensures, c.rows-now.ensures.keys) (added_there c.args.input.now c.requires)

pub end_without-requires-clause-there : goal.end_without-requires-clause-there
end_without-requires-clause-there c = rw (c.removed-removed.ensures.keys, c.update-update.ensures, c.prev_rows-before.ensures.keys) (removed_there c.args.input.now c.requires)

pub end_without-requires-clause-enough : goal.end_without-requires-clause-enough
end_without-requires-clause-enough c =
    let t = c.args.input.now in
    rw (c.staying_before-stay.ensures, c.rows-now.ensures.keys, c.added-added.ensures.keys, c.removed-removed.ensures.keys, c.prev_rows-before.ensures.keys, c.update-update.ensures)
    (enough _ _ (kept t c.requires) (keys t.old.rows) t.update.removed (keys t.new.rows) t.update.added (from_before t c.requires) c.position-cut_now.result)

pub end_without-requires-2-clause-there : goal.end_without-requires-2-clause-there
end_without-requires-2-clause-there c = rw (c.added-added.ensures.keys, c.update-update.ensures, c.rows-now.ensures.keys) (added_there c.args.input.now c.requires)

pub end_without-requires-2-clause-enough : goal.end_without-requires-2-clause-enough
end_without-requires-2-clause-enough c =
    let t = c.args.input.now in
    rw (c.staying_before-stayed.ensures, c.prev_rows-before.ensures.keys, c.removed-removed.ensures.keys, c.added-added.ensures.keys, c.rows-now.ensures.keys, c.update-update.ensures)
    (enough _ _ (kept t c.requires) (keys t.new.rows) t.update.added (keys t.old.rows) t.update.removed (from_now t c.requires) c.position-cut_before.result)

pub returns-clause-leaving : goal.returns-clause-leaving
returns-clause-leaving c =
    rw (c.in_ok-leaving.ensures, c.staying_before-stay.ensures, c.position-cut_before.ensures, c.position-cut_now.ensures, c.len.ensures.count, c.len-2.ensures.count, c.rows-now.ensures.keys, c.added-added.ensures.keys, c.removed-removed.ensures.keys, c.prev_rows-before.ensures.keys, c.update-update.ensures)
    (end_leaves c.args.input.now c.requires c.args.end c.args.count)

pub returns-clause-coming : goal.returns-clause-coming
returns-clause-coming c =
    rw (c.in_ok-coming.ensures, c.staying_before-stayed.ensures, c.position-cut_before.ensures, c.position-cut_now.ensures, c.len.ensures.count, c.len-2.ensures.count, c.prev_rows-before.ensures.keys, c.removed-removed.ensures.keys, c.added-added.ensures.keys, c.rows-now.ensures.keys, c.update-update.ensures)
    (end_comes c.args.input.now c.requires c.args.end c.args.count)
