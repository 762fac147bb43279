use Rattle.std.proofs.Common.{arith, rules}
use Rattle.row_ops.proofs.Viewed.{added_there, cells_told}
use Rattle.row_ops.proofs.view_op.put_added.Goals as goal

pub loop-place-preserved : goal.loop-place-preserved
loop-place-preserved g c =
    let t = c.args.input.now in record {
      cells =
          cells_told c.args.exprs.now t.new t.update.added c.loop-place.place c.args.cells.now.items c.loop-place.cells.items c.put_row.new.cells.items c.added_row.result.now (added_there c.args.exprs.now t c.requires.exact)
          (search rules) c.added_row.ensures.cells c.loop-place.invariant.cells c.in_ok-put_row.ensures;
      reads = omega (arith, c.loop-place.invariant.reads, c.added_row.ensures.reads);
    }
