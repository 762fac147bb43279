use Rattle.std.proofs.Common.{◌/◌, sym, subst, arith}
use Rattle.row_set.{specs.Runs.AreStarts, proofs.Starts.starts_cut}
use Rattle.row_set.proofs.blocks.recount.Goals as goal

pub count_rest-requires-clause-starts : goal.count_rest-requires-clause-starts
count_rest-requires-clause-starts c =
    let k = c.saturating_sub.result / 16 in
    subst (AreStarts c.args.front c.args.all.now) (sym c.truncate.ensures.items)
    (starts_cut k c.args.from c.args.front c.args.all.now c.args.starts.now.items c.requires.before (omega (arith, c.saturating_sub.ensures)) c.requires.within)
