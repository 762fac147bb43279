use Rattle.tick_model.specs.Formulas.{truth}
use Rattle.row_ops.proofs.Crossed.{coming_is, leaving_is}
use Rattle.row_ops.proofs.crossing.crossing_rows.Goals as goal

pub returns-clause-leaving : goal.returns-clause-leaving
returns-clause-leaving g c =
    rw (c.in_ok-leaving.ensures, c.in_ok-gone.ensures, c.in_ok-changed.ensures.leaving, c.removed.ensures.keys, c.update.ensures, c.requires.shown)
    (leaving_is (truth c.args.test.now) c.args.input.now c.requires.exact)

pub returns-clause-coming : goal.returns-clause-coming
returns-clause-coming g c =
    rw (c.in_ok-coming.ensures, c.in_ok-new.ensures.keys, c.in_ok-changed.ensures.coming, c.requires.shown)
    (coming_is (truth c.args.test.now) c.args.input.now c.requires.exact)
