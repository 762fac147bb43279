use Rattle.std.proofs.Common.{refl, ap, ◌∙◌}
use Rattle.key_lists.proofs.Every.{every, map_own}
use Rattle.tick_model.specs.Columns.{test_fits as test_fits_over}
use Rattle.formula.proofs.test_fits.Goals as goal

pub returns : goal.returns
returns c = c.test_fits.ensures ∙ ap (test_fits_over c.args.test.now) (map_own (λ kind. kind) c.args.kinds.now (every _ c.args.kinds.now (λ kind. refl)))
