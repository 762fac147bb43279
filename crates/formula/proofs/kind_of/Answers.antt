use Rattle.std.proofs.Common.{refl, ap, ◌∙◌}
use Rattle.key_lists.proofs.Every.{every, map_own}
use Rattle.tick_model.specs.Columns.{kind_of as kind_over}
use Rattle.formula.proofs.kind_of.Goals as goal

pub returns : goal.returns
returns c = c.kind_of.ensures ∙ ap (kind_over c.args.expr.now) (map_own (λ kind. kind) c.args.kinds.now (every _ c.args.kinds.now (λ kind. refl)))
