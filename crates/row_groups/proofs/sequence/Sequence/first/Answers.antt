use Rattle.std.proofs.Common.{ap, ◌∙◌}
use Rattle.std.specs.Prelude.{slice_get}
use Rattle.row_groups.proofs.sequence.Sequence.first.Goals as goal

pub returns : goal.returns
returns c = c.copied.ensures ∙ c.first.ensures ∙ ap (λ rows. slice_get rows 0) c.self.view_is
