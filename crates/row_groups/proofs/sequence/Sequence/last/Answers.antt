use Rattle.std.proofs.Common.{◌-◌, ap, ◌∙◌, length}
use Rattle.std.specs.Prelude.{slice_get}
use Rattle.row_groups.proofs.sequence.Sequence.last.Goals as goal

pub returns : goal.returns
returns c = c.copied.ensures ∙ c.last.ensures ∙ ap (λ rows. slice_get rows (length rows - 1)) c.self.view_is
