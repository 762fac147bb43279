use Rattle.std.proofs.Common.{ap₂}
use Rattle.row_groups.specs.Members.{with_names}
use Rattle.row_groups.proofs.numbered.NumberedGroups.new.Goals as goal

pub returns : goal.returns
returns c = ap₂ with_names c.new.ensures.names c.new.ensures.members
