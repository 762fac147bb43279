use Rattle.std.proofs.Common.{sym, ◌∙◌}
use Rattle.source_changes.proofs.Followed.{first_rules_keep}
use Rattle.source_changes.proofs.gathering.update_after.Goals as goal

pub first_update-requires : goal.first_update-requires
first_update-requires c = first_rules_keep c.args.old.now c.args.update c.args.next c.requires.follows (sym c.is_empty.ensures ∙ c.if-is_empty.true)
