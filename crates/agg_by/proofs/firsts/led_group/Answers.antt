use Rattle.std.proofs.Common.{sym, ◌∙◌, ◌^◌, ◌<◌, ℕ}
use Rattle.row_groups.specs.Members.{groups_of, keys_of, name_at}
use Rattle.shown_rows.proofs.Walks.{of_place}
use Rattle.agg_by.proofs.FirstKeys.{some_small}
use Rattle.agg_by.proofs.firsts.led_group.Goals as goal

pub returns-clause-small : goal.returns-clause-small
returns-clause-small c =
    of_place (λ (key : ℕ). key < 2 ^ 62) 0 (keys_of c.in_ok-group.group) c.in_ok-first.first
    (some_small (groups_of c.args.rows.now) (name_at c.args.number c.args.rows.now.names) c.in_ok-group.group c.group_at.ensures.members (sym c.group_at.ensures.group ∙ c.in_ok-group.was))
    (sym c.first_key.ensures ∙ c.in_ok-first.was)
