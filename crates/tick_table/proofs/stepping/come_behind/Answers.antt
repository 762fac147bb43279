use Rattle.std.proofs.Common.{sym, ◌∙◌}
use Rattle.tick_table.proofs.Appended.{others_first, where_same}
use Rattle.tick_table.proofs.stepping.come_behind.Goals as goal

pub returns-in-Some : goal.returns-in-Some
returns-in-Some c =
    where_same _ _ _
    (λ same.
    others_first c.in-Some.first c.args.added.now c.args.rows.now c.count_below.ensures.keys.rising c.in-Some.ensures.keys.rising c.requires.own (sym c.in-Some.ensures.key) (sym c.count_below.ensures.count ∙ same ∙ c.len.ensures ∙ c.requires.count))
