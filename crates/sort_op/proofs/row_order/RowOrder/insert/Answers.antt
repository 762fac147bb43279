use Rattle.std.proofs.Common.{◌∙◌, ap, subst, sym, List, ℕ}
use Rattle.std.specs.Prelude.{insert}
use Rattle.chunk_list.specs.Chunked.{joined}
use Rattle.sort_op.{specs.Ranks.{IsRanking, Ranking}, proofs.RankedEdits.ranking_more}
use Rattle.sort_op.proofs.row_order.RowOrder.insert.Goals as goal

pub invariant_of-self-2 : goal.invariant_of-self-2
invariant_of-self-2 c =
    let was : Ranking = record { by = c.self.inside.by; handles = c.self.inside.handles; cells = c.self.inside.cells; rows = joined c.self.inside.rows } in
    let place = c.position_for-position.result in
    let after : Ranking = record was { rows = joined c.insert.new.self } in
    let now : IsRanking after =
    subst IsRanking
    (sym (ap (λ (rows : List ℕ). let order : Ranking = record was { rows = rows } in order) c.in_ok-insert.ensures.ok ∙ ap (λ (order : Ranking). let more : Ranking = record order { rows = insert order.rows place c.args.row.handle } in more) c.self.view_is))
    (ranking_more c.args.self.now (subst IsRanking c.self.view_is c.self.invariant) c.args.row place c.requires.known c.position_for-position.ensures.within c.position_for-position.ensures.before c.position_for-position.ensures.others c.requires.absent) in
    now

pub returns-clause-rises : goal.returns-clause-rises
returns-clause-rises c =
    let was : Ranking = record { by = c.self.inside.by; handles = c.self.inside.handles; cells = c.self.inside.cells; rows = joined c.self.inside.rows } in
    let place = c.position_for-position.result in
    let after : Ranking = record was { rows = joined c.insert.new.self } in
    let now : IsRanking after =
    subst IsRanking
    (sym (ap (λ (rows : List ℕ). let order : Ranking = record was { rows = rows } in order) c.in_ok-insert.ensures.ok ∙ ap (λ (order : Ranking). let more : Ranking = record order { rows = insert order.rows place c.args.row.handle } in more) c.self.view_is))
    (ranking_more c.args.self.now (subst IsRanking c.self.view_is c.self.invariant) c.args.row place c.requires.known c.position_for-position.ensures.within c.position_for-position.ensures.before c.position_for-position.ensures.others c.requires.absent) in
    now.rising
