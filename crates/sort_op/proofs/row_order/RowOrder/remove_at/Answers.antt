use Rattle.std.proofs.Common.{subst, sym, List, ℕ}
use Rattle.chunk_list.specs.Chunked.{joined}
use Rattle.sort_op.{specs.Ranks.{IsRanking, Ranking}, proofs.RankedEdits.ranking_less}
use Rattle.sort_op.proofs.row_order.RowOrder.remove_at.Goals as goal

pub invariant_of-self : goal.invariant_of-self
invariant_of-self c =
    let was : Ranking = record { by = c.self.inside.by; handles = c.self.inside.handles; cells = c.self.inside.cells; rows = joined c.self.inside.rows } in
    subst (λ (rows : List ℕ). let order : Ranking = record was { rows = rows } in IsRanking order) (sym c.remove.ensures.others) (ranking_less was c.self.invariant c.args.position)
