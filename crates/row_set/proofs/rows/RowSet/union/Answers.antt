use Rattle.std.proofs.Common.{◌≡◌, ℕ, List, sym, ◌∙◌}
use Rattle.std.proofs.lemmas.Result.{IfOk-weaker}
use Rattle.row_set.{specs.Sets.united, proofs.Batches.united_empty}
use Rattle.row_set.proofs.rows.RowSet.union.Goals as goal

pub returns-then-is_empty : goal.returns-then-is_empty
returns-then-is_empty c =
    IfOk-weaker c.copy.result (λ (keys : List ℕ). keys ≡ c.args.self.now) (λ keys. keys ≡ united c.args.self.now c.args.other.now)
    (λ keys is. is ∙ united_empty c.args.self.now c.args.other.now c.ranges-2.ensures.keys.rising (sym c.is_empty.ensures.empty ∙ c.if-is_empty.true)) c.copy.ensures
