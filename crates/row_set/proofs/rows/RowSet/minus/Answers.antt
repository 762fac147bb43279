use Rattle.std.proofs.Common.{◌≡◌, ℕ, List, sym, ◌∙◌}
use Rattle.std.proofs.lemmas.Result.{IfOk-weaker}
use Rattle.key_lists.specs.Keys.{without}
use Rattle.row_set.proofs.Batches.{empty_without}
use Rattle.row_set.proofs.rows.RowSet.minus.Goals as goal

pub returns-then-is_empty : goal.returns-then-is_empty
returns-then-is_empty c =
    IfOk-weaker c.copy.result (λ (keys : List ℕ). keys ≡ c.args.self.now) (λ keys. keys ≡ without c.args.other.now c.args.self.now)
    (λ keys is. is ∙ empty_without c.args.other.now c.args.self.now (sym c.is_empty.ensures.empty ∙ c.if-is_empty.true)) c.copy.ensures
