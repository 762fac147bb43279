-- What a step of an operator at one end of its input reads.
use Rattle.std.proofs.Common.{◌≡◌, subst, ℕ, ◌+◌, ◌*◌, ◌≤◌, arith, List, length}
use Rattle.tick_model.specs.Updates.{Update}
use Rattle.tick_table.specs.Exact.{counted}

pub end_reads : (width first second : ℕ) (input output : Update) (coming : List ℕ) → second ≤ first + width * (2 * length input.modified + length coming) → coming ≡ output.added → second ≤ first + 4 * (width + width) * (counted input + counted output)
end_reads width first second input output coming h came =
    within width first second (length input.removed) (length input.added) (length input.modified) (length output.removed) (length output.added) (length output.modified)
    (subst (λ (coming : List ℕ). second ≤ first + width * (2 * length input.modified + length coming)) came h)
  where
    within : (width first second removed added modified gone come changed : ℕ) → second ≤ first + width * (2 * modified + come) → second ≤ first + 4 * (width + width) * ((removed + added + 2 * modified) + (gone + come + 2 * changed))
    within width first second removed added modified gone come changed h = omega (arith, h)
