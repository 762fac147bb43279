use Rattle.std.proofs.Common.{ap, sym, ◌∙◌, not, ℕ, ℤ, List, Bor, filter}
use Rattle.row_set.specs.Ranges.{holds}
use Rattle.source_changes.proofs.Mapped.{all_left, left_without}
use Rattle.source_changes.proofs.told.remove_range.Goals as goal

pub loop-key-preserved : goal.loop-key-preserved
loop-key-preserved c =
    ap (filter (λ (entry : ℕ × Bor (List ℤ)). not (holds entry.0 c.args.range.now))) c.remove-cells.ensures.entries
    ∙ left_without c.in-Some.key c.args.range.now c.loop-key.rows.entries c.in-Some.ensures.held
    ∙ c.loop-key.invariant

pub returns : goal.returns
returns c = sym (all_left c.args.range.now c.loop-key.rows.entries c.in_default.ensures.none) ∙ c.loop-key.invariant
