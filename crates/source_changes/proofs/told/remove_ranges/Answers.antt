use Rattle.std.proofs.Common.{ap, sym, ◌∙◌, not, ℕ, ℤ, List, Bor, filter, get_or}
use Rattle.key_lists.proofs.Every.{filter_all}
use Rattle.row_set.{specs.declared.ranges.Range.Range, specs.Ranges.holds}
use Rattle.source_changes.proofs.Mapped.{left_more}
use Rattle.source_changes.proofs.told.remove_ranges.Goals as goal

pub loop-range-init : goal.loop-range-init
loop-range-init c = sym (filter_all c.args.rows.now.entries)

pub loop-range-preserved : goal.loop-range-preserved
loop-range-preserved c =
    let d : Range = record { first = 0; last = 0 } in
    c.remove_range.ensures
    ∙ ap (filter (λ (entry : ℕ × Bor (List ℤ)). not (holds entry.0 (get_or c.args.ranges.now c.loop-range.range-index d)))) c.loop-range.invariant
    ∙ left_more c.args.ranges.now c.loop-range.range-index d c.args.rows.now.entries c.loop-range-test.true
