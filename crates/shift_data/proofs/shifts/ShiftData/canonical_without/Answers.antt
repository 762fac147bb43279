use Rattle.std.proofs.Common.{ap, sym, ◌∙◌, ◌==◌}
use Rattle.key_lists.{specs.Keys.without, proofs.Parts.no_items}
use Rattle.shift_data.proofs.Parting.{canonical_still}
use Rattle.shift_data.proofs.shifts.ShiftData.canonical_without.Goals as goal

pub returns-then-is_empty : goal.returns-then-is_empty
returns-then-is_empty c =
    let ranges = c.self.inside.ranges in
    let still = sym c.self.view_is ∙ no_items ranges.items (c.if-is_empty.ensures ∙ ap (λ n. n == 0) ranges.ok.0) in
    c.new.ensures ∙ sym (canonical_still c.args.self.now (without c.args.left_out.now c.args.keys.now) still c.requires)
