use Rattle.std.proofs.Common.{◌≡◌, ◌<◌, true, length, take, arith, ℕ, subst, sym, ◌∙◌, add-one}
use Rattle.std.specs.List.{AllByRecursion}
use Rattle.row_groups.{specs.Slots.is_before, proofs.Parts.{passed_to, failed_from}}
use Rattle.row_groups.proofs.search.rows_before.Goals as goal

pub loop-low-preserved-then-is_after : goal.loop-low-preserved-then-is_after
loop-low-preserved-then-is_after c =
    let middle : ℕ = c.inside-middle.result in
    let rows = c.args.rows.now in
    let test = is_before c.args.place.now.handles.now c.args.place.now.table.now c.args.place.now.at c.args.place.now.key in
    let lt : middle < length rows = omega (arith, c.inside-middle.ensures.from, c.inside-middle.ensures.to) in
    record {
      order = omega (arith, c.inside-middle.ensures.from, c.inside-middle.ensures.to);
      within = c.loop-low.invariant.within;
      before = subst (λ n. AllByRecursion (λ slot. test slot ≡ true) (take n rows)) (sym (add-one middle)) (passed_to test rows middle _ lt c.requires.parted (sym c.is_after.ensures ∙ c.if-is_after.true));
      others = c.loop-low.invariant.others;
    }

pub loop-low-preserved : goal.loop-low-preserved
loop-low-preserved c =
    let middle : ℕ = c.inside-middle.result in
    let rows = c.args.rows.now in
    let lt : middle < length rows = omega (arith, c.inside-middle.ensures.from, c.inside-middle.ensures.to) in
    record {
      order = omega (arith, c.inside-middle.ensures.from, c.inside-middle.ensures.to);
      within = omega (arith, c.inside-middle.ensures.from, c.inside-middle.ensures.to);
      before = c.loop-low.invariant.before;
      others = failed_from (is_before c.args.place.now.handles.now c.args.place.now.table.now c.args.place.now.at c.args.place.now.key) rows middle _ lt c.requires.parted (sym c.is_after.ensures ∙ c.if-is_after.false);
    }
