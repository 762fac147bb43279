use Rattle.std.proofs.Common.{◌≤◌, ◌<◌, arith, length, take, drop, subst, sym, ℕ, add-one}
use Rattle.std.specs.List.{AllByRecursion}
use Rattle.key_lists.proofs.Parts.{every-take}
use Rattle.row_handles.proofs.Listings.{begun_to, firsts_rise, others_from, until_last}
use Rattle.row_handles.proofs.index.begun_by.Goals as goal

pub returns-then-last-key-clause-begun : goal.returns-then-last-key-clause-begun
returns-then-last-key-clause-begun c =
    every-take (λ block. block.first ≤ c.args.key) (length c.args.blocks.now) c.args.blocks.now
    (until_last (λ block. block.first) (λ block. block.first ≤ c.args.key) (λ x y le lt. omega (arith, le, lt)) c.args.blocks.now c.in-Some-Some.last.now (firsts_rise c.args.blocks.now c.requires.sound c.requires.ascend) (sym c.in-Some-Some.ensures'.value) c.if-last-key.true)

pub loop-low-preserved-then-blocks-middle : goal.loop-low-preserved-then-blocks-middle
loop-low-preserved-then-blocks-middle c =
    let middle : ℕ = c.inside-middle.result in
    let blocks = c.args.blocks.now in
    let lt : middle < length blocks = omega (arith, c.inside-middle.ensures.to, c.loop-low.invariant.within) in
    record {
      order = omega (arith, c.inside-middle.ensures.to);
      within = c.loop-low.invariant.within;
      begun = subst (λ n. AllByRecursion (λ block. block.first ≤ c.args.key) (take n blocks)) (sym (add-one middle)) (begun_to c.args.key blocks middle _ c.requires.sound c.requires.ascend lt c.if-blocks-middle.true);
      others = c.loop-low.invariant.others;
    }

pub loop-low-preserved : goal.loop-low-preserved
loop-low-preserved c =
    let middle : ℕ = c.inside-middle.result in
    let blocks = c.args.blocks.now in
    let lt : middle < length blocks = omega (arith, c.inside-middle.ensures.to, c.loop-low.invariant.within) in
    record {
      order = omega (arith, c.inside-middle.ensures.from);
      within = omega (arith, lt);
      begun = c.loop-low.invariant.begun;
      others = others_from c.args.key blocks middle _ c.requires.sound c.requires.ascend lt c.if-blocks-middle.false;
    }

pub returns-clause-others : goal.returns-clause-others
returns-clause-others c = subst (λ n. AllByRecursion (λ block. c.args.key < block.first) (drop n c.args.blocks.now)) (omega (arith, c.loop-low-test.false, c.loop-low.invariant.order)) c.loop-low.invariant.others
