use Rattle.std.proofs.Common.{◌≡◌, ◌+◌, ◌-◌, ◌∙◌, get_or, arith}
use Rattle.row_set.{specs.Runs.start_of, proofs.Starts.{none_written, start_after, written_more}}
use Rattle.row_set.proofs.blocks.move_starts.Goals as goal

pub loop-block-init : goal.loop-block-init
loop-block-init c = none_written (λ block start. start + c.args.gone ≡ start_of c.args.starts.now block + c.args.came) c.args.starts.now c.args.last

pub overflow_add-starts : goal.overflow_add-starts
overflow_add-starts c =
    let block = c.loop-block.block in
    omega (arith, start_after c.loop-block.starts block, c.loop-block.invariant.after (block + 1) (omega arith), c.requires.few (block + 1) (omega (arith, c.loop-block.auto.block)) (omega (arith, c.loop-block-test.true)))

pub overflow_sub-starts : goal.overflow_sub-starts
overflow_sub-starts c =
    let block = c.loop-block.block in
    omega (arith, start_after c.loop-block.starts block, c.loop-block.invariant.after (block + 1) (omega arith), c.requires.some (block + 1) (omega (arith, c.loop-block.auto.block)) (omega (arith, c.loop-block-test.true)))

pub loop-block-preserved : goal.loop-block-preserved
loop-block-preserved c =
    let block = c.loop-block.block in
    let starts = c.args.starts.now in
    let old = get_or c.loop-block.starts block 0 in
    let is = c.loop-block.invariant in
    let same : old ≡ start_of starts (block + 1) = start_after c.loop-block.starts block ∙ is.after (block + 1) (omega arith) in
    written_more (λ block start. start + c.args.gone ≡ start_of starts block + c.args.came) starts c.loop-block.starts c.args.last block (old + c.args.came - c.args.gone) is c.loop-block.auto.block (omega (arith, is.len, c.loop-block-test.true))
    (omega (arith, same, c.requires.some (block + 1) (omega (arith, c.loop-block.auto.block)) (omega (arith, c.loop-block-test.true))))
