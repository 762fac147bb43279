use Rattle.std.proofs.Common.{◌≡◌, ◌+◌, ◌-◌, ◌*◌, ap, ◌∙◌, drop, arith}
use Rattle.row_set.{specs.Ranges.keys_before, proofs.Counts.few_before, proofs.Starts.{none_written, written_more}}
use Rattle.row_set.proofs.blocks.recount_blocks.Goals as goal

pub loop-block-init : goal.loop-block-init
loop-block-init c = (
  none_written (λ block start. start ≡ keys_before (16 * block - c.args.front) (drop c.args.front c.args.all.now)) c.args.starts.now c.args.first,
  c.keys_before_block-next.ensures ∙ c.requires.begin,
)

pub overflow_add-next : goal.overflow_add-next
overflow_add-next c =
    omega (arith, c.loop-block.invariant.1, c.keys_in_block-next.ensures, few_before (16 * c.loop-block.block + 16 - c.args.front) (drop c.args.front c.args.all.now) c.requires.ranges)

pub loop-block-preserved : goal.loop-block-preserved
loop-block-preserved c =
    let front = c.args.front in
    let block = c.loop-block.block in
    let ranges = drop front c.args.all.now in
    let next = c.loop-block.next + c.keys_in_block-next.result in
    let is = c.loop-block.invariant in
    let place : 16 * block + 16 - front ≡ 16 * (block + 1) - front = omega arith in
    let more : next ≡ keys_before (16 * (block + 1) - front) ranges = omega (arith, is.1, c.keys_in_block-next.ensures, ap (λ n. keys_before n ranges) place) in (
      written_more (λ block start. start ≡ keys_before (16 * block - front) ranges) c.args.starts.now c.loop-block.starts c.args.first block next is.0 c.loop-block.auto.block (omega (arith, is.0.len, c.loop-block-test.true, c.requires.within)) more,
      more,
    )
