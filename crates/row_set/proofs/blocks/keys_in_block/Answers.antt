use Rattle.std.proofs.Common.{◌≡◌, ◌+◌, ◌-◌, ◌*◌, ap, ap₂, sym, ◌∙◌, subst, drop, length, slice_range, arith}
use Rattle.row_set.{specs.Ranges.{AreRanges, keys_before, keys_of}, proofs.Counts.ranges-slice, proofs.Starts.{block_keys, block_part}}
use Rattle.row_set.proofs.blocks.keys_in_block.Goals as goal

pub count_in-requires : goal.count_in-requires
count_in-requires c =
    let front = c.args.front in
    let begin = c.args.block * 16 in
    subst AreRanges (sym (ap₂ (slice_range c.args.all.now) c.max.ensures c.max-2.ensures ∙ block_part front begin (begin + 16) c.args.all.now)) (ranges-slice (begin - front) (begin + 16 - front) (drop front c.args.all.now) c.requires.ranges)

pub returns : goal.returns
returns c =
    let front = c.args.front in
    let begin = c.args.block * 16 in
    let all = c.args.all.now in
    let low : begin - front ≡ 16 * c.args.block - front = omega arith in
    let high : begin + 16 - front ≡ 16 * c.args.block + 16 - front = omega arith in
    omega (
      arith,
      block_keys front begin (begin + 16) c.count_in.result all (omega arith) (c.count_in.ensures ∙ ap₂ (λ m n. length (keys_of (slice_range all m n))) c.max.ensures c.max-2.ensures),
      ap (λ n. keys_before n (drop front all)) low,
      ap (λ n. keys_before n (drop front all)) high,
    )
