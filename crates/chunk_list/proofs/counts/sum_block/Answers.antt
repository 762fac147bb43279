use Rattle.std.proofs.Common.{◌+◌, ◌*◌, ap, ◌∙◌, take, sum, arith, ◌≤◌}
use Rattle.chunk_list.proofs.Sums.{sum_between, take_end}
use Rattle.std.proofs.lemmas.List.Sums.{sum_by-take-le}
use Rattle.chunk_list.proofs.counts.sum_block.Goals as goal

pub sum_of-requires : goal.sum_of-requires
sum_of-requires c =
    let le : c.args.block * 64 ≤ c.min-end.result = omega arith in
    omega (arith, sum_between c.args.numbers.now (c.args.block * 64) c.min-end.result le, sum_by-take-le (λ y. y) c.args.numbers.now c.min-end.result)

pub returns : goal.returns
returns c =
    let le : c.args.block * 64 ≤ c.min-end.result = omega arith in
    ap (λ n. sum (take (c.args.block * 64) c.args.numbers.now) + n) c.sum_of.ensures
    ∙ sum_between c.args.numbers.now (c.args.block * 64) c.min-end.result le
    ∙ ap sum (take_end c.args.numbers.now (c.args.block * 64 + 64) c.min-end.result (omega arith))
