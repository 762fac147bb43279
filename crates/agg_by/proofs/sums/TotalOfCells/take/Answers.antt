use Rattle.std.proofs.Common.{ap₂, rules, pos, w64}
use Rattle.std.{specs.Prelude.FitsSigned, proofs.lemmas.Int.wrapping_sub_is}
use Rattle.agg_by.specs.declared.sums.Total.{Total}
use Rattle.agg_by.proofs.sums.TotalOfCells.take.Goals as goal

pub returns : goal.returns
returns c =
    let old = c.args.self.now in
    let sum_fits : FitsSigned w64 old.sum = search rules in
    let count_fits : FitsSigned w64 old.count = search rules in
    let one_fits : FitsSigned w64 (pos 1) = search rules in
    ap₂ (λ sum count. let total : Total = record { sum = sum; count = count } in total)
    (wrapping_sub_is w64 old.sum c.args.value sum_fits c.ranges.value) (wrapping_sub_is w64 old.count (pos 1) count_fits one_fits)
