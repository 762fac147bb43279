use Rattle.std.proofs.Common.{ℤ, sym, subst, [], List}
use Rattle.agg_by.{specs.declared.sums.Total.Total, specs.Kept.AreMade, specs.Sums.{minus, no_total, plus, total_of}, specs.Values.{in_order, opposite, opposites, placed, unplaced}, proofs.Made.{mirrored, none_made, sums, values}}
use Rattle.agg_by.proofs.running.Accumulator.new.Goals as goal

pub returns-in-Sum-clause-answers : goal.returns-in-Sum-clause-answers
returns-in-Sum-clause-answers c = λ by names.
    subst (λ (totals : List Total). AreMade no_total total_of by names c.in-Sum.column [] totals) (sym c.new.ensures) (none_made no_total total_of plus minus sums by c.in-Sum.column names)

pub returns-in-Min-clause-answers : goal.returns-in-Min-clause-answers
returns-in-Min-clause-answers c = λ by names.
    subst (λ (lists : List (List ℤ)). AreMade [] opposites by names c.in-Min.column [] lists) (sym c.new-in-Min.ensures)
    (none_made [] opposites (λ value. placed (opposite value)) (λ value. unplaced (opposite value)) mirrored by c.in-Min.column names)

pub returns-in-Max-clause-answers : goal.returns-in-Max-clause-answers
returns-in-Max-clause-answers c = λ by names.
    subst (λ (lists : List (List ℤ)). AreMade [] in_order by names c.in-Max.column [] lists) (sym c.new-in-Max.ensures) (none_made [] in_order placed unplaced values by c.in-Max.column names)
