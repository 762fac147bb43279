use Rattle.std.proofs.Common.{◌≡◌, refl, subst, ℕ, arith, List, [], ◌∷◌, length, map, get_or}
use Rattle.tick_model.{specs.declared.plan.Op.Op, specs.Operators.inputs_of}
use Rattle.tick_table.specs.Ticking.{no_rows}
use Rattle.agg_by.specs.Made.{KeepsFirst}
use Rattle.agg_by.proofs.in_plan.AggregationTableOperator.of.Goals as goal

only_width : (widths : List ℕ) → length widths ≡ 1 → get_or widths 0 0 ∷ [] ≡ widths
only_width [] h = absurd (omega (arith, h))
only_width (width ∷ []) h = refl
only_width (width ∷ other ∷ widths) h = absurd (omega (arith, h))

pub returns-clause-stands : goal.returns-clause-stands
returns-clause-stands c =
    let long = subst (λ (op : Op). length c.args.widths.now ≡ length (inputs_of op)) c.in-Agg.is c.requires.count in
    subst (λ (widths : List ℕ). KeepsFirst c.new.result (map no_rows widths)) (only_width c.args.widths.now long) c.new.ensures.keeps
