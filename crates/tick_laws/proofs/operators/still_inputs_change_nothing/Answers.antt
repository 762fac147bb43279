use Rattle.std.proofs.Common.{◌≡◌, true}
use Rattle.key_lists.proofs.Every.{every_both, every_weaker}
use Rattle.tick_model.{specs.Changes.is_empty, specs.Operators.inputs_of, specs.Tables.IsTable, specs.Updates.{IsTick, between}}
use Rattle.tick_laws.proofs.StillTicks.{IsStill, operator_stays, still_by_empty}
use Rattle.tick_laws.proofs.operators.still_inputs_change_nothing.Goals as goal

pub returns : goal.returns
returns c op tick h empty =
    operator_stays op tick
    (every_both (λ n. IsTick (tick n)) (λ n. is_empty (between (tick n)) ≡ true) (λ n. IsStill (tick n)) (inputs_of op) (λ n t e. still_by_empty (tick n) t e) h empty)
    (every_weaker (λ n. IsTick (tick n)) (λ n. IsTable (tick n).old) (inputs_of op) (λ n t. t.old_table) h)
