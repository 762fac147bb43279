-- The inputs of an operator of a plan.
--     AreTables op table inputs      the tables of the nodes that it reads are those of these inputs, now
--     AreTicks op tick inputs      their ticks are those of these inputs
--     IsShown op inputs own      this is the table that it makes of the inputs' tables before the step
use Rattle.std.specs.Prelude.{◌≡◌, ℕ, List, map}
use Rattle.tick_model.{specs.declared.plan.Op.Op, specs.declared.table.PlainTable.PlainTable, specs.Operators.inputs_of, specs.Updates.Tick}
use Rattle.tick_laws.specs.Operated.{operated}
use Rattle.tick_table.{specs.Exact.tick_of, specs.Ticking.Ticking}
use Rattle.table_operator.specs.Inputs.{news}

abbrev pub AreTables : Op → (ℕ → PlainTable) → List Ticking → Type 0
AreTables op table inputs = map table (inputs_of op) ≡ news inputs

abbrev pub AreTicks : Op → (ℕ → Tick) → List Ticking → Type 0
AreTicks op tick inputs = map tick (inputs_of op) ≡ map tick_of inputs

pub record IsShown (op : Op) (inputs : List Ticking) (own : PlainTable) : Type 0 where
  pub tick : ℕ → Tick
  pub those : AreTicks op tick inputs
  pub same : own ≡ (operated op tick).old
