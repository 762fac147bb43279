-- A step of what runs is one of the plan's operator that it is made of.
use Rattle.std.proofs.Common.{◌≡◌, ap, ap₂, sym, ◌∙◌, subst, ℕ, ◌+◌, ◌*◌, ◌≤◌, List}
use Rattle.std.specs.Prelude.{sum}
use Rattle.tick_model.{specs.declared.plan.Op.Op, specs.declared.table.PlainTable.PlainTable, specs.Changes.{Change, change_of}, specs.Operators.{fault_of, result_width}, specs.Ready.table_in, specs.Updates.Tick}
use Rattle.tick_laws.specs.Operated.{operated}
use Rattle.tick_table.{specs.Exact.counted, specs.Ticking.Ticking}
use Rattle.table_operator.{specs.Inputs.{counted_in, tick_in}, specs.Made.{IsMadeOf, Made, own_fault, own_tick, room_for}}
use Rattle.operators.{specs.declared.running.AnyOperator.AnyOperator, specs.Inputs.{AreTables, AreTicks}, specs.Operating.made_of}

module _ (op : Op) (made : Made) (is : IsMadeOf op made) (inputs : List Ticking) where
  pub own_tick_is : (tick : ℕ → Tick) → AreTicks op tick inputs → own_tick made inputs ≡ operated op tick
  own_tick_is tick those = sym (is.tick tick ∙ ap (λ (ticks : List Tick). operated made.op (tick_in ticks)) those)

  pub own_fault_is : (table : ℕ → PlainTable) → AreTables op table inputs → own_fault made inputs ≡ fault_of op table
  own_fault_is table those = sym (is.fault table ∙ ap (λ (tables : List PlainTable). fault_of made.op (table_in tables)) those)

  pub room_is : (tick : ℕ → Tick) → AreTicks op tick inputs → room_for made inputs ≡ 4 * (sum made.widths + result_width op made.widths) * (counted_in inputs + counted (change_of (operated op tick)).update)
  room_is tick those = ap₂ (λ (width : ℕ) (own : Tick). 4 * (sum made.widths + width) * (counted_in inputs + counted (change_of own).update)) (sym is.width) (own_tick_is tick those)

-- what runs is the one of which this is known
module _ (self running : AnyOperator) (is : self ≡ running) (inputs : List Ticking) where
  pub as_change : (told : Change) → told ≡ change_of (own_tick (made_of running) inputs) → told ≡ change_of (own_tick (made_of self) inputs)
  as_change told = subst (λ (running : AnyOperator). told ≡ change_of (own_tick (made_of running) inputs)) (sym is)

  pub as_reads : (reads first : ℕ) → reads ≤ first + room_for (made_of running) inputs → reads ≤ first + room_for (made_of self) inputs
  as_reads reads first = subst (λ (running : AnyOperator). reads ≤ first + room_for (made_of running) inputs) (sym is)
