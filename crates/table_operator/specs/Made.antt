-- What an operator is made of, and what a step of it may rely on and has to give.
--     Made      an operator of a plan over inputs that are numbered in order, and their widths
--     IsMadeOf op made      it makes of its inputs what this operator of a plan makes of the nodes that it reads
--     HasKeys op tables      there are keys enough for the rows that it makes
--     IsReady made Stands own inputs      the inputs are its own, and it stands for their rows before the step, when its own table was this one
--     own_tick made inputs, own_fault made inputs      the tick of its own table, and its fault where it has none now
--     IsCause fault own      what a step answers in place of a change, where its inputs' tables have this fault
--     room_for made inputs      how many cells a step may read
use Rattle.std.{specs.Prelude.{◌≡◌, ℕ, ◌+◌, ◌*◌, ◌^◌, ◌<◌, ◌≤◌, List, length, map, sum, Option, Some}, specs.List.AllByRecursion}
use Rattle.tick_model.{specs.declared.plan.Op.Op, specs.declared.plan.Op.TheVariants.Merge, specs.declared.table.NodeFault.NodeFault, specs.declared.table.PlainTable.PlainTable, specs.Changes.change_of, specs.Operators.{fault_of, inputs_of, result_width}, specs.Merge.merge_table, specs.Ready.table_in, specs.Tables.keys, specs.Updates.Tick}
use Rattle.tick_laws.specs.Operated.{operated}
use Rattle.tick_table.{specs.Exact.{IsExact, counted, tick_of}, specs.Ticking.Ticking}
use Rattle.table_operator.{specs.declared.fault.StepFault.StepFault, specs.declared.fault.StepFault.TheVariants.{Memory, Node}, specs.Inputs.{counted_in, news, olds, tick_in}}

pub record Made : Type 0 where
  pub op : Op
  pub widths : List ℕ

abbrev pub HasKeys : Op → List PlainTable → Type 0
HasKeys (Merge inputs) tables = AllByRecursion (λ key. key < 2 ^ 62) (keys (merge_table tables).rows)
HasKeys op tables = Unit {0}

pub record IsMadeOf (op : Op) (made : Made) : Type 0 where
  pub tick : (tick : ℕ → Tick) → operated op tick ≡ operated made.op (tick_in (map tick (inputs_of op)))
  pub fault : (table : ℕ → PlainTable) → fault_of op table ≡ fault_of made.op (table_in (map table (inputs_of op)))
  pub width : result_width op made.widths ≡ result_width made.op made.widths
  pub keys : (tables : List PlainTable) → HasKeys op tables → HasKeys made.op tables

abbrev pub own_tick : Made → List Ticking → Tick
own_tick made inputs = operated made.op (tick_in (map tick_of inputs))

pub record IsReady (made : Made) (Stands : List PlainTable → Type 0) (own : PlainTable) (inputs : List Ticking) : Type 0 where
  pub widths : map (λ (input : Ticking). input.new.width) inputs ≡ made.widths
  pub exact : AllByRecursion IsExact inputs
  pub rows : AllByRecursion (λ (input : Ticking). length input.new.rows ≤ 4194304) inputs
  pub shown : own ≡ (own_tick made inputs).old
  pub keys : HasKeys made.op (news inputs)
  pub stands : Stands (olds inputs)

abbrev pub own_fault : Made → List Ticking → Option NodeFault
own_fault made inputs = fault_of made.op (table_in (news inputs))

abbrev pub IsCause : StepFault → Option NodeFault → Type 0
IsCause Memory own = Unit {0}
IsCause (Node fault) own = own ≡ Some fault

-- what the updates of the inputs count and that of its own table
abbrev pub room_for : Made → List Ticking → ℕ
room_for made inputs = 4 * (sum made.widths + result_width made.op made.widths) * (counted_in inputs + counted (change_of (own_tick made inputs)).update)
