-- What an operator at one end of its input keeps, and the rows at that end.
--     Limit      how many rows it shows at most, and the width of its input
--     Kept      the same, and the keys of the rows that it shows
--     headed count tick      the tick of the first rows, from that of the input
--     tailed count tick      that of the last ones
--     at_end end n xs      the elements before a position, or those from it on
--     cut end count rows      the position that parts the rows that are shown from the others, of so many rows
--     end_table end count, ended end count      the first rows or the last of a table, and their tick
use Rattle.std.specs.Prelude.{ℕ, ◌-◌, List, take, drop}
use Rattle.head_tail.{specs.declared.end.End.End, specs.declared.end.End.TheVariants.{First, Last}}
use Rattle.tick_model.{specs.declared.plan.Op.TheVariants.{Head, Tail}, specs.declared.table.PlainTable.PlainTable, specs.HeadTail.{head_table, tail_table}, specs.Updates.Tick}
use Rattle.tick_laws.specs.Operated.{operated}

pub record Limit : Type 0 where
  pub count : ℕ
  pub width : ℕ

pub record Kept : Type 0 where
  pub count : ℕ
  pub width : ℕ
  pub shown : List ℕ

abbrev pub headed : ℕ → Tick → Tick
headed count input = operated (Head 0 count) (λ _. input)

abbrev pub tailed : ℕ → Tick → Tick
tailed count input = operated (Tail 0 count) (λ _. input)

abbrev pub at_end : {X : Type 0} → End → ℕ → List X → List X
at_end First n xs = take n xs
at_end Last n xs = drop n xs

abbrev pub cut : End → ℕ → ℕ → ℕ
cut First count rows = count
cut Last count rows = rows - count

abbrev pub end_table : End → ℕ → PlainTable → PlainTable
end_table First = head_table
end_table Last = tail_table

abbrev pub ended : End → ℕ → Tick → Tick
ended First = headed
ended Last = tailed
