-- The plan of made runs, which is that of this script:
--     table trades sym:text side:long qty:long px:long
--     table ref id:text sector:text lot:long
--     big = where trades qty >= 50
--     val = view big notional = qty * px
--     j = join val ref on sym = id take sector
--     bysec = agg j by sector do n = count, total = sum notional, top = max px
--     srt = sort j -notional
--     top10 = head 10 srt
--     both = merge trades big
--     print bysec
--     print top10
--     publish bysec 64
--     publish top10 10
use Rattle.std.specs.Prelude.{ℕ, List, [], ◌∷◌, ◌++◌, true, pos, codes}
use Rattle.tick_model.{specs.declared.plan.Agg.TheVariants.{Count, Sum, Max}, specs.declared.plan.Choice.TheVariants.Error, specs.declared.plan.ColumnSpec.ColumnSpec, specs.declared.plan.Comparison.TheVariants.Ge, specs.declared.plan.Expr.{Cell, Number}, specs.declared.plan.Kind.Kind, specs.declared.plan.Kind.TheVariants.{Long, Text}, specs.declared.plan.Node.Node, specs.declared.plan.Op.Op, specs.declared.plan.Op.TheVariants.{Source, Keep, View, Join, Agg, Merge, Sort, Head}, specs.declared.plan.Plan.Plan, specs.declared.plan.Pred.Compare}
use Rattle.script_reader.specs.Plain.{mul}

abbrev pub column : List ℕ → Kind → ColumnSpec
column name kind = record { name = name; kind = kind }

abbrev pub trades_columns : List ColumnSpec
trades_columns = column (codes "sym") Text ∷ column (codes "side") Long ∷ column (codes "qty") Long ∷ column (codes "px") Long ∷ []

abbrev pub ref_columns : List ColumnSpec
ref_columns = column (codes "id") Text ∷ column (codes "sector") Text ∷ column (codes "lot") Long ∷ []

abbrev pub val_columns : List ColumnSpec
val_columns = trades_columns ++ column (codes "notional") Long ∷ []

abbrev pub j_columns : List ColumnSpec
j_columns = val_columns ++ column (codes "sector") Text ∷ []

abbrev pub bysec_columns : List ColumnSpec
bysec_columns = column (codes "sector") Text ∷ column (codes "n") Long ∷ column (codes "total") Long ∷ column (codes "top") Long ∷ []

abbrev pub node : List ℕ → List ColumnSpec → Op → Node
node name columns op = record { name = name; columns = columns; op = op }

abbrev pub big : Node
big = node (codes "big") trades_columns (Keep 0 (Compare Ge (Cell 2) (Number (pos 50))))

abbrev pub val : Node
val = node (codes "val") val_columns (View 2 (mul (Cell 2) (Cell 3) ∷ []))

abbrev pub j : Node
j = node (codes "j") j_columns (Join 3 1 (record { left = 0; right = 0 } ∷ []) (1 ∷ []) Error)

abbrev pub bysec : Node
bysec = node (codes "bysec") bysec_columns (Agg 4 (5 ∷ []) (Count ∷ Sum 4 ∷ Max 3 ∷ []))

abbrev pub srt : Node
srt = node (codes "srt") j_columns (Sort 4 (record { column = 4; descending = true } ∷ []))

abbrev pub top10 : Node
top10 = node (codes "top10") j_columns (Head 6 10)

abbrev pub both : Node
both = node (codes "both") trades_columns (Merge (0 ∷ 2 ∷ []))

abbrev pub nodes : List Node
nodes = node (codes "trades") trades_columns Source ∷ node (codes "ref") ref_columns Source ∷ big ∷ val ∷ j ∷ bysec ∷ srt ∷ top10 ∷ both ∷ []

abbrev pub plan : Plan
plan = record {
  nodes = nodes;
  printed = 5 ∷ 7 ∷ [];
  published = record { node = 5; width = 4; limit = 64 } ∷ record { node = 7; width = 6; limit = 10 } ∷ [];
}
