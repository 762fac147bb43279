-- What makes a run lawful: its plan, its opening, its batches and its texts keep the rules of scripts, table files and feeds.
use Rattle.std.{specs.Prelude.{◌≡◌, ℕ, ◌+◌, ◌^◌, ◌<◌, ◌≤◌, ◌&&◌, Bool, true, false, List, [], ◌∷◌, filter, length, slice_get, FitsSigned}, specs.Option.option_map_or, specs.List.{AllByRecursion, list_all, range_with_len}, specs.Int.w64, specs.Ordering.{is_lt, nat_cmp}, specs.Cmp.Lexicographic.slice_cmp}
use Rattle.key_lists.specs.Keys.{IsRising}
use Rattle.tick_model.{specs.declared.feed.Block.Block, specs.declared.feed.Run.Run, specs.declared.plan.ColumnSpec.ColumnSpec, specs.declared.plan.Expr.{Expr, Cell, Number, Null, Literal, Rank, Neg', Add', Sub', Mul'}, specs.declared.plan.Node.Node, specs.declared.plan.Op.Op, specs.declared.plan.Op.TheVariants.{Keep, View}, specs.declared.plan.Plan.Plan, specs.declared.plan.Pred.{Pred, Compare, And', Or', Not'}, specs.declared.table.PlainRow.PlainRow, specs.declared.table.PlainTable.PlainTable, specs.declared.update.KeyRange.KeyRange, specs.Tables.keys, specs.Evaluation.is_source, specs.Plans.{is_lawful, columns_at}, specs.Numbers.HasPlanNumbers, specs.Printable.{IsShift, IsShiftRange, fit_columns, names_text}, specs.Changes.is_none}

-- each rank of a plan is that of a text
abbrev pub has_ranks : ℕ → Expr → Bool
has_ranks texts (Cell column) = true
has_ranks texts (Number n) = true
has_ranks texts Null = true
has_ranks texts (Literal text) = true
has_ranks texts (Rank rank) = names_text texts rank
has_ranks texts (Neg' p a) = has_ranks texts a
has_ranks texts (Add' p a q b) = has_ranks texts a && has_ranks texts b
has_ranks texts (Sub' p a q b) = has_ranks texts a && has_ranks texts b
has_ranks texts (Mul' p a q b) = has_ranks texts a && has_ranks texts b

abbrev pub has_test_ranks : ℕ → Pred → Bool
has_test_ranks texts (Compare how a b) = has_ranks texts a && has_ranks texts b
has_test_ranks texts (And' p a q b) = has_test_ranks texts a && has_test_ranks texts b
has_test_ranks texts (Or' p a q b) = has_test_ranks texts a && has_test_ranks texts b
has_test_ranks texts (Not' p a) = has_test_ranks texts a

abbrev pub has_op_ranks : ℕ → Op → Bool
has_op_ranks texts (Keep input test) = has_test_ranks texts test
has_op_ranks texts (View input exprs) = list_all (has_ranks texts) exprs
has_op_ranks texts op = true

-- a row of a source: a cell for each column
pub record IsSourceRow (columns : List ColumnSpec) (texts : ℕ) (row : PlainRow) : Type 0 where
  pub key : row.key < 2 ^ 40
  pub cells : fit_columns texts columns row.cells ≡ true
  pub numbers : AllByRecursion (FitsSigned w64) row.cells

-- an opening table has its rows under the keys 0, 1, 2 and so on
pub record IsOpening (columns : List ColumnSpec) (texts : ℕ) (table : PlainTable) : Type 0 where
  pub width : table.width ≡ length columns
  pub count : length table.rows ≤ 4194304
  pub keys_are : keys table.rows ≡ range_with_len 0 (length table.rows)
  pub rows : AllByRecursion (IsSourceRow columns texts) table.rows

abbrev pub sources_of : List Node → List Node
sources_of nodes = filter is_source nodes

-- whether a number is that of a source
abbrev pub is_source_number : List Node → ℕ → Bool
is_source_number nodes number = option_map_or is_source (slice_get nodes number) false

abbrev pub AreOpenings : List Node → ℕ → List PlainTable → Type 0
AreOpenings [] texts [] = Unit {0}
AreOpenings [] texts (table ∷ tables) = ⊥
AreOpenings (source ∷ others) texts [] = ⊥
AreOpenings (source ∷ others) texts (table ∷ tables) = IsOpening source.columns texts table × AreOpenings others texts tables

-- removed ranges ascend and are disjoint
abbrev pub AreRanges : List KeyRange → Type 0
AreRanges [] = Unit {0}
AreRanges (range ∷ ranges) = (range.first ≤ range.last) × (range.last < 2 ^ 40) × AllByRecursion (λ next. range.last < next.first) ranges × AreRanges ranges

abbrev pub record_count : Block → ℕ
record_count block = length block.removed + length block.shifts + length block.added + length block.modified

pub record IsLawfulBlock (plan : Plan) (texts : ℕ) (block : Block) : Type 0 where
  pub source : is_source_number plan.nodes block.table ≡ true
  pub removed : AreRanges block.removed
  pub shifts : IsShift block.shifts
  pub ranges : AllByRecursion (IsShiftRange (2 ^ 40)) block.shifts
  pub added : AllByRecursion (IsSourceRow (columns_at plan.nodes block.table) texts) block.added
  pub modified : AllByRecursion (IsSourceRow (columns_at plan.nodes block.table) texts) block.modified
  pub added_rise : IsRising (keys block.added)
  pub modified_rise : IsRising (keys block.modified)
  pub records : block.number + record_count block < 2 ^ 64

-- texts are not empty, and rise in the order of their bytes
abbrev pub is_before : List ℕ → List ℕ → Bool
is_before a b = is_lt (slice_cmp nat_cmp a b)

abbrev pub AreTexts : List (List ℕ) → Type 0
AreTexts [] = Unit {0}
AreTexts (text ∷ texts) = (is_none text ≡ false) × AllByRecursion (λ later. is_before text later ≡ true) texts × AreTexts texts

pub record IsLawfulRun (run : Run) : Type 0 where
  pub plan : is_lawful run.plan ≡ true
  pub numbers : HasPlanNumbers run.plan
  pub ranks : AllByRecursion (λ node. has_op_ranks (length run.texts) node.op ≡ true) run.plan.nodes
  pub opening : AreOpenings (sources_of run.plan.nodes) (length run.texts) run.opening
  pub steps : length run.batches ≤ 100000
  pub batches : AllByRecursion (λ batch. AllByRecursion (IsLawfulBlock run.plan (length run.texts)) batch.blocks) run.batches
  pub texts : AreTexts run.texts
