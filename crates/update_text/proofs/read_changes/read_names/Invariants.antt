use Rattle.std.proofs.Common.{◌≡◌, ℕ, List, ◌++◌, ◌<◌, length, map, true}
use Rattle.std.specs.List.{AllByRecursion}
use Rattle.key_lists.specs.Keys.{IsRising}
use Rattle.tick_model.{specs.declared.plan.ColumnSpec.ColumnSpec, specs.Names.are_distinct, specs.Texts.column_name}
use Rattle.update_text.specs.Reading.{next_fields}
use Rattle.update_text.proofs.read_changes.read_names.Given as goal

-- the columns so far, and those that are still to come of those that are told
abbrev pub invariant-loop-field : goal.invariant-loop-field
invariant-loop-field l = record {
  rising : IsRising l.chosen;
  there : AllByRecursion (λ column. column < length l.columns) l.chosen;
  told :
      (places : List ℕ) (rest : List ℕ) → are_distinct (map (λ (column : ColumnSpec). column.name) l.columns) ≡ true → IsRising places →
      AllByRecursion (λ column. column < length l.columns) places → l.fn.bytes ≡ next_fields (map (column_name l.columns) places) rest →
      (todo : List ℕ) × AllByRecursion (λ column. column < length l.columns) todo × (l.rest ≡ next_fields (map (column_name l.columns) todo) rest) × (l.chosen ++ todo ≡ places);
}

abbrev pub decreases-loop-field : goal.decreases-loop-field
decreases-loop-field l = length l.rest
