use Rattle.std.proofs.Common.{◌≡◌, ℕ, ◌+◌, ◌*◌, ◌^◌, ◌<◌, ◌≤◌, ◌++◌, ◌&&◌, ◌||◌, filter, length}
use Rattle.std.{specs.Prelude.nat_lt, specs.Iterator.Adapters.{zip_first, zip_second}, specs.List.{AllByRecursion, list_any}}
use Rattle.key_lists.specs.Keys.{is_among, IsRising}
use Rattle.shift_data.specs.Moves.{pairs_of}
use Rattle.tick_model.specs.Updates.{differs, differs_in, new_keys}
use Rattle.tick_table.specs.declared.version.Version.TheVariants.{Before, Now}
use Rattle.row_changes.specs.Parts.{AreThere, cells_under}
use Rattle.row_changes.proofs.told.compare_rows.Given as goal

-- the pairs that are still to come tell their keys and columns behind those that are told
abbrev pub invariant-loop-old : goal.invariant-loop-old
invariant-loop-old g l =
    let old = g.R.Rows.table l.rows Before in
    let new = g.R.Rows.table l.rows Now in
    let first = zip_first l.old-iterator in
    let second = zip_second l.old-iterator in record {
      before : AreThere old first;
      now : AreThere new second;
      small : AllByRecursion (λ key. key < 2 ^ 62) second;
      above : IsRising (l.told.modified ++ second);
      modified : l.told.modified ++ new_keys (filter (differs old new) (pairs_of first second)) ≡ new_keys (filter (differs old new) (pairs_of l.before l.now));
      columns : (column : ℕ) → (is_among column l.told.columns || (nat_lt column l.width && list_any (differs_in old new column) (pairs_of first second))) ≡ (nat_lt column l.width && list_any (differs_in old new column) (pairs_of l.before l.now));
      rising : IsRising l.told.columns;
      cells : l.told.cells.items ≡ l.initial.told.cells.items ++ cells_under new l.told.modified;
      reads : l.reads + g.R.Rows.row_reads l.rows * (2 * length second) ≤ l.fn.reads + g.R.Rows.row_reads l.rows * (2 * length l.now);
    }
