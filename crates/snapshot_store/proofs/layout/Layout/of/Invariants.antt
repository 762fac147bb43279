use Rattle.std.proofs.Common.{◌≡◌, ℕ, ◌<◌, ◌≤◌, get_or, length, take, vec_capacity}
use Rattle.snapshot_store.specs.Lines.{size_in, start_in}
use Rattle.snapshot_store.proofs.layout.Layout.of.Given as goal

abbrev pub invariant-loop-table : goal.invariant-loop-table
invariant-loop-table l = record {
  tables : l.tables.items ≡ take l.table-index l.published-2;
  starts : length l.starts.items ≡ l.table-index;
  rooms : (length l.published-2 ≤ vec_capacity l.tables) × (length l.published-2 ≤ vec_capacity l.starts);
  all : l.bank ≡ start_in l.published-2 l.table-index;
  each : (p : ℕ) → p < l.table-index → get_or l.starts.items p 0 ≡ start_in l.published-2 p;
  largest : (p : ℕ) → p < l.table-index → size_in l.published-2 p ≤ l.largest;
}
