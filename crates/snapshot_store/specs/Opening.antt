-- The words with which a store begins.
--     AreFirst run tables      the published tables at step 0, each within its limit
--     AreOpening run words      the words of a store whose clock is 1: bank 0 holds step 0, and the turn is free
use Rattle.std.specs.Prelude.{◌≡◌, ℕ, ◌+◌, ◌*◌, ◌<◌, ◌≤◌, List, length, slice_index, slice_index_or}
use Rattle.tick_model.{specs.declared.feed.Run.Run, specs.declared.table.PlainTable.PlainTable, specs.Tables.no_table}
use Rattle.snapshot_store.{specs.Lines.{count, limit, total, spot, line_of, published_table, IsWhole}, specs.Rule.{Stands, Holds}}

pub record AreFirst (run : Run) (tables : List PlainTable) : Type 0 where
  pub as_many : length tables ≡ count run
  pub each : (p : ℕ) → p < count run → slice_index_or tables p no_table ≡ published_table run 0 p
  pub few : (p : ℕ) → p < count run → length (published_table run 0 p).rows ≤ limit run p

pub record AreOpening (run : Run) (words : List ℕ) : Type 0 where
  pub long : length words ≡ 2 + 2 * total run
  pub clock : slice_index words 0 ≡ 1
  pub free : slice_index words 1 ≡ 0
  pub holds : Holds run words 0
  pub whole : (p : ℕ) → p < count run → IsWhole run 0 p
  pub few : (bank p : ℕ) → bank < 2 → p < count run → slice_index words (spot run bank p 0) ≤ limit run p

-- the same, where the first n tables are laid
pub record IsLaying (run : Run) (words : List ℕ) (n : ℕ) : Type 0 where
  pub long : length words ≡ 2 + 2 * total run
  pub clock : slice_index words 0 ≡ 1
  pub free : slice_index words 1 ≡ 0
  pub done : (p i : ℕ) → p < n → p < count run → i < length (line_of run 0 p) → Stands run words 0 p i
  pub whole : (p : ℕ) → p < n → p < count run → IsWhole run 0 p
  pub few : (bank p : ℕ) → bank < 2 → p < count run → slice_index words (spot run bank p 0) ≤ limit run p
