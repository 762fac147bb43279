use Rattle.std.proofs.Common.{◌≡◌, ◌≤◌, vec_len, vec_capacity}
use Rattle.std.specs.List.{All}
use Rattle.snapshot_store.specs.Models.{IsNewCaller}
use Rattle.snapshot_store.proofs.store.Store.callers.Given as goal

abbrev pub invariant-loop : goal.invariant-loop
invariant-loop l = record {
  same : l.writer ≡ l.initial.writer;
  as_many : vec_len l.all ≡ l.counter;
  room : l.count ≤ vec_capacity l.all;
  new : All (IsNewCaller l.self) l.all.items;
}
