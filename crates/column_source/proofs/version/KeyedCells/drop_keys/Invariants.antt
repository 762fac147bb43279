use Rattle.std.proofs.Common.{◌≡◌}
use Rattle.chunk_list.specs.Chunked.{joined}
use Rattle.column_source.{specs.Entries.left_entries, proofs.Paired.cells_of}
use Rattle.column_source.proofs.version.KeyedCells.drop_keys.Given as goal

abbrev pub invariant-loop-key : goal.invariant-loop-key
invariant-loop-key l = record {
  keys : l.self-inside.keys ≡ l.initial.self-inside.keys;
  cells : joined l.self-inside.cells ≡ cells_of (left_entries l.yielded l.fn.self);
}
