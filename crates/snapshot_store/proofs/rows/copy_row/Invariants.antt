use Rattle.std.proofs.Common.{◌≡◌, ◌++◌, ◌∷◌, ◌+◌, take, vec_len, vec_capacity}
use Rattle.std.{specs.Prelude.map, specs.Int.{w64, cast_unsigned}}
use Rattle.snapshot_store.proofs.rows.copy_row.Given as goal

abbrev pub invariant-loop-cell : goal.invariant-loop-cell
invariant-loop-cell l = record {
  words : l.words.items ≡ l.fn.words.items ++ l.key ∷ map (cast_unsigned w64) (take l.cell-index l.cells);
  long : vec_len l.words ≡ vec_len l.fn.words + (1 + l.cell-index);
  room : vec_capacity l.words ≡ vec_capacity l.fn.words;
}
