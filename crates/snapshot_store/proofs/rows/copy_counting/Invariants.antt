use Rattle.std.proofs.Common.{◌≡◌, ◌≤◌, ◌∷◌, length, ◌+◌, ◌*◌, vec_len, vec_capacity}
use Rattle.std.specs.Prelude.{flat_map}
use Rattle.snapshot_store.proofs.RowWords.{words_at}
use Rattle.snapshot_store.proofs.rows.copy_counting.Given as goal

abbrev pub invariant-loop-key : goal.invariant-loop-key
invariant-loop-key g l = record {
  rows : l.rows ≡ l.table.new;
  words : l.words.items ≡ length l.table.new.rows ∷ flat_map (words_at l.table.new.rows) l.yielded;
  fits : vec_len l.words + length l.key-iterator * (1 + l.table.new.width) ≤ vec_capacity l.words;
  room : vec_capacity l.words ≡ vec_capacity l.fn.words;
}
