use Rattle.std.proofs.Common.{◌≡◌, slice_index, vec_len, vec_capacity}
use Rattle.snapshot_store.{specs.Views.IsSameSight, specs.Models.IsSamePlace, specs.declared.board.Doing.TheVariants.Reading}
use Rattle.snapshot_store.proofs.store.Store.read_rows.Given as goal

abbrev pub invariant-loop-i : goal.invariant-loop-i
invariant-loop-i l = record {
  stays : IsSamePlace l.initial.place l.place × IsSameSight l.initial.place.me.0 l.place.me.0;
  reading : l.place.me.0.doing ≡ Reading l.number l.first l.words.items;
  as_many : vec_len l.words ≡ l.i;
  head : slice_index l.words.items 0 ≡ slice_index l.initial.words.items 0;
  room : vec_capacity l.words ≡ vec_capacity l.initial.words;
}
