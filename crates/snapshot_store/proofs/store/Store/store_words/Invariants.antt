use Rattle.std.proofs.Common.{◌≡◌, ◌+◌}
use Rattle.snapshot_store.{specs.Views.IsSameSight, specs.Models.{IsSamePlace, words_of}, specs.declared.board.Doing.TheVariants.Writing}
use Rattle.snapshot_store.proofs.store.Store.store_words.Given as goal

abbrev pub invariant-loop-i : goal.invariant-loop-i
invariant-loop-i l = record {
  stays : IsSamePlace l.initial.place l.place × IsSameSight l.initial.place.me.0 l.place.me.0;
  writing : l.place.me.0.doing ≡ Writing l.step (words_of l.self.run (l.step + 1) l.number + l.i);
}
