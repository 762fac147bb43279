use Rattle.std.proofs.Common.{ap, ◌∙◌, sym, arith}
use Rattle.snapshot_store.proofs.Keeps.{takes}
use Rattle.snapshot_store.proofs.store.Store.try_turn.Goals as goal

pub compare_exchange-found-requires : goal.compare_exchange-found-requires
compare_exchange-found-requires c = (
  c.requires.own ∙ sym (ap (λ z. z.table) c.self.view_is),
  (let w = c.self.invariant.words in omega arith),
  takes _ _ _ _ c.requires.quiet,
)
