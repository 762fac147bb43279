use Rattle.std.proofs.Common.{ap, ◌∙◌, sym, arith}
use Rattle.snapshot_store.proofs.Keeps.{gives}
use Rattle.snapshot_store.proofs.store.Store.give_turn.Goals as goal

pub store-requires : goal.store-requires
store-requires c = (
  c.requires.own ∙ sym (ap (λ z. z.table) c.self.view_is),
  (let w = c.self.invariant.words in omega arith),
  gives _ _ _ _ c.requires.quiet c.requires.turn,
)

pub wake_one-requires : goal.wake_one-requires
wake_one-requires c = let w = c.self.invariant.words in omega arith
