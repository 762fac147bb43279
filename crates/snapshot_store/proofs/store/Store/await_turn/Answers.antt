use Rattle.std.proofs.Common.{arith}
use Rattle.snapshot_store.proofs.store.Store.await_turn.Goals as goal

pub peek-requires : goal.peek-requires
peek-requires g c = let w = c.self.invariant.words in omega arith

pub park-requires : goal.park-requires
park-requires g c = let w = c.self.invariant.words in omega arith
