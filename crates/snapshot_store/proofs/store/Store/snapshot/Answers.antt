use Rattle.snapshot_store.proofs.Calls.{by_turn_later, moved_on}
use Rattle.snapshot_store.proofs.store.Store.snapshot.Goals as goal
