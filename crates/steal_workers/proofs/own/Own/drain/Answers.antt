use Rattle.steal_workers.proofs.Tallies.{whole_length}
use Rattle.steal_workers.proofs.own.Own.drain.Goals as goal

pub len_as-end-requires : goal.len_as-end-requires
len_as-end-requires c = whole_length _ _ c.requires
