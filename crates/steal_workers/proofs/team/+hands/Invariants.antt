use Rattle.std.proofs.Common.{◌+◌, ◌*◌, vec_len}
use Rattle.steal_workers.proofs.team.+hands.Given as goal

-- a hand less for each closure, and the closure before the call in it
abbrev pub decreases-join+arg2 : goal.decreases-join+arg2
decreases-join+arg2 g l = 2 * vec_len l.half + 1

abbrev pub decreases-join+arg3 : goal.decreases-join+arg3
decreases-join+arg3 g l = 2 * vec_len l.others + 1

abbrev pub decreases-work_together : goal.decreases-work_together
decreases-work_together g l = 2 * vec_len l.others
