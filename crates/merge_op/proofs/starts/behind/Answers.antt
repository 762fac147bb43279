use Rattle.std.proofs.Common.{ap₂, ◌+◌, arith}
use Rattle.merge_op.specs.Regions.{start_at}
use Rattle.merge_op.proofs.starts.behind.Goals as goal

pub overflow_add-result : goal.overflow_add-result
overflow_add-result c = omega (arith, c.room_in.ensures.small, c.requires.before)

pub overflow_add-result-2 : goal.overflow_add-result-2
overflow_add-result-2 c = omega (arith, c.room_in-2.ensures.small, c.requires.now)

pub returns : goal.returns
returns c = ap₂ (λ a b. start_at (c.args.start.before + a) (c.args.start.now + b)) c.room_in.ensures.room c.room_in-2.ensures.room
