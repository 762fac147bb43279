use Rattle.tick_laws.proofs.SliceTicks.{slice_carries}
use Rattle.tick_laws.proofs.slices.messages_carry_slices.Goals as goal

pub returns : goal.returns
returns c = slice_carries
