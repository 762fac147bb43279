use Rattle.tick_laws.proofs.SliceTicks.{slice_first_tick, slice_is_tick}
use Rattle.tick_laws.proofs.slices.slices_are_ticks.Goals as goal

pub returns-clause-first : goal.returns-clause-first
returns-clause-first c = slice_first_tick

pub returns-clause-later : goal.returns-clause-later
returns-clause-later c = slice_is_tick
