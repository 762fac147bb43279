use Rattle.key_lists.proofs.Rising.{rising_same}
use Rattle.key_lists.proofs.rising_lists_are_sets.Goals as goal

pub returns : goal.returns
returns c = rising_same
