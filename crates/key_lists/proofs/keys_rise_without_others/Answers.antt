use Rattle.std.specs.Prelude.{not}
use Rattle.key_lists.{specs.Keys.is_among, proofs.Rising.rising_some}
use Rattle.key_lists.proofs.keys_rise_without_others.Goals as goal

pub returns : goal.returns
returns c = λ others keys. rising_some (λ key. not (is_among key others)) keys
