use Rattle.tick_laws.proofs.ComposedThrice.{composed-associative}
use Rattle.tick_laws.proofs.updates.composing_is_associative.Goals as goal

pub returns : goal.returns
returns c = composed-associative
