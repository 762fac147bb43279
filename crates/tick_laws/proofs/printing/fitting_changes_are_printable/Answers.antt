use Rattle.tick_laws.proofs.PrintedChanges.{change_printable}
use Rattle.tick_laws.proofs.printing.fitting_changes_are_printable.Goals as goal

pub returns : goal.returns
returns c = change_printable
