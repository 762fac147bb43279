use Rattle.script_laws.proofs.Lawful.{script_written}
use Rattle.script_laws.proofs.formulas.read_literals_are_texts.Goals as goal

pub returns : goal.returns
returns c bytes script read = (script_written bytes script read).literals
