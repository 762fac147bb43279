use Rattle.script_lines.proofs.LinesKept.{line_keeps_rules}
use Rattle.script_lines.proofs.laws.read_lines_keep_rules.Goals as goal

pub returns : goal.returns
returns c = line_keeps_rules
