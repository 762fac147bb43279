use Rattle.script_reader.{specs.SoFar.so_far, proofs.Fold.{one_line, refused_line}}
use Rattle.script_reader.proofs.reader.after_numbered.Goals as goal

pub returns-in-Ok-clause-said : goal.returns-in-Ok-clause-said
returns-in-Ok-clause-said c = λ later. one_line c.args.number (so_far c.args.known) (so_far c.in-Ok.known) c.args.line.now later c.in-Ok.ensures

pub returns-in-Err-clause-refused : goal.returns-in-Err-clause-refused
returns-in-Err-clause-refused c = λ later. rw c.at_line.ensures (refused_line c.args.number (so_far c.args.known) c.args.line.now later c.in-Err.fault c.in-Err.ensures)
