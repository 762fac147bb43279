use Rattle.std.proofs.Common.{◌≡◌, map, take, Ok}
use Rattle.script_reader.{specs.Checks.exprs_of, specs.Plain.plain}
use Rattle.script_reader.proofs.expressions.exprs_of.Given as goal

abbrev pub invariant-loop-column : goal.invariant-loop-column
invariant-loop-column l = exprs_of l.columns l.initial.literals (take l.column-index l.computed) ≡ Ok (map plain l.exprs, l.literals)
