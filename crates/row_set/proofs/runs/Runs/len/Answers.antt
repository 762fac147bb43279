use Rattle.std.proofs.Common.{◌∙◌, ap, length, arith}
use Rattle.row_set.{specs.Runs.lying, proofs.Counts.keys_before_all}
use Rattle.row_set.proofs.runs.Runs.len.Goals as goal

pub returns : goal.returns
returns c = c.keys_before.ensures ∙ keys_before_all (length c.as_slice.result.now) (lying c.args.self.now) (omega (arith, ap length c.as_slice.ensures))
