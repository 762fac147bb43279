use Rattle.std.proofs.Common.{◌∙◌, ap, sym}
use Rattle.row_set.{specs.Ranges.{keys_of, ranges_of}, specs.Runs.lying, proofs.Apart.stored_set, proofs.Longest.ranges_of-keys_of}
use Rattle.row_set.proofs.rows.RowSet.ranges.Goals as goal

pub returns-clause-keys : goal.returns-clause-keys
returns-clause-keys c = stored_set c.args.self.now c.self.inside.runs c.self.view_is c.self.invariant

pub returns-clause-ranges : goal.returns-clause-ranges
returns-clause-ranges c = c.as_slice.ensures ∙ sym (ranges_of-keys_of 0 (lying c.self.inside.runs) c.self.invariant.apart) ∙ ap ranges_of c.self.view_is

pub returns-clause-held : goal.returns-clause-held
returns-clause-held c = ap keys_of c.as_slice.ensures ∙ c.self.view_is
