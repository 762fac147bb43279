use Rattle.std.proofs.Common.{sym, ◌∙◌, subst}
use Rattle.row_set.{specs.Ranges.AreRanges, specs.Runs.lying, proofs.Counts.apart_ranges}
use Rattle.row_set.proofs.runs.Runs.gather.Goals as goal

pub recount-requires-clause-ranges : goal.recount-requires-clause-ranges
recount-requires-clause-ranges c = subst AreRanges (sym (c.deref.ensures.value ∙ c.cut.ensures.items)) (apart_ranges (lying c.args.self.now) c.requires.apart)
