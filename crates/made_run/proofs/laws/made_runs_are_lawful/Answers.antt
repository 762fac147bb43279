use Rattle.std.proofs.Common.{sym, subst}
use Rattle.tick_model.specs.LawfulRuns.{IsLawfulRun}
use Rattle.made_run.{proofs.Lawful.made_is_lawful, proofs.PlainRuns.lawful_from_plain}
use Rattle.made_run.proofs.laws.made_runs_are_lawful.Goals as goal

pub returns-clause-made : goal.returns-clause-made
returns-clause-made c = made_is_lawful

pub returns-clause-anywhere : goal.returns-clause-anywhere
returns-clause-anywhere c steps run few same = lawful_from_plain run (subst IsLawfulRun (sym same) (made_is_lawful steps few))
