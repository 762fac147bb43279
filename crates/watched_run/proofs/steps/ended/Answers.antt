use Rattle.std.proofs.Common.{◌≡◌, ap, subst, Err}
use Rattle.replay.{specs.Outcomes.IsTold, proofs.Exits.all_written}
use Rattle.watched_run.proofs.Tellings.{told_unless}
use Rattle.watched_run.proofs.steps.ended.Goals as goal

pub returns-in-Memory-clause-told : goal.returns-in-Memory-clause-told
returns-in-Memory-clause-told g c = λ told. absurd (subst IsTold c.in-Memory.is told)

pub returns-in-Ok-clause-told : goal.returns-in-Ok-clause-told
returns-in-Ok-clause-told g c = λ told. all_written _ _ _ c.in-Ok.ensures.whole

pub returns-in-Ok-clause-untold : goal.returns-in-Ok-clause-untold
returns-in-Ok-clause-untold g c = λ untold. absurd (untold (told_unless c.args.outcome c.in_default.not-Memory c.requires.no_write))

pub returns-in-Ok-clause-failed : goal.returns-in-Ok-clause-failed
returns-in-Ok-clause-failed g c = λ is. absurd (c.requires.no_write is)

pub returns-in-Err-clause-untold : goal.returns-in-Err-clause-untold
returns-in-Err-clause-untold g c = λ untold. absurd (untold (told_unless c.args.outcome c.in_default.not-Memory c.requires.no_write))
