use Rattle.viewport.proofs.Subscriptions.{message_is, pass_follows, start_follows}
use Rattle.viewport.proofs.laws.viewports_follow_runs.Goals as goal

pub returns-clause-start : goal.returns-clause-start
returns-clause-start c = λ run node slice step h within r. start_follows run h node within slice step r

pub returns-clause-pass : goal.returns-clause-pass
returns-clause-pass c = λ run node slice step more h within r. pass_follows run h node within slice step more r

pub returns-clause-message : goal.returns-clause-message
returns-clause-message c = message_is
