use Rattle.viewport.proofs.Subscriptions.{mirror_follows}
use Rattle.viewport.proofs.laws.mirrors_follow_subscriptions.Goals as goal

pub returns : goal.returns
returns c = λ run node slice step steps h within r. mirror_follows run h node within slice step steps r
