use Rattle.graph_words.proofs.Sentences.{is_delivered_once, is_delivered_by_from}
use Rattle.graph_words.proofs.laws.deliveries_stand_once.Goals as goal

pub returns-clause-once : goal.returns-clause-once
returns-clause-once g c = is_delivered_once _ _

pub returns-clause-from : goal.returns-clause-from
returns-clause-from g c = is_delivered_by_from _ _
