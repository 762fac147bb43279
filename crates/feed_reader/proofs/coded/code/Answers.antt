use Rattle.feed_reader.proofs.OrderLemmas.{texts_in_order, texts_noted}
use Rattle.feed_reader.proofs.coded.code.Goals as goal

pub returns-clause-ordered : goal.returns-clause-ordered
returns-clause-ordered c = texts_in_order c.in_ok-texts.texts c.as_slice.result.now c.as_slice-2.result.now c.args.feed c.in_ok-texts.ensures

pub returns-clause-noted : goal.returns-clause-noted
returns-clause-noted c =
    texts_noted c.in_ok-texts.texts c.as_slice.result.now c.args.literals.now c.as_slice-2.result.now c.args.tables c.args.feed
    c.as_slice.ensures c.as_slice-2.ensures c.in_ok-texts.ensures
