use Rattle.std.proofs.Common.{◌∙◌, ap, arith}
use Rattle.feed_reader.{specs.Coding.rank_of, proofs.TextLemmas.{rank_there, rank_absent, rank_within}}
use Rattle.feed_reader.proofs.ranks.Ranks.rank.Goals as goal

pub returns-in-Some-clause-place : goal.returns-in-Some-clause-place
returns-in-Some-clause-place c =
    rank_there c.args.text.now c.self.inside.texts.now c.in-Some.rank.now (c.in-Some.ensures.value ∙ c.self.invariant c.args.text.now)
    ∙ ap (λ texts. rank_of texts c.args.text.now) c.self.view_is

pub returns-in-Some-clause-small : goal.returns-in-Some-clause-small
returns-in-Some-clause-small c =
    let texts = c.self.inside.texts.now in
    let is = rank_there c.args.text.now texts c.in-Some.rank.now (c.in-Some.ensures.value ∙ c.self.invariant c.args.text.now) in
    omega (arith, is, rank_within c.args.text.now texts)

pub returns-in-None-clause-place : goal.returns-in-None-clause-place
returns-in-None-clause-place c =
    rank_absent c.args.text.now c.self.inside.texts.now (c.in-None.ensures.value ∙ c.self.invariant c.args.text.now)
    ∙ ap (λ texts. rank_of texts c.args.text.now) c.self.view_is
