use Rattle.std.proofs.Common.{◌≡◌, ◌+◌, sym, subst, map, take, arith, [], ◌∷◌}
use Rattle.std.{specs.List.AllByRecursion, proofs.lemmas.Grind.common_steps}
use Rattle.key_lists.proofs.Every.{every-append}
use Rattle.agg_by.specs.Kept.{AnswerAll, Answers, agg_of}
use Rattle.agg_by.proofs.running.begun.Goals as goal

pub loop-agg-preserved : goal.loop-agg-preserved
loop-agg-preserved c = λ by names.
    let so_far : AnswerAll by names (take c.loop-agg.agg-index c.args.aggs.now) [] c.loop-agg.all.items = c.loop-agg.invariant by names in
    let all : map agg_of c.loop-agg.all.items ≡ take c.loop-agg.agg-index c.args.aggs.now = so_far.0 in
    let made : map agg_of c.push.new.self.items ≡ take (c.loop-agg.agg-index + 1) c.args.aggs.now = grind (arith, common_steps) in (
      made,
      subst (AllByRecursion (Answers by names [])) (sym c.in_ok-push.ensures.items)
          (every-append (Answers by names []) c.loop-agg.all.items (c.new.result ∷ []) so_far.1 (c.new.ensures.answers by names, tt)),
    )

pub returns : goal.returns
returns c = λ by names.
    let so_far : AnswerAll by names (take c.loop-agg.agg-index c.args.aggs.now) [] c.loop-agg.all.items = c.loop-agg.invariant by names in
    let all : map agg_of c.loop-agg.all.items ≡ take c.loop-agg.agg-index c.args.aggs.now = so_far.0 in
    let made : map agg_of c.loop-agg.all.items ≡ c.args.aggs.now = grind (arith, common_steps) in
    (made, so_far.1)
