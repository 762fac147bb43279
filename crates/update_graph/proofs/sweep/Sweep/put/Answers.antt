use Rattle.std.proofs.Common.{ap₂, sym, ◌∙◌, ◌++◌, ◌∷◌, [], length}
use Rattle.std.proofs.lemmas.Bool.{not-true}
use Rattle.tick_model.specs.Evaluation.{is_source}
use Rattle.update_graph.{specs.Tags.{is_operator, node_at}, proofs.Numbering.{filter_more, no_next_source}, proofs.Sweeping.{tags_more, works_more}}
use Rattle.update_graph.proofs.sweep.Sweep.put.Goals as goal

pub returns-clause-swept : goal.returns-clause-swept
returns-clause-swept c =
    let n = length c.args.self.now.works.items in
    let is = not-true (is_source (node_at c.args.run.now n)) c.requires.operator in
    let count = c.len-node.ensures ∙ c.args.self.now.works.ok.0 in
    record {
      works = works_more c.args.run.now c.args.step n _ _ c.args.work c.in_ok-push.ensures.items c.requires.swept.works c.requires.work;
      shares = tags_more c.args.run.now c.args.step n _ _ c.args.share c.in_ok-push-2.ensures.items c.requires.swept.shares c.requires.share;
      ran = c.in_ok-push-3.ensures.items ∙ ap₂ (λ these k. these ++ k ∷ []) c.requires.swept.ran count ∙ sym (filter_more (is_operator c.args.run.now) n c.requires.operator);
      sources = c.requires.swept.sources ∙ sym (no_next_source c.args.run.now.plan.nodes n c.requires.node is);
    }
