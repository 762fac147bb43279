use Rattle.std.proofs.Common.{◌≡◌, ap, sym, ◌∙◌, subst, ◌+◌, ◌<◌, length, false}
use Rattle.std.proofs.lemmas.Bool.{not-false}
use Rattle.tick_model.specs.Evaluation.{is_source, source_number}
use Rattle.update_graph.{specs.Tags.{is_operator, node_at, tag}, proofs.Numbering.{filter_same_more, next_source}, proofs.Following.source_is, proofs.Sweeping.{tags_more, works_more}}
use Rattle.update_graph.proofs.sweep.Sweep.put_source.Goals as goal

pub source_at-requires : goal.source_at-requires
source_at-requires c =
    let count = c.len-node.ensures ∙ c.args.self.now.works.ok.0 in
    record {
      entered = c.requires.entered;
      sources = c.requires.sources;
      node = subst (λ k. k < length c.args.run.now.plan.nodes) (sym count) c.requires.node;
      source = subst (λ k. is_operator c.args.run.now k ≡ false) (sym count) c.requires.source;
      place = c.requires.swept.sources ∙ ap (source_number c.args.run.now.plan.nodes) (sym count);
    }

pub returns-clause-swept : goal.returns-clause-swept
returns-clause-swept c =
    let n = length c.args.self.now.works.items in
    let is = not-false (is_source (node_at c.args.run.now n)) c.requires.source in
    let count = c.len-node.ensures ∙ c.args.self.now.works.ok.0 in
    record {
      works = works_more c.args.run.now c.args.step n _ _ c.in_ok-work.work c.in_ok-push.ensures.items c.requires.swept.works (c.in_ok-work.ensures.work ∙ ap (tag c.args.run.now c.args.step) count);
      shares = tags_more c.args.run.now c.args.step n _ _ c.in_ok-work.share c.in_ok-push-2.ensures.items c.requires.swept.shares (c.in_ok-work.ensures.share ∙ ap (tag c.args.run.now c.args.step) count);
      ran = c.requires.swept.ran ∙ sym (filter_same_more (is_operator c.args.run.now) n c.requires.source);
      sources = ap (λ k. k + 1) c.requires.swept.sources ∙ sym (next_source c.args.run.now.plan.nodes n c.requires.node is);
    }

pub returns-clause-works : goal.returns-clause-works
returns-clause-works c =
    let count = c.len-node.ensures ∙ c.args.self.now.works.ok.0 in
    let own = c.in_ok-work.ensures.work ∙ ap (tag c.args.run.now c.args.step) count in
    (c.in_ok-work.work, source_is c.args.run.now c.args.step (length c.args.self.now.works.items) c.in_ok-work.work own c.requires.source, c.in_ok-push.ensures.items)
