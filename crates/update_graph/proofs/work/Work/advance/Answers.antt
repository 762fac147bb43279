use Rattle.std.proofs.Common.{ap, sym, ◌∙◌, subst, ◌+◌, ◌≤◌, map}
use Rattle.std.proofs.lemmas.Bool.{not-true}
use Rattle.tick_model.{specs.Evaluation.is_source, specs.Operators.inputs_of}
use Rattle.update_graph.{specs.Stands.{all_defined, most_tried}, specs.Tags.{Kept, node_at, op_at, tag}, proofs.StepInputs.tried_is}
use Rattle.update_graph.proofs.work.Work.advance.Goals as goal

pub returns-clause-reads : goal.returns-clause-reads
returns-clause-reads g c = λ here.
    let run = c.args.run.now in
    let n = c.args.self.node in
    let tried = subst (λ (k : Kept). c.take_step-advanced.new.reads ≤ c.args.reads.now + most_tried run (k.step + 1) k.node) c.self.view_is c.take_step-advanced.ensures.tried in
    subst (λ k. c.take_step-advanced.new.reads ≤ c.args.reads.now + k) (tried_is run (c.args.self.step + 1) c.requires.entered n c.requires.node (not-true (is_source (node_at run n)) c.requires.operator) here) tried

pub returns-clause-none : goal.returns-clause-none
returns-clause-none g c = λ h. c.take_step-advanced.ensures.none (ap all_defined c.in_ok-shares.ensures ∙ h)

pub take_step-advanced-requires-clause-shares : goal.take_step-advanced-requires-clause-shares
take_step-advanced-requires-clause-shares g c =
    let run = c.args.run.now in
    c.in_ok-shares.ensures ∙ c.requires.shares ∙ ap (λ (k : Kept). map (tag run (k.step + 1)) (inputs_of (op_at run k.node))) (sym c.self.view_is)
