use Rattle.std.proofs.Common.{◌≡◌, ℕ, ◌+◌, ◌∙◌, sym, subst}
use Rattle.tick_laws.specs.Reached.{KeepsRules}
use Rattle.tick_model.specs.declared.feed.Run.{Run}
use Rattle.snapshot_store.{specs.Lines.published_table, proofs.ExampleRuns.{keeps_one, second_table}}
use Rattle.graph_tests.proofs.abandoned_steps.published_step.Goals as goal

pub put-requires-clause-rules : goal.put-requires-clause-rules
put-requires-clause-rules g c = let step : c.begin.new.writer.step ≡ 0 = c.begin.ensures.step ∙ c.requires.idle.1 in
    subst (λ (x : Run × ℕ). KeepsRules x.0 (x.1 + 1)) (λ i. (sym c.requires.run i, sym step i)) keeps_one

pub put-requires-clause-table : goal.put-requires-clause-table
put-requires-clause-table g c = let step : c.begin.new.writer.step ≡ 0 = c.begin.ensures.step ∙ c.requires.idle.1 in
    c.requires.table ∙ (sym second_table ∙ (λ i. published_table (sym c.requires.run i) (sym step i + 1) 0))
