use Rattle.std.proofs.Common.{◌^◌, ◌∙◌, ap, w64, SFits, to_z-of_z, rules}
use Rattle.tick_model.{specs.Changes.{Change, changed}, specs.Rules.update_fault, specs.Tables.keys}
use Rattle.snapshot_store.specs.Example.{add_row}
use Rattle.graph_tests.proofs.abandoned_steps.with_row.Goals as goal

pub apply-requires-clause-lawful : goal.apply-requires-clause-lawful
apply-requires-clause-lawful c = ap (λ (z : Change). update_fault (2 ^ 62) (keys c.args.table.new.rows) z.update) c.in_ok-change.ensures ∙ c.requires.lawful

pub returns : goal.returns
returns c =
    let fits : SFits w64 c.args.cell = search rules in
    c.in_ok-after.ensures.new ∙ ap (changed c.args.table.new) (c.in_ok-change.ensures ∙ ap (add_row c.args.key) (to_z-of_z fits))
