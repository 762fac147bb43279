use Rattle.std.proofs.Common.{◌≡◌, ◌∙◌, rules, tests}
use Rattle.std.{specs.Prelude.nat_eq, specs.Cmp.Lexicographic.pointwise, proofs.lemmas.Iterator.YieldsList-from_slice, proofs.lemmas.Iterator.Search.position_from_yields_List}
use Rattle.tick_model.specs.declared.plan.ColumnSpec.{ColumnSpec}
use Rattle.update_text.proofs.ReadColumns.{blank, name_at, place_found}
use Rattle.update_text.proofs.read_changes.place_of_column.Goals as goal

pub returns-clause-told : goal.returns-clause-told
returns-clause-told c place distinct less named =
    position_from_yields_List (λ (column : ColumnSpec). pointwise nat_eq column.name c.args.name.now) _ _ _ c.position.ensures.ran (YieldsList-from_slice c.args.columns.now cc) (λ x b q k. search (rules, tests))
    ∙ place_found (λ (column : ColumnSpec). column.name) c.args.columns.now blank place c.args.name.now distinct less (named ∙ name_at c.args.columns.now place less)
