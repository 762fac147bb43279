use Rattle.std.proofs.Common.{◌∙◌, rules, tests, []}
use Rattle.std.{specs.Prelude.nat_eq, specs.Cmp.Lexicographic.pointwise, proofs.lemmas.Iterator.YieldsList-from_slice, proofs.lemmas.Iterator.Search.position_from_yields_List}
use Rattle.update_text.{specs.declared.shown.Shown.Shown, proofs.ReadColumns.place_found}
use Rattle.run_output.proofs.one_entry.table_named.Goals as goal

pub returns-clause-told : goal.returns-clause-told
returns-clause-told c table distinct less named =
    position_from_yields_List (λ (shown : Shown). pointwise nat_eq shown.name c.args.name.now) _ _ _ c.position.ensures.ran (YieldsList-from_slice c.args.tables.now cc) (λ x b q k. search (rules, tests))
    ∙ place_found (λ (shown : Shown). shown.name) c.args.tables.now (record { name = []; columns = [] }) table c.args.name.now distinct less named
