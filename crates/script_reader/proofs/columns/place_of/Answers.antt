use Rattle.std.proofs.Common.{rules, tests}
use Rattle.std.{specs.Str.bytes_eq, proofs.lemmas.Iterator.YieldsList-from_slice, proofs.lemmas.Iterator.Search.position_from_yields_List}
use Rattle.tick_model.specs.declared.plan.ColumnSpec.{ColumnSpec}
use Rattle.script_reader.proofs.columns.place_of.Goals as goal

pub returns : goal.returns
returns c = position_from_yields_List (λ (column : ColumnSpec). bytes_eq c.args.name.now column.name) _ _ _ c.position.ensures.ran (YieldsList-from_slice c.args.columns.now cc) (λ x b q k. search (rules, tests))
