use Rattle.std.proofs.Common.{◌++◌, ◌∙◌, ap, map}
use Rattle.tick_model.{specs.declared.plan.Expr.Expr, specs.Columns.{kind_of, kinds_of}}
use Rattle.script_lines.specs.declared.line.Computed.{Computed}
use Rattle.script_reader.{specs.Checks.{named_columns, all_there}, proofs.Drafting.viewed_is}
use Rattle.script_reader.proofs.drafts.viewed.Goals as goal

pub returns : goal.returns
returns c =
    let columns = c.columns-columns.result.now in
    let kinds = c.in_ok-kinds.kinds.items in
    let names = map (λ (computed : Computed). computed.name) c.args.computed.now in
    viewed_is c.args.nodes.now.nodes.items c.args.literals.now c.exprs_of.new.literals c.args.input.now c.args.computed.now c.in_ok-input.input columns c.push_new.new.columns c.in_ok-exprs.exprs kinds c.all_there.result
    c.in_ok-input.ensures c.columns-columns.ensures c.in_ok-exprs.ensures (c.in_ok-kinds.ensures ∙ ap (map (λ (expr : Expr). kind_of expr (kinds_of columns))) c.as_slice.ensures)
    (c.in_ok-push_new.ensures ∙ ap (λ all. all ++ named_columns names c.as_slice-2.result.now) c.in_ok-all.ensures ∙ ap (λ kinds. columns ++ named_columns names kinds) c.as_slice-2.ensures.value)
    (c.all_there.ensures ∙ ap all_there c.as_slice-3.ensures.value)
