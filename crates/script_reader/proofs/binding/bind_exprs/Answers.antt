use Rattle.std.proofs.Common.{◌≡◌, ◌∙◌, ap, sym, map, length, arith}
use Rattle.script_reader.{specs.Binding.bound_expr, specs.Plain.plain, proofs.Rewritten.{one_rewritten, all_rewritten, written_back}}
use Rattle.script_reader.proofs.binding.bind_exprs.Goals as goal

pub loop-expr-preserved : goal.loop-expr-preserved
loop-expr-preserved c =
    one_rewritten plain (bound_expr c.args.ranks.now) c.loop-expr.expr-index _ c.loop-expr.expr-items c.expr-item.result c.bind_expr.new.expr c.loop-expr.invariant (omega (arith, c.loop-expr.invariant.long, c.loop-expr-test.true)) c.expr-item.is
    (c.bind_expr.ensures ∙ ap (bound_expr c.args.ranks.now) (sym c.expr-item.is))

pub returns : goal.returns
returns c =
    let old = c.deref_mut-expr-items.result.now in
    let done : map plain c.loop-expr.expr-items ≡ map (bound_expr c.args.ranks.now) old =
    all_rewritten plain (bound_expr c.args.ranks.now) c.loop-expr.expr-index old c.loop-expr.expr-items c.loop-expr.invariant (omega (arith, c.loop-expr.invariant.long, c.loop-expr-test.false)) in
    let same = c.deref_mut-expr-items.ensures.value in
    ap (map plain) (c.of.ensures ∙ written_back c.loop-expr.expr-items c.into_vec-all.result.items c.into_vec-all.result.len (c.loop-expr.invariant.long ∙ ap length same) (sym c.deref_mut-expr-items.ensures.len ∙ ap length same))
    ∙ done ∙ ap (map (bound_expr c.args.ranks.now)) (c.deref_mut-expr-items.ensures.value ∙ c.into_vec-all.ensures ∙ c.replace.ensures.value)
