use Rattle.std.proofs.Common.{◌∷◌, [], ◌≡◌, ap, sym, subst, arith, length, length-append}
use Rattle.update_graph.{specs.Edges.numbers_at, proofs.Numbered.empty_more}
use Rattle.update_graph.proofs.edges.empty_lists.Goals as goal

pub loop-preserved : goal.loop-preserved
loop-preserved c =
    let more = ap length c.in_ok-push.ensures.items in
    let long = length-append c.loop.lists.items (c.new.result ∷ []) in
    let before = c.loop.invariant.length in
    record {
      length = omega arith;
      empty = λ node. subst (λ l. numbers_at l node ≡ []) (sym c.in_ok-push.ensures.items) (empty_more c.loop.lists.items c.new.result c.loop.invariant.empty c.new.ensures.items node);
    }
