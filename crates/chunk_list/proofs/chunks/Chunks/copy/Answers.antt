use Rattle.std.proofs.Common.{ap, arith, ◌∙◌, subst, sym, take_all}
use Rattle.chunk_list.{specs.Chunked.{AreFilled, contents}, proofs.Extended.one_copied, proofs.Joined.length-lists}
use Rattle.chunk_list.proofs.chunks.Chunks.copy.Goals as goal

pub loop-items-preserved : goal.loop-items-preserved
loop-items-preserved g c =
    let chunks = c.deref-items-items.result.now in
    ap contents c.in_ok-push.ensures.items
    ∙ one_copied chunks c.loop-items.chunks.items c.loop-items.items-index c.items-item.result c.in_ok-copied.copied c.loop-items-test.true c.items-item.is (c.in_ok-copied.ensures.items ∙ c.deref.ensures.value) c.loop-items.invariant

pub returns : goal.returns
returns g c =
    let chunks = c.deref-items-items.result.now in
    c.loop-items.invariant
    ∙ take_all c.loop-items.items-index (contents chunks) (omega (arith, c.loop-items-test.false, length-lists chunks))
    ∙ ap contents c.deref-items-items.ensures.value ∙ c.self.view_is

pub invariant_of-result : goal.invariant_of-result
invariant_of-result g c = subst AreFilled (sym (returns g c ∙ sym c.self.view_is)) c.self.invariant
