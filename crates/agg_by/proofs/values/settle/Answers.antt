use Rattle.std.proofs.Common.{◌<◌, ◌∙◌, arith, length, sym}
use Rattle.std.proofs.lemmas.Bool.{ltb-true}
use Rattle.agg_by.{specs.Values.{IsAmong, count, top}, proofs.Counted.{IsPopped, kept_less, popped, some_long}}
use Rattle.agg_by.proofs.values.settle.Goals as goal

pub loop-live-preserved : goal.loop-live-preserved
loop-live-preserved c =
    let live = c.loop-live.live.data in
    let gone = c.loop-live.gone.data in
    let live' = c.pop.new.self.data in
    let gone' = c.pop-in-loop-live.new.self.data in
    let among : IsAmong (top live.items) gone.items = ltb-true 0 (count (top live.items) gone.items) (sym c.has_greatest_gone.ensures ∙ c.loop-live-test.true) in
    let any : 0 < length gone.items = some_long (top live.items) gone.items among in
    let some : 0 < length live.items = some_long (top live.items) live.items (omega (arith, among, c.loop-live.invariant.kept.among (top live.items))) in
    let here = c.pop.ensures.variant.1 (omega (arith, live.ok.0, some)) in
    let there = c.pop-in-loop-live.ensures.variant.1 (omega (arith, gone.ok.0, any)) in
    let first : IsPopped live.items live'.items = popped c.pop.result live.items live'.items here c.pop.ensures.top c.pop.ensures.permutation c.pop.ensures.heap_order in
    let other : IsPopped gone.items gone'.items = popped c.pop-in-loop-live.result gone.items gone'.items there c.pop-in-loop-live.ensures.top c.pop-in-loop-live.ensures.permutation c.pop-in-loop-live.ensures.heap_order in
    let less = kept_less live.items gone.items live'.items gone'.items c.loop-live.invariant.kept among first other in record {
      kept = less.0;
      left = less.1 ∙ c.loop-live.invariant.left;
    }
