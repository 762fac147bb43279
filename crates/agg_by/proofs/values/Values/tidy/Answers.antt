use Rattle.std.proofs.Common.{◌≡◌, ◌+◌, ◌∙◌, ap, subst, sym, rules, arith, is_ok, true, [], Some, ◌∷◌, ℤ, w64, FitsSigned}
use Rattle.std.{specs.BinaryHeap.{IsHeap, heap_capacity, heap_items, heap_len}, specs.List.Sorted.IsPermutation, specs.Ordering.int_cmp, proofs.lemmas.Int.to_z-of_z}
use Rattle.agg_by.{specs.Values.{in_order, last}, proofs.Counted.{last_other, last_same, last_some, last_taken, parted, parted_gone, parted_more, rebuilt, when_ok}}
use Rattle.agg_by.proofs.values.Values.tidy.Goals as goal

pub loop-cell-init : goal.loop-cell-init
loop-cell-init c =
    let inside = c.self.inside in
    let others = c.replace.new.dest.data in
    let empty : others.items ≡ [] = ap heap_items c.replace.ensures.after ∙ c.in-Ok.ensures.items in record {
      parted = parted inside.live.data.items inside.gone.data.items c.ascending-live.result.items c.ascending-gone.result.items others.items c.args.self.now c.self.invariant c.self.view_is
          (c.ascending-live.ensures.cells ∙ ap (λ heap. in_order (heap_items heap)) c.replace.ensures.value)
          (c.ascending-gone.ensures.cells ∙ ap (λ heap. in_order (heap_items heap)) c.replace-2.ensures.value) empty;
      heap = subst (λ heap. IsHeap int_cmp (heap_items heap)) (sym c.replace.ensures.after) c.in-Ok.ensures.heap_order;
      room = omega (arith, ap heap_len c.replace.ensures.after, ap heap_capacity c.replace.ensures.after, c.in-Ok.ensures.len, c.in-Ok.ensures.capacity, c.len-2.ensures, c.ascending-live.ensures.len, ap heap_len c.replace.ensures.value);
      none = ap heap_items c.replace-2.ensures.after ∙ c.new.ensures.items;
    }

pub loop-cell-preserved-then-eq : goal.loop-cell-preserved-then-eq
loop-cell-preserved-then-eq c =
    let live = c.loop-cell.live in
    let gone = c.loop-cell.gone in
    let gone' = c.pop-then-eq.new.self in
    let cell = c.in-Some.cell in
    let range : FitsSigned w64 cell = search rules in
    let ends : last gone.items ≡ Some cell = ap last (sym c.deref.ensures.value) ∙ sym c.last.ensures.value ∙ last_same c.last.result _ (sym c.eq.ensures ∙ c.if-eq.true) ∙ ap Some (to_z-of_z w64 cell range) in
    let some = c.pop-then-eq.ensures.variant.1 (omega (arith, gone.ok.0, last_some cell gone.items ends)) in record {
      parted = parted_gone live.items gone.items c.loop-cell.self-inside.live.data.items c.args.self.now c.pop.new.self.items gone'.items cell
          c.loop-cell.invariant.parted c.in-Some.ensures.items (last_taken cell gone.items gone'.items c.pop-then-eq.result ends some c.pop-then-eq.ensures.items);
      heap = c.loop-cell.invariant.heap;
      room = omega (arith, c.loop-cell.invariant.room, c.in-Some.ensures.cases);
      none = c.loop-cell.invariant.none;
    }

pub loop-cell-preserved : goal.loop-cell-preserved
loop-cell-preserved c =
    let live = c.loop-cell.live in
    let gone = c.loop-cell.gone in
    let others = c.loop-cell.self-inside.live.data in
    let others' = c.push.new.self.data in
    let cell = c.in-Some.cell in
    let ok : is_ok c.push.result ≡ true = c.push.ensures.succeeds (omega (arith, c.loop-cell.invariant.room, c.in-Some.ensures.cases)) in
    let range : FitsSigned w64 cell = search rules in
    let pushed : IsPermutation (cell ∷ others.items) others'.items = subst (λ (value : ℤ). IsPermutation (value ∷ others.items) others'.items) (to_z-of_z w64 cell range) (when_ok c.push.result _ ok c.push.ensures.permutation) in
    let longer : others'.len ≡ others.len + 1 = when_ok c.push.result _ ok c.push.ensures.len in record {
      parted = parted_more live.items gone.items others.items c.args.self.now c.pop.new.self.items others'.items cell c.loop-cell.invariant.parted c.in-Some.ensures.items
          (λ ends. last_other c.last.result _ (sym c.eq.ensures ∙ c.if-eq.false) (c.last.ensures.value ∙ ap last c.deref.ensures.value ∙ ends ∙ ap Some (sym (to_z-of_z w64 cell range)))) pushed;
      heap = when_ok c.push.result _ ok c.push.ensures.heap_order c.loop-cell.invariant.heap;
      room = omega (arith, longer, c.loop-cell.invariant.room, c.in-Some.ensures.cases, c.push.ensures.capacity);
      none = c.loop-cell.invariant.none;
    }

pub invariant_of-self : goal.invariant_of-self
invariant_of-self c =
    let inside = c.loop-cell.self-inside in
    (rebuilt c.loop-cell.live.items c.loop-cell.gone.items inside.live.data.items c.args.self.now inside.gone.data.items (omega (arith, c.loop-cell.live.ok.0, c.in_default-pop.ensures.cases.0))
    c.loop-cell.invariant.parted c.loop-cell.invariant.heap c.loop-cell.invariant.none).0

pub returns : goal.returns
returns c =
    let inside = c.loop-cell.self-inside in
    (rebuilt c.loop-cell.live.items c.loop-cell.gone.items inside.live.data.items c.args.self.now inside.gone.data.items (omega (arith, c.loop-cell.live.ok.0, c.in_default-pop.ensures.cases.0))
    c.loop-cell.invariant.parted c.loop-cell.invariant.heap c.loop-cell.invariant.none).1
