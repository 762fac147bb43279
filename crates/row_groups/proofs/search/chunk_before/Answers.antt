use Rattle.std.proofs.Common.{◌≡◌, ◌+◌, ◌-◌, ◌<◌, Bool, true, false, List, length, arith, ℕ, ap, subst, sym, ◌∙◌, get_or}
use Rattle.chunk_list.specs.Chunked.{list_at}
use Rattle.row_groups.{specs.declared.place.GroupRow.GroupRow, specs.Slots.is_before, proofs.Parts.{chunks_failed, chunks_passed, row_known}}
use Rattle.row_groups.proofs.search.chunk_before.Goals as goal

same_first : (test : GroupRow → Bool) (passes : Bool) (rows others : List GroupRow) (d : GroupRow) → rows ≡ others → test (get_or rows 0 d) ≡ passes → test (get_or others 0 d) ≡ passes
same_first test passes rows others d e is = subst (λ slots. test (get_or slots 0 d) ≡ passes) e is

pub likely_among-guess-requires-clause-lower : goal.likely_among-guess-requires-clause-lower
likely_among-guess-requires-clause-lower c =
    row_known c.args.place.now.handles.now c.args.chunks.now 0 0 c.chunk.result.now _ c.requires.some c.chunk.ensures.some c.requires.known c.chunk.ensures.items

pub likely_among-guess-requires-clause-upper : goal.likely_among-guess-requires-clause-upper
likely_among-guess-requires-clause-upper c =
    row_known c.args.place.now.handles.now c.args.chunks.now (c.len-high.result - 1) (length c.chunk-end.result.now - 1) c.chunk-end.result.now _ (omega (arith, c.requires.some, c.len-high.ensures)) (omega (arith, c.chunk-end.ensures.some)) c.requires.known c.chunk-end.ensures.items

pub is_after-requires : goal.is_after-requires
is_after-requires c =
    let middle : ℕ = c.inside-middle.result in
    row_known c.args.place.now.handles.now c.args.chunks.now (middle + 1) 0 c.chunk-in-loop-low.result.now _ (omega (arith, c.inside-middle.ensures.to, c.loop-low.invariant.within)) c.chunk-in-loop-low.ensures.some c.requires.known c.chunk-in-loop-low.ensures.items

pub loop-low-preserved-then-is_after : goal.loop-low-preserved-then-is_after
loop-low-preserved-then-is_after c =
    let middle : ℕ = c.inside-middle.result in
    let chunks = c.args.chunks.now in
    let lt : middle + 1 < length chunks = omega (arith, c.inside-middle.ensures.to, c.loop-low.invariant.within) in
    let some : 0 < length (list_at (middle + 1) chunks) = omega (arith, c.chunk-in-loop-low.ensures.some, ap length c.chunk-in-loop-low.ensures.items) in
    record {
      order = omega (arith, c.inside-middle.ensures.to);
      within = c.loop-low.invariant.within;
      before = chunks_passed (is_before c.args.place.now.handles.now c.args.place.now.table.now c.args.place.now.at c.args.place.now.key) chunks (middle + 1) _ lt some c.requires.parted (same_first (is_before c.args.place.now.handles.now c.args.place.now.table.now c.args.place.now.at c.args.place.now.key) true _ _ _ c.chunk-in-loop-low.ensures.items (sym c.is_after.ensures ∙ c.if-is_after.true));
      others = c.loop-low.invariant.others;
    }

pub loop-low-preserved : goal.loop-low-preserved
loop-low-preserved c =
    let middle : ℕ = c.inside-middle.result in
    let chunks = c.args.chunks.now in
    let lt : middle + 1 < length chunks = omega (arith, c.inside-middle.ensures.to, c.loop-low.invariant.within) in
    let some : 0 < length (list_at (middle + 1) chunks) = omega (arith, c.chunk-in-loop-low.ensures.some, ap length c.chunk-in-loop-low.ensures.items) in
    record {
      order = omega (arith, c.inside-middle.ensures.from);
      within = omega (arith, lt);
      before = c.loop-low.invariant.before;
      others = chunks_failed (is_before c.args.place.now.handles.now c.args.place.now.table.now c.args.place.now.at c.args.place.now.key) chunks (middle + 1) _ lt some c.requires.parted (same_first (is_before c.args.place.now.handles.now c.args.place.now.table.now c.args.place.now.at c.args.place.now.key) false _ _ _ c.chunk-in-loop-low.ensures.items (sym c.is_after.ensures ∙ c.if-is_after.false));
    }
