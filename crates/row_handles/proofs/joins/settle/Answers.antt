use Rattle.std.proofs.Common.{sym, ◌∙◌, subst, get_or, IsSome}
use Rattle.key_lists.proofs.Parts.{every_at}
use Rattle.slab.{specs.Slab.ContainsKey, proofs.SlabLemmas.Updates-with_value}
use Rattle.row_handles.{specs.declared.block.BlockRow.BlockRow, specs.Blocks.place_in, proofs.Renaming.{none_before, ne_at}, proofs.Joining.{fresh_at, settled_more}}
use Rattle.row_handles.proofs.joins.settle.Goals as goal

pub index_mut-requires : goal.index_mut-requires
index_mut-requires c =
    let none : BlockRow = record { depth = 0; handle = 0 } in
    let rows = c.args.rows.now in
    let i = c.loop-row.row-index in
    subst IsSome (sym (c.loop-row.invariant.others (get_or rows i none).handle (fresh_at rows i none c.loop-row-test.true c.requires.distinct))) (every_at (λ row. ContainsKey c.args.places.now row.handle) rows i none c.loop-row-test.true c.requires.there)

pub loop-row-preserved : goal.loop-row-preserved
loop-row-preserved c =
    let none : BlockRow = record { depth = 0; handle = 0 } in
    let rows = c.args.rows.now in
    let i = c.loop-row.row-index in
    let row = get_or rows i none in
    let there : ContainsKey c.loop-row.places row.handle = subst IsSome (sym (c.loop-row.invariant.others row.handle (fresh_at rows i none c.loop-row-test.true c.requires.distinct))) (every_at (λ r. ContainsKey c.args.places.now r.handle) rows i none c.loop-row-test.true c.requires.there) in
    let updates = Updates-with_value c.loop-row.places row.handle (place_in c.args.number row.depth) there in
    record {
      settled = settled_more c.args.number rows i none c.loop-row.places _ c.loop-row-test.true c.requires.distinct updates c.loop-row.invariant.settled;
      others = λ handle absent. updates.others handle (ne_at handle rows i none c.loop-row-test.true absent) ∙ c.loop-row.invariant.others handle (none_before handle rows i none c.loop-row-test.true absent);
    }
