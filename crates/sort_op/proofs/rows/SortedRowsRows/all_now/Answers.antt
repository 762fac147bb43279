use Rattle.std.proofs.Common.{◌≡◌, ap, sym, ◌∙◌, subst, arith, true, ℕ, ◌+◌, ◌*◌, ◌≤◌, List, ◌++◌, ℤ, length}
use Rattle.key_lists.specs.Keys.{is_among}
use Rattle.row_set.proofs.Yielded.{next_has, yielded_all, yielded_next}
use Rattle.tick_model.{specs.Sort.sort_table, specs.Tables.{cells_at, keys}}
use Rattle.row_changes.{specs.Parts.cells_under, proofs.Comparing.{cells_next, reads_next, reads_within}}
use Rattle.sort_op.{specs.Places.key_at, specs.Ranks.{Ranking, listed}, proofs.PlacedCells.{place_found, place_within}}
use Rattle.sort_op.proofs.rows.SortedRowsRows.all_now.Goals as goal

pub row-requires : goal.row-requires
row-requires g c =
    let by = c.args.self.now.order.now.by in
    let table = c.args.self.now.input.now.new in
    let position = c.in-Some.position in
    let here = next_has c.loop-position.yielded c.into_iter-position-iterator.ensures.into_iter_gives c.loop-position.yielded_by c.in-Some.ensures.steps (λ position. is_among position (keys (sort_table by table).rows) ≡ true) c.requires.there in
    let found = place_found by table position c.requires.ready.rising_now (place_within by table position here) in record {
      here = rw c.loop-position.invariant.input (ap (λ key. is_among key (keys table.rows)) (c.key_at-key.ensures.key ∙ ap (λ (order : Ranking). key_at (listed order) position) c.loop-position.invariant.order ∙ ap (λ entries. key_at entries position) c.requires.ready.order_now) ∙ found.1);
    }

pub loop-position-preserved : goal.loop-position-preserved
loop-position-preserved g c =
    let by = c.args.self.now.order.now.by in
    let table = c.args.self.now.input.now.new in
    let position = c.in-Some.position in
    let yielded = c.loop-position.yielded in
    let row = rw c.loop-position.invariant.input at c.row.ensures in
    let here = next_has yielded c.into_iter-position-iterator.ensures.into_iter_gives c.loop-position.yielded_by c.in-Some.ensures.steps (λ position. is_among position (keys (sort_table by table).rows) ≡ true) c.requires.there in
    let found = place_found by table position c.requires.ready.rising_now (place_within by table position here) in
    let key = c.key_at-key.ensures.key ∙ ap (λ (order : Ranking). key_at (listed order) position) c.loop-position.invariant.order ∙ ap (λ entries. key_at entries position) c.requires.ready.order_now in record {
      input = row.same;
      order = c.key_at-key.ensures.same ∙ c.loop-position.invariant.order;
      cells =
          c.in_ok-extend_from_slice.ensures.items
          ∙ ap (λ (cells : List ℤ). c.loop-position.cells.items ++ cells) (row.cells ∙ ap (λ key. cells_at key table.rows) key ∙ sym found.0)
          ∙ ap (λ (cells : List ℤ). cells ++ cells_at position (sort_table by table).rows) c.loop-position.invariant.cells
          ∙ cells_next (sort_table by table) c.args.cells.now.items yielded position;
      reads = reads_next table.width c.args.reads.now c.loop-position.reads c.row.new.reads yielded position c.loop-position.invariant.reads (omega (arith, row.reads));
    }

pub returns-in_err-extend_from_slice-clause-reads : goal.returns-in_err-extend_from_slice-clause-reads
returns-in_err-extend_from_slice-clause-reads g c =
    let row = rw c.loop-position.invariant.input at c.row.ensures in
    reads_within c.args.self.now.input.now.new.width c.args.reads.now c.loop-position.reads c.row.new.reads c.loop-position.yielded c.in-Some.position _ _
    (yielded_next c.loop-position.yielded c.into_iter-position-iterator.ensures.into_iter_gives c.loop-position.yielded_by c.in-Some.ensures.steps) c.loop-position.invariant.reads (omega (arith, row.reads))

pub returns-clause-cells : goal.returns-clause-cells
returns-clause-cells g c =
    c.loop-position.invariant.cells
    ∙ ap (λ (keys : List ℕ). c.args.cells.now.items ++ cells_under (sort_table c.args.self.now.order.now.by c.args.self.now.input.now.new) keys) (yielded_all c.loop-position.yielded c.into_iter-position-iterator.ensures.into_iter_gives c.loop-position.yielded_by c.in-None.ensures.steps.0)

pub returns-clause-reads : goal.returns-clause-reads
returns-clause-reads g c =
    subst (λ (keys : List ℕ). c.loop-position.reads ≤ c.args.reads.now + c.args.self.now.input.now.new.width * length keys) (yielded_all c.loop-position.yielded c.into_iter-position-iterator.ensures.into_iter_gives c.loop-position.yielded_by c.in-None.ensures.steps.0) c.loop-position.invariant.reads
