use Rattle.std.proofs.Common.{ap, ap₂, sym, ◌∙◌, arith, ◌++◌, List, ℤ, subst, ℕ, length, ◌≤◌, ◌+◌, ◌*◌}
use Rattle.std.specs.Prelude.{IsTrue}
use Rattle.key_lists.specs.Keys.{is_among}
use Rattle.row_set.proofs.Yielded.{next_has, yielded_all, yielded_next}
use Rattle.tick_model.{specs.declared.table.PlainTable.PlainTable, specs.Tables.{cells_at, keys}}
use Rattle.row_changes.{specs.Parts.cells_under, proofs.Comparing.{cells_next, reads_next, reads_within}}
use Rattle.row_changes.proofs.rows.TickTableRows.all_now.Goals as goal

pub row-requires : goal.row-requires
row-requires g c =
    let here = next_has c.loop-key.yielded c.into_iter-key-iterator.ensures.into_iter_gives c.loop-key.yielded_by c.in-Some.ensures.steps (λ key. IsTrue (is_among key (keys c.args.self.now.new.rows))) c.requires.there in
    record { here = subst (λ (table : PlainTable). IsTrue (is_among c.in-Some.key (keys table.rows))) (sym c.loop-key.invariant.same) here }

pub loop-key-preserved : goal.loop-key-preserved
loop-key-preserved g c =
    let table = c.args.self.now.new in
    let key = c.in-Some.key in
    let yielded = c.loop-key.yielded in
    let same = c.loop-key.invariant.same in record {
      same = c.row.ensures.same ∙ same;
      cells =
          c.in_ok-extend_from_slice.ensures.items
          ∙ ap₂ (λ (xs ys : List ℤ). xs ++ ys) c.loop-key.invariant.cells (c.row.ensures.cells ∙ ap (λ (table : PlainTable). cells_at key table.rows) same)
          ∙ cells_next table c.args.cells.now.items yielded key;
      reads = reads_next table.width c.args.reads.now c.loop-key.reads c.row.new.reads yielded key c.loop-key.invariant.reads (omega (arith, c.row.ensures.reads, ap (λ (table : PlainTable). table.width) same));
    }

pub returns-in_err-extend_from_slice-clause-reads : goal.returns-in_err-extend_from_slice-clause-reads
returns-in_err-extend_from_slice-clause-reads g c =
    let table = c.args.self.now.new in
    reads_within table.width c.args.reads.now c.loop-key.reads c.row.new.reads c.loop-key.yielded c.in-Some.key _ _
    (yielded_next c.loop-key.yielded c.into_iter-key-iterator.ensures.into_iter_gives c.loop-key.yielded_by c.in-Some.ensures.steps) c.loop-key.invariant.reads
    (omega (arith, c.row.ensures.reads, ap (λ (table : PlainTable). table.width) c.loop-key.invariant.same))

pub returns-clause-cells : goal.returns-clause-cells
returns-clause-cells g c =
    c.loop-key.invariant.cells
    ∙ ap (λ (keys : List ℕ). c.args.cells.now.items ++ cells_under c.args.self.now.new keys) (yielded_all c.loop-key.yielded c.into_iter-key-iterator.ensures.into_iter_gives c.loop-key.yielded_by c.in-None.ensures.steps.0)

pub returns-clause-reads : goal.returns-clause-reads
returns-clause-reads g c =
    subst (λ (keys : List ℕ). c.loop-key.reads ≤ c.args.reads.now + c.args.self.now.new.width * length keys) (yielded_all c.loop-key.yielded c.into_iter-key-iterator.ensures.into_iter_gives c.loop-key.yielded_by c.in-None.ensures.steps.0) c.loop-key.invariant.reads
