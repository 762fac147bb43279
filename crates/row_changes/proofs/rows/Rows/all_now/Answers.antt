use Rattle.std.proofs.Common.{ap, ◌∙◌, ◌++◌, List, ℤ, subst, ℕ, length, ◌≤◌, ◌+◌, ◌*◌}
use Rattle.std.specs.Prelude.{IsTrue}
use Rattle.key_lists.specs.Keys.{is_among}
use Rattle.row_set.proofs.Yielded.{next_has, yielded_all, yielded_next}
use Rattle.tick_model.specs.Tables.{cells_at, keys}
use Rattle.tick_table.specs.declared.version.Version.TheVariants.{Now}
use Rattle.row_changes.{specs.Parts.cells_under, proofs.Comparing.{cells_next, reads_next, reads_within}}
use Rattle.row_changes.proofs.rows.Rows.all_now.Goals as goal

pub row-requires-clause-here : goal.row-requires-clause-here
row-requires-clause-here g c =
    next_has c.loop-key.yielded c.into_iter-key-iterator.ensures.into_iter_gives c.loop-key.yielded_by c.in-Some.ensures.steps (λ key. IsTrue (is_among key (keys (g.Self.Rows.table c.args.self.now Now).rows))) c.requires.there

pub loop-key-preserved : goal.loop-key-preserved
loop-key-preserved g c =
    let table = g.Self.Rows.table c.args.self.now Now in
    let key = c.in-Some.key in
    let yielded = c.loop-key.yielded in record {
      cells = c.in_ok-row.ensures.cells ∙ ap (λ (cells : List ℤ). cells ++ cells_at key table.rows) c.loop-key.invariant.cells ∙ cells_next table c.args.cells.now.items yielded key;
      reads = reads_next (g.Self.Rows.row_reads c.args.self.now) c.args.reads.now c.loop-key.reads c.row.new.reads yielded key c.loop-key.invariant.reads c.in_ok-row.ensures.reads;
    }

pub returns-in_err-row-clause-reads : goal.returns-in_err-row-clause-reads
returns-in_err-row-clause-reads g c =
    reads_within (g.Self.Rows.row_reads c.args.self.now) c.args.reads.now c.loop-key.reads c.row.new.reads c.loop-key.yielded c.in-Some.key _ _
    (yielded_next c.loop-key.yielded c.into_iter-key-iterator.ensures.into_iter_gives c.loop-key.yielded_by c.in-Some.ensures.steps) c.loop-key.invariant.reads c.row.ensures.reads

pub returns-clause-cells : goal.returns-clause-cells
returns-clause-cells g c =
    c.loop-key.invariant.cells
    ∙ ap (λ (keys : List ℕ). c.args.cells.now.items ++ cells_under (g.Self.Rows.table c.args.self.now Now) keys) (yielded_all c.loop-key.yielded c.into_iter-key-iterator.ensures.into_iter_gives c.loop-key.yielded_by c.in-None.ensures.steps.0)

pub returns-clause-reads : goal.returns-clause-reads
returns-clause-reads g c =
    subst (λ (keys : List ℕ). c.loop-key.reads ≤ c.args.reads.now + g.Self.Rows.row_reads c.args.self.now * length keys) (yielded_all c.loop-key.yielded c.into_iter-key-iterator.ensures.into_iter_gives c.loop-key.yielded_by c.in-None.ensures.steps.0) c.loop-key.invariant.reads
