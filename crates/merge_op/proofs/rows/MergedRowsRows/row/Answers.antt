use Rattle.std.proofs.Common.{◌≡◌, true, ap, sym, ◌∙◌, refl, subst, ℕ, ◌+◌, ◌-◌, ◌<◌, arith, List, [], ◌++◌, drop, length, ℤ}
use Rattle.std.specs.Prelude.{OnOk}
use Rattle.key_lists.specs.Keys.{is_among}
use Rattle.tick_model.specs.Tables.{cells_at, keys}
use Rattle.tick_table.{specs.Exact.IsExact, specs.Ticking.Ticking, specs.Versions.table_in}
use Rattle.table_operator.specs.Inputs.{tables}
use Rattle.merge_op.{specs.Regions.room_in, proofs.Found.{ahead, ahead_at, in_first, in_none, in_others}, proofs.Sharing.{no_tables, read_or_not, table_at}}
use Rattle.merge_op.proofs.rows.MergedRowsRows.row.Goals as goal

pub loop-input-init : goal.loop-input-init
loop-input-init g c = record { ahead = ahead c.args.version (tables c.args.self.now.inputs.now) c.args.key c.requires.ready.0 c.requires.here; cells = refl; reads = refl }

pub overflow_add-end : goal.overflow_add-end
overflow_add-end g c = omega (arith, c.room_in.ensures.small, c.loop-input.invariant.ahead.past, c.loop-input.invariant.ahead.small)

pub row-requires : goal.row-requires
row-requires g c =
    let version = c.args.version in
    let t = c.deref.result.now in
    let from = c.loop-input.start in
    let h = ahead_at c.args.self.now.inputs.now c.loop-input.input-index c.input-item.result t c.loop-input.invariant.ahead c.loop-input-test.true c.input-item.is c.deref.ensures in
    let same : c.deref-then-key-end.result.now ≡ t = c.deref-then-key-end.ensures ∙ sym c.deref.ensures in
    let less : c.args.key < from + room_in version t = subst (λ room. c.args.key < from + room) c.room_in.ensures.room c.if-key-end.true in
    record { here = subst (λ (t : Ticking). is_among (c.args.key - from) (keys (table_in version t).rows) ≡ true) (sym same) (in_first h less).0 }

pub returns-then-key-end-clause-cells : goal.returns-then-key-end-clause-cells
returns-then-key-end-clause-cells g c =
    let version = c.args.version in
    let t = c.deref.result.now in
    let from = c.loop-input.start in
    let h = ahead_at c.args.self.now.inputs.now c.loop-input.input-index c.input-item.result t c.loop-input.invariant.ahead c.loop-input-test.true c.input-item.is c.deref.ensures in
    let same : c.deref-then-key-end.result.now ≡ t = c.deref-then-key-end.ensures ∙ sym c.deref.ensures in
    let less : c.args.key < from + room_in version t = subst (λ room. c.args.key < from + room) c.room_in.ensures.room c.if-key-end.true in
    subst (λ (row : List ℤ). OnOk c.row.result (c.row.new.cells.items ≡ c.args.cells.now.items ++ row))
    (ap (λ (t : Ticking). cells_at (c.args.key - from) (table_in version t).rows) same ∙ sym (in_first h less).1)
    (subst (λ (others : List ℤ). OnOk c.row.result (c.row.new.cells.items ≡ others ++ cells_at (c.args.key - from) (table_in version c.deref-then-key-end.result.now).rows)) c.loop-input.invariant.cells c.row.ensures.cells)

pub returns-then-key-end-clause-reads : goal.returns-then-key-end-clause-reads
returns-then-key-end-clause-reads g c =
    let t = c.deref.result.now in
    let wide : t.new.width ≡ c.args.self.now.width = table_at (λ t. t.new.width ≡ c.args.self.now.width) c.args.self.now.inputs.now c.loop-input.input-index c.input-item.result t c.requires.ready.2 c.loop-input-test.true c.input-item.is c.deref.ensures in
    let same : c.deref-then-key-end.result.now ≡ t = c.deref-then-key-end.ensures ∙ sym c.deref.ensures in
    let width : c.deref-then-key-end.result.now.new.width ≡ c.args.self.now.width = ap (λ (t : Ticking). t.new.width) same ∙ wide in
    omega (arith, read_or_not c.row.result c.deref-then-key-end.result.now.new.width c.loop-input.reads c.row.new.reads c.row.ensures.reads c.row.ensures.unread, width, c.loop-input.invariant.reads)

pub loop-input-preserved : goal.loop-input-preserved
loop-input-preserved g c =
    let t = c.deref.result.now in
    let exact = table_at IsExact c.args.self.now.inputs.now c.loop-input.input-index c.input-item.result t c.requires.ready.1 c.loop-input-test.true c.input-item.is c.deref.ensures in
    let h = ahead_at c.args.self.now.inputs.now c.loop-input.input-index c.input-item.result t c.loop-input.invariant.ahead c.loop-input-test.true c.input-item.is c.deref.ensures in
    record {
      ahead = in_others exact h (ap (λ room. c.loop-input.start + room) c.room_in.ensures.room) c.if-key-end.false;
      cells = c.loop-input.invariant.cells;
      reads = c.loop-input.invariant.reads;
    }
