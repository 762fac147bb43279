use Rattle.std.proofs.Common.{◌≡◌, ◌∙◌, ◌+◌, ◌*◌, ◌++◌, ◌∷◌, ◌||◌, [], ap, ap₂, arith, false, length, refl, subst, sym, true, List, ℕ, ℤ}
use Rattle.std.proofs.lemmas.List.{map-append}
use Rattle.key_lists.specs.Keys.{is_among}
use Rattle.row_changes.proofs.Comparing.{reads_within}
use Rattle.row_handles.specs.Entries.{keys_of}
use Rattle.row_set.proofs.Yielded.{next_has, next_new, next_small, yielded_all, yielded_next}
use Rattle.tick_model.{specs.declared.plan.SortBy.SortBy, specs.declared.table.PlainTable.PlainTable, specs.Tables.{cells_at, keys}}
use Rattle.sort_op.{specs.declared.entry.Entry.Entry, specs.declared.row_order.OrderedRow.OrderedRow, specs.Entries.keys_in, specs.Ranks.{AreArrived, HasArrived, listed}, specs.Reading.{entries_under, entry_under, entry_with}, proofs.Entering.{arrived_more, keys_apart, key_more, none_arrived, reads_one_more}}
use Rattle.sort_op.proofs.row_order.RowOrder.enter_rows.Goals as goal

pub loop-key-init : goal.loop-key-init
loop-key-init g c = record {
  table = c.of-rows.ensures;
  by = refl;
  listed = refl;
  entered = subst (λ (rows : List OrderedRow). AreArrived c.args.self.now rows []) (sym c.new-entered.ensures.items) (none_arrived c.args.self.now);
  keys = λ key. refl;
  reads = omega arith;
}

pub row-requires : goal.row-requires
row-requires g c = record {
  here =
      ap (λ (table : PlainTable). is_among c.in-Some.key (keys table.rows)) c.loop-key.invariant.table
      ∙ next_has c.loop-key.yielded c.into_iter-key-iterator.ensures.into_iter_gives c.loop-key.yielded_by c.in-Some.ensures.steps (λ key. is_among key (keys c.args.input.now.new.rows) ≡ true) c.requires.here;
}

pub enter-requires-clause-small : goal.enter-requires-clause-small
enter-requires-clause-small g c = next_small c.loop-key.yielded c.into_iter-key-iterator.ensures.into_iter_gives c.loop-key.yielded_by c.in-Some.ensures.steps

pub enter-requires-clause-absent : goal.enter-requires-clause-absent
enter-requires-clause-absent g c =
    ap (λ (entries : List Entry). is_among c.in-Some.key (keys_in entries)) c.loop-key.invariant.listed
    ∙ next_has c.loop-key.yielded c.into_iter-key-iterator.ensures.into_iter_gives c.loop-key.yielded_by c.in-Some.ensures.steps (λ key. is_among key (keys_in (listed c.args.self.now)) ≡ false) c.requires.absent

pub loop-key-preserved : goal.loop-key-preserved
loop-key-preserved g c =
    let first = c.args.self.now in
    let table = c.args.input.now.new in
    let yielded = c.loop-key.yielded in
    let key = c.in-Some.key in
    let row = c.in_ok-enter.field-0 in
    let out = next_new yielded c.into_iter-key-iterator.ensures.into_iter_gives c.loop-key.yielded_by c.in-Some.ensures.steps in
    let read = c.row.ensures.cells ∙ ap (λ (t : PlainTable). cells_at key t.rows) c.loop-key.invariant.table in
    record {
      table = c.row.ensures.same ∙ c.loop-key.invariant.table;
      by = c.enter.ensures.by ∙ c.loop-key.invariant.by;
      listed = c.enter.ensures.listed ∙ c.loop-key.invariant.listed;
      entered =
          subst (λ (rows : List OrderedRow). AreArrived c.enter.new.self rows (entries_under first.by table (yielded ++ key ∷ []))) (sym c.in_ok-push.ensures.items)
          (subst (AreArrived c.enter.new.self (c.loop-key.entered.items ++ row ∷ [])) (sym (map-append (entry_under first.by table) yielded (key ∷ [])))
          (arrived_more c.loop-key.self c.enter.new.self c.loop-key.entered.items (entries_under first.by table yielded) row key (entry_under first.by table key) (keys_apart first.by table c.loop-key.self c.loop-key.entered.items yielded key c.loop-key.invariant.entered out) c.enter.ensures.others c.loop-key.invariant.entered
          (subst (HasArrived c.enter.new.self row) (ap₂ (λ (by : List SortBy) (cells : List ℤ). entry_with by cells key) c.loop-key.invariant.by read) c.in_ok-enter.ensures.entered)));
      keys = λ other. c.in_ok-enter.ensures.keys other ∙ key_more other key yielded (keys_of first.handles) (keys_of c.loop-key.self.handles) (c.loop-key.invariant.keys other);
      reads = reads_one_more table.width c.args.reads.now c.loop-key.reads c.row.new.reads yielded key c.loop-key.invariant.reads (c.row.ensures.reads ∙ ap (λ (t : PlainTable). c.loop-key.reads + t.width) c.loop-key.invariant.table);
    }

pub returns-clause-entered : goal.returns-clause-entered
returns-clause-entered g c =
    subst (λ (keys : List ℕ). AreArrived c.loop-key.self c.loop-key.entered.items (entries_under c.args.self.now.by c.args.input.now.new keys)) (yielded_all c.loop-key.yielded c.into_iter-key-iterator.ensures.into_iter_gives c.loop-key.yielded_by c.in-None.ensures.steps.0) c.loop-key.invariant.entered

pub returns-clause-keys : goal.returns-clause-keys
returns-clause-keys g c = λ key.
    c.loop-key.invariant.keys key
    ∙ ap (λ (some : List ℕ). is_among key some || is_among key (keys_of c.args.self.now.handles)) (yielded_all c.loop-key.yielded c.into_iter-key-iterator.ensures.into_iter_gives c.loop-key.yielded_by c.in-None.ensures.steps.0)

pub returns-in_err-enter-clause-reads : goal.returns-in_err-enter-clause-reads
returns-in_err-enter-clause-reads g c =
    let read = c.row.ensures.reads ∙ ap (λ (t : PlainTable). c.loop-key.reads + t.width) c.loop-key.invariant.table in
    reads_within c.args.input.now.new.width c.args.reads.now c.loop-key.reads c.row.new.reads c.loop-key.yielded c.in-Some.key _ _
    (yielded_next c.loop-key.yielded c.into_iter-key-iterator.ensures.into_iter_gives c.loop-key.yielded_by c.in-Some.ensures.steps) (omega (arith, c.loop-key.invariant.reads)) (omega (arith, read))

pub returns-in_err-push-clause-reads : goal.returns-in_err-push-clause-reads
returns-in_err-push-clause-reads g c =
    let read = c.row.ensures.reads ∙ ap (λ (t : PlainTable). c.loop-key.reads + t.width) c.loop-key.invariant.table in
    reads_within c.args.input.now.new.width c.args.reads.now c.loop-key.reads c.row.new.reads c.loop-key.yielded c.in-Some.key _ _
    (yielded_next c.loop-key.yielded c.into_iter-key-iterator.ensures.into_iter_gives c.loop-key.yielded_by c.in-Some.ensures.steps) (omega (arith, c.loop-key.invariant.reads)) (omega (arith, read))

pub returns-clause-reads : goal.returns-clause-reads
returns-clause-reads g c =
    omega (arith, c.loop-key.invariant.reads, ap (λ (some : List ℕ). c.args.input.now.new.width * length some) (yielded_all c.loop-key.yielded c.into_iter-key-iterator.ensures.into_iter_gives c.loop-key.yielded_by c.in-None.ensures.steps.0))
