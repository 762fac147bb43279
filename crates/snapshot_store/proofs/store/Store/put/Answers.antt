use Rattle.std.proofs.Common.{◌≡◌, ℕ, ◌+◌, ◌*◌, ◌≤◌, ◌∙◌, List, length, get_or, ap, sym, subst, arith, vec_capacity}
use mathlib.Core.Logic.{dite}
use native.Mathlib.Decide.{ℕ_discrete}
use Rattle.tick_laws.specs.Reached.{KeepsRules}
use Rattle.tick_model.{specs.LawfulRuns.IsLawfulRun, specs.Words.words, specs.declared.feed.Run.Run, specs.declared.plan.Published.Published, specs.declared.table.PlainTable.PlainTable}
use Rattle.snapshot_store.{specs.Lines.{limit, limit_in, size, line_of, IsWhole}, specs.Models.{IsAt, HasRoom}, proofs.Calls.{at_begun, line_fits, room_on}, proofs.Published.{few_tables, line_named, line_whole, table_fits}, proofs.RowWords.keys_long}
use Rattle.snapshot_store.proofs.store.Store.put.Goals as goal

pub copy_table-requires : goal.copy_table-requires
copy_table-requires c =
    let lawful : IsLawfulRun c.args.self.now.run = subst IsLawfulRun (ap (λ z. z.run) c.self.view_is) c.self.invariant.lawful in
    let rows : c.len-rows.result ≡ length c.args.table.now.new.rows = c.len-rows.ensures.count ∙ (ap length c.rows.ensures.keys ∙ keys_long c.args.table.now.new.rows) in
    let most : c.limit-limit.result ≡ limit c.args.self.now.run c.args.number = c.limit-limit.ensures ∙ (ap (λ (z : List Published). limit_in z c.args.number) c.self.invariant.laid ∙ ap (λ (z : Run). limit z c.args.number) (ap (λ z. z.run) c.self.view_is)) in
    let few : length c.args.table.now.new.rows ≤ limit c.args.self.now.run c.args.number = (let h = c.if-rows-limit.false in omega arith) in
    let few' = subst (λ (z : PlainTable). length z.rows ≤ limit c.args.self.now.run c.args.number) c.requires.table few in
    let fits = table_fits c.args.self.now.run (c.args.writer.now.step + 1) c.args.number lawful c.requires.rules c.requires.number few' in
    let own : 1 + length c.args.table.now.new.rows * (1 + c.args.table.now.new.width) ≤ size c.args.self.now.run c.args.number =
    subst (λ (z : PlainTable). 1 + length z.rows * (1 + z.width) ≤ size c.args.self.now.run c.args.number) (sym c.requires.table) fits in
    let room = c.writer.invariant.room c.args.self.now.run c.args.number (ap (λ z. z.run) c.writer.view_is ∙ c.requires.own.1) c.requires.number in omega arith

pub store_words-requires-clause-own : goal.store_words-requires-clause-own
store_words-requires-clause-own c = (ap (λ z. z.table) c.writer.view_is ∙ c.requires.own.0, ap (λ z. z.run) c.writer.view_is ∙ c.requires.own.1)

pub store_words-requires-clause-table : goal.store_words-requires-clause-table
store_words-requires-clause-table c =
    c.as_slice.ensures.value ∙ (c.copy_table.ensures.words ∙ (ap words c.requires.table ∙ (sym (line_named c.args.self.now.run (c.args.writer.now.step + 1) c.args.number)
    ∙ ap (λ (k : ℕ). line_of c.args.self.now.run (k + 1) c.args.number) (sym (ap (λ z. z.step) c.writer.view_is)))))

pub store_words-requires-clause-size : goal.store_words-requires-clause-size
store_words-requires-clause-size c =
    let lawful : IsLawfulRun c.args.self.now.run = subst IsLawfulRun (ap (λ z. z.run) c.self.view_is) c.self.invariant.lawful in
    let rows : c.len-rows.result ≡ length c.args.table.now.new.rows = c.len-rows.ensures.count ∙ (ap length c.rows.ensures.keys ∙ keys_long c.args.table.now.new.rows) in
    let most : c.limit-limit.result ≡ limit c.args.self.now.run c.args.number = c.limit-limit.ensures ∙ (ap (λ (z : List Published). limit_in z c.args.number) c.self.invariant.laid ∙ ap (λ (z : Run). limit z c.args.number) (ap (λ z. z.run) c.self.view_is)) in
    let is : c.as_slice.result.now ≡ words c.args.table.now.new = c.as_slice.ensures.value ∙ c.copy_table.ensures.words in
    let first : get_or c.as_slice.result.now 0 0 ≡ length c.args.table.now.new.rows = ap (λ (z : List ℕ). get_or z 0 0) is in
    let few : get_or c.as_slice.result.now 0 0 ≤ limit c.args.self.now.run c.args.number = (let h = c.if-rows-limit.false in omega arith) in
    let whole = line_whole c.args.self.now.run (c.args.writer.now.step + 1) c.args.number lawful c.requires.rules c.requires.number in
    ((line_fits c.args.self.now.run (c.args.writer.now.step + 1) c.args.number c.as_slice.result.now whole (is ∙ (ap words c.requires.table ∙ sym (line_named c.args.self.now.run (c.args.writer.now.step + 1) c.args.number)))).1 few, few)

pub overflow_add-writer : goal.overflow_add-writer
overflow_add-writer c =
    let lawful : IsLawfulRun c.args.self.now.run = subst IsLawfulRun (ap (λ z. z.run) c.self.view_is) c.self.invariant.lawful in
    let few = few_tables c.args.self.now.run lawful in let n = c.requires.number in omega arith

pub invariant_of-writer-2 : goal.invariant_of-writer-2
invariant_of-writer-2 c =
    let lawful : IsLawfulRun c.args.self.now.run = subst IsLawfulRun (ap (λ z. z.run) c.self.view_is) c.self.invariant.lawful in
    let named = ap (λ z. z.run) c.writer.view_is ∙ c.requires.own.1 in
    let step : c.writer.inside.step ≡ c.args.writer.now.step = ap (λ z. z.step) c.writer.view_is in
    let at = at_begun c.writer.inside.place.me.0 c.args.self.now.run c.writer.inside.step c.args.number named
    (subst (IsAt c.writer.inside.place.me.0 c.writer.inside.step) (ap (λ z. z.phase) c.writer.view_is ∙ c.requires.next) c.writer.invariant.at) in
    let whole = line_whole c.args.self.now.run (c.writer.inside.step + 1) c.args.number lawful (subst (λ (k : ℕ). KeepsRules c.args.self.now.run (k + 1)) (sym step) c.requires.rules) c.requires.number in
    let p = c.store_words.ensures.place in record {
      alone = p.0.2 ∙ c.writer.invariant.alone;
      small = c.writer.invariant.small;
      at = (
        p.1.2 ∙ at.0,
        p.1.3 ∙ at.3,
        at.1,
        (
          c.args.self.now.run,
          p.1.0 ∙ named,
          c.store_words.ensures.writing,
          λ q h. dite (ℕ_discrete q c.args.number) (λ e. subst (λ (z : ℕ). IsWhole c.args.self.now.run (c.writer.inside.step + 1) z) (sym e) whole) (λ other. at.4 q (omega arith)),
        ),
      );
      room = subst (HasRoom c.store_words.new.place.me.0) (sym c.copy_table.ensures.room) (room_on c.writer.inside.place.me.0 c.store_words.new.place.me.0 (vec_capacity c.writer.inside.words) p.1.0 c.writer.invariant.room);
    }
