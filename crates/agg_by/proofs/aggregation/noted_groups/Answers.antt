use Rattle.std.proofs.Common.{◌≡◌, ap, sym, ◌∙◌, subst, arith, ◌+◌, length}
use Rattle.std.{specs.List.list_any, proofs.lemmas.Result.IfOk-weaker}
use Rattle.row_changes.specs.Parts.{AreThere}
use Rattle.tick_model.{specs.declared.table.PlainTable.PlainTable, specs.Tables.IsTable}
use Rattle.tick_table.specs.Exact.{counted}
use Rattle.agg_by.{specs.declared.notes.PriorRows.PriorRows, specs.Notes.IsNoted, specs.Steps.touched_firsts, specs.Touched.starts_numbered, proofs.GroupParts.is_tick, proofs.Whole.{firsts_few, found_firsts, noted_reads, touched_there}}
use Rattle.row_groups.specs.Members.{groups_of}
use Rattle.agg_by.proofs.aggregation.noted_groups.Goals as goal

pub take-requires-clause-table : goal.take-requires-clause-table
take-requires-clause-table g c = subst IsTable (sym c.requires.shown) (is_tick c.args.kept.now.by c.args.kept.now.aggs c.args.input.now c.requires.exact).old_table

pub take-requires-clause-there : goal.take-requires-clause-there
take-requires-clause-there g c =
    let t = c.args.input.now in
    let by = c.args.kept.now.by in
    let aggs = c.args.kept.now.aggs in
    let rows = c.args.kept.now.rows in
    let are : c.in_ok-before.before ≡ touched_firsts by t t.old.rows =
    found_firsts by t t.old c.requires.exact.tick.old_table (groups_of rows) c.in_ok-before.before c.requires.rows c.in_ok-before.ensures.rising (λ first. c.in_ok-before.ensures.firsts first ∙ ap (list_any (starts_numbered rows first)) c.numbers.ensures ∙ c.in_ok-note_before.ensures.noted.firsts first) in
    subst (λ keys. AreThere c.args.shown.now.new keys) (sym are) (subst (λ (table : PlainTable). AreThere table (touched_firsts by t t.old.rows)) (sym c.requires.shown) (touched_there by aggs t t.old))

pub returns-clause-touched : goal.returns-clause-touched
returns-clause-touched g c = IfOk-weaker c.take.result _ _ (λ (notes : PriorRows) keys. c.in_ok-note_before.ensures.noted) c.take.ensures.keys

pub returns-clause-noted : goal.returns-clause-noted
returns-clause-noted g c = IfOk-weaker c.take.result _ _ (λ notes is. subst (λ (table : PlainTable). IsNoted notes table) c.requires.shown is) c.take.ensures.noted

pub returns-clause-keys : goal.returns-clause-keys
returns-clause-keys g c =
    let t = c.args.input.now in
    let by = c.args.kept.now.by in
    let rows = c.args.kept.now.rows in
    let are : c.in_ok-before.before ≡ touched_firsts by t t.old.rows =
    found_firsts by t t.old c.requires.exact.tick.old_table (groups_of rows) c.in_ok-before.before c.requires.rows c.in_ok-before.ensures.rising (λ first. c.in_ok-before.ensures.firsts first ∙ ap (list_any (starts_numbered rows first)) c.numbers.ensures ∙ c.in_ok-note_before.ensures.noted.firsts first) in
    IfOk-weaker c.take.result (λ (notes : PriorRows). notes.keys ≡ c.in_ok-before.before) (λ (notes : PriorRows). notes.keys ≡ touched_firsts by t t.old.rows) (λ notes is. is ∙ are) c.take.ensures.keys

pub returns-in_err-note_before-clause-reads : goal.returns-in_err-note_before-clause-reads
returns-in_err-note_before-clause-reads g c =
    let t = c.args.input.now in
    noted_reads t.new.width c.args.shown.now.new.width (length t.update.added + length t.update.modified) 0 (counted t.update) c.args.reads.now c.note_before.new.reads c.note_before.new.reads c.note_before.ensures.reads (omega arith)
    (omega arith) (omega arith)

pub returns-in_err-before-clause-reads : goal.returns-in_err-before-clause-reads
returns-in_err-before-clause-reads g c =
    let t = c.args.input.now in
    noted_reads t.new.width c.args.shown.now.new.width (length t.update.added + length t.update.modified) 0 (counted t.update) c.args.reads.now c.note_before.new.reads c.note_before.new.reads c.note_before.ensures.reads (omega arith)
    (omega arith) (omega arith)

pub returns-clause-reads : goal.returns-clause-reads
returns-clause-reads g c =
    let t = c.args.input.now in
    let by = c.args.kept.now.by in
    let rows = c.args.kept.now.rows in
    noted_reads t.new.width c.args.shown.now.new.width (length t.update.added + length t.update.modified) (length c.in_ok-before.before) (counted t.update) c.args.reads.now c.note_before.new.reads c.take.new.reads c.note_before.ensures.reads c.take.ensures.reads
    (omega arith)
    (firsts_few by t c.requires.exact rows c.in_ok-before.before c.in_ok-before.ensures.rising (λ first. c.in_ok-before.ensures.firsts first ∙ ap (list_any (starts_numbered rows first)) c.numbers.ensures ∙ c.in_ok-note_before.ensures.noted.firsts first))
