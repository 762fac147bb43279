use Rattle.std.proofs.Common.{◌≡◌, ap, sym, ◌∙◌, subst, rules, arith, true, List, ℕ, ◌++◌, ◌+◌, ◌*◌, ◌≤◌, append-nil, [], ◌∷◌, refl, ℤ, length}
use Rattle.key_lists.specs.Keys.{is_among}
use Rattle.lookup_join.{specs.Matched.matched_table, proofs.Compared.{matched_at, matched_keys}, proofs.Reading.row_behind, proofs.Taking.has_row, proofs.Walks.{reader_has, row_given, row_read}}
use Rattle.row_changes.{proofs.Comparing.{cells_more, reads_next, reads_within}, specs.Parts.cells_under}
use Rattle.row_set.proofs.Yielded.{next_has, yielded_all, yielded_next}
use Rattle.tick_model.specs.Tables.{cells_at, keys}
use Rattle.lookup_join.proofs.rows.MatchedRowsRows.all_now.Goals as goal

pub row-requires : goal.row-requires
row-requires g c =
    let rows = c.args.self.now in
    let left = rows.left.now in record {
      here =
          reader_has left.new c.loop-key.left c.in-Some.key c.loop-key.invariant.left
          (subst (λ ks. is_among c.in-Some.key ks ≡ true) (matched_keys rows.on.now rows.pick rows.take.now left.new rows.right.now.new)
          (next_has c.loop-key.yielded c.into_iter-key-iterator.ensures.into_iter_gives c.loop-key.yielded_by c.in-Some.ensures.steps (λ key. is_among key (keys (matched_table rows.on.now rows.pick rows.take.now left.new rows.right.now.new).rows) ≡ true) c.requires.there));
    }

pub put_taken-requires-clause-some : goal.put_taken-requires-clause-some
put_taken-requires-clause-some g c =
    let rows = c.args.self.now in
    let left = rows.left.now.new in
    has_row (keys left.rows) c.in-Some.key
    (subst (λ ks. is_among c.in-Some.key ks ≡ true) (matched_keys rows.on.now rows.pick rows.take.now left rows.right.now.new)
    (next_has c.loop-key.yielded c.into_iter-key-iterator.ensures.into_iter_gives c.loop-key.yielded_by c.in-Some.ensures.steps (λ key. is_among key (keys (matched_table rows.on.now rows.pick rows.take.now left rows.right.now.new).rows) ≡ true) c.requires.there))

pub loop-key-preserved : goal.loop-key-preserved
loop-key-preserved g c =
    let rows = c.args.self.now in
    let left = rows.left.now in
    let right = rows.right.now in
    let key = c.in-Some.key in
    let yielded = c.loop-key.yielded in
    let others = c.loop-key.cells.items in
    let table = matched_table rows.on.now rows.pick rows.take.now left.new right.new in
    let there = subst (λ ks. is_among key ks ≡ true) (matched_keys rows.on.now rows.pick rows.take.now left.new right.new)
    (next_has yielded c.into_iter-key-iterator.ensures.into_iter_gives c.loop-key.yielded_by c.in-Some.ensures.steps (λ key. is_among key (keys table.rows) ≡ true) c.requires.there) in
    let start : c.len-start.result ≡ length others = search rules in
    let row = c.in_ok-extend_from_slice.ensures.items ∙ ap (λ (row : List ℤ). others ++ row) (row_given left.new c.loop-key.left key c.loop-key.invariant.left c.row.ensures.cells) in record {
      left = c.row.ensures.same ∙ c.loop-key.invariant.left;
      cells =
          cells_more table c.args.cells.now.items others c.put_taken.new.cells.items yielded (key ∷ []) (yielded ++ key ∷ []) c.loop-key.invariant.cells refl
          (c.in_ok-put_taken.ensures.cells
          ∙ row_behind rows.on.now rows.pick rows.take.now right.new.rows others (cells_at key left.new.rows) c.extend_from_slice.new.self.items c.len-start.result start row
          ∙ ap (λ (row : List ℤ). others ++ row) (sym (append-nil (cells_at key table.rows) ∙ matched_at rows.on.now rows.pick rows.take.now left.new right.new key there)));
      reads = reads_next (left.new.width + length rows.take.now) c.args.reads.now c.loop-key.reads c.put_taken.new.reads yielded key c.loop-key.invariant.reads (omega (arith, row_read c.loop-key.reads c.loop-key.invariant.left c.row.ensures.reads, c.in_ok-put_taken.ensures.reads));
    }

pub returns-in_err-extend_from_slice-clause-reads : goal.returns-in_err-extend_from_slice-clause-reads
returns-in_err-extend_from_slice-clause-reads g c =
    let rows = c.args.self.now in
    reads_within (rows.left.now.new.width + length rows.take.now) c.args.reads.now c.loop-key.reads c.row.new.reads c.loop-key.yielded c.in-Some.key _ _
    (yielded_next c.loop-key.yielded c.into_iter-key-iterator.ensures.into_iter_gives c.loop-key.yielded_by c.in-Some.ensures.steps) c.loop-key.invariant.reads
    (omega (arith, row_read c.loop-key.reads c.loop-key.invariant.left c.row.ensures.reads))

pub returns-in_err-put_taken-clause-reads : goal.returns-in_err-put_taken-clause-reads
returns-in_err-put_taken-clause-reads g c =
    let rows = c.args.self.now in
    reads_within (rows.left.now.new.width + length rows.take.now) c.args.reads.now c.loop-key.reads c.put_taken.new.reads c.loop-key.yielded c.in-Some.key _ _
    (yielded_next c.loop-key.yielded c.into_iter-key-iterator.ensures.into_iter_gives c.loop-key.yielded_by c.in-Some.ensures.steps) c.loop-key.invariant.reads
    (omega (arith, row_read c.loop-key.reads c.loop-key.invariant.left c.row.ensures.reads, c.put_taken.ensures.reads))

pub returns-clause-cells : goal.returns-clause-cells
returns-clause-cells g c =
    let rows = c.args.self.now in
    c.loop-key.invariant.cells
    ∙ ap (λ (keys : List ℕ). c.args.cells.now.items ++ cells_under (matched_table rows.on.now rows.pick rows.take.now rows.left.now.new rows.right.now.new) keys)
    (yielded_all c.loop-key.yielded c.into_iter-key-iterator.ensures.into_iter_gives c.loop-key.yielded_by c.in-None.ensures.steps.0)

pub returns-clause-reads : goal.returns-clause-reads
returns-clause-reads g c =
    let rows = c.args.self.now in
    subst (λ (keys : List ℕ). c.loop-key.reads ≤ c.args.reads.now + (rows.left.now.new.width + length rows.take.now) * length keys)
    (yielded_all c.loop-key.yielded c.into_iter-key-iterator.ensures.into_iter_gives c.loop-key.yielded_by c.in-None.ensures.steps.0) c.loop-key.invariant.reads
