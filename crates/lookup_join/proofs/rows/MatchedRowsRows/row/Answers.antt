use Rattle.std.proofs.Common.{◌≡◌, ap, sym, ◌∙◌, subst, rules, true, List, ◌++◌, ℤ, length}
use Rattle.std.specs.Prelude.{OnOk}
use Rattle.key_lists.specs.Keys.{is_among}
use Rattle.lookup_join.{proofs.Reading.row_behind, proofs.Taking.has_row, proofs.Compared.{matched_at, matched_keys}}
use Rattle.tick_model.specs.Tables.{cells_at, keys}
use Rattle.tick_table.specs.Versions.{table_in}
use Rattle.lookup_join.proofs.rows.MatchedRowsRows.row.Goals as goal

pub row-requires : goal.row-requires
row-requires g c =
    let rows = c.args.self.now in record {
      here = subst (λ ks. is_among c.args.key ks ≡ true) (matched_keys rows.on.now rows.pick rows.take.now (table_in c.args.version rows.left.now) (table_in c.args.version rows.right.now)) c.requires.here;
    }

pub put_taken-requires-clause-some : goal.put_taken-requires-clause-some
put_taken-requires-clause-some g c =
    let rows = c.args.self.now in
    let left = table_in c.args.version rows.left.now in
    has_row (keys left.rows) c.args.key (subst (λ ks. is_among c.args.key ks ≡ true) (matched_keys rows.on.now rows.pick rows.take.now left (table_in c.args.version rows.right.now)) c.requires.here)

pub returns-clause-cells : goal.returns-clause-cells
returns-clause-cells g c =
    let rows = c.args.self.now in
    let left = table_in c.args.version rows.left.now in
    let right = table_in c.args.version rows.right.now in
    let there = subst (λ ks. is_among c.args.key ks ≡ true) (matched_keys rows.on.now rows.pick rows.take.now left right) c.requires.here in
    let others = c.args.cells.now.items in
    let start : c.len-start.result ≡ length others = search rules in
    let whole = row_behind rows.on.now rows.pick rows.take.now right.rows others (cells_at c.args.key left.rows) c.row.new.cells.items c.len-start.result start c.in_ok-row.ensures.cells
    ∙ ap (λ (row : List ℤ). others ++ row) (sym (matched_at rows.on.now rows.pick rows.take.now left right c.args.key there)) in
    subst (λ (all : List ℤ). OnOk c.put_taken.result (c.put_taken.new.cells.items ≡ all)) whole c.put_taken.ensures.cells
