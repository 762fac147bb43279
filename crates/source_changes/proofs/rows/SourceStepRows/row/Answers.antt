use Rattle.std.proofs.Common.{◌≡◌, ap, sym, ◌∙◌, subst, List, ◌++◌, ℤ, None, Bor, true}
use Rattle.std.{specs.Prelude.{OnOk, option_map}, proofs.lemmas.List.append-nil}
use Rattle.key_lists.specs.Keys.{is_among}
use Rattle.tick_model.{specs.declared.table.PlainTable.PlainTable, specs.Tables.{cells_at, keys}}
use Rattle.source_changes.proofs.Reading.{before_there, key_small, none_of, now_before, now_none, now_told}
use Rattle.source_changes.proofs.rows.SourceStepRows.row.Goals as goal

pub row-requires : goal.row-requires
row-requires g c = record { here = subst (λ (table : PlainTable). is_among c.args.key (keys table.rows) ≡ true) (sym c.table.ensures) (rw c.in-Before.is at c.requires.here) }

pub returns-in-Before-clause-cells : goal.returns-in-Before-clause-cells
returns-in-Before-clause-cells g c =
    rw c.in-Before.is (subst (λ (table : PlainTable). OnOk c.row.result (c.row.new.cells.items ≡ c.args.cells.now.items ++ cells_at c.args.key table.rows)) c.table.ensures c.row.ensures.cells)

pub returns-in-Some-clause-cells : goal.returns-in-Some-clause-cells
returns-in-Some-clause-cells g c =
    rw c.in-Now.is
    (c.in_ok-extend_from_slice-in-Now.ensures.items
    ∙ ap (λ (more : List ℤ). c.args.cells.now.items ++ more)
    (sym (now_told c.args.self.now c.args.key (rw c.in-Now.is at c.requires.here) c.in-Some.told.now (sym (ap (option_map (λ (cells : Bor (List ℤ)). cells.now)) c.in-Some.is) ∙ c.told_at.ensures))))

pub key_before-requires-clause-small : goal.key_before-requires-clause-small
key_before-requires-clause-small g c = key_small c.args.self.now c.args.key (rw c.in-Now.is at c.requires.here) c.requires.ready.small

pub row-requires-in-Some-2 : goal.row-requires-in-Some-2
row-requires-in-Some-2 g c =
    let there = before_there c.args.self.now c.args.key c.in-Some-2.before (sym c.in-Some-2.is ∙ c.in_ok-before-in-Now.ensures) in
    record { here = subst (λ (table : PlainTable). is_among c.in-Some-2.before (keys table.rows) ≡ true) (sym c.table-in-Some-2.ensures) there }

pub returns-in-Some-2-clause-cells : goal.returns-in-Some-2-clause-cells
returns-in-Some-2-clause-cells g c =
    let untold : None ≡ _ = sym (ap (option_map (λ (cells : Bor (List ℤ)). cells.now)) (none_of c.told_at.result c.in_default.not-Some)) ∙ c.told_at.ensures in
    let same : cells_at c.in-Some-2.before c.table-in-Some-2.result.now.new.rows ≡ _ =
    ap (λ (table : PlainTable). cells_at c.in-Some-2.before table.rows) c.table-in-Some-2.ensures
    ∙ sym (now_before c.args.self.now c.args.key (rw c.in-Now.is at c.requires.here) c.in-Some-2.before untold (sym c.in-Some-2.is ∙ c.in_ok-before-in-Now.ensures)) in
    rw c.in-Now.is (subst (λ (more : List ℤ). OnOk c.row-in-Some-2.result (c.row-in-Some-2.new.cells.items ≡ c.args.cells.now.items ++ more)) same c.row-in-Some-2.ensures.cells)

pub returns-in-None-clause-cells : goal.returns-in-None-clause-cells
returns-in-None-clause-cells g c =
    let untold : None ≡ _ = sym (ap (option_map (λ (cells : Bor (List ℤ)). cells.now)) (none_of c.told_at.result c.in_default.not-Some)) ∙ c.told_at.ensures in
    rw c.in-Now.is (sym (ap (λ (more : List ℤ). c.args.cells.now.items ++ more) (now_none c.args.self.now c.args.key (rw c.in-Now.is at c.requires.here) untold (sym c.in-None.is ∙ c.in_ok-before-in-Now.ensures)) ∙ append-nil c.args.cells.now.items))
