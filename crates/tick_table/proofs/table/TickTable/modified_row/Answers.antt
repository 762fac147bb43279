use Rattle.std.proofs.Common.{◌≡◌, ap, sym, ◌∙◌, ◌+◌, ◌-◌, ◌≤◌, ◌^◌, arith, get_or, length, length-append, ℕ}
use Rattle.std.proofs.lemmas.List.{get_or-append_right}
use Rattle.key_lists.{proofs.Every.every, proofs.Rising.rising_count}
use Rattle.tick_model.specs.Tables.{cells_at}
use Rattle.tick_table.specs.Ticking.{Ticking}
use Rattle.tick_table.proofs.table.TickTable.modified_row.Goals as goal

pub overflow_add-place : goal.overflow_add-place
overflow_add-place g c =
    let s = c.self.inside in
    let added = rising_count 0 (2 ^ 62) s.update.added (omega arith) (every (λ (key : ℕ). 0 ≤ key) s.update.added (λ key. omega arith)) c.added.ensures.set.small c.added.ensures.set.rising in
    let modified = rising_count 0 (2 ^ 62) s.update.modified (omega arith) (every (λ (key : ℕ). 0 ≤ key) s.update.modified (λ key. omega arith)) c.modified.ensures.set.small c.modified.ensures.set.rising in
    omega (arith, added, modified, c.len.ensures.count, ap length c.added.ensures.keys, c.requires, ap (λ (table : Ticking). length table.update.modified) c.self.view_is)

pub told_row-row-requires : goal.told_row-row-requires
told_row-row-requires g c =
    let update = c.args.self.now.update in
    let many : c.len.result ≡ length update.added = c.len.ensures.count ∙ ap length c.added.ensures.keys ∙ ap (λ (table : Ticking). length table.update.added) c.self.view_is in
    omega (arith, c.requires, many, length-append update.added update.modified)

pub returns-clause-cells : goal.returns-clause-cells
returns-clause-cells g c =
    let table = c.args.self.now in
    let many : c.len.result ≡ length table.update.added = c.len.ensures.count ∙ ap length c.added.ensures.keys ∙ ap (λ (table : Ticking). length table.update.added) c.self.view_is in
    let back : c.len.result + c.args.place - c.len.result ≡ c.args.place = omega arith in
    c.told_row-row.ensures.cells
    ∙ ap (λ (key : ℕ). cells_at key table.new.rows)
    (get_or-append_right table.update.added table.update.modified c.len.result (c.len.result + c.args.place) 0 (sym many) (omega arith) ∙ ap (λ (n : ℕ). get_or table.update.modified n 0) back)

pub returns-clause-reads : goal.returns-clause-reads
returns-clause-reads g c = omega (arith, c.told_row-row.ensures.whole, c.read_all.ensures)
