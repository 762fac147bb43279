use Rattle.std.proofs.Common.{ap, ap₂, sym, ◌∙◌, subst, ◌+◌, ◌*◌, ◌≤◌, take, drop, length, List, ℕ, ℤ}
use Rattle.tick_table.{specs.Ticking.Ticking, proofs.Before.{told_cells, told_within}}
use Rattle.tick_table.proofs.table.TickTable.told_row.Goals as goal

pub row_at-requires : goal.row_at-requires
row_at-requires c =
    let s = c.self.inside in
    subst (λ (cells : List ℤ). c.args.place * c.width.result + c.width.result ≤ length cells) (sym c.as_slice.ensures)
    (subst (λ (n : ℕ). c.args.place * n + n ≤ length s.told) (sym c.width.ensures)
    (told_within s.rows s.prev_rows s.placed s.update s.told c.self.invariant c.args.self.now c.self.view_is c.args.place c.requires))

pub returns-clause-cells : goal.returns-clause-cells
returns-clause-cells c =
    let s = c.self.inside in
    c.row_at.ensures.cells
    ∙ ap₂ (λ (n : ℕ) (cells : List ℤ). take n (drop (c.args.place * n) cells)) c.width.ensures c.as_slice.ensures
    ∙ told_cells s.rows s.prev_rows s.placed s.update s.told c.self.invariant c.args.self.now c.self.view_is c.args.place c.requires

pub returns-clause-whole : goal.returns-clause-whole
returns-clause-whole c = c.row_at.ensures.whole ∙ c.width.ensures ∙ ap (λ (table : Ticking). table.new.width) c.self.view_is
