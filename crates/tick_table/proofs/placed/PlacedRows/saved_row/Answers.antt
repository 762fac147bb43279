use Rattle.std.proofs.Common.{ap, ap₂, sym, ◌∙◌, ◌+◌, ◌*◌, ◌≤◌, subst, take, drop, length, List, ℕ, ℤ}
use Rattle.tick_table.specs.Placed.{Placed}
use Rattle.tick_table.proofs.placed.PlacedRows.saved_row.Goals as goal

pub row_at-requires : goal.row_at-requires
row_at-requires c =
    let s = c.self.inside in
    subst (λ (cells : List ℤ). c.args.place * c.width.result + c.width.result ≤ length cells) (sym c.deref.ensures.value)
    (subst (λ (n : ℕ). c.args.place * n + n ≤ length s.saved.items) (sym c.width.ensures)
    (subst (λ (placed : Placed). c.args.place * placed.width + placed.width ≤ length placed.saved) (sym c.self.view_is) c.requires))

pub returns-clause-cells : goal.returns-clause-cells
returns-clause-cells c =
    c.row_at.ensures.cells
    ∙ ap₂ (λ (n : ℕ) (cells : List ℤ). take n (drop (c.args.place * n) cells)) c.width.ensures c.deref.ensures.value
    ∙ ap (λ (placed : Placed). take placed.width (drop (c.args.place * placed.width) placed.saved)) c.self.view_is
