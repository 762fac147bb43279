use Rattle.std.proofs.Common.{ap, sym, ◌∙◌, length}
use Rattle.chunk_list.specs.Chunked.{joined}
use Rattle.tick_table.{specs.Placed.Placed, proofs.Own.length-cells}
use Rattle.tick_table.proofs.placed.PlacedRows.len.Goals as goal

pub returns : goal.returns
returns c =
    let s = c.self.inside in
    c.len.ensures.count ∙ sym (length-cells s.slots.rows (joined s.places)) ∙ ap (λ (placed : Placed). length placed.rows) c.self.view_is
