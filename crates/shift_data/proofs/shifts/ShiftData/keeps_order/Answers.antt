use Rattle.std.proofs.Common.{◌≡◌, ap, ap₂, ◌∙◌}
use Rattle.key_lists.{specs.Keys.without, proofs.Every.filter_all}
use Rattle.tick_model.specs.Rules.{shift_fault}
use Rattle.shift_data.proofs.shifts.ShiftData.keeps_order.Goals as goal

pub returns : goal.returns
returns c =
    let keys = c.args.keys.now in
    let none : without c.new-none.result keys ≡ keys = ap (λ left_out. without left_out keys) c.new-none.ensures ∙ filter_all keys in
    c.broken.ensures ∙ ap₂ (shift_fault c.args.limit) (c.deref.ensures.value ∙ c.self.view_is) none
