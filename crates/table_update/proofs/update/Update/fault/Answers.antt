use Rattle.std.proofs.Common.{ap, ap₂, sym, ◌∙◌}
use Rattle.std.specs.Prelude.{option_map}
use Rattle.key_lists.specs.Keys.{without}
use Rattle.tick_model.specs.Rules.{shift_fault}
use Rattle.shift_data.specs.Faults.{breaks}
use Rattle.table_update.proofs.LawfulParts.{lawful_below}
use Rattle.table_update.proofs.update.Update.fault.Goals as goal

pub places_fault-requires : goal.places_fault-requires
places_fault-requires c =
    let old = c.args.old.now in
    lawful_below c.args.limit c.args.self.now.shifted (without c.args.self.now.removed old) c.requires
    (ap₂ (λ shifts gone. shift_fault c.args.limit shifts (without gone old)) (sym c.shifted-shifted.ensures) (sym c.removed-removed.ensures.keys)
    ∙ sym c.keeps_order_without.ensures ∙ ap (option_map breaks) c.in_default-keeps_order_without.is)
