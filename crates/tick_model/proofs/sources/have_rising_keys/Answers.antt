use Rattle.std.proofs.Common.{◌-◌, sym, ◌∙◌, arith, drop, length-drop}
use Rattle.std.proofs.lemmas.List.{length-map}
use Rattle.tick_model.{specs.declared.table.PlainRow.PlainRow, specs.Tables.keys, proofs.RisingNumbers.rises_alone}
use Rattle.tick_model.proofs.sources.have_rising_keys.Goals as goal

pub returns : goal.returns
returns c =
    let left = drop (c.loop-i.i - 1) c.args.rows.now in
    sym (rises_alone (keys left) (omega (arith, length-map left (λ (row : PlainRow). row.key), length-drop (c.loop-i.i - 1) c.args.rows.now))) ∙ c.loop-i.invariant
