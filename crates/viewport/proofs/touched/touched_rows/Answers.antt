use Rattle.std.proofs.Common.{◌≡◌, ap, ap₂, ◌∙◌, List, take, drop}
use Rattle.key_lists.specs.Keys.{is_among, without}
use Rattle.shift_data.specs.Moves.{unapplied}
use Rattle.table_update.proofs.LawfulParts.{lawful_some}
use Rattle.tick_model.{specs.declared.update.ShiftRange.ShiftRange, specs.Rules.landed, specs.Shifts.{as_key, moved}, specs.Tables.keys}
use Rattle.viewport.{specs.Slices.cut, proofs.Messages.{parts_are, stayed, staying_lawful}, proofs.SliceTables.cut_keys}
use Rattle.viewport.proofs.touched.touched_rows.Goals as goal

pub apply-requires : goal.apply-requires
apply-requires c =
    let kept = c.args.kept.now in
    rw (c.shifted-2.ensures, c.in_ok-stayed.ensures, c.shifted.ensures, c.removed.ensures.keys, c.rows-before.ensures.keys)
    (lawful_some kept.shifted (λ key. is_among (as_key (moved kept.shifted key)) c.in_ok-now.now) (without kept.removed (keys c.args.last.now.new.rows))
    (staying_lawful c.args.slice.now c.args.last.now.new c.args.table.now.new kept c.requires c.rows.ensures.table))

pub returns : goal.returns
returns c =
    let slice = c.args.slice.now in
    let last = c.args.last.now.new in
    let table = c.args.table.now.new in
    let kept = c.args.kept.now in
    let before = c.rows-before.result.now in
    let now_is : c.in_ok-now.now ≡ keys (cut slice table).rows = c.in_ok-now.ensures ∙ ap (λ ks. take slice.count (drop slice.first ks)) c.rows.ensures.keys ∙ cut_keys slice table in
    let stayed_is : c.in_ok-stayed.stayed ≡ stayed slice last table kept c.requires c.rows.ensures.table =
    c.in_ok-stayed.ensures
    ∙ ap (λ (shifts : List ShiftRange). unapplied shifts (without c.removed.result.now before) c.in_ok-now.now) c.shifted.ensures
    ∙ ap (λ ks. unapplied kept.shifted (without ks before) c.in_ok-now.now) c.removed.ensures.keys
    ∙ ap₂ (λ olds news. unapplied kept.shifted (without kept.removed olds) news) c.rows-before.ensures.keys now_is in
    parts_are slice last table kept c.requires c.rows.ensures.table c.in_ok-minus.field-0 c.in_ok-minus-2.field-0 c.in_ok-stayed.stayed c.in_ok-stay.stay c.in_ok-of_pairs.field-0
    stayed_is
    (c.in_ok-stay.ensures ∙ ap (λ (shifts : List ShiftRange). landed shifts c.in_ok-stayed.stayed) c.shifted-2.ensures)
    (c.in_ok-minus.ensures ∙ ap (without c.in_ok-stayed.stayed) c.rows-before.ensures.keys)
    (c.in_ok-minus-2.ensures ∙ ap (without c.in_ok-stay.stay) now_is)
    c.in_ok-of_pairs.ensures
