use Rattle.std.proofs.Common.{◌≡◌, ◌+◌, ◌<◌, ◌≤◌, ap, sym, ◌∙◌, subst, refl, take, drop, ◌++◌, ◌∷◌, []}
use Rattle.std.specs.List.{AllByRecursion}
use Rattle.slab.specs.Slab.{get}
use Rattle.row_handles.{specs.declared.block.RowBlock.RowBlock, specs.declared.index.HandleIndex.HandleIndex, specs.Entries.with_row, specs.Blocks.rows, proofs.Places.{keeps_fresh, located, vacant_none}, proofs.Inserting.{Begins, begun_index, begun_more, more_rows, same_index}}
use Rattle.row_handles.proofs.index.HandleIndex.insert_block.Goals as goal

pub returns-in_err-insert-clause-sound : goal.returns-in_err-insert-clause-sound
returns-in_err-insert-clause-sound c =
    same_index c.args.self.now _ c.in_err-insert.ensures.items (λ key x there. ap (λ s. get s key) c.reserve.ensures.rest_kept ∙ there) (λ key x there. ap (λ s. get s key) c.reserve-2.ensures.rest_kept ∙ there) c.requires.sound

abbrev block : goal.After-insert_reserved-2 → RowBlock
block c = record { number = c.in_ok-number.number; first = c.args.key; ceiling = c.args.key + 2147483648; rows = c.push.new.self }

abbrev new : goal.After-insert_reserved-2 → HandleIndex
new c = record { blocks = c.insert.new.self; ceilings = c.insert_reserved.new.self; places = c.insert_reserved-2.new.self }

same_handle : (c : goal.After-insert_reserved-2) → c.insert_reserved-2.result ≡ c.in_ok-handle.handle
same_handle c = c.insert_reserved-2.ensures.key ∙ sym c.vacant_key-2.ensures.value ∙ sym c.in_ok-handle.ensures

same_number : (c : goal.After-insert_reserved-2) → c.insert_reserved.result ≡ c.in_ok-number.number
same_number c = c.insert_reserved.ensures.key ∙ sym c.vacant_key.ensures.value ∙ sym c.in_ok-number.ensures

begins : (c : goal.After-insert_reserved-2) → Begins c.args.key 2147483648 c.in_ok-handle.handle c.begun_by-next.result (block c) c.args.self.now (new c)
begins c =
    let next = c.begun_by-next.result in
    record {
      blocks = c.in_ok-insert.ensures.items;
      items = c.in_ok-push.ensures.items ∙ ap (λ rows. rows ++ (record { depth = 2147483648; handle = c.in_ok-handle.handle }) ∷ []) c.new-rows.ensures.items;
      first = refl;
      ceiling = refl;
      vacant = sym (ap (λ s. get s c.in_ok-number.number) c.reserve.ensures.rest_kept) ∙ ap (get c.reserve.new.self) c.in_ok-number.ensures ∙ c.vacant_key.ensures.vacant;
      begun = subst (λ bs. AllByRecursion (λ other. other.first ≤ c.args.key) (take next bs)) c.deref.ensures.value c.begun_by-next.ensures.begun;
      back = subst (λ bs. AllByRecursion (λ other. c.args.key < other.first) (drop next bs)) c.deref.ensures.value c.begun_by-next.ensures.others;
      beside = c.requires.beside;
      absent = c.requires.absent;
      ceilings = λ key x there. keeps_fresh c.reserve.new.self c.insert_reserved.new.self c.insert_reserved.result _ c.insert_reserved.ensures.updates c.insert_reserved.ensures.was_vacant key x (ap (λ s. get s key) c.reserve.ensures.rest_kept ∙ there);
      held = ap (get c.insert_reserved.new.self) (sym (same_number c)) ∙ c.insert_reserved.ensures.updates.changed;
      places = λ key x there. keeps_fresh c.reserve-2.new.self c.insert_reserved-2.new.self c.insert_reserved-2.result _ c.insert_reserved-2.ensures.updates c.insert_reserved-2.ensures.was_vacant key x (ap (λ s. get s key) c.reserve-2.ensures.rest_kept ∙ there);
      placed = ap (get c.insert_reserved-2.new.self) (sym (same_handle c)) ∙ c.insert_reserved-2.ensures.updates.changed;
    }

pub returns-clause-ok : goal.returns-clause-ok
returns-clause-ok c =
    more_rows c.args.key c.in_ok-handle.handle (rows c.args.self.now.blocks.items) (rows c.insert.new.self.items)
    (begun_more c.args.key 2147483648 c.in_ok-handle.handle c.begun_by-next.result (block c) c.args.self.now (new c) c.requires.sound (begins c))
    ∙ ap (λ handle. with_row c.args.key handle (rows c.args.self.now.blocks.items)) (sym (same_handle c))

pub returns-clause-fresh : goal.returns-clause-fresh
returns-clause-fresh c =
    let index = c.args.self.now in
    let vacant = sym (ap (λ s. get s c.insert_reserved-2.result) c.reserve-2.ensures.rest_kept) ∙ c.insert_reserved-2.ensures.was_vacant in
    vacant_none index.ceilings index.places c.insert_reserved-2.result (rows index.blocks.items) vacant (located index.ceilings index.places index.blocks.items c.requires.sound.placed)

pub returns-clause-sound : goal.returns-clause-sound
returns-clause-sound c = begun_index c.args.key 2147483648 c.in_ok-handle.handle c.begun_by-next.result (block c) c.args.self.now (new c) c.requires.sound (begins c) c.requires.small
