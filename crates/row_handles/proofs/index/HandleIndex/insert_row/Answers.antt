use Rattle.std.proofs.Common.{◌≡◌, ◌+◌, ◌<◌, ap, sym, ◌∙◌, subst, refl, suc, drop, arith, None}
use Rattle.std.{specs.Vec.with_item, specs.List.AllByRecursion}
use Rattle.slab.specs.Slab.{get}
use Rattle.row_handles.{specs.declared.block.RowBlock.RowBlock, specs.declared.index.HandleIndex.HandleIndex, specs.Entries.with_row, specs.Blocks.rows, proofs.Listings.own_ascend, proofs.Places.{keeps_fresh, located, vacant_none}, proofs.Inserting.{Inserts, inserted_index, inserted_more, more_rows, kept_rows, kept_index, on_err}}
use Rattle.row_handles.proofs.index.HandleIndex.insert_row.Goals as goal

pub rows_below-place-requires : goal.rows_below-place-requires
rows_below-place-requires c = own_ascend c.args.self.now.blocks.items c.args.index c.index_mut-block.result.now c.requires.within c.index_mut-block.ensures.value c.requires.sound.ascend

pub returns-in_err-insert-clause-err : goal.returns-in_err-insert-clause-err
returns-in_err-insert-clause-err c =
    on_err c.from_residual-in_err-insert.result _
    (kept_rows c.args.self.now.blocks.items c.args.index c.index_mut-block.result.now _ c.requires.within c.index_mut-block.ensures.value (record { number = refl; first = refl; ceiling = refl; rows = c.in_err-insert.ensures.items }))

pub returns-in_err-insert-clause-sound : goal.returns-in_err-insert-clause-sound
returns-in_err-insert-clause-sound c =
    kept_index c.args.self.now _ c.args.index c.index_mut-block.result.now _ c.requires.within c.index_mut-block.ensures.value (record { number = refl; first = refl; ceiling = refl; rows = c.in_err-insert.ensures.items }) refl (λ key x there. there) (λ key x there. ap (λ s. get s key) c.reserve.ensures.rest_kept ∙ there) c.requires.sound

abbrev other : goal.After-insert_reserved → RowBlock
other c = record { number = c.index_mut-block.result.now.number; first = c.min-block.result; ceiling = c.index_mut-block.result.now.ceiling; rows = c.insert.new.self }

abbrev new : goal.After-insert_reserved → HandleIndex
new c = record { blocks = with_item c.args.self.now.blocks c.args.index (other c); ceilings = c.args.self.now.ceilings; places = c.insert_reserved.new.self }

same_handle : (c : goal.After-insert_reserved) → c.insert_reserved.result ≡ c.in_ok-handle.handle
same_handle c = c.insert_reserved.ensures.key ∙ sym c.vacant_key.ensures.value ∙ sym c.in_ok-handle.ensures

vacant : (c : goal.After-insert_reserved) → get c.args.self.now.places c.insert_reserved.result ≡ None
vacant c = sym (ap (λ s. get s c.insert_reserved.result) c.reserve.ensures.rest_kept) ∙ c.insert_reserved.ensures.was_vacant

inserts : (c : goal.After-insert_reserved) → Inserts c.args.key c.args.depth c.in_ok-handle.handle c.args.index c.rows_below-place.result c.index_mut-block.result.now (other c) c.args.self.now (new c)
inserts c =
    let next : c.args.index + 1 ≡ suc c.args.index = omega arith in
    record {
      within = c.requires.within;
      is = c.index_mut-block.ensures.value;
      blocks = refl;
      items = c.in_ok-insert.ensures.items;
      first = c.min-block.ensures;
      ceiling = refl;
      number = refl;
      height = c.requires.depth c.index_mut-block.result.now c.index_mut-block.ensures.value;
      below = c.rows_below-place.ensures.below;
      others = c.rows_below-place.ensures.others;
      front = c.requires.below;
      back = subst (λ n. AllByRecursion (λ block. c.args.key < block.first) (drop n c.args.self.now.blocks.items)) next c.requires.above;
      absent = c.requires.absent;
      ceilings = λ key x there. there;
      places = λ key x there. keeps_fresh c.reserve.new.self c.insert_reserved.new.self c.insert_reserved.result _ c.insert_reserved.ensures.updates c.insert_reserved.ensures.was_vacant key x (ap (λ s. get s key) c.reserve.ensures.rest_kept ∙ there);
      placed = ap (get c.insert_reserved.new.self) (sym (same_handle c)) ∙ c.insert_reserved.ensures.updates.changed;
    }

pub returns-clause-ok : goal.returns-clause-ok
returns-clause-ok c =
    more_rows c.args.key c.in_ok-handle.handle (rows c.args.self.now.blocks.items) (rows (new c).blocks.items)
    (inserted_more c.args.key c.args.depth c.in_ok-handle.handle c.args.index c.rows_below-place.result c.index_mut-block.result.now (other c) c.args.self.now (new c) c.requires.sound (inserts c))
    ∙ ap (λ handle. with_row c.args.key handle (rows c.args.self.now.blocks.items)) (sym (same_handle c))

pub returns-clause-fresh : goal.returns-clause-fresh
returns-clause-fresh c =
    let index = c.args.self.now in
    vacant_none index.ceilings index.places c.insert_reserved.result (rows index.blocks.items) (vacant c) (located index.ceilings index.places index.blocks.items c.requires.sound.placed)

pub returns-clause-sound : goal.returns-clause-sound
returns-clause-sound c =
    inserted_index c.args.key c.args.depth c.in_ok-handle.handle c.args.index c.rows_below-place.result c.index_mut-block.result.now (other c) c.args.self.now (new c) c.requires.sound (inserts c) c.requires.small
