use Rattle.std.proofs.Common.{◌≡◌, ◌<◌, ◌≤◌, ap, sym, ◌∙◌, subst, refl, suc, take, drop, ◌++◌, ◌∷◌, [], append-nil, map, length, arith, vec_len, ◌==◌, false, Some, ℕ}
use Rattle.std.{specs.Prelude.slice_range, specs.List.AllByRecursion, specs.Vec.with_item, proofs.lemmas.Bool.eqb-false, proofs.lemmas.List.take_more_set, proofs.Math.Seq.map-set_same}
use Rattle.key_lists.{proofs.Every.every-append, proofs.Parts.{every-take, every-drop, set_around, no_items}}
use Rattle.slab.specs.Slab.{get}
use Rattle.row_handles.{specs.declared.block.RowBlock.RowBlock, specs.declared.index.HandleIndex.HandleIndex, specs.Entries.AreDistinct, specs.Blocks.{IsBlock, entry_at, rows, rows_of, number_of}, specs.Moves.has_handle, specs.Drops.AreOutside, proofs.Listings.{own_ascend, own_block}, proofs.Cutting.begins_first, proofs.Leaving.{Leaves, left_index, left_rest, left_done, all_held, held_less, distinct_gone, set_removed}}
use Rattle.row_handles.proofs.index.HandleIndex.leave_at.Goals as goal

pub rows_between-leaving-requires-clause-ascend : goal.rows_between-leaving-requires-clause-ascend
rows_between-leaving-requires-clause-ascend c = own_ascend c.args.self.now.blocks.items c.args.index c.index_mut-block.result.now c.requires.within c.index_mut-block.ensures.value c.requires.sound.ascend

-- the block is gone
abbrev without : goal.After-drop-remove → HandleIndex
without c = record { blocks = c.remove.new.self; ceilings = c.try_remove.new.self; places = c.vacate.new.places }

gone_list : (c : goal.After-drop-remove) → c.remove.new.self.items ≡ take c.args.index c.args.self.now.blocks.items ++ drop (suc c.args.index) c.args.self.now.blocks.items
gone_list c = c.remove.ensures.items ∙ set_removed c.args.self.now.blocks.items c.args.index _ c.requires.within

gone : (c : goal.After-drop-remove) → Leaves c.args.first c.args.last c.args.index c.rows_between-leaving.result.from c.rows_between-leaving.result.to c.index_mut-block.result.now [] c.args.self.now (without c)
gone c =
    let old = c.args.self.now.blocks.items in
    let block = c.index_mut-block.result.now in
    let from = c.rows_between-leaving.result.from in
    let to = c.rows_between-leaving.result.to in
    let rest = c.take_out.new.rows in
    let len : vec_len rest ≡ length rest.items = omega arith in
    let none = no_items rest.items (c.if-is_empty.ensures ∙ ap (λ n. n == 0) len) in
    let held = held_less old c.args.index block c.args.self.now.ceilings c.try_remove.new.self c.requires.within c.index_mut-block.ensures.value c.requires.sound.numbered c.try_remove.ensures.updates (all_held c.args.self.now c.requires.sound) in
    record {
      within = c.requires.within;
      is = c.index_mut-block.ensures.value;
      blocks = gone_list c;
      entries = ap (map (entry_at block.ceiling)) (sym none ∙ c.take_out.ensures);
      sound = tt;
      order = c.rows_between-leaving.ensures.order;
      below = c.rows_between-leaving.ensures.below;
      begun = c.rows_between-leaving.ensures.begun;
      ended = c.rows_between-leaving.ensures.ended;
      above = c.rows_between-leaving.ensures.above;
      numbered = subst (λ bs. AreDistinct (map number_of bs)) (sym (gone_list c)) (distinct_gone old c.args.index block c.requires.within c.index_mut-block.ensures.value c.requires.sound.numbered);
      front_held = held.0;
      own_held = tt;
      back_held = held.1;
      places = subst (λ s. (handle : ℕ) → has_handle handle (slice_range s from to) ≡ false → get c.vacate.new.places handle ≡ get c.args.self.now.places handle) c.deref.ensures.value c.vacate.ensures;
    }

pub returns-then-is_empty-clause-sound : goal.returns-then-is_empty-clause-sound
returns-then-is_empty-clause-sound c =
    left_index c.args.first c.args.last c.args.index c.rows_between-leaving.result.from c.rows_between-leaving.result.to c.index_mut-block.result.now [] c.args.self.now (without c) c.requires.sound (gone c)

pub returns-then-is_empty-clause-rest : goal.returns-then-is_empty-clause-rest
returns-then-is_empty-clause-rest c =
    left_rest c.args.first c.args.last c.args.index c.rows_between-leaving.result.from c.rows_between-leaving.result.to c.index_mut-block.result.now [] c.args.self.now (without c) c.requires.sound (gone c)

-- some of its rows stay
abbrev other : goal.After-self-2-1 → RowBlock
other c = record { number = c.index_mut-block.result.now.number; first = c.key-block.result; ceiling = c.index_mut-block.result.now.ceiling; rows = c.take_out.new.rows }

abbrev new : goal.After-self-2-1 → HandleIndex
new c = record { blocks = with_item c.args.self.now.blocks c.args.index (other c); ceilings = c.args.self.now.ceilings; places = c.vacate.new.places }

stays : (c : goal.After-self-2-1) → Leaves c.args.first c.args.last c.args.index c.rows_between-leaving.result.from c.rows_between-leaving.result.to c.index_mut-block.result.now (other c ∷ []) c.args.self.now (new c)
stays c =
    let old = c.args.self.now.blocks.items in
    let block = c.index_mut-block.result.now in
    let from = c.rows_between-leaving.result.from in
    let to = c.rows_between-leaving.result.to in
    let rest = c.take_out.new.rows in
    let is = own_block IsBlock old c.args.index block c.requires.within c.index_mut-block.ensures.value c.requires.sound.sound in
    let held = all_held c.args.self.now c.requires.sound in
    let some : vec_len rest ≡ 0 → ⊥ = eqb-false (vec_len rest) 0 (sym c.if-is_empty.ensures) in
    let more : 0 < length rest.items = omega (arith, some) in
    record {
      within = c.requires.within;
      is = c.index_mut-block.ensures.value;
      blocks = set_around old c.args.index (other c) c.requires.within;
      entries = append-nil (rows_of (other c)) ∙ ap (map (entry_at block.ceiling)) c.take_out.ensures;
      sound = (
        record {
          begun = begins_first c.key-block.result block.ceiling c.index.result.now rest.items more c.index.ensures c.key-block.ensures;
          held = subst (AllByRecursion (λ row. row.depth ≤ block.ceiling)) (sym c.take_out.ensures) (every-append (λ row. row.depth ≤ block.ceiling) (take from block.rows.items) (drop to block.rows.items) (every-take (λ row. row.depth ≤ block.ceiling) from block.rows.items is.held) (every-drop (λ row. row.depth ≤ block.ceiling) to block.rows.items is.held));
        },
        tt,
      );
      order = c.rows_between-leaving.ensures.order;
      below = c.rows_between-leaving.ensures.below;
      begun = c.rows_between-leaving.ensures.begun;
      ended = c.rows_between-leaving.ensures.ended;
      above = c.rows_between-leaving.ensures.above;
      numbered = subst AreDistinct (sym (map-set_same number_of old c.args.index (other c) block (ap number_of c.index_mut-block.ensures.value))) c.requires.sound.numbered;
      front_held = every-take (λ b. get c.args.self.now.ceilings b.number ≡ Some b.ceiling) c.args.index old held;
      own_held = ((own_block (λ b. get c.args.self.now.ceilings b.number ≡ Some b.ceiling) old c.args.index block c.requires.within c.index_mut-block.ensures.value held, refl, c.take_out.ensures), tt);
      back_held = every-drop (λ b. get c.args.self.now.ceilings b.number ≡ Some b.ceiling) (suc c.args.index) old held;
      places = subst (λ s. (handle : ℕ) → has_handle handle (slice_range s from to) ≡ false → get c.vacate.new.places handle ≡ get c.args.self.now.places handle) c.deref.ensures.value c.vacate.ensures;
    }

pub returns-clause-sound : goal.returns-clause-sound
returns-clause-sound c =
    left_index c.args.first c.args.last c.args.index c.rows_between-leaving.result.from c.rows_between-leaving.result.to c.index_mut-block.result.now (other c ∷ []) c.args.self.now (new c) c.requires.sound (stays c)

pub returns-clause-rest : goal.returns-clause-rest
returns-clause-rest c =
    left_rest c.args.first c.args.last c.args.index c.rows_between-leaving.result.from c.rows_between-leaving.result.to c.index_mut-block.result.now (other c ∷ []) c.args.self.now (new c) c.requires.sound (stays c)

pub returns-clause-done : goal.returns-clause-done
returns-clause-done c = λ done.
    subst (λ bs. AreOutside c.args.first c.args.last (rows bs)) (sym (take_more_set c.args.self.now.blocks.items c.args.index (other c) c.requires.within))
    (left_done c.args.first c.args.last c.args.index c.rows_between-leaving.result.from c.rows_between-leaving.result.to c.index_mut-block.result.now (other c ∷ []) c.args.self.now (new c) c.requires.sound (stays c) done)
