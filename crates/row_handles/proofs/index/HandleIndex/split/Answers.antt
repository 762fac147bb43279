use Rattle.std.proofs.Common.{◌≡◌, ◌+◌, ◌-◌, ◌<◌, ◌≤◌, ap, sym, ◌∙◌, subst, refl, suc, take, drop, set, ◌++◌, ◌∷◌, get_or, length, length-drop, take_all, arith}
use Rattle.std.specs.Vec.{with_item}
use Rattle.key_lists.proofs.Parts.{same_at, split_list}
use Rattle.slab.specs.Slab.{get}
use Rattle.row_handles.{specs.declared.block.RowBlock.RowBlock, specs.declared.index.HandleIndex.HandleIndex, specs.Moves.{AreRenamed, IsSplit}, proofs.Lists.held_before, proofs.Places.keeps_fresh, proofs.Cutting.{Splits, begins_first, split_made, split_rows, split_index}}
use Rattle.row_handles.proofs.index.HandleIndex.split.Goals as goal

abbrev left : goal.After-insert_reserved → RowBlock
left c = record { number = c.index_mut-left.result.now.number; first = c.index_mut-left.result.now.first; ceiling = c.index_mut-left.result.now.ceiling; rows = c.truncate.new.self }

abbrev right : goal.After-insert_reserved → RowBlock
right c = record { number = c.in_ok-number.number; first = c.key.result; ceiling = c.index-block.result.now.ceiling; rows = c.in_ok-rows.rows }

abbrev new : goal.After-insert_reserved → HandleIndex
new c = record { blocks = with_item c.insert.new.self c.args.index (left c); ceilings = c.insert_reserved.new.self; places = c.rename.new.places }

list : (c : goal.After-insert_reserved) → c.insert.new.self.items ≡ take (suc c.args.index) c.args.self.now.blocks.items ++ right c ∷ drop (suc c.args.index) c.args.self.now.blocks.items
list c =
    let next : c.args.index + 1 ≡ suc c.args.index = omega arith in
    c.in_ok-insert.ensures.items ∙ ap (λ n. take n c.args.self.now.blocks.items ++ right c ∷ drop n c.args.self.now.blocks.items) next

same : (c : goal.After-insert_reserved) → c.index_mut-left.result.now ≡ c.index-block.result.now
same c =
    let old = c.args.self.now.blocks.items in
    let held = c.index_mut-left.result.now in
    same_at old c.args.index held c.index-block.result.now c.requires.within (held_before old c.args.index held (right c) c.requires.within (c.index_mut-left.ensures.value ∙ ap (λ bs. get_or bs c.args.index held) (list c))) c.index-block.ensures

rest : (c : goal.After-insert_reserved) → take (length c.index-block.result.now.rows.items - c.args.from) (drop c.args.from c.index-block.result.now.rows.items) ≡ drop c.args.from c.index-block.result.now.rows.items
rest c =
    let items = c.index-block.result.now.rows.items in
    let all : length (drop c.args.from items) ≤ length items - c.args.from = omega (arith, length-drop c.args.from items) in
    take_all (length items - c.args.from) (drop c.args.from items) all

right_rows : (c : goal.After-insert_reserved) → c.in_ok-rows.rows.items ≡ drop c.args.from c.index-block.result.now.rows.items
right_rows c = c.in_ok-rows.ensures.items ∙ ap (λ s. take (length s - c.args.from) (drop c.args.from s)) c.deref.ensures.value ∙ rest c

splits : (c : goal.After-insert_reserved) → Splits c.args.from c.args.index c.index-block.result.now (left c) (right c) c.args.self.now (new c)
splits c =
    let old = c.args.self.now.blocks.items in
    let block = c.index-block.result.now in
    let from = c.args.from in
    let within : from < length block.rows.items = c.requires.others block c.index-block.ensures in
    let some : 0 < length c.in_ok-rows.rows.items = omega (arith, ap length (right_rows c), length-drop from block.rows.items, within) in
    record {
      within = c.requires.within;
      is = c.index-block.ensures;
      blocks = ap (λ bs. set bs c.args.index (left c)) (list c) ∙ split_list old c.args.index (left c) (right c) c.requires.within;
      some = c.requires.some;
      left_number = ap (λ b. b.number) (same c);
      left_first = ap (λ b. b.first) (same c);
      left_ceiling = ap (λ b. b.ceiling) (same c);
      left_rows = c.truncate.ensures.items ∙ ap (λ b. take from b.rows.items) (same c);
      vacant = sym (ap (λ s. get s c.in_ok-number.number) c.reserve.ensures.rest_kept) ∙ ap (get c.reserve.new.self) c.in_ok-number.ensures ∙ c.vacant_key.ensures.vacant;
      right_begun = begins_first c.key.result block.ceiling c.index.result.now c.in_ok-rows.rows.items some c.index.ensures c.key.ensures;
      right_ceiling = refl;
      right_rows = right_rows c;
      ceilings = λ key x there. keeps_fresh c.reserve.new.self c.insert_reserved.new.self c.insert_reserved.result _ c.insert_reserved.ensures.updates c.insert_reserved.ensures.was_vacant key x (ap (λ s. get s key) c.reserve.ensures.rest_kept ∙ there);
      held = ap (get c.insert_reserved.new.self) (c.in_ok-number.ensures ∙ c.vacant_key.ensures.value ∙ sym c.insert_reserved.ensures.key) ∙ c.insert_reserved.ensures.updates.changed;
      renamed = subst (λ rs. AreRenamed c.in_ok-number.number rs c.args.self.now.places c.rename.new.places) (ap (λ s. take (length s - from) (drop from s)) (c.deref-2.ensures.value ∙ ap (λ b. b.rows.items) (same c)) ∙ rest c) c.rename.ensures;
    }

pub returns-clause-ok : goal.returns-clause-ok
returns-clause-ok c = λ block at.
    let old = c.args.self.now.blocks.items in
    subst (λ b. IsSplit c.args.from b c.args.index old (new c).blocks.items) (same_at old c.args.index c.index-block.result.now block c.requires.within c.index-block.ensures at)
    (split_made c.args.from c.args.index c.index-block.result.now (left c) (right c) c.args.self.now (new c) c.requires.sound (splits c))

pub returns-clause-same : goal.returns-clause-same
returns-clause-same c = split_rows c.args.from c.args.index c.index-block.result.now (left c) (right c) c.args.self.now (new c) c.requires.sound (splits c)

pub returns-clause-sound : goal.returns-clause-sound
returns-clause-sound c = split_index c.args.from c.args.index c.index-block.result.now (left c) (right c) c.args.self.now (new c) c.requires.sound (splits c)
