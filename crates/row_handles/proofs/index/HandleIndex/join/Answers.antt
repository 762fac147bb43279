use Rattle.std.proofs.Common.{◌≡◌, ◌+◌, ◌<◌, ap, sym, ◌∙◌, subst, refl, suc, ◌++◌, get_or, set, map, length, arith, None, Some, ℕ, false, get_or-set_other}
use Rattle.std.{specs.Prelude.IfSome, specs.List.{AllByRecursion, remove}}
use Rattle.key_lists.proofs.Parts.{same_at}
use Rattle.slab.specs.Slab.{ContainsKey, Updates, get}
use Rattle.row_handles.{specs.declared.block.RowBlock.RowBlock, specs.declared.index.HandleIndex.HandleIndex, specs.Entries.AreDistinct, specs.Blocks.{AreRowsUnder, place_in, rows_of}, specs.Moves.{handle_in, has_handle}, proofs.Inserting.{kept_rows, kept_index}, proofs.Joining.{Joins, moved_there, moved_distinct, joins_rows, joins_index, removed_next}}
use Rattle.row_handles.proofs.index.HandleIndex.join.Goals as goal

pub returns-in_err-extend_from_slice-clause-same : goal.returns-in_err-extend_from_slice-clause-same
returns-in_err-extend_from_slice-clause-same c =
    let within : c.args.index < length c.args.self.now.blocks.items = omega (arith, c.if-index-last.false, c.saturating_sub-last.ensures, c.len.ensures) in
    kept_rows c.args.self.now.blocks.items c.args.index c.index_mut-left.result.now _ within c.index_mut-left.ensures.value (record { number = refl; first = refl; ceiling = refl; rows = c.in_err-extend_from_slice.ensures.items })

pub returns-in_err-extend_from_slice-clause-sound : goal.returns-in_err-extend_from_slice-clause-sound
returns-in_err-extend_from_slice-clause-sound c =
    let within : c.args.index < length c.args.self.now.blocks.items = omega (arith, c.if-index-last.false, c.saturating_sub-last.ensures, c.len.ensures) in
    kept_index c.args.self.now _ c.args.index c.index_mut-left.result.now _ within c.index_mut-left.ensures.value (record { number = refl; first = refl; ceiling = refl; rows = c.in_err-extend_from_slice.ensures.items }) refl (λ key x there. there) (λ key x there. there) c.requires

pub settle-requires-clause-there : goal.settle-requires-clause-there
settle-requires-clause-there c =
    let right = c.index-right.result.now in
    let within : c.args.index + 1 < length c.args.self.now.blocks.items = omega (arith, c.if-index-last.false, c.saturating_sub-last.ensures, c.len.ensures) in
    let under = subst (λ found. IfSome found (λ rows. AreRowsUnder c.index-left.result.now.ceiling rows.items (rows_of right))) c.in-Some.is c.in_ok-moved.ensures in
    subst (AllByRecursion (λ row. ContainsKey c.args.self.now.places row.handle)) (sym c.deref-2.ensures.value) (moved_there c.args.self.now c.requires (c.args.index + 1) right within c.index-right.ensures c.index-left.result.now.ceiling c.in-Some.moved.items under)

pub settle-requires-clause-distinct : goal.settle-requires-clause-distinct
settle-requires-clause-distinct c =
    let right = c.index-right.result.now in
    let within : c.args.index + 1 < length c.args.self.now.blocks.items = omega (arith, c.if-index-last.false, c.saturating_sub-last.ensures, c.len.ensures) in
    let under = subst (λ found. IfSome found (λ rows. AreRowsUnder c.index-left.result.now.ceiling rows.items (rows_of right))) c.in-Some.is c.in_ok-moved.ensures in
    subst (λ rows. AreDistinct (map handle_in rows)) (sym c.deref-2.ensures.value) (moved_distinct c.args.self.now c.requires (c.args.index + 1) right within c.index-right.ensures c.index-left.result.now.ceiling c.in-Some.moved.items under)

pub returns-clause-same : goal.returns-clause-same
returns-clause-same c =
    let old = c.args.self.now.blocks.items in
    let index = c.args.index in
    let left = c.index_mut-left.result.now in
    let right = c.index-right.result.now in
    let moved = c.in-Some.moved.items in
    let next : index + 1 ≡ suc index = omega arith in
    let more : suc index < length old = omega (arith, c.if-index-last.false, c.saturating_sub-last.ensures, c.len.ensures) in
    let lt : index < length old = omega (arith, more) in
    let joined : RowBlock = record { number = left.number; first = left.first; ceiling = left.ceiling; rows = c.extend_from_slice.new.self } in
    let new : HandleIndex = record { blocks = c.remove-gone.new.self; ceilings = c.try_remove.new.self; places = c.settle.new.places } in
    let right_is : right ≡ get_or old (suc index) right = subst (λ n. right ≡ get_or old n right) next c.index-right.ensures in
    let left_same : c.index-left.result.now ≡ left = same_at old index c.index-left.result.now left lt c.index-left.ensures c.index_mut-left.ensures.value in
    let under = subst (λ found. IfSome found (λ rows. AreRowsUnder c.index-left.result.now.ceiling rows.items (rows_of right))) c.in-Some.is c.in_ok-moved.ensures in
    let gone = c.remove-gone.result in
    let gone_is : gone ≡ get_or old (suc index) gone = c.remove-gone.ensures.value ∙ get_or-set_other old index (index + 1) joined gone (λ e. omega arith) ∙ ap (λ n. get_or old n gone) next in
    let gone_same : gone ≡ right = same_at old (suc index) gone right more gone_is right_is in
    let joins : Joins index left right joined moved c.args.self.now new = record {
      left_is = c.index_mut-left.ensures.value;
      within = more;
      right_is = right_is;
      blocks = c.remove-gone.ensures.items ∙ ap (λ n. remove (set old index joined) n) next ∙ removed_next old index joined more;
      number = refl;
      first = refl;
      ceiling = refl;
      items = c.in_ok-extend_from_slice.ensures.items ∙ ap (λ s. left.rows.items ++ s) c.deref.ensures.value;
      under = subst (λ b. AreRowsUnder b.ceiling moved (rows_of right)) left_same under;
      ceilings = subst (λ b. Updates c.args.self.now.ceilings c.try_remove.new.self b.number None) gone_same c.try_remove.ensures.updates;
      settled = subst (AllByRecursion (λ row. get c.settle.new.places row.handle ≡ Some (place_in left.number row.depth))) c.deref-2.ensures.value c.settle.ensures.settled;
      others = subst (λ rows. (handle : ℕ) → has_handle handle rows ≡ false → get c.settle.new.places handle ≡ get c.args.self.now.places handle) c.deref-2.ensures.value c.settle.ensures.others;
    } in
    joins_rows index left right joined moved c.args.self.now new c.requires joins

pub returns-clause-sound : goal.returns-clause-sound
returns-clause-sound c =
    let old = c.args.self.now.blocks.items in
    let index = c.args.index in
    let left = c.index_mut-left.result.now in
    let right = c.index-right.result.now in
    let moved = c.in-Some.moved.items in
    let next : index + 1 ≡ suc index = omega arith in
    let more : suc index < length old = omega (arith, c.if-index-last.false, c.saturating_sub-last.ensures, c.len.ensures) in
    let lt : index < length old = omega (arith, more) in
    let joined : RowBlock = record { number = left.number; first = left.first; ceiling = left.ceiling; rows = c.extend_from_slice.new.self } in
    let new : HandleIndex = record { blocks = c.remove-gone.new.self; ceilings = c.try_remove.new.self; places = c.settle.new.places } in
    let right_is : right ≡ get_or old (suc index) right = subst (λ n. right ≡ get_or old n right) next c.index-right.ensures in
    let left_same : c.index-left.result.now ≡ left = same_at old index c.index-left.result.now left lt c.index-left.ensures c.index_mut-left.ensures.value in
    let under = subst (λ found. IfSome found (λ rows. AreRowsUnder c.index-left.result.now.ceiling rows.items (rows_of right))) c.in-Some.is c.in_ok-moved.ensures in
    let gone = c.remove-gone.result in
    let gone_is : gone ≡ get_or old (suc index) gone = c.remove-gone.ensures.value ∙ get_or-set_other old index (index + 1) joined gone (λ e. omega arith) ∙ ap (λ n. get_or old n gone) next in
    let gone_same : gone ≡ right = same_at old (suc index) gone right more gone_is right_is in
    let joins : Joins index left right joined moved c.args.self.now new = record {
      left_is = c.index_mut-left.ensures.value;
      within = more;
      right_is = right_is;
      blocks = c.remove-gone.ensures.items ∙ ap (λ n. remove (set old index joined) n) next ∙ removed_next old index joined more;
      number = refl;
      first = refl;
      ceiling = refl;
      items = c.in_ok-extend_from_slice.ensures.items ∙ ap (λ s. left.rows.items ++ s) c.deref.ensures.value;
      under = subst (λ b. AreRowsUnder b.ceiling moved (rows_of right)) left_same under;
      ceilings = subst (λ b. Updates c.args.self.now.ceilings c.try_remove.new.self b.number None) gone_same c.try_remove.ensures.updates;
      settled = subst (AllByRecursion (λ row. get c.settle.new.places row.handle ≡ Some (place_in left.number row.depth))) c.deref-2.ensures.value c.settle.ensures.settled;
      others = subst (λ rows. (handle : ℕ) → has_handle handle rows ≡ false → get c.settle.new.places handle ≡ get c.args.self.now.places handle) c.deref-2.ensures.value c.settle.ensures.others;
    } in
    joins_index index left right joined moved c.args.self.now new c.requires joins
