use Rattle.std.proofs.Common.{◌≡◌, ◌<◌, ◌==◌, ap, arith, get_or, length, refl, subst, sym, vec_len, ◌∙◌}
use Rattle.std.{specs.Prelude.remove, proofs.lemmas.List.Edits.length-remove, proofs.lemmas.Option.slice_get_read}
use Rattle.key_lists.proofs.Parts.{every_remove, every_set, no_items}
use Rattle.chunk_list.{specs.Chunked.{AreFilled, contents, joined, list_at}, proofs.Edits.{item_gone, item_taken, lists_gone, lists_set, some_items}, proofs.Joined.{item_got, length-lists, own_list}}
use Rattle.chunk_list.proofs.chunks.Chunks.remove.Goals as goal

pub index_mut-items-requires : goal.index_mut-items-requires
index_mut-items-requires g c = omega (arith, c.requires.index, ap length c.self.view_is, length-lists c.self.inside.chunks.items)

pub remove-item-requires : goal.remove-item-requires
remove-item-requires g c =
    omega (arith, c.requires.offset, ap length (own_list c.self.inside.chunks.items c.args.self.now c.args.place.index c.index_mut-items.result.now c.self.view_is c.requires.index c.index_mut-items.ensures.value))

pub returns-then-is_empty-clause-item : goal.returns-then-is_empty-clause-item
returns-then-is_empty-clause-item g c =
    let held = own_list c.self.inside.chunks.items c.args.self.now c.args.place.index c.index_mut-items.result.now c.self.view_is c.requires.index c.index_mut-items.ensures.value in
    item_got c.args.self.now c.args.place c.requires.index c.requires.offset
    ∙ slice_get_read (list_at c.args.place.index c.args.self.now) (length (list_at c.args.place.index c.args.self.now)) c.args.place.offset c.remove-item.result refl c.requires.offset (c.remove-item.ensures.value ∙ ap (λ xs. get_or xs c.args.place.offset c.remove-item.result) (sym held))

pub returns-then-is_empty-clause-gone : goal.returns-then-is_empty-clause-gone
returns-then-is_empty-clause-gone g c alone = lists_gone c.self.inside.chunks.items c.remove.new.self.items c.args.self.now c.args.place.index c.remove-item.new.self c.self.view_is c.remove.ensures.items

pub returns-then-is_empty-clause-items : goal.returns-then-is_empty-clause-items
returns-then-is_empty-clause-items g c =
    let rest = c.remove-item.new.self in
    let len : vec_len rest ≡ length rest.items = omega arith in
    let held = own_list c.self.inside.chunks.items c.args.self.now c.args.place.index c.index_mut-items.result.now c.self.view_is c.requires.index c.index_mut-items.ensures.value in
    let none = ap (λ xs. remove xs c.args.place.offset) held ∙ sym c.remove-item.ensures.items ∙ no_items rest.items (c.if-is_empty.ensures ∙ ap (λ n. n == 0) len) in
    ap joined (lists_gone c.self.inside.chunks.items c.remove.new.self.items c.args.self.now c.args.place.index rest c.self.view_is c.remove.ensures.items)
    ∙ item_gone c.args.self.now c.args.place c.requires.index c.requires.offset none

pub returns-then-is_empty-clause-left : goal.returns-then-is_empty-clause-left
returns-then-is_empty-clause-left g c more =
    let own = list_at c.args.place.index c.args.self.now in
    let rest = c.remove-item.new.self in
    let len : vec_len rest ≡ length rest.items = omega arith in
    let held = own_list c.self.inside.chunks.items c.args.self.now c.args.place.index c.index_mut-items.result.now c.self.view_is c.requires.index c.index_mut-items.ensures.value in
    let none = ap (λ xs. remove xs c.args.place.offset) held ∙ sym c.remove-item.ensures.items ∙ no_items rest.items (c.if-is_empty.ensures ∙ ap (λ n. n == 0) len) in
    absurd (more (omega (arith, ap length none, length-remove own c.args.place.offset c.requires.offset)))

pub invariant_of-self : goal.invariant_of-self
invariant_of-self g c =
    let chunks = c.self.inside.chunks.items in
    subst AreFilled (sym (lists_gone chunks c.remove.new.self.items (contents chunks) c.args.place.index c.remove-item.new.self refl c.remove.ensures.items)) (every_remove (λ l. 0 < length l) (contents chunks) c.args.place.index c.self.invariant)

pub invariant_of-self-else-is_empty : goal.invariant_of-self-else-is_empty
invariant_of-self-else-is_empty g c =
    let chunks = c.self.inside.chunks.items in
    let rest = c.remove-item.new.self in
    let len : vec_len rest ≡ length rest.items = omega arith in
    subst AreFilled (sym (lists_set chunks (contents chunks) c.args.place.index rest rest.items refl refl)) (every_set (λ l. 0 < length l) (contents chunks) c.args.place.index rest.items (some_items rest.items (c.if-is_empty.ensures ∙ ap (λ n. n == 0) len)) c.self.invariant)

pub returns-else-is_empty-clause-item : goal.returns-else-is_empty-clause-item
returns-else-is_empty-clause-item g c =
    let held = own_list c.self.inside.chunks.items c.args.self.now c.args.place.index c.index_mut-items.result.now c.self.view_is c.requires.index c.index_mut-items.ensures.value in
    item_got c.args.self.now c.args.place c.requires.index c.requires.offset
    ∙ slice_get_read (list_at c.args.place.index c.args.self.now) (length (list_at c.args.place.index c.args.self.now)) c.args.place.offset c.remove-item.result refl c.requires.offset (c.remove-item.ensures.value ∙ ap (λ xs. get_or xs c.args.place.offset c.remove-item.result) (sym held))

pub returns-else-is_empty-clause-left : goal.returns-else-is_empty-clause-left
returns-else-is_empty-clause-left g c more =
    let held = own_list c.self.inside.chunks.items c.args.self.now c.args.place.index c.index_mut-items.result.now c.self.view_is c.requires.index c.index_mut-items.ensures.value in
    lists_set c.self.inside.chunks.items c.args.self.now c.args.place.index c.remove-item.new.self _ c.self.view_is (c.remove-item.ensures.items ∙ ap (λ xs. remove xs c.args.place.offset) (sym held))

pub returns-else-is_empty-clause-items : goal.returns-else-is_empty-clause-items
returns-else-is_empty-clause-items g c =
    let held = own_list c.self.inside.chunks.items c.args.self.now c.args.place.index c.index_mut-items.result.now c.self.view_is c.requires.index c.index_mut-items.ensures.value in
    ap joined (lists_set c.self.inside.chunks.items c.args.self.now c.args.place.index c.remove-item.new.self (remove (list_at c.args.place.index c.args.self.now) c.args.place.offset) c.self.view_is (c.remove-item.ensures.items ∙ ap (λ xs. remove xs c.args.place.offset) (sym held)))
    ∙ item_taken c.args.self.now c.args.place c.requires.index c.requires.offset

pub returns-else-is_empty-clause-gone : goal.returns-else-is_empty-clause-gone
returns-else-is_empty-clause-gone g c alone =
    let own = list_at c.args.place.index c.args.self.now in
    let rest = c.remove-item.new.self in
    let len : vec_len rest ≡ length rest.items = omega arith in
    let held = own_list c.self.inside.chunks.items c.args.self.now c.args.place.index c.index_mut-items.result.now c.self.view_is c.requires.index c.index_mut-items.ensures.value in
    let some = some_items rest.items (c.if-is_empty.ensures ∙ ap (λ n. n == 0) len) in
    absurd (omega (arith, some, alone, ap length (c.remove-item.ensures.items ∙ ap (λ xs. remove xs c.args.place.offset) (sym held)), length-remove own c.args.place.offset c.requires.offset))
