use Rattle.std.proofs.Common.{◌≡◌, ◌+◌, ◌-◌, ◌<◌, ◌++◌, ◌∷◌, [], ◌==◌, ap, arith, drop, length, length-append, length-drop, length-take, refl, set, slice_range, subst, suc, sym, take, true, vec_len, ◌∙◌}
use Rattle.std.{specs.Prelude.is_ok, proofs.lemmas.Option.get_or_from_slice_get}
use Rattle.key_lists.proofs.Parts.{every_remove, every_set}
use Rattle.chunk_list.{specs.Chunked.{AreFilled, contents, list_at}, proofs.Edits.{lists_gone, lists_set, some_items}, proofs.Joined.{item_got, own_list}, proofs.Runs.{all_behind, grown, one_is, run_left, run_put}}
use Rattle.chunk_list.proofs.chunks.Chunks.remove_run.Goals as goal

pub returns-then-count-eq1-clause-left : goal.returns-then-count-eq1-clause-left
returns-then-count-eq1-clause-left g c more =
    let one : c.args.count ≡ 1 = c.if-count-eq1.true in
    let own = list_at c.args.place.index c.args.self.now in
    let next : suc c.args.place.offset ≡ c.args.place.offset + c.args.count = omega (arith, one) in
    c.remove.ensures.left (λ e. more (one ∙ sym e))
    ∙ ap (λ i. set c.args.self.now c.args.place.index (take c.args.place.offset own ++ drop i own)) next

pub returns-then-count-eq1-clause-out : goal.returns-then-count-eq1-clause-out
returns-then-count-eq1-clause-out g c =
    let one : c.args.count ≡ 1 = c.if-count-eq1.true in
    let own = list_at c.args.place.index c.args.self.now in
    let item = c.remove.result in
    let less : c.args.place.offset < length own = omega (arith, one, c.requires.within) in
    let ok : is_ok c.push.result ≡ true = c.push.ensures.succeeds (omega (arith, c.requires.room, less)) in
    let at = get_or_from_slice_get own c.args.place.offset item item (sym (item_got c.args.self.now c.args.place c.requires.index less) ∙ c.remove.ensures.item) in
    grown (is_ok c.push.result) c.args.out.now.items (item ∷ []) c.push.new.self.items ok c.push.ensures.items
    ∙ ap (λ xs. c.args.out.now.items ++ xs) (ap (λ x. x ∷ []) (sym at) ∙ sym (one_is own c.args.place.offset item less))
    ∙ ap (λ n. c.args.out.now.items ++ slice_range own c.args.place.offset (c.args.place.offset + n)) (sym one)

pub invariant_of-self : goal.invariant_of-self
invariant_of-self g c =
    let chunks = c.self.inside.chunks.items in
    subst AreFilled (sym (lists_gone chunks c.remove-then-is_empty.new.self.items (contents chunks) c.args.place.index c.extend_from_slice-2.new.self refl c.remove-then-is_empty.ensures.items)) (every_remove (λ l. 0 < length l) (contents chunks) c.args.place.index c.self.invariant)

pub invariant_of-self-else-is_empty : goal.invariant_of-self-else-is_empty
invariant_of-self-else-is_empty g c =
    let chunks = c.self.inside.chunks.items in
    let rest = c.extend_from_slice-2.new.self in
    let len : vec_len rest ≡ length rest.items = omega arith in
    subst AreFilled (sym (lists_set chunks (contents chunks) c.args.place.index rest rest.items refl refl)) (every_set (λ l. 0 < length l) (contents chunks) c.args.place.index rest.items (some_items rest.items (c.if-is_empty.ensures ∙ ap (λ n. n == 0) len)) c.self.invariant)

pub returns-then-is_empty-clause-gone : goal.returns-then-is_empty-clause-gone
returns-then-is_empty-clause-gone g c all = lists_gone c.self.inside.chunks.items c.remove-then-is_empty.new.self.items c.args.self.now c.args.place.index c.extend_from_slice-2.new.self c.self.view_is c.remove-then-is_empty.ensures.items

pub returns-else-is_empty-clause-left : goal.returns-else-is_empty-clause-left
returns-else-is_empty-clause-left g c some =
    let n = c.args.place.offset in
    let own = list_at c.args.place.index c.args.self.now in
    let held = c.index_mut-items.result.now in
    let is : own ≡ held.items = own_list c.self.inside.chunks.items c.args.self.now c.args.place.index held c.self.view_is c.requires.index c.index_mut-items.ensures.value in
    let out = c.args.out.now in
    let seen = c.deref.result.now in
    let all = c.deref-2.result.now in
    let first = c.extend_from_slice.new.self in
    let end : c.len.result + c.args.count ≡ length out.items + c.args.count = omega (arith, c.len.ensures) in
    let ok : is_ok c.extend_from_slice.result ≡ true = c.extend_from_slice.ensures.succeeds (omega (arith, c.requires.room, ap length c.deref.ensures.value, ap length is, length-take (length seen - n) (drop n seen), length-drop n seen)) in
    let behind = all_behind own out.items seen first.items n (c.deref.ensures.value ∙ sym is) (grown (is_ok c.extend_from_slice.result) out.items (take (length seen - n) (drop n seen)) first.items ok c.extend_from_slice.ensures.items) in
    let front = c.truncate.new.self in
    let back = take (length all - (c.len.result + c.args.count)) (drop (c.len.result + c.args.count) all) in
    let ok-2 : is_ok c.extend_from_slice-2.result ≡ true = c.extend_from_slice-2.ensures.succeeds (omega (arith, c.requires.within, end, c.truncate.ensures.len, c.truncate.ensures.capacity, ap length is, ap length c.deref-2.ensures.value, ap length behind, length-append out.items (drop n own), length-drop n own, length-take (length all - (c.len.result + c.args.count)) (drop (c.len.result + c.args.count) all), length-drop (c.len.result + c.args.count) all)) in
    lists_set c.self.inside.chunks.items c.args.self.now c.args.place.index c.extend_from_slice-2.new.self _ c.self.view_is
    (run_left own out.items first.items all front.items c.extend_from_slice-2.new.self.items n c.args.count (c.len.result + c.args.count) end behind c.deref-2.ensures.value
    (c.truncate.ensures.items ∙ ap (take n) (sym is))
    (grown (is_ok c.extend_from_slice-2.result) front.items back c.extend_from_slice-2.new.self.items ok-2 c.extend_from_slice-2.ensures.items))

pub returns-else-is_empty-clause-out : goal.returns-else-is_empty-clause-out
returns-else-is_empty-clause-out g c =
    let n = c.args.place.offset in
    let own = list_at c.args.place.index c.args.self.now in
    let held = c.index_mut-items.result.now in
    let is : own ≡ held.items = own_list c.self.inside.chunks.items c.args.self.now c.args.place.index held c.self.view_is c.requires.index c.index_mut-items.ensures.value in
    let out = c.args.out.now in
    let seen = c.deref.result.now in
    let first = c.extend_from_slice.new.self in
    let end : c.len.result + c.args.count ≡ length out.items + c.args.count = omega (arith, c.len.ensures) in
    let ok : is_ok c.extend_from_slice.result ≡ true = c.extend_from_slice.ensures.succeeds (omega (arith, c.requires.room, ap length c.deref.ensures.value, ap length is, length-take (length seen - n) (drop n seen), length-drop n seen)) in
    let behind = all_behind own out.items seen first.items n (c.deref.ensures.value ∙ sym is) (grown (is_ok c.extend_from_slice.result) out.items (take (length seen - n) (drop n seen)) first.items ok c.extend_from_slice.ensures.items) in
    run_put own out.items first.items c.truncate-2.new.self.items n c.args.count (c.len.result + c.args.count) end behind c.truncate-2.ensures.items
