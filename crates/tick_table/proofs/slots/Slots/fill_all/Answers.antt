use Rattle.std.proofs.Common.{rules, ◌≡◌, ap, sym, ◌∙◌, subst, ◌+◌, ◌++◌, ◌∷◌, [], arith, List, ℕ, ℤ}
use Rattle.tick_table.{specs.Placed.{AreFilled, AreOwn}, specs.Slots.{slot_cells, slot_list}, proofs.Own.{filled_one, filled_then, own_filled, own_front}, proofs.SlotCells.slot_list-next}
use Rattle.tick_table.proofs.slots.Slots.fill_all.Goals as goal

pub returns-in_err-slot-clause-refused : goal.returns-in_err-slot-clause-refused
returns-in_err-slot-clause-refused c =
    let refused : (places left : List ℕ) → AreOwn c.args.self.now places left → AreOwn c.fill.new.self places left =
    λ places left own. subst (λ slots. AreOwn slots places left) (sym c.in_err-slot.ensures.refused) (own_front c.loop-place.self places c.loop-place.slots.items left (c.loop-place.invariant.filled places left own).own) in
    search rules

pub returns-in_err-push-clause-refused : goal.returns-in_err-push-clause-refused
returns-in_err-push-clause-refused c =
    let refused : (places left : List ℕ) → AreOwn c.args.self.now places left → AreOwn c.fill.new.self places left =
    λ places left own.
    own_front c.fill.new.self places c.loop-place.slots.items left
    (own_filled c.loop-place.self (places ++ c.loop-place.slots.items) left (c.loop-place.invariant.filled places left own).own c.row_at.result.now c.fill.new.self c.in_ok-slot.slot c.in_ok-slot.ensures.filled) in
    search rules

pub loop-place-preserved : goal.loop-place-preserved
loop-place-preserved c =
    let width = c.args.self.now.width in
    let place = c.loop-place.place in
    let cells = c.args.rows.now in
    record {
      width = c.in_ok-slot.ensures.filled.width ∙ c.loop-place.invariant.width;
      filled = λ places left own.
          subst (λ (slots : List ℕ). AreFilled (slot_list width (place + 1) cells) c.args.self.now c.fill.new.self slots places left) (sym c.in_ok-push.ensures.items)
          (subst (λ (rows : List (List ℤ)). AreFilled rows c.args.self.now c.fill.new.self (c.loop-place.slots.items ++ c.in_ok-slot.slot ∷ []) places left)
          (ap (λ row. slot_list width place cells ++ row ∷ []) (c.row_at.ensures.cells ∙ ap (λ n. slot_cells n cells place) (ap (λ slots. slots.width) c.self.view_is)) ∙ sym (slot_list-next width place cells))
          (filled_then (slot_list width place cells) (c.row_at.result.now ∷ []) c.args.self.now c.loop-place.self c.fill.new.self c.loop-place.slots.items (c.in_ok-slot.slot ∷ []) places left (c.loop-place.invariant.filled places left own)
          (filled_one c.loop-place.self (places ++ c.loop-place.slots.items) left (c.loop-place.invariant.filled places left own).own c.row_at.result.now c.fill.new.self c.in_ok-slot.slot c.in_ok-slot.ensures.filled)));
    }

pub returns-clause-filled : goal.returns-clause-filled
returns-clause-filled c places left own =
    let all : c.loop-place.place ≡ c.args.count = omega (arith, c.loop-place.auto.place-end, c.loop-place-test.false) in
    subst (λ n. AreFilled (slot_list c.args.self.now.width n c.args.rows.now) c.args.self.now c.loop-place.self c.loop-place.slots.items places left) all (c.loop-place.invariant.filled places left own)
