use Rattle.std.proofs.Common.{◌≡◌, ◌-◌, ◌<◌, ◌≤◌, ap, sym, subst, ◌∙◌, length, Some, get_or}
use Rattle.key_lists.proofs.Parts.{first_left}
use Rattle.shift_data.proofs.Searches.{got, missed}
use Rattle.row_handles.proofs.Listings.{handle_found, handle_none, handle_not_here}
use Rattle.row_handles.proofs.block.RowBlock.handle_there.Goals as goal

pub returns-in_err-row-clause-all : goal.returns-in_err-row-clause-all
returns-in_err-row-clause-all c below others =
    c.from_residual.ensures
    ∙ sym
    (handle_none c.args.self.now.ceiling c.args.key c.args.self.now.rows.items c.args.place below
    (subst (λ xs. length xs ≤ c.args.place) c.deref.ensures.value (missed c.deref.result.now c.args.place c.get.result c.get.ensures.lookup (sym c.copied.ensures ∙ c.in_err-row.was))))

pub returns-then-key-clause-found : goal.returns-then-key-clause-found
returns-then-key-clause-found c =
    let rows = c.args.self.now.rows.items in
    let there = subst (λ xs. (c.args.place < length xs) × (c.in_ok-row.row ≡ get_or xs c.args.place c.in_ok-row.row)) c.deref.ensures.value (got c.deref.result.now c.args.place c.get.result c.in_ok-row.row c.get.ensures.lookup (sym c.copied.ensures ∙ c.in_ok-row.was)) in
    handle_found c.args.self.now.ceiling c.args.key rows c.args.place c.in_ok-row.row c.requires there.0 there.1 (sym c.key.ensures ∙ c.if-key.true) ∙ ap Some (sym c.handle.ensures)

pub returns-then-key-clause-all : goal.returns-then-key-clause-all
returns-then-key-clause-all c below others = sym (returns-then-key-clause-found c)

pub returns-else-key-clause-all : goal.returns-else-key-clause-all
returns-else-key-clause-all c below others =
    let rows = c.args.self.now.rows.items in
    let row = c.in_ok-row.row in
    let there = subst (λ xs. (c.args.place < length xs) × (row ≡ get_or xs c.args.place row)) c.deref.ensures.value (got c.deref.result.now c.args.place c.get.result row c.get.ensures.lookup (sym c.copied.ensures ∙ c.in_ok-row.was)) in
    sym
    (handle_not_here c.args.self.now.ceiling c.args.key rows c.args.place row c.requires there.0 there.1 below
    (first_left (λ other. c.args.key ≤ c.args.self.now.ceiling - other.depth) rows c.args.place row there.0 there.1 others)
    (λ same. c.if-key.false (c.key.ensures ∙ same)))
