use Rattle.std.proofs.Common.{◌+◌, ap, sym, ◌∙◌, arith, length, ℤ, w64}
use Rattle.std.{specs.List.{insert, remove}, proofs.lemmas.Int.to_z-of_z, proofs.lemmas.List.Edits.length-insert}
use Rattle.chunk_list.specs.Chunked.{joined}
use Rattle.column_source.{proofs.Made.{put_in, refused, replaced, small, within, within_or_last}, proofs.Paired.{are_of, counted, shown}}
use Rattle.column_source.proofs.version.KeyedCells.set.Goals as goal

pub insert-requires : goal.insert-requires
insert-requires c =
    let less = within c.in-Ok.ensures.keys (are_of c.self.invariant c.self.view_is) c.args.key c.in-Ok.position (sym c.in-Ok.ensures.position) in
    omega (arith, less)

pub overflow_add-position : goal.overflow_add-position
overflow_add-position c =
    let less = small c.in-Ok.ensures.keys (are_of c.self.invariant c.self.view_is) c.args.key c.in-Ok.position (sym c.in-Ok.ensures.position) in
    omega (arith, less)

pub remove-requires : goal.remove-requires
remove-requires c =
    let less = within c.in-Ok.ensures.keys (are_of c.self.invariant c.self.view_is) c.args.key c.in-Ok.position (sym c.in-Ok.ensures.position) in
    let longer =
    ap length (c.in_ok-insert-in-Ok.ensures.ok ∙ ap (λ (cell : ℤ). insert (joined c.self.inside.cells) c.in-Ok.position cell) (to_z-of_z w64 c.args.cell c.ranges.cell))
    ∙ length-insert (joined c.self.inside.cells) c.in-Ok.position c.args.cell (omega (arith, less)) in
    omega (arith, less, longer)

pub invariant_of-self-in-Ok : goal.invariant_of-self-in-Ok
invariant_of-self-in-Ok c =
    counted
    (replaced c.in-Ok.ensures.keys (are_of c.self.invariant c.self.view_is) c.args.key c.in-Ok.position c.args.cell (joined c.remove.new.self) (sym c.in-Ok.ensures.position)
    (c.remove.ensures.others
    ∙ ap (λ cells. remove cells (c.in-Ok.position + 1)) (c.in_ok-insert-in-Ok.ensures.ok ∙ ap (λ (cell : ℤ). insert (joined c.self.inside.cells) c.in-Ok.position cell) (to_z-of_z w64 c.args.cell c.ranges.cell))))

pub insert-requires-in-Err : goal.insert-requires-in-Err
insert-requires-in-Err c = within_or_last c.in-Err.ensures.keys (are_of c.self.invariant c.self.view_is) c.args.key c.in-Err.position (sym c.in-Err.ensures.position)

pub remove-requires-in-Err-insert_range : goal.remove-requires-in-Err-insert_range
remove-requires-in-Err-insert_range c =
    let most = within_or_last c.in-Err.ensures.keys (are_of c.self.invariant c.self.view_is) c.args.key c.in-Err.position (sym c.in-Err.ensures.position) in
    let longer =
    ap length (c.in_ok-insert-in-Err.ensures.ok ∙ ap (λ (cell : ℤ). insert (joined c.self.inside.cells) c.in-Err.position cell) (to_z-of_z w64 c.args.cell c.ranges.cell))
    ∙ length-insert (joined c.self.inside.cells) c.in-Err.position c.args.cell most in
    omega (arith, most, longer)

pub invariant_of-self-in-Err-insert_range : goal.invariant_of-self-in-Err-insert_range
invariant_of-self-in-Err-insert_range c =
    counted
    (refused c.in-Err.ensures.keys (are_of c.self.invariant c.self.view_is) c.args.key c.in-Err.position c.args.cell c.insert_range.new.self (joined c.remove-in-Err-insert_range.new.self) (sym c.in-Err.ensures.position)
    (c.remove-in-Err-insert_range.ensures.others
    ∙ ap (λ cells. remove cells c.in-Err.position) (c.in_ok-insert-in-Err.ensures.ok ∙ ap (λ (cell : ℤ). insert (joined c.self.inside.cells) c.in-Err.position cell) (to_z-of_z w64 c.args.cell c.ranges.cell))) c.in-Err-insert_range.ensures.err)

pub returns-in-Err-insert_range-clause-err : goal.returns-in-Err-insert_range-clause-err
returns-in-Err-insert_range-clause-err c =
    shown
    (refused c.in-Err.ensures.keys (are_of c.self.invariant c.self.view_is) c.args.key c.in-Err.position c.args.cell c.insert_range.new.self (joined c.remove-in-Err-insert_range.new.self) (sym c.in-Err.ensures.position)
    (c.remove-in-Err-insert_range.ensures.others
    ∙ ap (λ cells. remove cells c.in-Err.position) (c.in_ok-insert-in-Err.ensures.ok ∙ ap (λ (cell : ℤ). insert (joined c.self.inside.cells) c.in-Err.position cell) (to_z-of_z w64 c.args.cell c.ranges.cell))) c.in-Err-insert_range.ensures.err)

pub invariant_of-self-in_default : goal.invariant_of-self-in_default
invariant_of-self-in_default c =
    counted
    (put_in c.in-Err.ensures.keys (are_of c.self.invariant c.self.view_is) c.args.key c.in-Err.position c.args.cell c.insert_range.new.self (joined c.insert-in-Err.new.self) (sym c.in-Err.ensures.position)
    (c.in_ok-insert-in-Err.ensures.ok ∙ ap (λ (cell : ℤ). insert (joined c.self.inside.cells) c.in-Err.position cell) (to_z-of_z w64 c.args.cell c.ranges.cell)) c.in_default.ensures.ok)

pub returns-in_ok-insert-in-Ok-clause-ok : goal.returns-in_ok-insert-in-Ok-clause-ok
returns-in_ok-insert-in-Ok-clause-ok c =
    shown
    (replaced c.in-Ok.ensures.keys (are_of c.self.invariant c.self.view_is) c.args.key c.in-Ok.position c.args.cell (joined c.remove.new.self) (sym c.in-Ok.ensures.position)
    (c.remove.ensures.others
    ∙ ap (λ cells. remove cells (c.in-Ok.position + 1)) (c.in_ok-insert-in-Ok.ensures.ok ∙ ap (λ (cell : ℤ). insert (joined c.self.inside.cells) c.in-Ok.position cell) (to_z-of_z w64 c.args.cell c.ranges.cell))))

pub returns-in_default-clause-ok : goal.returns-in_default-clause-ok
returns-in_default-clause-ok c =
    shown
    (put_in c.in-Err.ensures.keys (are_of c.self.invariant c.self.view_is) c.args.key c.in-Err.position c.args.cell c.insert_range.new.self (joined c.insert-in-Err.new.self) (sym c.in-Err.ensures.position)
    (c.in_ok-insert-in-Err.ensures.ok ∙ ap (λ (cell : ℤ). insert (joined c.self.inside.cells) c.in-Err.position cell) (to_z-of_z w64 c.args.cell c.ranges.cell)) c.in_default.ensures.ok)
