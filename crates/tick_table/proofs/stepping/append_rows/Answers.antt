use Rattle.std.proofs.Common.{◌≡◌, ap, ap₂, sym, ◌∙◌, subst, arith, ◌*◌, ◌≤◌, ◌++◌, length, length-append, drop, take, List, ℕ, ℤ}
use Rattle.key_lists.specs.Keys.{without}
use Rattle.tick_table.{specs.Placed.paired, specs.Slots.slot_list, proofs.Appended.{now_appended, paired_slots}, proofs.SlotCells.length-slot_list}
use Rattle.tick_table.proofs.stepping.append_rows.Goals as goal

pub overflow_mul-count : goal.overflow_mul-count
overflow_mul-count c =
    let fits : c.len-count.result * c.width.result ≤ length c.args.cells.now = subst (λ n. n ≤ length c.args.cells.now) (sym (ap₂ (λ (m n : ℕ). m * n) c.len-count.ensures.count c.width.ensures)) c.requires.whole in
    omega (arith, fits)

pub split_at-requires : goal.split_at-requires
split_at-requires c =
    subst (λ n. n ≤ length c.args.cells.now) (sym (ap₂ (λ (m n : ℕ). m * n) c.len-count.ensures.count c.width.ensures)) c.requires.whole

pub append-requires : goal.append-requires
append-requires c = c.split_at.ensures.front_len ∙ ap (λ n. c.len-count.result * n) c.width.ensures

pub returns-clause-count : goal.returns-clause-count
returns-clause-count c =
    let width = c.args.placed.now.width in
    let count = c.len-count.result in
    let new = c.split_at.result.0.now in
    omega (arith, ap length c.in_ok-append.ensures.rows, length-append c.args.placed.now.rows (slot_list width count new), length-slot_list width count new, c.len-count.ensures.count, ap length c.requires.behind, length-append (without c.args.added.now c.args.rows.now) c.args.added.now, c.requires.count)

pub returns-clause-now : goal.returns-clause-now
returns-clause-now c =
    let width = c.args.placed.now.width in
    let count = c.len-count.result in
    let cells = c.args.cells.now in
    let front : c.split_at.result.0.now ≡ take (count * width) cells = c.split_at.ensures.front ∙ ap (λ n. take (count * n) cells) c.width.ensures in
    ap (paired c.args.rows.now) (c.in_ok-append.ensures.rows ∙ ap (λ (new : List ℤ). c.args.placed.now.rows ++ slot_list width count new) front)
    ∙ now_appended width c.args.rows.now (without c.args.added.now c.args.rows.now) c.args.added.now c.args.placed.now.rows (slot_list width count (take (count * width) cells)) cells c.requires.behind c.ranges-2.ensures.keys.rising c.requires.count (paired_slots width count c.args.added.now cells c.len-count.ensures.count)

pub returns-clause-rest : goal.returns-clause-rest
returns-clause-rest c = c.split_at.ensures.back ∙ ap (λ n. drop n c.args.cells.now) (ap₂ (λ (m n : ℕ). m * n) c.len-count.ensures.count c.width.ensures)
