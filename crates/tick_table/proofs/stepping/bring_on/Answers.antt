use Rattle.std.proofs.Common.{◌≡◌, ap, ap₂, sym, ◌∙◌, subst, true, ◌*◌, ◌++◌, length, map, drop, List, ℕ, ℤ}
use Rattle.std.{specs.Prelude.flat_map, specs.List.AllByRecursion}
use Rattle.key_lists.specs.Keys.{is_among, without}
use Rattle.tick_laws.specs.Checked.{keys_after}
use Rattle.tick_model.{specs.declared.table.PlainRow.PlainRow, specs.Changes.rows_under, specs.Tables.cells_at}
use Rattle.tick_table.{specs.Placed.{paired, put_rows, stayed}, proofs.Applied.removed_own, proofs.Brought.{added_are, added_there, keys_again, modified_own, saved_before}, proofs.Puts.put_two, proofs.TableColumns.length-mapped}
use Rattle.tick_table.proofs.stepping.bring_on.Goals as goal

pub remove_rows-requires-clause-own : goal.remove_rows-requires-clause-own
remove_rows-requires-clause-own c =
    subst (AllByRecursion (λ key. is_among key c.args.rows.now ≡ true)) (sym c.removed-removed.ensures.keys) (removed_own c.args.rows.now c.args.update.now c.requires.lawful)

pub remove_rows-requires-clause-count : goal.remove_rows-requires-clause-count
remove_rows-requires-clause-count c = ap length c.in_ok-begin_step.ensures.rows ∙ c.requires.count

pub add_rows-requires-clause-own : goal.add_rows-requires-clause-own
add_rows-requires-clause-own c =
    subst (λ (ks : List ℕ). AllByRecursion (λ key. is_among key ks ≡ true) c.added-added.result.now) (sym c.requires.after)
    (subst (AllByRecursion (λ key. is_among key (keys_after c.args.rows.now c.args.update.now) ≡ true)) (sym c.added-added.ensures.keys)
    (added_there c.args.rows.now c.args.update.now c.requires.lawful c.added-added.ensures.set.rising))

pub add_rows-requires-clause-count : goal.add_rows-requires-clause-count
add_rows-requires-clause-count c =
    let rows = c.args.rows.now in
    let update = c.args.update.now in
    c.in_ok-remove_rows.ensures.count
    ∙ ap (λ (ks : List ℕ). length (without ks rows)) c.removed-removed.ensures.keys
    ∙ sym
    (ap₂ (λ (ks all : List ℕ). length (without ks all)) c.added-added.ensures.keys c.requires.after
    ∙ ap length (keys_again rows update c.requires.lawful c.added-added.ensures.set.rising)
    ∙ length-mapped _ (without update.removed rows))

pub modify_rows-requires-clause-own : goal.modify_rows-requires-clause-own
modify_rows-requires-clause-own c =
    subst (λ (ks : List ℕ). AllByRecursion (λ key. is_among key ks ≡ true) c.modified-modified.result.now) (sym c.requires.after)
    (subst (AllByRecursion (λ key. is_among key (keys_after c.args.rows.now c.args.update.now) ≡ true)) (sym c.modified-modified.ensures.keys)
    (modified_own c.args.rows.now c.args.update.now c.requires.lawful c.added-added.ensures.set.rising))

pub returns-clause-width : goal.returns-clause-width
returns-clause-width c = c.in_ok-modify_rows.ensures.width ∙ c.in_ok-rest.ensures.width ∙ c.in_ok-remove_rows.ensures.width ∙ c.begin_step.ensures.width

pub returns-clause-count : goal.returns-clause-count
returns-clause-count c = c.in_ok-modify_rows.ensures.count ∙ ap length c.requires.after

pub returns-clause-now : goal.returns-clause-now
returns-clause-now c =
    let rows = c.args.rows.now in
    let update = c.args.update.now in
    let was = c.args.placed.now.rows in
    let width = c.args.placed.now.width in
    let cells = c.args.cells.now in
    let after = c.args.after.now in
    let wide : c.remove_rows.new.placed.width ≡ width = c.in_ok-remove_rows.ensures.width ∙ c.begin_step.ensures.width in
    let added =
    added_are rows update c.requires.lawful c.added-added.ensures.set.rising width c.remove_rows.new.placed.width cells was c.begin_step.new.self.rows c.remove_rows.new.placed.rows c.add_rows.new.placed.rows c.removed-removed.result.now c.added-added.result.now
    c.args.after.now c.in_ok-begin_step.ensures.rows c.removed-removed.ensures.keys c.added-added.ensures.keys c.requires.after wide c.in_ok-remove_rows.ensures.now c.in_ok-rest.ensures.now in
    let rest : c.in_ok-rest.rest.now ≡ drop (length update.added * width) cells =
    c.in_ok-rest.ensures.rest ∙ ap₂ (λ (n : ℕ) (ks : List ℕ). drop (length ks * n) cells) wide c.added-added.ensures.keys in
    ap (λ (ks : List ℕ). paired ks c.modify_rows.new.placed.rows) (sym c.requires.after)
    ∙ c.in_ok-modify_rows.ensures.now
    ∙ ap₂ (λ (n : ℕ) (ks : List ℕ). put_rows (rows_under n ks c.in_ok-rest.rest.now) (paired after c.add_rows.new.placed.rows)) (c.in_ok-rest.ensures.width ∙ wide) c.modified-modified.ensures.keys
    ∙ ap₂ (λ (rest : List ℤ) (these : List PlainRow). put_rows (rows_under width update.modified rest) these) rest added
    ∙ put_two width update.added update.modified cells (stayed update (paired rows was))

pub returns-clause-left : goal.returns-clause-left
returns-clause-left c =
    c.in_ok-modify_rows.ensures.left
    ∙ c.in_ok-rest.ensures.left
    ∙ c.in_ok-remove_rows.ensures.left
    ∙ ap₂ (λ (these : List (List ℤ)) (ks : List ℕ). map (λ key. cells_at key (paired c.args.rows.now these)) ks) c.in_ok-begin_step.ensures.rows c.removed-removed.ensures.keys

pub returns-clause-saved : goal.returns-clause-saved
returns-clause-saved c =
    let rows = c.args.rows.now in
    let update = c.args.update.now in
    let was = c.args.placed.now.rows in
    let width = c.args.placed.now.width in
    let cells = c.args.cells.now in
    let after = c.args.after.now in
    let wide : c.remove_rows.new.placed.width ≡ width = c.in_ok-remove_rows.ensures.width ∙ c.begin_step.ensures.width in
    let added =
    added_are rows update c.requires.lawful c.added-added.ensures.set.rising width c.remove_rows.new.placed.width cells was c.begin_step.new.self.rows c.remove_rows.new.placed.rows c.add_rows.new.placed.rows c.removed-removed.result.now c.added-added.result.now
    c.args.after.now c.in_ok-begin_step.ensures.rows c.removed-removed.ensures.keys c.added-added.ensures.keys c.requires.after wide c.in_ok-remove_rows.ensures.now c.in_ok-rest.ensures.now in
    c.in_ok-modify_rows.ensures.saved
    ∙ ap₂ (λ (saved rest : List ℤ). saved ++ rest) (c.in_ok-rest.ensures.saved ∙ c.in_ok-remove_rows.ensures.saved ∙ c.in_ok-begin_step.ensures.saved)
    (ap₂ (λ (ks : List ℕ) (these : List PlainRow). flat_map (λ key. cells_at key these) ks) c.modified-modified.ensures.keys added
    ∙ saved_before rows update c.requires.lawful c.added-added.ensures.set.rising width cells (stayed update (paired rows was)))
