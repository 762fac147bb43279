use Rattle.std.proofs.Common.{◌≡◌, ap, ap₂, sym, ◌∙◌, subst, arith, ℕ, ◌+◌, ◌*◌, ◌^◌, ◌<◌, ◌≤◌, ◌++◌, ◌&&◌, ◌||◌, [], ◌∷◌, length, filter, List, append-nil}
use Rattle.std.{specs.Iterator.Adapters.{zip_first, zip_second}, specs.List.{AllByRecursion, list_any}, specs.Prelude.nat_lt}
use Rattle.key_lists.specs.Keys.{is_among, IsRising}
use Rattle.row_set.proofs.Windows.{rising_before}
use Rattle.shift_data.specs.Moves.{pairs_of}
use Rattle.tick_model.{specs.declared.update.KeyPair.KeyPair, specs.Updates.{differs, differs_in, new_keys}}
use Rattle.tick_table.specs.declared.version.Version.TheVariants.{Before, Now}
use Rattle.row_changes.{specs.Parts.{AreThere, cells_under}, proofs.Comparing.{cells_more, column_end, column_next, pair_reads, pairs_end, rises_next, told_next}}
use Rattle.row_changes.proofs.told.compare_rows.Goals as goal

pub loop-old-init : goal.loop-old-init
loop-old-init g c =
    let old = g.R.Rows.table c.args.rows.now Before in
    let new = g.R.Rows.table c.args.rows.now Now in
    let each = g.R.Rows.row_reads c.args.rows.now in
    let total = c.args.reads.now + each * (2 * length c.args.now.now) in
    let set = c.zip-old-items.ensures.second.1 in
    let before : zip_first c.into_iter-old-iterator.result ≡ c.args.before.now = ap zip_first c.into_iter-old-iterator.ensures.into_iter_gives ∙ c.zip-old-items.ensures.first ∙ c.iter.ensures.rest in
    let now : zip_second c.into_iter-old-iterator.result ≡ c.args.now.now = ap zip_second c.into_iter-old-iterator.ensures.into_iter_gives ∙ c.zip-old-items.ensures.second.0 in record {
      before = subst (AreThere old) (sym before) c.requires.before;
      now = subst (AreThere new) (sym now) c.requires.now;
      small = subst (AllByRecursion (λ key. key < 2 ^ 62)) (sym now) set.small;
      above = subst (λ (told : List ℕ). IsRising (told ++ zip_second c.into_iter-old-iterator.result)) (sym c.new.ensures) (subst IsRising (sym now) set.rising);
      modified =
          ap (λ (told : List ℕ). told ++ new_keys (filter (differs old new) (pairs_of (zip_first c.into_iter-old-iterator.result) (zip_second c.into_iter-old-iterator.result)))) c.new.ensures
          ∙ ap₂ (λ (before now : List ℕ). new_keys (filter (differs old new) (pairs_of before now))) before now;
      columns = λ column.
          ap (λ (told : List ℕ). is_among column told || (nat_lt column c.args.width && list_any (differs_in old new column) (pairs_of (zip_first c.into_iter-old-iterator.result) (zip_second c.into_iter-old-iterator.result)))) c.none.ensures
          ∙ ap₂ (λ (before now : List ℕ). nat_lt column c.args.width && list_any (differs_in old new column) (pairs_of before now)) before now;
      rising = subst IsRising (sym c.none.ensures) tt;
      cells = sym (append-nil c.args.cells.items) ∙ ap (λ (told : List ℕ). c.args.cells.items ++ cells_under new told) (sym c.new.ensures);
      reads = subst (λ (keys : List ℕ). c.args.reads.now + each * (2 * length keys) ≤ total) (sym now) (omega arith);
    }

pub compare_row-requires-clause-before : goal.compare_row-requires-clause-before
compare_row-requires-clause-before g c = (subst (AreThere (g.R.Rows.table c.args.rows.now Before)) c.in-Some.ensures.steps.0 c.loop-old.invariant.before).0

pub compare_row-requires-clause-now : goal.compare_row-requires-clause-now
compare_row-requires-clause-now g c = (subst (AreThere (g.R.Rows.table c.args.rows.now Now)) c.in-Some.ensures.steps.1 c.loop-old.invariant.now).0

pub compare_row-requires-clause-small : goal.compare_row-requires-clause-small
compare_row-requires-clause-small g c = (subst (AllByRecursion (λ key. key < 2 ^ 62)) c.in-Some.ensures.steps.1 c.loop-old.invariant.small).0

pub compare_row-requires-clause-above : goal.compare_row-requires-clause-above
compare_row-requires-clause-above g c =
    let told = c.loop-old.told.modified in
    rising_before told c.in-Some.new (zip_second c.next.new.self) (subst (λ (keys : List ℕ). IsRising (told ++ keys)) c.in-Some.ensures.steps.1 c.loop-old.invariant.above)

pub loop-old-preserved : goal.loop-old-preserved
loop-old-preserved g c =
    let old = g.R.Rows.table c.args.rows.now Before in
    let new = g.R.Rows.table c.args.rows.now Now in
    let each = g.R.Rows.row_reads c.args.rows.now in
    let total = c.args.reads.now + each * (2 * length c.args.now.now) in
    let before = zip_first c.next.new.self in
    let now = zip_second c.next.new.self in
    let before_steps : zip_first c.loop-old.old-iterator ≡ c.in-Some.old ∷ before = c.in-Some.ensures.steps.0 in
    let now_steps : zip_second c.loop-old.old-iterator ≡ c.in-Some.new ∷ now = c.in-Some.ensures.steps.1 in
    let pair : KeyPair = record { old = c.in-Some.old; new = c.in-Some.new } in
    let pairs : pairs_of (zip_first c.loop-old.old-iterator) (zip_second c.loop-old.old-iterator) ≡ pair ∷ pairs_of before now = ap₂ pairs_of before_steps now_steps in
    let told = c.loop-old.told.modified in
    let columns = c.loop-old.told.columns in
    let more = new_keys (filter (differs old new) (pair ∷ [])) in
    let made = c.in_ok-compare_row.ensures in record {
      before = (subst (AreThere old) before_steps c.loop-old.invariant.before).1;
      now = (subst (AreThere new) now_steps c.loop-old.invariant.now).1;
      small = (subst (AllByRecursion (λ key. key < 2 ^ 62)) now_steps c.loop-old.invariant.small).1;
      above = subst (λ (keys : List ℕ). IsRising (keys ++ now)) (sym made.modified) (rises_next (differs old new) pair told now (subst (λ (keys : List ℕ). IsRising (told ++ keys)) now_steps c.loop-old.invariant.above));
      modified =
          ap (λ (keys : List ℕ). keys ++ new_keys (filter (differs old new) (pairs_of before now))) made.modified
          ∙ told_next (differs old new) pair (pairs_of before now) told
          ∙ ap (λ (pairs : List KeyPair). told ++ new_keys (filter (differs old new) pairs)) (sym pairs)
          ∙ c.loop-old.invariant.modified;
      columns = λ column.
          let less = nat_lt column c.args.width in
          ap (λ b. b || (less && list_any (differs_in old new column) (pairs_of before now))) (made.columns column)
          ∙ column_next (is_among column columns) less (differs_in old new column pair) (list_any (differs_in old new column) (pairs_of before now))
          ∙ ap (λ (pairs : List KeyPair). is_among column columns || (less && list_any (differs_in old new column) pairs)) (sym pairs)
          ∙ c.loop-old.invariant.columns column;
      rising = made.rising;
      cells =
          cells_more new c.args.cells.items c.loop-old.told.cells.items c.compare_row.new.told.cells.items told more c.compare_row.new.told.modified
          c.loop-old.invariant.cells made.modified made.cells;
      reads = pair_reads each c.loop-old.reads c.compare_row.new.reads total (length now) (subst (λ (keys : List ℕ). c.loop-old.reads + each * (2 * length keys) ≤ total) now_steps c.loop-old.invariant.reads) made.reads;
    }

pub returns-clause-modified : goal.returns-clause-modified
returns-clause-modified g c =
    let old = g.R.Rows.table c.args.rows.now Before in
    let new = g.R.Rows.table c.args.rows.now Now in
    let told = c.loop-old.told.modified in
    sym (append-nil told)
    ∙ ap (λ (pairs : List KeyPair). told ++ new_keys (filter (differs old new) pairs)) (sym (pairs_end (zip_first c.loop-old.old-iterator) (zip_second c.loop-old.old-iterator) c.in-None.ensures.steps))
    ∙ c.loop-old.invariant.modified

pub returns-clause-columns : goal.returns-clause-columns
returns-clause-columns g c column =
    let old = g.R.Rows.table c.args.rows.now Before in
    let new = g.R.Rows.table c.args.rows.now Now in
    let here = is_among column c.loop-old.told.columns in
    let less = nat_lt column c.args.width in
    column_end here less
    ∙ ap (λ (pairs : List KeyPair). here || (less && list_any (differs_in old new column) pairs)) (sym (pairs_end (zip_first c.loop-old.old-iterator) (zip_second c.loop-old.old-iterator) c.in-None.ensures.steps))
    ∙ c.loop-old.invariant.columns column
