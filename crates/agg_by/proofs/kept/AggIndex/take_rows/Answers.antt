use Rattle.std.proofs.Common.{◌≡◌, refl, ap, ap₂, sym, ◌∙◌, subst, rules, arith, true, false, None, List, ◌∷◌, ℕ, ℤ, ◌+◌, ◌<◌, ◌≤◌, get_or, length, map, take}
use Rattle.std.{specs.List.{AllByRecursion, AllZip}, proofs.lemmas.List.{take_all, take_more, with_items_is}, proofs.lemmas.List.Elements.{AllZip-get_or, length_all_zip}, proofs.Math.Nat.mul-le-mul_left}
use Rattle.key_lists.{specs.Keys.is_among, proofs.Every.{every_weaker, filter_all}, proofs.Parts.every_at}
use Rattle.row_groups.specs.Members.{IsNumberOf, IsNumberUnder, groups_of}
use Rattle.tick_model.{specs.declared.table.PlainRow.PlainRow, specs.Tables.{cells_at, keys}, specs.Updates.removing}
use Rattle.tick_table.{specs.Exact.IsExact, specs.Ticking.Ticking}
use Rattle.agg_by.{specs.declared.running.Accumulator.Accumulator, specs.Answers.{HasRow, without_row}, specs.Kept.{AnswerAll, Answers, indexed}, specs.Steps.key_at, proofs.Answering.known_at, proofs.Changing.apart_at, proofs.KeptSteps.{all_changed, has_row, loses, removing-last, without_agg}, proofs.Touching.{removed_there, rising_removed}}
use Rattle.agg_by.specs.declared.kept.AggIndex.{AggIndex}
use Rattle.agg_by.proofs.kept.AggIndex.take_rows.Goals as goal

-- the row that goes next
record IsNext (index : AggIndex) (t : Ticking) (numbers : List ℕ) (place : ℕ) : Type 0 where
  within : place < length t.update.removed
  own : is_among (get_or t.update.removed place 0) (keys t.old.rows) ≡ true
  apart : is_among (get_or t.update.removed place 0) (take place t.update.removed) ≡ false
  number : IsNumberOf (get_or numbers place 0) (key_at index.by t.old.rows (get_or t.update.removed place 0)) index.rows.names

next : (index : AggIndex) (t : Ticking) → IsExact t → groups_of index.rows ≡ indexed index.by None t.old.rows → (numbers : List ℕ) → AllZip (IsNumberUnder index.rows) t.update.removed numbers → (place : ℕ) → place < length numbers → IsNext index t numbers place
next index t e are numbers all place few = record {
  within = within;
  own = own;
  apart = apart_at t.update.removed place place (rising_removed t e) within (omega arith);
  number = AllZip-get_or (IsNumberUnder index.rows) t.update.removed numbers place 0 0 all within (key_at index.by t.old.rows (get_or t.update.removed place 0)) (known_at index.by t.old e.tick.old_table (groups_of index.rows) are (get_or t.update.removed place 0) own);
}
  where
    within : place < length t.update.removed
    within = omega (arith, few, length_all_zip (IsNumberUnder index.rows) t.update.removed numbers all)

    own : is_among (get_or t.update.removed place 0) (keys t.old.rows) ≡ true
    own = every_at (λ key. is_among key (keys t.old.rows) ≡ true) t.update.removed place 0 within (removed_there t e)

pub loop-place-init : goal.loop-place-init
loop-place-init g c = record {
  by = refl;
  aggs = refl;
  rows = refl;
  running = subst (λ (rows : List PlainRow). AnswerAll c.args.self.now.by c.args.self.now.rows.names c.args.self.now.aggs rows c.args.self.now.running.items) (sym (filter_all c.args.input.now.old.rows)) c.requires.keeps.running;
  reads = omega arith;
}

pub removed_row-row-requires : goal.removed_row-row-requires
removed_row-row-requires g c = (next c.args.self.now c.args.input.now c.requires.exact c.requires.keeps.rows c.args.numbers.now c.requires.numbers c.loop-place.place c.loop-place-test.true).within

pub take_all-requires : goal.take_all-requires
take_all-requires g c =
    let t = c.args.input.now in
    let self = c.args.self.now in
    let place = c.loop-place.place in
    let is = next self t c.requires.exact c.requires.keeps.rows c.args.numbers.now c.requires.numbers place c.loop-place-test.true in
    let key = get_or t.update.removed place 0 in
    let number = get_or c.args.numbers.now place 0 in
    let items = c.loop-place.self.running.items in
    let all : c.deref_mut.result.now ≡ items = search rules in
    let gone = take place t.update.removed in
    let has : AllByRecursion (HasRow number (cells_at key t.old.rows)) items =
    every_weaker (Answers self.by self.rows.names (removing gone t.old.rows)) (HasRow number (cells_at key t.old.rows)) items
    (has_row self.by t.old.rows c.requires.exact.tick.old_table.rising key gone is.own is.apart self.rows.names number is.number) c.loop-place.invariant.running.1 in
    subst (λ (row : List ℤ). AllByRecursion (HasRow number row) c.deref_mut.result.now) (sym c.removed_row-row.ensures.cells) (subst (AllByRecursion (HasRow number (cells_at key t.old.rows))) (sym all) has)

pub loop-place-preserved : goal.loop-place-preserved
loop-place-preserved g c =
    let t = c.args.input.now in
    let self = c.args.self.now in
    let place = c.loop-place.place in
    let is = next self t c.requires.exact c.requires.keeps.rows c.args.numbers.now c.requires.numbers place c.loop-place-test.true in
    let key = get_or t.update.removed place 0 in
    let number = get_or c.args.numbers.now place 0 in
    let items = c.loop-place.self.running.items in
    let new = c.take_all.new.all in
    let all : c.deref_mut.result.now ≡ items = search rules in
    let gone = take place t.update.removed in
    let f = without_row number (cells_at key t.old.rows) in
    let lost : new ≡ map f items = c.in_ok-take_all.ensures ∙ ap₂ (λ (row : List ℤ) (old : List Accumulator). map (without_row number row) old) c.removed_row-row.ensures.cells all in
    let long : length new ≡ c.loop-place.self.running.len = c.take_all.auto.all ∙ ap length all ∙ sym c.loop-place.self.running.ok.0 in record {
      by = c.loop-place.invariant.by;
      aggs = c.loop-place.invariant.aggs;
      rows = c.loop-place.invariant.rows;
      running =
          subst (AnswerAll self.by self.rows.names self.aggs (removing (take (place + 1) t.update.removed) t.old.rows)) (sym (with_items_is c.loop-place.self.running new long ∙ lost))
          (subst (λ (left : List PlainRow). AnswerAll self.by self.rows.names self.aggs left (map f items)) (removing-last key gone t.old.rows ∙ ap (λ (ks : List ℕ). removing ks t.old.rows) (sym (take_more t.update.removed place 0 is.within)))
          (all_changed f (Answers self.by self.rows.names (removing gone t.old.rows)) (Answers self.by self.rows.names (removing (key ∷ gone) t.old.rows)) self.aggs items (without_agg number (cells_at key t.old.rows))
          (loses self.by t.old.rows c.requires.exact.tick.old_table.rising key gone is.own is.apart self.rows.names number is.number) c.loop-place.invariant.running));
      reads = omega (arith, c.loop-place.invariant.reads, c.removed_row-row.ensures.reads);
    }

pub returns-in_err-take_all-clause-reads : goal.returns-in_err-take_all-clause-reads
returns-in_err-take_all-clause-reads g c =
    let t = c.args.input.now in
    let is = next c.args.self.now t c.requires.exact c.requires.keeps.rows c.args.numbers.now c.requires.numbers c.loop-place.place c.loop-place-test.true in
    omega (arith, c.loop-place.invariant.reads, c.removed_row-row.ensures.reads, mul-le-mul_left t.old.width is.within)

pub returns-clause-running : goal.returns-clause-running
returns-clause-running g c =
    let t = c.args.input.now in
    let self = c.args.self.now in
    subst (λ (ks : List ℕ). AnswerAll self.by self.rows.names self.aggs (removing ks t.old.rows) c.loop-place.self.running.items)
    (take_all c.loop-place.place t.update.removed (omega (arith, c.loop-place-test.false, length_all_zip (IsNumberUnder self.rows) t.update.removed c.args.numbers.now c.requires.numbers))) c.loop-place.invariant.running

pub returns-clause-reads : goal.returns-clause-reads
returns-clause-reads g c =
    let t = c.args.input.now in
    let few : c.loop-place.place ≤ length t.update.removed = omega (arith, length_all_zip (IsNumberUnder c.args.self.now.rows) t.update.removed c.args.numbers.now c.requires.numbers) in
    omega (arith, c.loop-place.invariant.reads, mul-le-mul_left t.old.width few)
