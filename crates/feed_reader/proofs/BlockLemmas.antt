-- The parts of a block: each holds what stands in its order.
use Rattle.std.proofs.Common.{◌≡◌, ℕ, ◌+◌, ◌<◌, ◌≤◌, Bool, true, false, cond, eqb, ltb, List, [], ◌∷◌, length, Option, Some, None, refl, sym, ◌∙◌, subst, inl, inr, arith, length-take, take_while}
use Rattle.std.{specs.List.{AllByRecursion, filter_map, prefix_len}, proofs.lemmas.Bool.{ltb-true, ltb-false, lt-ltb, le-ltb, eq-eqb, ne_eqb, cases_lt}}
use Rattle.key_lists.proofs.Every.{every_weaker}
use Rattle.tick_model.{specs.declared.plan.Plan.Plan, specs.declared.update.KeyRange.KeyRange, specs.declared.update.ShiftRange.ShiftRange, specs.Plans.columns_at, specs.LawfulRuns.is_source_number}
use Rattle.feed_reader.{specs.Said.{Entry, Block, Removed, Shift, Added, Modified, End}, specs.declared.place.BlockPart.BlockPart, specs.declared.place.BlockState.BlockState, specs.declared.place.BlockState.TheVariants.{Outside, Inside}, specs.declared.raw.RawBatch.RawBatch, specs.declared.raw.RawBlock.RawBlock, specs.declared.raw.RawRow.RawRow, specs.Feeds.{is_of_block, removed_range, shift_range, added_row, modified_row, block_with, blocks_from, batches_on, batches_after, batches_of}, specs.Places.{Opened, opened, is_past, is_outside, part_rank, passed, place_after}, proofs.FeedLemmas.own-more, proofs.Orderly.{StandsAt, IsRange, IsMove, IsRawRow, Orderly}}
use Rattle.feed_reader.specs.declared.place.BlockPart.TheVariants as Parts

-- each begins past the end of the one before it
abbrev pub Ascends : {X : Type 0} → (X → ℕ) → (X → ℕ) → List X → Type 0
Ascends low high [] = Unit {0}
Ascends low high (x ∷ xs) = AllByRecursion (λ y. high x < low y) xs × Ascends low high xs

-- what stands in a part of a block that is opened
abbrev pub Stand : {X : Type 0} → (X → ℕ) → (X → ℕ) → (X → Type 0) → Option Opened → List X → Type 0
Stand low high Good None xs = xs ≡ []
Stand low high Good (Some (table, last)) xs = AllByRecursion (λ x. is_past last (low x) ≡ true) xs × Ascends low high xs × AllByRecursion Good xs

-- `opened`, by the ranks of the parts
abbrev opened_at : ℕ → ℕ → Option ℕ → ℕ → Option Opened
opened_at table at last next = cond (ltb next at) None (Some (table, cond (eqb next at) last None))

past_through : (last : Option ℕ) (a b : ℕ) → is_past last a ≡ true → a ≤ b → is_past last b ≡ true
past_through None a b past le = refl
past_through (Some before) a b past le = lt-ltb before b (omega (arith, ltb-true before a past))

stands_parts : (table : ℕ) (before : Bool) (last : Option ℕ) (key : ℕ) (Fits : ℕ → Type 0) → StandsAt (cond before None (Some (table, last))) key Fits → (before ≡ false) × (is_past last key ≡ true) × Fits table
stands_parts table true last key Fits stands = absurd stands
stands_parts table false last key Fits stands = (refl, stands.0, stands.1)

module _ {X : Type 0} (low high : X → ℕ) (Good : X → Type 0) where
  stand_nil : (at : Option Opened) → Stand low high Good at []
  stand_nil None = refl
  stand_nil (Some (table, last)) = (tt, tt, tt)

  stand_more : (table : ℕ) (last : Option ℕ) (x : X) (xs : List X) → is_past last (low x) ≡ true → low x ≤ high x → Good x → Stand low high Good (Some (table, Some (high x))) xs → Stand low high Good (Some (table, last)) (x ∷ xs)
  stand_more table last x xs past rises good more = (
    (past, every_weaker (λ y. ltb (high x) (low y) ≡ true) (λ y. is_past last (low y) ≡ true) xs (λ y e. past_through last (low x) (low y) past (omega (arith, ltb-true (high x) (low y) e))) more.0),
    (every_weaker (λ y. ltb (high x) (low y) ≡ true) (λ y. high x < low y) xs (λ y e. ltb-true (high x) (low y) e) more.0, more.1),
    (good, more.2),
  )

  -- a record of the part
  pub stand_same : (table at : ℕ) (last : Option ℕ) (part : ℕ) (x : X) (xs : List X) → ltb part at ≡ false → is_past (cond (eqb part at) last None) (low x) ≡ true → low x ≤ high x → Good x → Stand low high Good (opened_at table part (Some (high x)) part) xs → Stand low high Good (opened_at table at last part) (x ∷ xs)
  stand_same table at last part x xs may past rises good more =
      let here : opened_at table part (Some (high x)) part ≡ Some (table, Some (high x)) = rw (le-ltb part part (omega arith), eq-eqb part part refl) refl in
      let there : opened_at table at last part ≡ Some (table, cond (eqb part at) last None) = rw may refl in
      subst (λ o. Stand low high Good o (x ∷ xs)) (sym there) (stand_more table (cond (eqb part at) last None) x xs past rises good (subst (λ o. Stand low high Good o xs) here more))

  -- a record of another part
  stand_before : (table at : ℕ) (last : Option ℕ) (part other key : ℕ) (xs : List X) → ltb other at ≡ false → part < other → Stand low high Good (opened_at table other (Some key) part) xs → Stand low high Good (opened_at table at last part) xs
  stand_before table at last part other key xs may less more =
      let here : opened_at table other (Some key) part ≡ None = rw (lt-ltb part other less) refl in
      let none : xs ≡ [] = subst (λ o. Stand low high Good o xs) here more in
      subst (λ ys. Stand low high Good (opened_at table at last part) ys) (sym none) (stand_nil (opened_at table at last part))

  stand_after : (table at : ℕ) (last : Option ℕ) (part other key : ℕ) (xs : List X) → ltb other at ≡ false → other < part → Stand low high Good (opened_at table other (Some key) part) xs → Stand low high Good (opened_at table at last part) xs
  stand_after table at last part other key xs may less more =
      let reached : at ≤ other = ltb-false other at may in
      let here : opened_at table other (Some key) part ≡ Some (table, None) = rw (le-ltb part other (omega arith), ne_eqb part other (λ e. omega arith)) refl in
      let there : opened_at table at last part ≡ Some (table, None) = rw (le-ltb part at (omega arith), ne_eqb part at (λ e. omega arith)) refl in
      subst (λ o. Stand low high Good o xs) (here ∙ sym there) more

  pub stand_other : (table at : ℕ) (last : Option ℕ) (part other key : ℕ) (xs : List X) → ltb other at ≡ false → ¬ (part ≡ other) → Stand low high Good (opened_at table other (Some key) part) xs → Stand low high Good (opened_at table at last part) xs
  stand_other table at last part other key xs may differs more =
      elim (cases_lt part other) [
        | inl less ↦ stand_before table at last part other key xs may less more
        | inr le ↦ stand_after table at last part other key xs may (omega arith) more
      ]

-- the records that belong to a block
abbrev own_of : List Entry → List Entry
own_of = take_while is_of_block

abbrev row_key : RawRow → ℕ
row_key row = row.key

-- what stands so far of each part
abbrev RemovedStand : ℕ → BlockPart → Option ℕ → List Entry → Type 0
RemovedStand table at last own = Stand (λ (range : KeyRange). range.first) (λ range. range.last) IsRange (opened_at table (part_rank at) last 0) (filter_map removed_range own)

abbrev ShiftsStand : ℕ → BlockPart → Option ℕ → List Entry → Type 0
ShiftsStand table at last own = Stand (λ (range : ShiftRange). range.begin) (λ range. range.end) IsMove (opened_at table (part_rank at) last 1) (filter_map shift_range own)

abbrev AddedStand : Plan → ℕ → BlockPart → Option ℕ → List Entry → Type 0
AddedStand plan table at last own = Stand row_key row_key (IsRawRow (columns_at plan.nodes table)) (opened_at table (part_rank at) last 2) (filter_map added_row own)

abbrev ModifiedStand : Plan → ℕ → BlockPart → Option ℕ → List Entry → Type 0
ModifiedStand plan table at last own = Stand row_key row_key (IsRawRow (columns_at plan.nodes table)) (opened_at table (part_rank at) last 3) (filter_map modified_row own)

pub record PartsStand (plan : Plan) (table : ℕ) (at : BlockPart) (last : Option ℕ) (own : List Entry) : Type 0 where
  pub removed : RemovedStand table at last own
  pub shifts : ShiftsStand table at last own
  pub added : AddedStand plan table at last own
  pub modified : ModifiedStand plan table at last own

none_stand : (plan : Plan) (table : ℕ) (at : BlockPart) (last : Option ℕ) → PartsStand plan table at last []
none_stand plan table at last = record {
  removed = stand_nil (λ (range : KeyRange). range.first) (λ range. range.last) IsRange (opened_at table (part_rank at) last 0);
  shifts = stand_nil (λ (range : ShiftRange). range.begin) (λ range. range.end) IsMove (opened_at table (part_rank at) last 1);
  added = stand_nil row_key row_key (IsRawRow (columns_at plan.nodes table)) (opened_at table (part_rank at) last 2);
  modified = stand_nil row_key row_key (IsRawRow (columns_at plan.nodes table)) (opened_at table (part_rank at) last 3);
}

-- a part goes on behind a record of another
module _ (plan : Plan) (table : ℕ) (at : BlockPart) (last : Option ℕ) (key : ℕ) (own : List Entry) where
  removed_goes : (other : BlockPart) → ltb (part_rank other) (part_rank at) ≡ false → ¬ (0 ≡ part_rank other) → RemovedStand table other (Some key) own → RemovedStand table at last own
  removed_goes other may differs more = stand_other (λ (range : KeyRange). range.first) (λ range. range.last) IsRange table (part_rank at) last 0 (part_rank other) key (filter_map removed_range own) may differs more

  shifts_go : (other : BlockPart) → ltb (part_rank other) (part_rank at) ≡ false → ¬ (1 ≡ part_rank other) → ShiftsStand table other (Some key) own → ShiftsStand table at last own
  shifts_go other may differs more = stand_other (λ (range : ShiftRange). range.begin) (λ range. range.end) IsMove table (part_rank at) last 1 (part_rank other) key (filter_map shift_range own) may differs more

  added_goes : (other : BlockPart) → ltb (part_rank other) (part_rank at) ≡ false → ¬ (2 ≡ part_rank other) → AddedStand plan table other (Some key) own → AddedStand plan table at last own
  added_goes other may differs more = stand_other row_key row_key (IsRawRow (columns_at plan.nodes table)) table (part_rank at) last 2 (part_rank other) key (filter_map added_row own) may differs more

  modified_goes : (other : BlockPart) → ltb (part_rank other) (part_rank at) ≡ false → ¬ (3 ≡ part_rank other) → ModifiedStand plan table other (Some key) own → ModifiedStand plan table at last own
  modified_goes other may differs more = stand_other row_key row_key (IsRawRow (columns_at plan.nodes table)) table (part_rank at) last 3 (part_rank other) key (filter_map modified_row own) may differs more

-- one more record of a block
removed_stands : (plan : Plan) (table : ℕ) (at : BlockPart) (last : Option ℕ) (range : KeyRange) (own : List Entry) → StandsAt (opened_at table (part_rank at) last 0) range.first (λ _. IsRange range) → PartsStand plan table Parts.Removed (Some range.last) own → PartsStand plan table at last (Removed range ∷ own)
removed_stands plan table at last range own stands more =
    let parts = stands_parts table (ltb 0 (part_rank at)) (cond (eqb 0 (part_rank at)) last None) range.first (λ _. IsRange range) stands in
    record {
      removed = stand_same (λ (r : KeyRange). r.first) (λ r. r.last) IsRange table (part_rank at) last 0 range (filter_map removed_range own) parts.0 parts.1 parts.2.0 parts.2 more.removed;
      shifts = shifts_go plan table at last range.last own Parts.Removed parts.0 (λ e. cc e) more.shifts;
      added = added_goes plan table at last range.last own Parts.Removed parts.0 (λ e. cc e) more.added;
      modified = modified_goes plan table at last range.last own Parts.Removed parts.0 (λ e. cc e) more.modified;
    }

shift_stands : (plan : Plan) (table : ℕ) (at : BlockPart) (last : Option ℕ) (range : ShiftRange) (own : List Entry) → StandsAt (opened_at table (part_rank at) last 1) range.begin (λ _. IsMove range) → PartsStand plan table Parts.Shifts (Some range.end) own → PartsStand plan table at last (Shift range ∷ own)
shift_stands plan table at last range own stands more =
    let parts = stands_parts table (ltb 1 (part_rank at)) (cond (eqb 1 (part_rank at)) last None) range.begin (λ _. IsMove range) stands in
    record {
      removed = removed_goes plan table at last range.end own Parts.Shifts parts.0 (λ e. cc e) more.removed;
      shifts = stand_same (λ (r : ShiftRange). r.begin) (λ r. r.end) IsMove table (part_rank at) last 1 range (filter_map shift_range own) parts.0 parts.1 parts.2.rises parts.2 more.shifts;
      added = added_goes plan table at last range.end own Parts.Shifts parts.0 (λ e. cc e) more.added;
      modified = modified_goes plan table at last range.end own Parts.Shifts parts.0 (λ e. cc e) more.modified;
    }

added_stands : (plan : Plan) (table : ℕ) (at : BlockPart) (last : Option ℕ) (row : RawRow) (own : List Entry) → StandsAt (opened_at table (part_rank at) last 2) row.key (λ t. IsRawRow (columns_at plan.nodes t) row) → PartsStand plan table Parts.Added (Some row.key) own → PartsStand plan table at last (Added row ∷ own)
added_stands plan table at last row own stands more =
    let parts = stands_parts table (ltb 2 (part_rank at)) (cond (eqb 2 (part_rank at)) last None) row.key (λ t. IsRawRow (columns_at plan.nodes t) row) stands in
    record {
      removed = removed_goes plan table at last row.key own Parts.Added parts.0 (λ e. cc e) more.removed;
      shifts = shifts_go plan table at last row.key own Parts.Added parts.0 (λ e. cc e) more.shifts;
      added = stand_same row_key row_key (IsRawRow (columns_at plan.nodes table)) table (part_rank at) last 2 row (filter_map added_row own) parts.0 parts.1 (omega arith) parts.2 more.added;
      modified = modified_goes plan table at last row.key own Parts.Added parts.0 (λ e. cc e) more.modified;
    }

modified_stands : (plan : Plan) (table : ℕ) (at : BlockPart) (last : Option ℕ) (row : RawRow) (own : List Entry) → StandsAt (opened_at table (part_rank at) last 3) row.key (λ t. IsRawRow (columns_at plan.nodes t) row) → PartsStand plan table Parts.Modified (Some row.key) own → PartsStand plan table at last (Modified row ∷ own)
modified_stands plan table at last row own stands more =
    let parts = stands_parts table (ltb 3 (part_rank at)) (cond (eqb 3 (part_rank at)) last None) row.key (λ t. IsRawRow (columns_at plan.nodes t) row) stands in
    record {
      removed = removed_goes plan table at last row.key own Parts.Modified parts.0 (λ e. cc e) more.removed;
      shifts = shifts_go plan table at last row.key own Parts.Modified parts.0 (λ e. cc e) more.shifts;
      added = added_goes plan table at last row.key own Parts.Modified parts.0 (λ e. cc e) more.added;
      modified = stand_same row_key row_key (IsRawRow (columns_at plan.nodes table)) table (part_rank at) last 3 row (filter_map modified_row own) parts.0 parts.1 (omega arith) parts.2 more.modified;
    }

parts_stand : (plan : Plan) (table : ℕ) (at : BlockPart) (last : Option ℕ) (steps : ℕ) (entries : List Entry) → Orderly plan (Inside table at last) steps entries → PartsStand plan table at last (own_of entries)
parts_stand plan table at last steps [] orderly = cc orderly
parts_stand plan table at last steps (Block other ∷ entries) orderly = none_stand plan table at last
parts_stand plan table at last steps (End ∷ entries) orderly = none_stand plan table at last
parts_stand plan table at last steps (Removed range ∷ entries) orderly =
    subst (PartsStand plan table at last) (sym (own-more (Removed range) entries refl)) (removed_stands plan table at last range (own_of entries) orderly.0 (parts_stand plan table Parts.Removed (Some range.last) steps entries orderly.1))
parts_stand plan table at last steps (Shift range ∷ entries) orderly =
    subst (PartsStand plan table at last) (sym (own-more (Shift range) entries refl)) (shift_stands plan table at last range (own_of entries) orderly.0 (parts_stand plan table Parts.Shifts (Some range.end) steps entries orderly.1))
parts_stand plan table at last steps (Added row ∷ entries) orderly =
    subst (PartsStand plan table at last) (sym (own-more (Added row) entries refl)) (added_stands plan table at last row (own_of entries) orderly.0 (parts_stand plan table Parts.Added (Some row.key) steps entries orderly.1))
parts_stand plan table at last steps (Modified row ∷ entries) orderly =
    subst (PartsStand plan table at last) (sym (own-more (Modified row) entries refl)) (modified_stands plan table at last row (own_of entries) orderly.0 (parts_stand plan table Parts.Modified (Some row.key) steps entries orderly.1))

-- a block, before its texts have ranks; it and its records are among so many
pub record IsRawBlock (plan : Plan) (total : ℕ) (block : RawBlock) : Type 0 where
  pub source : is_source_number plan.nodes block.table ≡ true
  pub removed : Ascends (λ (range : KeyRange). range.first) (λ range. range.last) block.removed × AllByRecursion IsRange block.removed
  pub shifts : Ascends (λ (range : ShiftRange). range.begin) (λ range. range.end) block.shifts × AllByRecursion IsMove block.shifts
  pub added : Ascends row_key row_key block.added × AllByRecursion (IsRawRow (columns_at plan.nodes block.table)) block.added
  pub modified : Ascends row_key row_key block.modified × AllByRecursion (IsRawRow (columns_at plan.nodes block.table)) block.modified
  pub count : block.number + (length block.removed + length block.shifts + length block.added + length block.modified) ≤ total

parts_count : (own : List Entry) → length (filter_map removed_range own) + length (filter_map shift_range own) + length (filter_map added_row own) + length (filter_map modified_row own) ≤ length own
parts_count [] = omega arith
parts_count (Block table ∷ own) = omega (arith, parts_count own)
parts_count (Removed range ∷ own) = omega (arith, parts_count own)
parts_count (Shift range ∷ own) = omega (arith, parts_count own)
parts_count (Added row ∷ own) = omega (arith, parts_count own)
parts_count (Modified row ∷ own) = omega (arith, parts_count own)
parts_count (End ∷ own) = omega (arith, parts_count own)

block_stands : (plan : Plan) (total table number steps : ℕ) (entries : List Entry) → is_source_number plan.nodes table ≡ true → Orderly plan (Inside table Parts.Removed None) steps entries → number + length entries ≤ total → IsRawBlock plan total (block_with table number (own_of entries))
block_stands plan total table number steps entries source orderly few =
    let parts = parts_stand plan table Parts.Removed None steps entries orderly in
    record {
      source = source;
      removed = (parts.removed.1, parts.removed.2);
      shifts = (parts.shifts.1, parts.shifts.2);
      added = (parts.added.1, parts.added.2);
      modified = (parts.modified.1, parts.modified.2);
      count = omega (arith, parts_count (own_of entries), length-take (prefix_len is_of_block entries) entries);
    }

pub blocks_stand : (plan : Plan) (total : ℕ) (place : BlockState) (steps number : ℕ) (entries : List Entry) → Orderly plan place steps entries → number + length entries ≤ total → AllByRecursion (IsRawBlock plan total) (blocks_from number entries)
blocks_stand plan total place steps number [] orderly few = tt
blocks_stand plan total place steps number (Block table ∷ entries) orderly few =
    (block_stands plan total table number steps entries orderly.0 orderly.1 (omega arith), blocks_stand plan total (place_after place (Block table)) steps (number + 1) entries orderly.1 (omega arith))
blocks_stand plan total place steps number (End ∷ entries) orderly few = tt
blocks_stand plan total place steps number (Removed range ∷ entries) orderly few = blocks_stand plan total (place_after place (Removed range)) steps (number + 1) entries orderly.1 (omega arith)
blocks_stand plan total place steps number (Shift range ∷ entries) orderly few = blocks_stand plan total (place_after place (Shift range)) steps (number + 1) entries orderly.1 (omega arith)
blocks_stand plan total place steps number (Added row ∷ entries) orderly few = blocks_stand plan total (place_after place (Added row)) steps (number + 1) entries orderly.1 (omega arith)
blocks_stand plan total place steps number (Modified row ∷ entries) orderly few = blocks_stand plan total (place_after place (Modified row)) steps (number + 1) entries orderly.1 (omega arith)

-- the steps
abbrev pub StandIn : Plan → ℕ → RawBatch → Type 0
StandIn plan total batch = AllByRecursion (IsRawBlock plan total) batch.blocks

on_stand : (plan : Plan) (total : ℕ) (place : BlockState) (steps number : ℕ) (entries : List Entry) (later : List RawBatch) → Orderly plan place steps entries → number + length entries ≤ total → AllByRecursion (StandIn plan total) later → AllByRecursion (StandIn plan total) (batches_on number entries later)
on_stand plan total place steps number [] later orderly few stand = tt
on_stand plan total place steps number (entry ∷ entries) later orderly few stand = (blocks_stand plan total place steps number (entry ∷ entries) orderly few, stand)

after_stand : (plan : Plan) (total : ℕ) (place : BlockState) (steps number : ℕ) (entries : List Entry) → Orderly plan place steps entries → number + length entries ≤ total → AllByRecursion (StandIn plan total) (batches_after number entries)
after_stand plan total place steps number [] orderly few = tt
after_stand plan total place steps number (End ∷ entries) orderly few =
    on_stand plan total Outside (steps + 1) (number + 1) entries (batches_after (number + 1) entries) orderly.1 (omega arith) (after_stand plan total Outside (steps + 1) (number + 1) entries orderly.1 (omega arith))
after_stand plan total place steps number (Block table ∷ entries) orderly few = after_stand plan total (place_after place (Block table)) steps (number + 1) entries orderly.1 (omega arith)
after_stand plan total place steps number (Removed range ∷ entries) orderly few = after_stand plan total (place_after place (Removed range)) steps (number + 1) entries orderly.1 (omega arith)
after_stand plan total place steps number (Shift range ∷ entries) orderly few = after_stand plan total (place_after place (Shift range)) steps (number + 1) entries orderly.1 (omega arith)
after_stand plan total place steps number (Added row ∷ entries) orderly few = after_stand plan total (place_after place (Added row)) steps (number + 1) entries orderly.1 (omega arith)
after_stand plan total place steps number (Modified row ∷ entries) orderly few = after_stand plan total (place_after place (Modified row)) steps (number + 1) entries orderly.1 (omega arith)

pub batches_stand : (plan : Plan) (entries : List Entry) → Orderly plan Outside 0 entries → AllByRecursion (StandIn plan (1 + length entries)) (batches_of entries)
batches_stand plan entries orderly =
    on_stand plan (1 + length entries) Outside 0 1 entries (batches_after 1 entries) orderly (omega arith) (after_stand plan (1 + length entries) Outside 0 1 entries orderly (omega arith))

-- a feed does not end behind a record of a part
never_last : (place : BlockState) (part : BlockPart) (key last : ℕ) (Fits : ℕ → Type 0) → StandsAt (opened place part) key Fits → is_outside (passed place part last) ≡ true → ⊥
never_last Outside part key last Fits stands outside = stands
never_last (Inside table at before) part key last Fits stands outside = cc outside

-- a step for each end of one, of at most 100,000
after_few : (plan : Plan) (place : BlockState) (steps number : ℕ) (entry : Entry) (entries : List Entry) → Orderly plan place steps (entry ∷ entries) → steps + (1 + length (batches_after number (entry ∷ entries))) ≤ 100000
after_few plan place steps number End [] orderly = omega (arith, orderly.0)
after_few plan place steps number End (next ∷ entries) orderly = omega (arith, after_few plan Outside (steps + 1) (number + 1) next entries orderly.1)
after_few plan place steps number (Block table) [] orderly = cc (orderly.1)
after_few plan place steps number (Block table) (next ∷ entries) orderly = after_few plan (place_after place (Block table)) steps (number + 1) next entries orderly.1
after_few plan place steps number (Removed range) [] orderly = absurd (never_last place Parts.Removed range.first range.last (λ _. IsRange range) orderly.0 orderly.1)
after_few plan place steps number (Removed range) (next ∷ entries) orderly = after_few plan (place_after place (Removed range)) steps (number + 1) next entries orderly.1
after_few plan place steps number (Shift range) [] orderly = absurd (never_last place Parts.Shifts range.begin range.end (λ _. IsMove range) orderly.0 orderly.1)
after_few plan place steps number (Shift range) (next ∷ entries) orderly = after_few plan (place_after place (Shift range)) steps (number + 1) next entries orderly.1
after_few plan place steps number (Added row) [] orderly = absurd (never_last place Parts.Added row.key row.key (λ t. IsRawRow (columns_at plan.nodes t) row) orderly.0 orderly.1)
after_few plan place steps number (Added row) (next ∷ entries) orderly = after_few plan (place_after place (Added row)) steps (number + 1) next entries orderly.1
after_few plan place steps number (Modified row) [] orderly = absurd (never_last place Parts.Modified row.key row.key (λ t. IsRawRow (columns_at plan.nodes t) row) orderly.0 orderly.1)
after_few plan place steps number (Modified row) (next ∷ entries) orderly = after_few plan (place_after place (Modified row)) steps (number + 1) next entries orderly.1

pub batches_few : (plan : Plan) (entries : List Entry) → Orderly plan Outside 0 entries → length (batches_of entries) ≤ 100000
batches_few plan [] orderly = omega arith
batches_few plan (entry ∷ entries) orderly = omega (arith, after_few plan Outside 0 1 entry entries orderly)
