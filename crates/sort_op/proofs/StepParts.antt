-- The parts of a step's change, from the positions that are found in the order before it and in the one now.
use Rattle.std.proofs.Common.{◌≡◌, refl, ap, ap₂, sym, ◌∙◌, subst, true, false, not, ◌&&◌, ◌||◌, ◌==◌, ℕ, ◌+◌, ◌*◌, ◌^◌, ◌<◌, ◌≤◌, arith, List, [], ◌∷◌, map, filter, length, Option, Some, None}
use Rattle.std.{specs.Prelude.{option_map, slice_get}, specs.List.AllByRecursion, specs.Option.option_map_or, proofs.Math.Nat.mul-le-mul_left, proofs.lemmas.Bool.or_parts, proofs.lemmas.Option.slice_get-map}
use Rattle.key_lists.{specs.Keys.{IsRising, is_among, without}, proofs.Every.{every_unmapped, every_weaker, every-map, map_map}, proofs.Rising.rising_same}
use Rattle.row_changes.specs.Parts.{AreCompared}
use Rattle.row_handles.specs.Entries.{keys_of}
use Rattle.row_set.specs.Sets.{IsKeySet}
use Rattle.shift_data.specs.Moves.{IsLawful}
use Rattle.shown_rows.proofs.Restricted.{exact_shift}
use Rattle.tick_model.{specs.declared.plan.SortBy.SortBy, specs.declared.table.PlainRow.PlainRow, specs.declared.table.PlainTable.PlainTable, specs.declared.update.KeyPair.KeyPair, specs.declared.update.ShiftRange.ShiftRange, specs.Shifts.{as_key, moved}, specs.Sort.{in_order, sort_pairs, sort_table}, specs.Tables.{IsTable, keys, same_cells}, specs.Updates.{Update, between, kept_pair, new_keys, old_keys, pairs}}
use Rattle.tick_table.{specs.Exact.{IsExact, counted, tick_of}, specs.Ticking.Ticking}
use Rattle.sort_op.{specs.declared.entry.Entry.Entry, specs.declared.row_order.OrderedRow.OrderedRow, specs.Entries.{AreDistinct, Rises, is_in, keys_in, rekeyed}, specs.Places.{AreApart, AreFound, AreUnder, is_one, left_from, other_places}, specs.Ranks.{IsSettled, Ranking, arrived, entry_in, listed}, specs.Reading.{carried, coming, entries_under, entry_under, leaving, staying, staying_pairs}, specs.Sorted.{entries_of, entry_of}, specs.Sorter.sorted, proofs.EntryPlaces.place_under, proofs.LeftOut.{under_left, under_within}, proofs.Ranked.listed_count, proofs.RankedEdits.map_left, proofs.Stepped.{added_is, among_listed, apart_listed, coming_absent, coming_distinct, coming_within, compared_are, entries_now, few_coming, few_compared, few_entries, gone_apart, keys_now, other_places_are, removed_is}}

under_as : (order other : List Entry) (some positions : List ℕ) → order ≡ other → AreUnder (keys_in order) some positions → AreUnder (keys_in other) some positions
under_as order other some positions o = subst (λ (entries : List Entry). AreUnder (keys_in entries) some positions) o

pub few_in : (by : List SortBy) (table : PlainTable) (order : List Entry) → IsTable table → order ≡ entries_of by table.rows → length order ≤ 2 ^ 62
few_in by table order h o = subst (λ (entries : List Entry). length entries ≤ 2 ^ 62) (sym o) (few_entries by table h)

-- the positions of the rows that stay
pub staying_is : (by : List SortBy) (table : PlainTable) (order : List Entry) (crossing staying : List ℕ) → order ≡ entries_of by table.rows → staying ≡ other_places (length order) crossing → staying ≡ without crossing (keys (sort_table by table).rows)
staying_is by table order crossing others o s = s ∙ ap (λ (entries : List Entry). other_places (length entries) crossing) o ∙ other_places_are by table crossing

-- what a step reads is within the bound
reads_within : (width first second third added modified removed out_removed out_added out_modified : ℕ) → second ≤ first + width * modified → third ≤ second + width * (3 * modified + added + out_added)
    → third ≤ first + 4 * (width + width) * ((removed + added + 2 * modified) + (out_removed + out_added + 2 * out_modified))
reads_within width first second third added modified removed out_removed out_added out_modified a b = omega (arith, a, b)

pub reads_bounded : (width first second third : ℕ) (input output : Update) → second ≤ first + width * length input.modified → third ≤ second + width * (3 * length input.modified + length input.added + length output.added) → third ≤ first + 4 * (width + width) * (counted input + counted output)
reads_bounded width first second third input output a b = reads_within width first second third (length input.added) (length input.modified) (length input.removed) (length output.removed) (length output.added) (length output.modified) a b

-- and so is what the rows that are compared and those that come take
pub reads_fewer : (width first second third added modified : ℕ) (came compared crossing : List ℕ) (output : Update) → crossing ≡ output.added → length came ≤ added + modified → length compared ≤ modified → second ≤ first + width * length came → third ≤ second + width * (2 * length compared + length crossing)
    → third ≤ first + width * (3 * modified + added + length output.added)
reads_fewer width first second third added modified came compared crossing output come few_came few read h = omega (arith, read, h, mul-le-mul_left width fewer)
  where
    fewer : length came + (2 * length compared + length crossing) ≤ 3 * modified + added + length output.added
    fewer = omega (arith, few_came, few, ap length come)

-- an entry whose key none of some has is none of them
key_out : (entry : Entry) (some : List Entry) → is_among entry.key (keys_in some) ≡ false → is_in entry some ≡ false
key_out entry [] out = refl
key_out entry (other ∷ some) out =
    let parts = or_parts (other.key == entry.key) (is_among entry.key (keys_in some)) out in
    ap₂ (λ a b. a || b) (ap (λ b. b && same_cells other.cells entry.cells) parts.0) (key_out entry some parts.1)

pub gone_within : (old : Ranking) (some gone : List ℕ) → AreUnder (keys_in (listed old)) some gone → AllByRecursion (λ position. position < length old.rows) gone
gone_within old some gone found =
    every_weaker (λ position. position < length (listed old)) (λ position. position < length old.rows) gone (λ position within. omega (arith, within, listed_count old))
    (under_within (λ (entry : Entry). entry.key) (listed old) some gone found)

-- a key of a row is one of an entry
pub here_at : (by : List SortBy) (table : PlainTable) (order : List Entry) (key : ℕ) → order ≡ entries_of by table.rows → is_among key (keys table.rows) ≡ true → is_among key (keys_in order) ≡ true
here_at by table order key o own = ap (λ (entries : List Entry). is_among key (keys_in entries)) o ∙ among_listed by table.rows key ∙ own

module _ (by : List SortBy) (t : Ticking) (e : IsExact t) where
  pub removed_found : (order : List Entry) (positions : List ℕ) → order ≡ entries_of by t.old.rows → IsKeySet positions → AreUnder (keys_in order) (leaving by t) positions → positions ≡ (between (sorted by (tick_of t))).removed
  removed_found order positions o set are = removed_is by t e positions set (under_as order (entries_of by t.old.rows) (leaving by t) positions o are)

  pub added_found : (order : List Entry) (positions : List ℕ) → order ≡ entries_of by t.new.rows → IsKeySet positions → AreUnder (keys_in order) (coming by t) positions → positions ≡ (between (sorted by (tick_of t))).added
  added_found order positions o set are = added_is by t e positions set (under_as order (entries_of by t.new.rows) (coming by t) positions o are)

  pub compared_found : (order_before order_now : List Entry) (before now : List ℕ) → order_before ≡ entries_of by t.old.rows → order_now ≡ entries_of by t.new.rows
      → IsKeySet before → IsKeySet now → AreUnder (keys_in order_before) (old_keys (staying_pairs by t)) before → AreUnder (keys_in order_now) (new_keys (staying_pairs by t)) now → AreCompared (sort_table by t.old) (sort_table by t.new) (sort_pairs by (tick_of t)) before now
  compared_found order_before order_now before now ob on set_before set_now are_before are_now =
      compared_are by t e before now set_before set_now (under_as order_before (entries_of by t.old.rows) (old_keys (staying_pairs by t)) before ob are_before) (under_as order_now (entries_of by t.new.rows) (new_keys (staying_pairs by t)) now on are_now)

  -- keys of rows are those of entries, and no two entries have one
  pub here_in : (table : PlainTable) (order : List Entry) (some : List ℕ) → order ≡ entries_of by table.rows → AllByRecursion (λ key. is_among key (keys table.rows) ≡ true) some → AllByRecursion (λ key. is_among key (keys_in order) ≡ true) some
  here_in table order some o h =
      every_weaker (λ key. is_among key (keys table.rows) ≡ true) (λ key. is_among key (keys_in order) ≡ true) some
      (λ key own. here_at by table order key o own) h

  pub apart_in : (table : PlainTable) (order : List Entry) → order ≡ entries_of by table.rows → IsRising (keys table.rows) → AreApart (keys_in order)
  apart_in table order o rising = subst (λ (entries : List Entry). AreApart (keys_in entries)) (sym o) (apart_listed by table.rows rising)

  pub few_coming_in : (came : List ℕ) → came ≡ coming by t → length came ≤ length t.update.added + length t.update.modified
  few_coming_in came c = subst (λ (keys : List ℕ). length keys ≤ length t.update.added + length t.update.modified) (sym c) (few_coming by t e)

  pub few_compared_in : (compared now : List ℕ) → compared ≡ new_keys (staying_pairs by t) → length now ≤ length compared → length now ≤ length t.update.modified
  few_compared_in compared now c few = let most = few_compared by t e in let count : length compared ≡ length (new_keys (staying_pairs by t)) = ap length c in omega (arith, few, most, count)

  -- the order without the rows at the positions of those that leave
  module _ (old left : Ranking) (gone : List ℕ) (settled : IsSettled old) (rising : IsRising (keys_of old.handles)) (stands : listed old ≡ entries_of by t.old.rows) (found : AreUnder (keys_in (listed old)) (leaving by t) gone) (l : left ≡ record old { rows = left_from 0 gone old.rows }) where
    left_found : listed left ≡ staying by t
    left_found =
        ap listed l
        ∙ map_left (entry_in old) 0 gone old.rows
        ∙ under_left (λ (entry : Entry). entry.key) (listed old) (leaving by t) gone found
        ∙ ap (filter (λ (entry : Entry). not (is_among entry.key (leaving by t)))) stands

    -- the rows with handles are those before the step
    handles_left : keys_of left.handles ≡ keys t.old.rows
    handles_left =
        ap (λ (ranking : Ranking). keys_of ranking.handles) l
        ∙ rising_same (keys_of old.handles) (keys t.old.rows) rising e.tick.old_table.rising
        (λ key. settled key ∙ ap (λ (entries : List Entry). is_among key (keys_in entries)) stands ∙ among_listed by t.old.rows key)

    module _ (removed : List ℕ) (shifts : List ShiftRange) (r : removed ≡ t.update.removed) (s : shifts ≡ t.update.shifted) where
      pub left_out : AllByRecursion (λ (entry : Entry). is_among entry.key removed ≡ false) (listed left)
      left_out =
          subst (λ (keys : List ℕ). AllByRecursion (λ (entry : Entry). is_among entry.key keys ≡ false) (listed left)) (sym r)
          (subst (AllByRecursion (λ (entry : Entry). is_among entry.key t.update.removed ≡ false)) (sym left_found) (gone_apart by t e))

      pub shift_lawful : IsLawful shifts (without removed (keys_of left.handles))
      shift_lawful =
          subst (λ (shifts : List ShiftRange). IsLawful shifts (without removed (keys_of left.handles))) (sym s)
          (subst (IsLawful t.update.shifted) (sym (ap₂ without r handles_left)) (exact_shift t e))

      pub carried_are : map (rekeyed shifts) (listed left) ≡ carried by t
      carried_are = ap₂ (λ (shifts : List ShiftRange) (entries : List Entry). map (rekeyed shifts) entries) s left_found

      pub keys_carried : map (λ key. as_key (moved shifts key)) (without removed (keys_of left.handles)) ≡ new_keys (pairs t.old t.update)
      keys_carried =
          ap₂ (λ (shifts : List ShiftRange) (keys : List ℕ). map (λ key. as_key (moved shifts key)) keys) s (ap₂ without r handles_left)
          ∙ sym (map_map (λ (pair : KeyPair). pair.new) (kept_pair t.update) (without t.update.removed (keys t.old.rows)))

  -- the order with those that come
  module _ (old : Ranking) (came : List ℕ) (m : listed old ≡ carried by t) (c : came ≡ coming by t) where
    pub came_absent : AllByRecursion (λ key. is_among key (keys_in (listed old)) ≡ false) came
    came_absent =
        subst (AllByRecursion (λ key. is_among key (keys_in (listed old)) ≡ false)) (sym c)
        (subst (λ (entries : List Entry). AllByRecursion (λ key. is_among key (keys_in entries) ≡ false) (coming by t)) (sym m) (coming_absent by t e))

    pub came_there : AllByRecursion (λ key. is_among key (keys t.new.rows) ≡ true) came
    came_there = subst (AllByRecursion (λ key. is_among key (keys t.new.rows) ≡ true)) (sym c) (coming_within by t e)

    module _ (entered : Ranking) (rows : List OrderedRow) (n : listed entered ≡ listed old) (a : map (arrived entered) rows ≡ entries_under by t.new came) where
      pub rows_are : map (arrived entered) rows ≡ entries_under by t.new (coming by t)
      rows_are = a ∙ ap (entries_under by t.new) c

      pub rows_absent : AllByRecursion (λ row. is_in (arrived entered row) (listed entered) ≡ false) rows
      rows_absent =
          every_unmapped (λ entry. is_in entry (listed entered) ≡ false) (arrived entered) rows
          (subst (AllByRecursion (λ entry. is_in entry (listed entered) ≡ false)) (sym rows_are)
          (every-map (λ entry. is_in entry (listed entered) ≡ false) (entry_under by t.new) (coming by t)
          (every_weaker (λ key. is_among key (keys_in (carried by t)) ≡ false) (λ key. is_in (entry_under by t.new key) (listed entered) ≡ false) (coming by t)
          (λ key out. ap (is_in (entry_under by t.new key)) (n ∙ m) ∙ key_out (entry_under by t.new key) (carried by t) out) (coming_absent by t e))))

      pub rows_distinct : AreDistinct (map (arrived entered) rows)
      rows_distinct = subst AreDistinct (sym rows_are) (coming_distinct by t e)

      pub brought_on : (now : Ranking) → Rises by (listed now) → ((entry : Entry) → is_in entry (listed now) ≡ (is_in entry (listed entered) || is_in entry (map (arrived entered) rows))) → listed now ≡ entries_of by t.new.rows
      brought_on now rises are =
          entries_now by t e (listed now) rises
          (λ entry. are entry ∙ ap₂ (λ (old came : List Entry). is_in entry old || is_in entry came) (n ∙ m) rows_are)

    pub settled_now : (now : Ranking) → listed now ≡ entries_of by t.new.rows → keys_of old.handles ≡ new_keys (pairs t.old t.update) → ((key : ℕ) → is_among key (keys_of now.handles) ≡ (is_among key came || is_among key (keys_of old.handles))) → IsSettled now
    settled_now now is kept are key =
        are key
        ∙ ap₂ (λ (came kept : List ℕ). is_among key came || is_among key kept) c kept
        ∙ keys_now by t e key
        ∙ sym (ap (λ (entries : List Entry). is_among key (keys_in entries)) is ∙ among_listed by t.new.rows key)

  -- the positions of the entries that come are those of their keys
  pub arrived_under : (now some : List Entry) (positions : List ℕ) → now ≡ entries_of by t.new.rows → some ≡ entries_under by t.new (coming by t) → AreFound now some positions → AreUnder (keys_in now) (coming by t) positions
  arrived_under now some positions o s found position =
      found position
      ∙ ap₂ (λ (now some : List Entry). is_one now some position) o s
      ∙ place_under by t.new e.tick.new_table.rising (coming by t) position
      ∙ turned (slice_get (in_order by t.new.rows) position)
      ∙ ap (λ o. option_map_or (λ key. is_among key (coming by t)) o false) (sym (ap (λ keys. slice_get keys position) (ap keys_in o ∙ map_map (λ (entry : Entry). entry.key) (entry_of by) (in_order by t.new.rows)) ∙ slice_get-map (λ (row : PlainRow). row.key) (in_order by t.new.rows) position))
    where
      turned : (o : Option PlainRow) → option_map_or (λ (row : PlainRow). is_among row.key (coming by t)) o false ≡ option_map_or (λ key. is_among key (coming by t)) (option_map (λ (row : PlainRow). row.key) o) false
      turned None = refl
      turned (Some row) = refl

  pub positions_small : (now : List Entry) (some positions : List ℕ) → now ≡ entries_of by t.new.rows → AreUnder (keys_in now) some positions → AllByRecursion (λ position. position < 2 ^ 62) positions
  positions_small now some positions stands found =
      let few = few_in by t.new now e.tick.new_table stands in
      every_weaker (λ position. position < length now) (λ position. position < 2 ^ 62) positions (λ position within. omega (arith, within, few)) (under_within (λ (entry : Entry). entry.key) now some positions found)
