-- What answers the aggregates, as rows go, move and come.
use Rattle.std.proofs.Common.{◌≡◌, refl, ap, sym, ◌∙◌, subst, Bool, true, false, not, ◌||◌, ◌==◌, ℕ, List, [], ◌∷◌, ◌++◌, length, map, Option, Some, None, ℤ, pos}
use Rattle.key_lists.{proofs.Among.among-append, specs.Keys.{is_among, IsRising, without}, proofs.Every.{every, every-map, every_weaker, filter-map, filter_same, map_map, map_same}}
use Rattle.std.specs.List.{AllByRecursion}
use Rattle.row_groups.specs.Members.{Grouped, IsNumberOf, Member, Names, keys_of, left_members, member_of, member_under, moved_members, name_at, with_member}
use Rattle.shift_data.specs.Moves.{IsLawful}
use Rattle.tick_model.{specs.declared.plan.Agg.Agg, specs.declared.table.PlainRow.PlainRow, specs.declared.update.ShiftRange.ShiftRange, specs.Agg.{column_of, key_cells, present}, specs.Tables.{cells_at, keys, same_cells}, specs.Updates.{moved_row, removing, shifting}}
use Rattle.agg_by.{specs.declared.running.Accumulator.Accumulator, specs.declared.running.Accumulator.TheVariants.{Count, Sum, Min, Max, First, Last}, specs.Answers.{HasRow, with_row, without_row}, specs.Kept.{Answers, agg_of, cells_in, group_rows, indexed}, specs.Steps.key_at, specs.Sums.{HasAny, minus, no_total, plus, total_of}, specs.Values.{IsAmong, in_order, opposite, opposites, placed, unplaced}, proofs.Bringing.{absent_member, keys-members, left-members, moved-members, put_back}, proofs.Counted.placed_among, proofs.Made.{made_gains, made_has, made_loses, mirrored, sums, values}, proofs.Untouched.column-shifting}

-- the index of some members
abbrev of_members : List ℕ → List Member → Grouped
of_members by ms = record { width = length by; members = ms }

pub without_agg : (number : ℕ) (row : List ℤ) (x : Accumulator) → agg_of (without_row number row x) ≡ agg_of x
without_agg number row Count = refl
without_agg number row (Sum column sums) = refl
without_agg number row (Min column values) = refl
without_agg number row (Max column values) = refl
without_agg number row (First column) = refl
without_agg number row (Last column) = refl

pub with_agg : (number : ℕ) (row : List ℤ) (x : Accumulator) → agg_of (with_row number row x) ≡ agg_of x
with_agg number row Count = refl
with_agg number row (Sum column sums) = refl
with_agg number row (Min column values) = refl
with_agg number row (Max column values) = refl
with_agg number row (First column) = refl
with_agg number row (Last column) = refl

-- what answers the aggregates, each changed
pub all_changed : (f : Accumulator → Accumulator) (P Q : Accumulator → Type 0) (aggs : List Agg) (running : List Accumulator) → ((x : Accumulator) → agg_of (f x) ≡ agg_of x) → ((x : Accumulator) → P x → Q (f x))
    → (map agg_of running ≡ aggs) × AllByRecursion P running → (map agg_of (map f running) ≡ aggs) × AllByRecursion Q (map f running)
all_changed f P Q aggs running same keeps all = (
  map_map agg_of f running ∙ map_same (λ x. agg_of (f x)) agg_of running (every (λ x. agg_of (f x) ≡ agg_of x) running same) ∙ all.0,
  every-map Q f running (every_weaker P (λ x. Q (f x)) running keeps all.1),
)

-- rows and numbers under which each group has the same cells
pub same_answers : (by : List ℕ) (old new : Names) (before after : List PlainRow) → ((column n : ℕ) → cells_in by column before (name_at n old) ≡ cells_in by column after (name_at n new))
    → (x : Accumulator) → Answers by old before x → Answers by new after x
same_answers by old new before after same Count p = tt
same_answers by old new before after same (Sum column sums) p = λ n. p n ∙ ap total_of (same column n)
same_answers by old new before after same (Min column values) p = λ n. p n ∙ ap opposites (same column n)
same_answers by old new before after same (Max column values) p = λ n. p n ∙ ap in_order (same column n)
same_answers by old new before after same (First column) p = tt
same_answers by old new before after same (Last column) p = tt

module _ (by : List ℕ) (rows : List PlainRow) (rising : IsRising (keys rows)) (key : ℕ) (others : List ℕ) (own : is_among key (keys rows) ≡ true) (apart : is_among key others ≡ false) where
  pub has_row : (names : Names) (number : ℕ) → IsNumberOf number (key_at by rows key) names → (x : Accumulator) → Answers by names (removing others rows) x → HasRow number (cells_at key rows) x
  has_row names number is Count p = tt
  has_row names number is (Sum column totals) p = made_has no_total total_of plus minus sums by column names rows rising key others own apart number is totals HasAny (λ x made. tt) p
  has_row names number is (Min column lists) p =
      made_has [] opposites (λ value. placed (opposite value)) (λ value. unplaced (opposite value)) mirrored by column names rows rising key others own apart number is lists (λ value. IsAmong (opposite value)) (λ x. placed_among (opposite x)) p
  has_row names number is (Max column lists) p = made_has [] in_order placed unplaced values by column names rows rising key others own apart number is lists IsAmong placed_among p
  has_row names number is (First column) p = tt
  has_row names number is (Last column) p = tt

  pub loses : (names : Names) (number : ℕ) → IsNumberOf number (key_at by rows key) names → (x : Accumulator) → Answers by names (removing others rows) x → Answers by names (removing (key ∷ others) rows) (without_row number (cells_at key rows) x)
  loses names number is Count p = tt
  loses names number is (Sum column totals) p = made_loses no_total total_of plus minus sums by column names rows rising key others own apart number is totals p
  loses names number is (Min column lists) p = made_loses [] opposites (λ value. placed (opposite value)) (λ value. unplaced (opposite value)) mirrored by column names rows rising key others own apart number is lists p
  loses names number is (Max column lists) p = made_loses [] in_order placed unplaced values by column names rows rising key others own apart number is lists p
  loses names number is (First column) p = tt
  loses names number is (Last column) p = tt

  pub gains : (names : Names) (number : ℕ) → IsNumberOf number (key_at by rows key) names → (x : Accumulator) → Answers by names (removing (key ∷ others) rows) x → Answers by names (removing others rows) (with_row number (cells_at key rows) x)
  gains names number is Count p = tt
  gains names number is (Sum column totals) p = made_gains no_total total_of plus minus sums by column names rows rising key others own apart number is totals p
  gains names number is (Min column lists) p = made_gains [] opposites (λ value. placed (opposite value)) (λ value. unplaced (opposite value)) mirrored by column names rows rising key others own apart number is lists p
  gains names number is (Max column lists) p = made_gains [] in_order placed unplaced values by column names rows rising key others own apart number is lists p
  gains names number is (First column) p = tt
  gains names number is (Last column) p = tt

  -- the rows by their groups
  pub indexed_gains : (kept : Grouped) → kept ≡ indexed by None (removing (key ∷ others) rows) → (let more : Grouped = record kept { members = with_member (member_of key (key_at by rows key) (pos 0)) kept.members } in more) ≡ indexed by None (removing others rows)
  indexed_gains kept p =
      ap (λ (kept : Grouped). let more : Grouped = record kept { members = with_member (member_of key (key_at by rows key) (pos 0)) kept.members } in more) p
      ∙ ap (of_members by) (put_back by None key others rows rising own apart)

  pub indexed_room : (kept : Grouped) → kept ≡ indexed by None (removing (key ∷ others) rows) → member_under key kept.members ≡ None
  indexed_room kept p = ap (λ (kept : Grouped). member_under key kept.members) p ∙ absent_member by None key others rows

module _ (by : List ℕ) (rows : List PlainRow) where
  pub indexed_left : (gone : List ℕ) (kept : Grouped) → kept ≡ indexed by None rows → (let left : Grouped = record kept { members = left_members gone kept.members } in left) ≡ indexed by None (removing gone rows)
  indexed_left gone kept p = ap (λ (kept : Grouped). let left : Grouped = record kept { members = left_members gone kept.members } in left) p ∙ ap (of_members by) (left-members by None gone rows)

  pub indexed_moved : (shifts : List ShiftRange) (kept : Grouped) → kept ≡ indexed by None rows → (let moved : Grouped = record kept { members = moved_members shifts kept.members } in moved) ≡ indexed by None (shifting shifts rows)
  indexed_moved shifts kept p = ap (λ (kept : Grouped). let moved : Grouped = record kept { members = moved_members shifts kept.members } in moved) p ∙ ap (of_members by) (moved-members by None shifts rows)

  pub left_lawful : (gone : List ℕ) (shifts : List ShiftRange) (kept : Grouped) → kept ≡ indexed by None (removing gone rows) → IsLawful shifts (without gone (keys rows)) → IsLawful shifts (keys_of kept.members)
  left_lawful gone shifts kept is lawful =
      subst (IsLawful shifts)
      (filter-map (λ key. not (is_among key gone)) (λ (row : PlainRow). row.key) rows ∙ sym (ap (λ (kept : Grouped). keys_of kept.members) is ∙ keys-members by None (removing gone rows)))
      lawful

-- rows that move have the same cells
pub moved_cells : (by : List ℕ) (shifts : List ShiftRange) (rows : List PlainRow) (column : ℕ) (named : Option (List ℤ)) → cells_in by column rows named ≡ cells_in by column (shifting shifts rows) named
moved_cells by shifts rows column None = refl
moved_cells by shifts rows column (Some cells) =
    sym (ap (λ (moved : List PlainRow). present (column_of moved column)) (filter-map (λ (row : PlainRow). same_cells cells (key_cells by row.cells)) (moved_row shifts) rows)
    ∙ ap present (column-shifting shifts (group_rows by cells rows) column))

either_way : (a b : Bool) → (b || (a || false)) ≡ (a || b)
either_way true true = refl
either_way true false = refl
either_way false true = refl
either_way false false = refl

-- one key more is left out, whichever place it has
pub removing-last : (key : ℕ) (keys : List ℕ) (rows : List PlainRow) → removing (key ∷ keys) rows ≡ removing (keys ++ key ∷ []) rows
removing-last key keys rows =
    filter_same (λ row. not (is_among row.key (key ∷ keys))) (λ row. not (is_among row.key (keys ++ key ∷ []))) rows
    (every (λ row. not (is_among row.key (key ∷ keys)) ≡ not (is_among row.key (keys ++ key ∷ []))) rows
    (λ row. ap not (sym (among-append row.key keys (key ∷ []) ∙ either_way (key == row.key) (is_among row.key keys)))))
