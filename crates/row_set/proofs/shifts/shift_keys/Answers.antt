use Rattle.std.proofs.Common.{◌≡◌, ℕ, ◌+◌, List, ap, sym, ◌∙◌, subst, drop, slice_range, ℤ, to_z-of_z, arith}
use Rattle.std.specs.List.{AllByRecursion}
use Rattle.key_lists.specs.Keys.{IsRising}
use Rattle.row_set.{specs.declared.ranges.Range.Range, specs.Moves.{IsKey, Shifts, moved_key, moved_keys}, specs.Ranges.{AreApart, IsPart, keys_of}, specs.Runs.lying, proofs.Apart.apart_weaker, proofs.Counts.apart_ranges, proofs.Moved.{IsCut, cut_nothing, cut_parts, cut_shifts, parted_twice, with_moved}, proofs.Parted.part_keys}
use Rattle.row_set.proofs.shifts.shift_keys.Goals as goal

-- what holds of the ranges before they move
record AreParted (delta : ℤ) (first last from to : ℕ) (old ranges : List Range) : Type 0 where
  cut : IsCut first last from to ranges
  keys : moved_keys first last delta (keys_of ranges) ≡ moved_keys first last delta (keys_of old)
  shifts : AllByRecursion (Shifts delta) (slice_range ranges from to)

parted : (delta : ℤ) (first last from to : ℕ) (old once ranges : List Range) → AreApart 0 old → AllByRecursion (λ key. IsKey (moved_key first last delta key)) (keys_of old) → IsPart 0 first old once from → IsPart from (last + 1) once ranges to → AreParted delta first last from to old ranges
parted delta first last from to old once ranges h keys one two =
    let cut = parted_twice first last from to old once ranges h one two in
    let same : keys_of ranges ≡ keys_of old = part_keys from (last + 1) to once ranges two ∙ part_keys 0 first from old once one in
    record {
      cut = cut;
      keys = ap (moved_keys first last delta) same;
      shifts = cut_shifts delta first last from to ranges cut (subst (λ those. AllByRecursion (λ key. IsKey (moved_key first last delta key)) those) (sym same) keys);
    }

pub part-from-requires-clause-ranges : goal.part-from-requires-clause-ranges
part-from-requires-clause-ranges c = apart_ranges (lying c.args.runs.now) c.requires.stored.apart

pub part-to-requires-clause-apart : goal.part-to-requires-clause-apart
part-to-requires-clause-apart c = apart_weaker 0 c.args.first (drop c.part-from.result (lying c.part-from.new.runs)) (omega arith) c.part-from.ensures.part.begins

pub part-to-requires-clause-room : goal.part-to-requires-clause-room
part-to-requires-clause-room c = c.part-from.ensures.room 1 c.requires.room

pub shift_runs-requires-clause-apart : goal.shift_runs-requires-clause-apart
shift_runs-requires-clause-apart c =
    let ranges = lying c.part-to.new.runs in
    let from = c.part-from.result in
    let to = c.part-to.result in
    let is = parted c.args.delta c.args.first c.args.last from to (lying c.args.runs.now) (lying c.part-from.new.runs) ranges c.requires.stored.apart c.requires.in_bounds c.part-from.ensures.part c.part-to.ensures.part in
    apart_weaker 0 c.args.first (slice_range ranges from to) (omega arith) is.cut.middle

pub shift_runs-requires-clause-lands : goal.shift_runs-requires-clause-lands
shift_runs-requires-clause-lands c =
    let ranges = lying c.part-to.new.runs in
    let from = c.part-from.result in
    let to = c.part-to.result in
    let is = parted c.args.delta c.args.first c.args.last from to (lying c.args.runs.now) (lying c.part-from.new.runs) ranges c.requires.stored.apart c.requires.in_bounds c.part-from.ensures.part c.part-to.ensures.part in
    subst (λ d. AllByRecursion (Shifts d) (slice_range ranges from to)) (sym (to_z-of_z c.ranges.delta)) is.shifts

pub join-requires : goal.join-requires
join-requires c =
    let ranges = lying c.part-to.new.runs in
    let from = c.part-from.result in
    let to = c.part-to.result in
    let is = parted c.args.delta c.args.first c.args.last from to (lying c.args.runs.now) (lying c.part-from.new.runs) ranges c.requires.stored.apart c.requires.in_bounds c.part-from.ensures.part c.part-to.ensures.part in
    let moved = cut_parts c.args.delta c.args.first c.args.last from to ranges (lying c.shift_runs.new.runs) is.cut is.shifts (c.shift_runs.ensures.items ∙ ap (λ d. with_moved d from to ranges) (to_z-of_z c.ranges.delta)) in
    record {
      counted = c.shift_runs.ensures.counted;
      ranges = c.shift_runs.ensures.ranges;
      order = is.cut.order;
      within = moved.within;
      before = moved.middle;
      after = moved.back;
      rising = subst IsRising (sym (moved.keys ∙ is.keys)) c.requires.rising;
    }

pub join-requires-then-from-to-clause-rising : goal.join-requires-then-from-to-clause-rising
join-requires-then-from-to-clause-rising c =
    let ranges = lying c.part-to.new.runs in
    let from = c.part-from.result in
    let to = c.part-to.result in
    let is = parted c.args.delta c.args.first c.args.last from to (lying c.args.runs.now) (lying c.part-from.new.runs) ranges c.requires.stored.apart c.requires.in_bounds c.part-from.ensures.part c.part-to.ensures.part in
    let moved = cut_parts c.args.delta c.args.first c.args.last from to ranges (lying c.shift_runs.new.runs) is.cut is.shifts (c.shift_runs.ensures.items ∙ ap (λ d. with_moved d from to ranges) (to_z-of_z c.ranges.delta)) in
    subst IsRising (sym (c.join.ensures.keys ∙ moved.keys ∙ is.keys)) c.requires.rising

pub returns-then-from-to-clause-keys : goal.returns-then-from-to-clause-keys
returns-then-from-to-clause-keys c =
    let ranges = lying c.part-to.new.runs in
    let from = c.part-from.result in
    let to = c.part-to.result in
    let is = parted c.args.delta c.args.first c.args.last from to (lying c.args.runs.now) (lying c.part-from.new.runs) ranges c.requires.stored.apart c.requires.in_bounds c.part-from.ensures.part c.part-to.ensures.part in
    let moved = cut_parts c.args.delta c.args.first c.args.last from to ranges (lying c.shift_runs.new.runs) is.cut is.shifts (c.shift_runs.ensures.items ∙ ap (λ d. with_moved d from to ranges) (to_z-of_z c.ranges.delta)) in
    c.join-then-from-to.ensures.keys ∙ c.join.ensures.keys ∙ moved.keys ∙ is.keys

pub returns-else-from-to : goal.returns-else-from-to
returns-else-from-to c =
    let ranges = lying c.part-to.new.runs in
    let from = c.part-from.result in
    let to = c.part-to.result in
    let is = parted c.args.delta c.args.first c.args.last from to (lying c.args.runs.now) (lying c.part-from.new.runs) ranges c.requires.stored.apart c.requires.in_bounds c.part-from.ensures.part c.part-to.ensures.part in
    let none = cut_nothing c.args.delta c.args.first c.args.last from to ranges c.requires.order is.cut c.if-from-to.false in
    record { stored = record { apart = none.0; counted = c.part-to.ensures.counted }; keys = none.1 ∙ is.keys }
