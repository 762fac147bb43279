use Rattle.std.proofs.Common.{◌≡◌, ℕ, ◌+◌, ◌-◌, ◌≤◌, List, ◌++◌, ap, sym, ◌∙◌, subst, drop, length, length-take-le, slice_range, take, take_at, arith}
use Rattle.std.{specs.Vec.with_items, proofs.lemmas.List.{drop-drop, with_items_is}}
use Rattle.row_set.{specs.declared.ranges.Range.Range, specs.declared.runs.Runs.Runs, specs.Ranges.{AreRanges, keys_of}, specs.Runs.{IsCounted, lying, start_of}, proofs.Counts.{ranges_back, ranges_front, ranges-slice}, proofs.Lying.{kept_before, length-lying, lying_spliced, put_lies, starts_behind}, proofs.Starts.part_of}
use Rattle.row_set.proofs.runs.Runs.replace.Goals as goal

-- the ranges that go
part : (self : Runs) (from to : ℕ) (now : List Range) → now ≡ self.all.items → slice_range now (self.front + from) (self.front + to) ≡ slice_range (lying self) from to
part self from to now value = ap (λ those. slice_range those (self.front + from) (self.front + to)) value ∙ part_of self.front from to self.all.items

abbrev replaced : ℕ → ℕ → List Range → List Range → List Range
replaced from to others ranges = take from ranges ++ (others ++ drop to ranges)

front_kept : (from to : ℕ) (others ranges new : List Range) → from ≤ to → to ≤ length ranges → new ≡ replaced from to others ranges → take from new ≡ take from ranges
front_kept from to others ranges new order within is = ap (take from) is ∙ take_at (take from ranges) (others ++ drop to ranges) from (length-take-le from ranges (omega (arith, order, within)))

put : (self : Runs) (from to : ℕ) (now items others : List Range) → IsCounted self → from ≤ to → to ≤ length (lying self) → now ≡ self.all.items → length others ≡ to - from → items ≡ take (self.front + from) now ++ (others ++ drop (self.front + from + length others) now) → length items ≡ length now → drop self.front (with_items self.all items).items ≡ replaced from to others (lying self)
put self from to now items others counted order within value size is len =
    ap (drop self.front) (with_items_is self.all items (omega (arith, len, ap length value, self.all.ok.0)))
    ∙ put_lies self.front from to self.all.items now items others counted.free order within value size is

spliced : (self : Runs) (from to : ℕ) (items others : List Range) → IsCounted self → from ≤ to → to ≤ length (lying self) → items ≡ take (self.front + from) self.all.items ++ (others ++ drop (self.front + to) self.all.items) → drop self.front items ≡ replaced from to others (lying self)
spliced self from to items others counted order within is =
    ap (drop self.front) is ∙ lying_spliced self.front from to self.all.items others (omega (arith, length-lying self.front self.all.items counted.free, order, within))

pub count_in-gone-requires : goal.count_in-gone-requires
count_in-gone-requires c = subst AreRanges (sym (part c.args.self.now c.args.from c.args.to c.deref.result.now c.deref.ensures.value)) (ranges-slice c.args.from c.args.to (lying c.args.self.now) c.requires.old)

pub count_in-came-requires : goal.count_in-came-requires
count_in-came-requires c =
    let ranges = lying c.args.self.now in
    ranges_front c.args.others.now (drop c.args.to ranges) (ranges_back (take c.args.from ranges) (c.args.others.now ++ drop c.args.to ranges) c.requires.new)

-- as many are put in their place
pub recount_between-requires-clause-few : goal.recount_between-requires-clause-few
recount_between-requires-clause-few c = omega (arith, c.count_in-gone.ensures, ap (λ those. length (keys_of those)) (part c.args.self.now c.args.from c.args.to c.deref.result.now c.deref.ensures.value), (ranges-slice c.args.from c.args.to (lying c.args.self.now) c.requires.old).few)

pub recount_between-requires-clause-ranges : goal.recount_between-requires-clause-ranges
recount_between-requires-clause-ranges c =
    let self = c.args.self.now in
    let lies = put self c.args.from c.args.to c.deref_mut.result.now c.put_at.new.ranges c.args.others.now c.requires.counted c.requires.order c.requires.within c.deref_mut.ensures.value c.if-others-to.true c.put_at.ensures (omega (arith, c.put_at.auto.ranges)) in
    subst AreRanges (sym (ap (drop self.front) c.deref-then-others-to.ensures.value ∙ lies)) c.requires.new

pub recount_between-requires-clause-before : goal.recount_between-requires-clause-before
recount_between-requires-clause-before c = λ block few le.
    let self = c.args.self.now in
    let now = c.deref-then-others-to.result.now in
    let lies = put self c.args.from c.args.to c.deref_mut.result.now c.put_at.new.ranges c.args.others.now c.requires.counted c.requires.order c.requires.within c.deref_mut.ensures.value c.if-others-to.true c.put_at.ensures (omega (arith, c.put_at.auto.ranges)) in
    ap (λ those. start_of those block) c.deref_mut-then-others-to.ensures.value
    ∙ kept_before self.front c.args.from self.all.items now self.starts.items c.requires.counted.counts (front_kept c.args.from c.args.to c.args.others.now (lying self) (drop self.front now) c.requires.order c.requires.within (ap (drop self.front) c.deref-then-others-to.ensures.value ∙ lies)) block (omega (arith, few, ap length c.deref_mut-then-others-to.ensures.value)) le

pub recount_between-requires-clause-after : goal.recount_between-requires-clause-after
recount_between-requires-clause-after c = λ block few past.
    let self = c.args.self.now in
    let now = c.deref-then-others-to.result.now in
    let lies = put self c.args.from c.args.to c.deref_mut.result.now c.put_at.new.ranges c.args.others.now c.requires.counted c.requires.order c.requires.within c.deref_mut.ensures.value c.if-others-to.true c.put_at.ensures (omega (arith, c.put_at.auto.ranges)) in
    omega (
      arith,
      ap (λ those. start_of those block) c.deref_mut-then-others-to.ensures.value,
      starts_behind self.front self.front c.args.from c.args.to c.count_in-came.result c.count_in-gone.result self.all.items now c.args.others.now self.starts.items c.requires.counted.counts (ap (drop self.front) c.deref-then-others-to.ensures.value ∙ lies) c.requires.order c.requires.within (omega (arith, c.if-others-to.true, c.requires.order))
          (c.count_in-gone.ensures ∙ ap (λ those. length (keys_of those)) (part self c.args.from c.args.to c.deref.result.now c.deref.ensures.value)) c.count_in-came.ensures block (omega (arith, few, ap length c.deref_mut-then-others-to.ensures.value)) past,
    )

pub returns-then-others-to-clause-ranges : goal.returns-then-others-to-clause-ranges
returns-then-others-to-clause-ranges c =
    put c.args.self.now c.args.from c.args.to c.deref_mut.result.now c.put_at.new.ranges c.args.others.now c.requires.counted c.requires.order c.requires.within c.deref_mut.ensures.value c.if-others-to.true c.put_at.ensures (omega (arith, c.put_at.auto.ranges))

-- those before are moved
pub recount_between-requires-then-others-self-clause-few : goal.recount_between-requires-then-others-self-clause-few
recount_between-requires-then-others-self-clause-few c = omega (arith, c.count_in-gone.ensures, ap (λ those. length (keys_of those)) (part c.args.self.now c.args.from c.args.to c.deref.result.now c.deref.ensures.value), (ranges-slice c.args.from c.args.to (lying c.args.self.now) c.requires.old).few)

pub recount_between-requires-then-others-self-clause-after : goal.recount_between-requires-then-others-self-clause-after
recount_between-requires-then-others-self-clause-after c = λ block few past.
    let self = c.args.self.now in
    let items = c.slide-front.new.ranges in
    let lies : drop c.slide-front.result c.deref-then-others-self.result.now ≡ replaced c.args.from c.args.to c.args.others.now (lying self) =
    ap (drop c.slide-front.result) (c.deref-then-others-self.ensures.value ∙ with_items_is self.all items (omega (arith, c.slide-front.ensures.len, ap length c.deref_mut-then-others-self.ensures.value, self.all.ok.0)))
    ∙ c.slide-front.ensures.ranges
    ∙ ap (λ those. take c.args.from (drop self.front those) ++ (c.args.others.now ++ drop (self.front + c.args.to) those)) c.deref_mut-then-others-self.ensures.value
    ∙ ap (λ those. take c.args.from (lying self) ++ (c.args.others.now ++ those)) (sym (drop-drop c.args.to self.front self.all.items)) in
    omega (
      arith,
      ap (λ those. start_of those block) c.deref_mut-then-others-self-2.ensures.value,
      starts_behind self.front c.slide-front.result c.args.from c.args.to c.count_in-came.result c.count_in-gone.result self.all.items c.deref-then-others-self.result.now c.args.others.now self.starts.items c.requires.counted.counts lies c.requires.order c.requires.within c.slide-front.ensures.front
          (c.count_in-gone.ensures ∙ ap (λ those. length (keys_of those)) (part self c.args.from c.args.to c.deref.result.now c.deref.ensures.value)) c.count_in-came.ensures block (omega (arith, few, ap length c.deref_mut-then-others-self-2.ensures.value)) past,
    )

-- those behind are moved
pub recount-requires-clause-before : goal.recount-requires-clause-before
recount-requires-clause-before c = λ block few lt.
    let self = c.args.self.now in
    let now = c.deref-else-from-len.result.now in
    kept_before self.front c.args.from self.all.items now self.starts.items c.requires.counted.counts (front_kept c.args.from c.args.to c.args.others.now (lying self) (drop self.front now) c.requires.order c.requires.within (spliced self c.args.from c.args.to now c.args.others.now c.requires.counted c.requires.order c.requires.within (c.deref-else-from-len.ensures.value ∙ c.splice.ensures.items))) block few (omega (arith, lt))

pub recount-requires-clause-ranges : goal.recount-requires-clause-ranges
recount-requires-clause-ranges c = subst AreRanges (sym (spliced c.args.self.now c.args.from c.args.to c.deref-else-from-len.result.now c.args.others.now c.requires.counted c.requires.order c.requires.within (c.deref-else-from-len.ensures.value ∙ c.splice.ensures.items))) c.requires.new

pub returns-else-from-len-clause-ranges : goal.returns-else-from-len-clause-ranges
returns-else-from-len-clause-ranges c = spliced c.args.self.now c.args.from c.args.to c.splice.new.ranges.items c.args.others.now c.requires.counted c.requires.order c.requires.within c.splice.ensures.items
