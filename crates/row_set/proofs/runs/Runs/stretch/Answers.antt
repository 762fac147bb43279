use Rattle.std.proofs.Common.{◌≡◌, ◌-◌, ◌<◌, ap, arith, length}
use Rattle.row_set.{specs.declared.ranges.Range.Range, specs.Runs.lying, proofs.Counts.blank, proofs.Lying.{last_lies, length-lying, stretched_at}, proofs.Places.range_at}
use Rattle.row_set.proofs.runs.Runs.stretch.Goals as goal

pub overflow_add-index : goal.overflow_add-index
overflow_add-index c =
    let self = c.args.self.now in
    let ranges = lying self in
    let free = c.requires.stored.counted.free in
    let count : c.len-count.result ≡ length self.all.items = omega (arith, c.len-count.ensures, self.all.ok.0) in
    let some : self.front < c.len-count.result = omega (arith, c.if-self-count.false, free, count) in
    let last = range_at 0 ranges c.requires.stored.apart (length ranges - 1) blank (omega (arith, some, count, length-lying self.front self.all.items free)) in
    omega (arith, ap (λ (range : Range). range.last) (last_lies self.front c.len-count.result self.all.items c.index.result.now free count some c.index.ensures), last.small)

pub returns-clause-stored : goal.returns-clause-stored
returns-clause-stored c =
    let self = c.args.self.now in
    let count : c.len-count.result ≡ length self.all.items = omega (arith, c.len-count.ensures, self.all.ok.0) in
    let some : self.front < c.len-count.result = omega (arith, c.if-self-count.false, c.requires.stored.counted.free, count) in
    let is = stretched_at c.args.first c.args.last self.front c.len-count.result self.all.items self.starts.items c.index.result.now c.index_mut.result.now c.requires.stored.apart c.requires.stored.counted count some c.index.ensures c.index_mut.ensures.value c.if-index-first.false c.requires.order c.requires.small in
    record { apart = is.apart; counted = is.counted }

pub returns-clause-added : goal.returns-clause-added
returns-clause-added c =
    let self = c.args.self.now in
    let count : c.len-count.result ≡ length self.all.items = omega (arith, c.len-count.ensures, self.all.ok.0) in
    let some : self.front < c.len-count.result = omega (arith, c.if-self-count.false, c.requires.stored.counted.free, count) in
    (stretched_at c.args.first c.args.last self.front c.len-count.result self.all.items self.starts.items c.index.result.now c.index_mut.result.now c.requires.stored.apart c.requires.stored.counted count some c.index.ensures c.index_mut.ensures.value c.if-index-first.false c.requires.order c.requires.small).keys
