use Rattle.std.proofs.Common.{◌≡◌, ◌+◌, ◌-◌, ◌*◌, ◌≤◌, ap, sym, ◌∙◌, subst, length, slice_range, arith}
use Rattle.row_set.{specs.Ranges.{AreRanges, keys_before, keys_of}, specs.Runs.{lying, start_of}, proofs.Counts.{apart_ranges, few_before, keys_before_to, ranges-slice}, proofs.runs.Runs.keys_before.Goals.After-count_in}
use Rattle.row_set.proofs.runs.Runs.keys_before.Goals as goal

pub count_in-requires : goal.count_in-requires
count_in-requires c =
    let begin = c.saturating_sub-begin.result in
    let ranges = lying c.args.self.now in
    subst AreRanges (sym (ap (λ those. slice_range those begin c.args.index) c.as_slice.ensures)) (ranges-slice begin c.args.index ranges (apart_ranges ranges c.requires.stored.apart))

total : (c : After-count_in) → c.keys_before_block.result + c.count_in.result ≡ keys_before c.args.index (lying c.args.self.now)
total c =
    let self = c.args.self.now in
    let block = c.min-block.result in
    let begin = c.saturating_sub-begin.result in
    let ranges = lying self in
    let few : block ≤ length self.starts.items = omega (arith, c.min-block.ensures, c.len.ensures, self.starts.ok.0) in
    let place : 16 * block - self.front ≡ begin = omega (arith, c.saturating_sub-begin.ensures) in
    let within : begin ≤ c.args.index = omega (arith, place, c.min-block.ensures) in
    let start : c.keys_before_block.result ≡ keys_before begin ranges =
    c.keys_before_block.ensures ∙ ap (λ those. start_of those block) c.deref.ensures.value ∙ c.requires.stored.counted.counts.counted block few ∙ ap (λ n. keys_before n ranges) place in
    omega (arith, start, c.count_in.ensures, ap (λ those. length (keys_of (slice_range those begin c.args.index))) c.as_slice.ensures, keys_before_to begin c.args.index ranges within)

pub overflow_add-result : goal.overflow_add-result
overflow_add-result c =
    let ranges = lying c.args.self.now in
    omega (arith, total c, few_before c.args.index ranges (apart_ranges ranges c.requires.stored.apart))

pub returns : goal.returns
returns c = total c
