use Rattle.std.proofs.Common.{refl, ◌+◌, ◌-◌, ap, ◌∙◌, drop, get_or, length, slice_range, arith}
use Rattle.std.proofs.lemmas.List.{take_rest}
use Rattle.row_set.{specs.Runs.lying, proofs.Counts.blank, proofs.Lying.room_weaker, proofs.Parted.{split_at_key, two_for, unsplit_at}}
use Rattle.row_set.proofs.shifts.part.Goals as goal

pub returns-then-key-range-clause-part : goal.returns-then-key-range-clause-part
returns-then-key-range-clause-part c =
    let start = c.args.start in
    let all = c.as_slice.result.now in
    unsplit_at start c.args.key c.few_ended_before-count.result (lying c.args.runs.now) (slice_range all start (length all)) (take_rest all start ∙ ap (drop start) c.as_slice.ensures) c.requires.within c.requires.apart c.few_ended_before-count.ensures.within c.if-count-rest.false c.few_ended_before-count.ensures.ended c.if-key-range.true

pub replace-requires-clause-new : goal.replace-requires-clause-new
replace-requires-clause-new c =
    let start = c.args.start in
    let count = c.few_ended_before-count.result in
    let ranges = lying c.args.runs.now in
    let all = c.as_slice.result.now in
    let rest = slice_range all start (length all) in
    (split_at_key start c.args.key count ranges rest (two_for (start + count) c.args.key ranges (get_or rest count blank)) c.requires.ranges (take_rest all start ∙ ap (drop start) c.as_slice.ensures) c.requires.apart c.few_ended_before-count.ensures.within c.if-count-rest.false c.few_ended_before-count.ensures.ended c.few_ended_before-count.ensures.others c.if-key-range.false refl).ranges

pub returns : goal.returns
returns c =
    let start = c.args.start in
    let index = start + c.few_ended_before-count.result in
    let all = c.as_slice.result.now in
    let is = split_at_key start c.args.key c.few_ended_before-count.result (lying c.args.runs.now) (slice_range all start (length all)) (lying c.replace.new.self) c.requires.ranges (take_rest all start ∙ ap (drop start) c.as_slice.ensures) c.requires.apart c.few_ended_before-count.ensures.within c.if-count-rest.false c.few_ended_before-count.ensures.ended c.few_ended_before-count.ensures.others c.if-key-range.false c.replace.ensures.ranges in
    record {
      counted = c.replace.ensures.counted;
      ranges = is.ranges;
      part = is.part;
      room = λ more h. c.replace.ensures.room more (room_weaker (more + (2 - (index + 1 - index))) (more + 1) c.args.runs.now (omega arith) h);
    }
