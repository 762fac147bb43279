use Rattle.std.proofs.Common.{ap, ◌∙◌, ◌+◌, ◌-◌, ◌<◌, arith}
use Rattle.std.specs.List.{range_with_len}
use Rattle.row_set.specs.Sets.{united}
use Rattle.source_changes.proofs.Gathered.{first_keys_are}
use Rattle.source_changes.proofs.opening.first_keys.Goals as goal

pub returns : goal.returns
returns c =
    let some : 0 < c.args.count = omega arith in
    c.in_ok-insert_range.ensures.ok ∙ ap (united (range_with_len 0 (c.args.count - 1 + 1 - 0))) c.new-keys.ensures ∙ first_keys_are c.args.count some
