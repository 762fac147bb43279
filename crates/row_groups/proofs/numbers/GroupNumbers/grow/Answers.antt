use Rattle.std.proofs.Common.{◌≡◌, ◌∙◌, ◌<◌, ◌^◌, [], ◌∷◌, None, ap, arith, length, pos, subst, to_z, w64}
use Rattle.std.{specs.HashMap.{UpdatesBy, get_by}, proofs.lemmas.Int.to_z_pos}
use Rattle.row_groups.proofs.Leading.{grown, has_cells, same_key}
use Rattle.row_groups.proofs.numbers.GroupNumbers.grow.Goals as goal

pub returns-then-is_some-clause-same : goal.returns-then-is_some-clause-same
returns-then-is_some-clause-same c =
    let old = c.args.self.now in
    let fits : c.len.result < 2 ^ 63 = omega (arith, c.len.ensures, old.by_cell.ok.1, old.by_cell.small) in
    let cell : to_z w64 c.len.result ≡ pos (length old.by_cell.items) = to_z_pos w64 c.len.result fits ∙ ap pos (c.len.ensures ∙ old.by_cell.ok.0) in
    grown old (record old { by_cell = c.push.new.self; by_cells = c.remove.new.self }) c.in_ok-above.field-0 c.in_ok-push.ensures.items
    (c.in_ok-above.ensures ∙ c.copied-number.ensures ∙ c.get.ensures.value ∙ ap (λ cells. get_by (has_cells cells) old.by_cells) (c.as_slice.ensures ∙ ap (λ z. z ∷ []) cell))
    (subst (λ cells. UpdatesBy same_key (has_cells cells) old.by_cells c.remove.new.self None) (c.as_slice-then-is_some.ensures ∙ ap (λ z. z ∷ []) cell) c.remove.ensures.updates)
