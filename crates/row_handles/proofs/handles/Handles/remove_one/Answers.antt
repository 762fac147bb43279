use Rattle.std.proofs.Common.{◌≡◌, ℕ, ◌+◌, ◌-◌, ap, ◌∙◌, arith, List, [], ◌∷◌, ◌++◌}
use Rattle.std.specs.List.{range_with_len}
use Rattle.row_handles.{specs.Entries.{Entry, left_rows}, specs.Blocks.rows, specs.Drops.outside, proofs.Leaving.left_by_keys}
use Rattle.row_handles.proofs.handles.Handles.remove_one.Goals as goal

-- the rows outside a range of one key
outside_one : (key : ℕ) (xs : List Entry) → outside key key xs ≡ left_rows (key ∷ []) xs
outside_one key xs =
    let one : key + 1 - key ≡ 1 = omega arith in
    left_by_keys ((record { first = key; last = key }) ∷ []) xs
    ∙ ap (λ n. left_rows (range_with_len key n ++ []) xs) one

pub returns : goal.returns
returns c =
    c.leave_rows.ensures.rows
    ∙ outside_one c.args.key (rows c.self.inside.index.blocks.items)
    ∙ ap (left_rows (c.args.key ∷ [])) c.self.view_is
