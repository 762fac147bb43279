use Rattle.std.proofs.Common.{◌≡◌, ap, sym, ◌∙◌, subst, ℤ, to_z, of_z, to_z-of_z, w64}
use Rattle.std.specs.List.{AllByRecursion}
use Rattle.row_set.{specs.Moves.{IsKey, moved_key}, specs.Ranges.keys_of, specs.Runs.lying}
use Rattle.row_set.proofs.rows.RowSet.shift_range.Goals as goal

pub shift_keys-requires-clause-in_bounds : goal.shift_keys-requires-clause-in_bounds
shift_keys-requires-clause-in_bounds c =
    let keys = c.args.self.now in
    let delta : ℤ = to_z w64 (of_z w64 c.args.delta) in
    let real : delta ≡ c.args.delta = to_z-of_z c.ranges.delta in
    let same : keys_of (lying c.reserve.new.self) ≡ keys = ap keys_of c.reserve.ensures.ranges ∙ c.self.view_is in
    subst (λ those. AllByRecursion (λ key. IsKey (moved_key c.args.first c.args.last delta key)) those) (sym same)
    (subst (λ d. AllByRecursion (λ key. IsKey (moved_key c.args.first c.args.last d key)) keys) (sym real) c.requires.in_bounds)
