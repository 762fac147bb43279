use Rattle.std.proofs.Common.{◌≡◌, ◌≤◌, length, map, drop}
use Rattle.tick_model.specs.Columns.{have_kinds}
use Rattle.tick_model.proofs.columns.have_kinds.Given as goal

abbrev pub invariant-loop-i : goal.invariant-loop-i
invariant-loop-i g l = (l.i ≤ length l.columns) × (have_kinds (drop l.i l.columns) (map (g.T.KindOver.kind_by l.input) (drop l.i l.items)) ≡ have_kinds l.columns (map (g.T.KindOver.kind_by l.input) l.items))
