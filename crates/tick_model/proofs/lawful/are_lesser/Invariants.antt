use Rattle.std.proofs.Common.{◌≡◌, drop}
use Rattle.std.{specs.Prelude.nat_lt, specs.List.list_all}
use Rattle.tick_model.proofs.lawful.are_lesser.Given as goal

abbrev pub invariant-loop-input : goal.invariant-loop-input
invariant-loop-input l = list_all (λ input. nat_lt input l.number) (drop l.input-index l.inputs) ≡ list_all (λ input. nat_lt input l.number) l.inputs
