-- The nodes that an operator lends as its inputs.
--     listed numbers      their numbers, in order
use Rattle.std.specs.Prelude.{ℕ, List}
use Rattle.tick_model.{specs.declared.operators.Numbers.Numbers, specs.declared.operators.Numbers.TheVariants.{One, Two, Listed}}

abbrev pub listed : Numbers → List ℕ
listed (One numbers) = numbers
listed (Two numbers) = numbers
listed (Listed numbers) = numbers.now
