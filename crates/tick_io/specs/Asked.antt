-- The names of the files that were asked for, one after the other, where they are told.
--     AsksFor old new names      these were asked for, in their order, and no other, unless the names are told no longer
--     AsksSome old new names      the first of these were, and no other
use Rattle.std.specs.Prelude.{◌≡◌, ℕ, List, ◌++◌, Option, IfSome, IsSomeAnd}

pub record AsksFor (old new : Option (List (List ℕ))) (names : List (List ℕ)) : Type 0 where
  pub told : IfSome new (λ asked. IsSomeAnd old (λ before. asked ≡ before ++ names))

pub record AsksSome (old new : Option (List (List ℕ))) (names : List (List ℕ)) : Type 0 where
  pub first : List (List ℕ)
  pub later : List (List ℕ)
  pub names_are : first ++ later ≡ names
  pub asked : AsksFor old new first
