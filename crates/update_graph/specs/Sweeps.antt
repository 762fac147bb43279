-- The nodes that a step has reached.
--     GrowsBy Holds olds news      there is one work more, of which this holds
--     IsSwept run step count sweep      the first so many nodes are at the step, and those with an operator were worked, each once
use Rattle.std.specs.Prelude.{◌≡◌, ℕ, List, [], ◌∷◌, ◌++◌, map}
use Rattle.tick_model.{specs.declared.feed.Run.Run, specs.Evaluation.source_number}
use Rattle.update_graph.{specs.declared.sweep.Sweep.Sweep, specs.Tags.{Kept, named, operators, tags}}

abbrev pub GrowsBy : (Kept → Type 0) → List Kept → List Kept → Type 0
GrowsBy Holds olds news = (next : Kept) × Holds next × (news ≡ olds ++ next ∷ [])

pub record IsSwept (run : Run) (step count : ℕ) (sweep : Sweep) : Type 0 where
  pub works : map named sweep.works.items ≡ tags run step count
  pub shares : sweep.shares.items ≡ tags run step count
  pub ran : sweep.ran.items ≡ operators run count
  pub sources : sweep.sources ≡ source_number run.plan.nodes count
