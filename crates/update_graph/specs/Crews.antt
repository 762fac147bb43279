-- What the hands of a crew work by in a step.
--     StepView      the run, the step and the edges that they work for
use Rattle.std.specs.Prelude.{ℕ, List}
use Rattle.graph_words.specs.declared.graph.Edge.{Edge}
use Rattle.tick_model.specs.declared.feed.Run.{Run}

pub record StepView : Type 0 where
  pub run : Run
  pub step : ℕ
  pub edges : List Edge
