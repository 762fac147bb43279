-- What the first seat has of the claims of a step.
--     IsForStep run plan      the claims are for a step that the run enters, and have its edges
--     IsClaimed run plan      and they have all its nodes
--     IsOpened run plan view count xs      of the first so many nodes the sources are settled; the seat has all sources and the nodes on the list, which are ready, and nothing else
use Rattle.std.specs.Prelude.{◌≡◌, ◌⊎◌, ℕ, ◌+◌, ◌<◌, ◌≤◌, List, false, length}
use Rattle.graph_words.{specs.declared.graph.ClaimPlan.ClaimPlan, specs.declared.table.SeatView.SeatView, specs.Seats.Has}
use Rattle.steal_workers.{specs.Holdings.{IsNew, IsReady, IsSettled}, specs.Lists.IsListed}
use Rattle.tick_model.specs.declared.feed.Run.{Run}
use Rattle.update_graph.{specs.Edges.edges_of, specs.Entered.IsEntered, specs.Tags.{Kept, is_operator, named, tag}}

pub record IsForStep (run : Run) (plan : ClaimPlan Kept) : Type 0 where
  pub entered : IsEntered run (plan.first.value.step + 1)
  pub of_run : plan.first.value.run ≡ run
  pub edges : plan.edges.items ≡ edges_of run.plan

pub record IsClaimed (run : Run) (plan : ClaimPlan Kept) : Type 0 where
  pub entered : IsEntered run (plan.first.value.step + 1)
  pub nodes : plan.nodes ≡ length run.plan.nodes
  pub edges : plan.edges.items ≡ edges_of run.plan
  pub first : named plan.first.value ≡ tag run plan.first.value.step 0

-- a source that the seat has and has not begun
pub record IsUnopened (run : Run) (plan : ClaimPlan Kept) (view : SeatView Kept) (node : ℕ) : Type 0 where
  pub source : is_operator run node ≡ false
  pub new : IsNew plan view node

pub record IsOpened (run : Run) (plan : ClaimPlan Kept) (view : SeatView Kept) (count : ℕ) (xs : List ℕ) : Type 0 where
  pub parts : view.parts ≡ 1024
  pub settled : (node : ℕ) → node < count → node < plan.nodes → Has view node → IsListed xs node ⊎ IsSettled plan view node
  pub new : (node : ℕ) → count ≤ node → node < plan.nodes → Has view node → IsListed xs node ⊎ IsUnopened run plan view node
  pub sources : (node : ℕ) → node < plan.nodes → is_operator run node ≡ false → Has view node
  pub ready : (node : ℕ) → IsListed xs node → IsReady plan view node
