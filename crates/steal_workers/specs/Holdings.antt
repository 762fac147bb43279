-- What a seat has of the claims of a step.
--     IsFor names run step edges plan      the claims have this run, this step and these edges
--     IsNew plan view node      the seat has the node, and has touched nothing of it
--     IsReady plan view node      and the node has input edges
--     IsSettled plan view node      its work is put back, and after that its output edges were handed on
--     IsHeld plan view P      the nodes of P are ready, and every other node that the seat has is settled
--     KeepsOthers plan old new node came      the other nodes that the seat had are as before, and it has none but those and the ones that came
--     IsGoneOn old new      the seat has no other parts, and what it had put back is put back
--     less_parts n view, some_parts n view      the view without so many of its parts, and a view of so many parts that has no node
--     IsJoined plan one other seat      both are seats, and this seat has all that they have
--     SourcesBack plan view      the work of each node without input edges is put back
--     AllBack plan view      the work of each node is put back
--     AllLate plan view      each edge was handed on after the work of its `from` node was put back
use Rattle.std.specs.Prelude.{◌≡◌, ◌≢◌, ◌⊎◌, ℕ, ◌+◌, ◌-◌, ◌<◌, List, Result, Ok}
use mathlib.Core.Option.{some}
use lib.ListN.{get_elem?}
use Rattle.graph_words.{specs.declared.graph.Edge.Edge, specs.declared.graph.ClaimPlan.ClaimPlan, specs.declared.table.Mark.TheVariants.{Untaken, PutBack, Delivered}, specs.declared.table.SeatView.SeatView, specs.Marks.{at, inputs}, specs.Rule.Tags, specs.Seats.{AtEdge, Has, IsLateByFrom, IsMarkedByFrom}, specs.Models.SeatModel, specs.Views.{IsUntouched, both_views, one_part}}
use Rattle.steal_workers.specs.Lists.{IsListed}

-- no node
abbrev pub NoNode : ℕ → Type 0
NoNode node = ⊥

-- this node alone
abbrev pub OnlyNode : ℕ → ℕ → Type 0
OnlyNode node m = m ≡ node

module _ {W : Type 0} where
  pub record IsFor {R : Type 0} (names : Tags R W) (r : R) (s : ℕ) (es : List Edge) (plan : ClaimPlan W) : Type 0 where
    pub run : names.run plan.first.value ≡ r
    pub step : names.step plan.first.value + 1 ≡ s
    pub edges : plan.edges.items ≡ es

  pub record IsNew (plan : ClaimPlan W) (view : SeatView W) (node : ℕ) : Type 0 where
    pub untaken : at view.nodes node ≡ Untaken
    pub untouched : IsUntouched plan view node

  pub record IsReady (plan : ClaimPlan W) (view : SeatView W) (node : ℕ) : Type 0 where
    pub within : node < plan.nodes
    pub input : 0 < inputs node plan.edges.items
    pub new : IsNew plan view node

  pub record IsSettled (plan : ClaimPlan W) (view : SeatView W) (node : ℕ) : Type 0 where
    pub back : at view.nodes node ≡ PutBack
    pub delivered : (e : ℕ) (x : Edge) → get_elem? plan.edges.items e ≡ some x → x.from ≡ node → at view.outs e ≡ Delivered
    pub late : (e : ℕ) (x : Edge) → get_elem? plan.edges.items e ≡ some x → x.from ≡ node → at view.late e ≡ Delivered

  pub record IsHeld (plan : ClaimPlan W) (view : SeatView W) (P : ℕ → Type 0) : Type 0 where
    pub settled : (node : ℕ) → node < plan.nodes → Has view node → P node ⊎ IsSettled plan view node
    pub ready : (node : ℕ) → P node → IsReady plan view node

  pub record KeepsOthers (plan : ClaimPlan W) (old new : SeatView W) (node : ℕ) (came : List ℕ) : Type 0 where
    pub nodes : (m : ℕ) → m ≢ node → Has old m → at new.nodes m ≡ at old.nodes m
    pub outs : (m e : ℕ) → m ≢ node → Has old m → AtEdge plan e (λ x. x.from ≡ m → at new.outs e ≡ at old.outs e)
    pub lates : (m e : ℕ) → m ≢ node → Has old m → AtEdge plan e (λ x. x.from ≡ m → at new.late e ≡ at old.late e)
    pub ins : (m e : ℕ) → m ≢ node → Has old m → AtEdge plan e (λ x. x.to ≡ m → at new.ins e ≡ at old.ins e)
    pub only : (m : ℕ) → Has new m → Has old m ⊎ IsListed came m

  pub record IsGoneOn (old new : SeatView W) : Type 0 where
    pub parts : new.parts ≡ old.parts
    pub back : (node : ℕ) → at old.nodes node ≡ PutBack → at new.nodes node ≡ PutBack

  abbrev pub AllBack : ClaimPlan W → SeatView W → Type 0
  AllBack plan view = (node : ℕ) → node < plan.nodes → at view.nodes node ≡ PutBack

  abbrev pub AllLate : ClaimPlan W → SeatView W → Type 0
  AllLate plan view = (e : ℕ) → AtEdge plan e (λ x. at view.late e ≡ Delivered)

  abbrev pub less_parts : ℕ → SeatView W → SeatView W
  less_parts n view = record view { parts = view.parts - n }

  abbrev pub some_parts : ℕ → SeatView W → SeatView W
  some_parts n view = record (one_part view) { parts = n }

  abbrev pub IsJoined : {E : Type 0} → ClaimPlan W → Result (SeatModel W) E → Result (SeatModel W) E → SeatModel W → Type 0
  IsJoined plan one other seat = (a : SeatModel W) × (b : SeatModel W) × (one ≡ Ok a) × (other ≡ Ok b) × IsMarkedByFrom plan a.view × IsLateByFrom plan a.view × (seat.view ≡ both_views a.view b.view)

  abbrev pub SourcesBack : ClaimPlan W → SeatView W → Type 0
  SourcesBack plan view = (node : ℕ) → node < plan.nodes → inputs node plan.edges.items ≡ 0 → at view.nodes node ≡ PutBack
