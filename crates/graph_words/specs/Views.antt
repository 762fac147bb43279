-- What a seat knows, and how each call changes it.
use Rattle.std.specs.Prelude.{◌≡◌, ℕ, ◌+◌, ◌-◌, Bool, true, false, [], Some, None}
use mathlib.Core.Option.{some}
use lib.ListN.{get_elem?}
use Rattle.graph_words.{specs.declared.graph.Edge.Edge, specs.declared.graph.ClaimPlan.ClaimPlan, specs.declared.table.SeatView.SeatView, specs.declared.table.Mark.Mark, specs.declared.table.Mark.TheVariants.{Unmarked, Drawn, Untaken, Delivered}, specs.Marks.{at, put, merge, starting}}

module _ {W : Type 0} where
  -- another mark of a node
  abbrev pub mark_node : SeatView W → ℕ → Mark → SeatView W
  mark_node v n m = record v { nodes = put v.nodes n m }

  -- another mark of an edge, for the seat that has its `from` node
  abbrev pub mark_out : SeatView W → ℕ → Mark → SeatView W
  mark_out v e m = record v { outs = put v.outs e m }

  -- another mark of an edge, for the seat that has its `from` node and may have put that node's work back
  abbrev pub mark_late : SeatView W → ℕ → Mark → SeatView W
  mark_late v e m = record v { late = put v.late e m }

  -- another mark of an edge, for the seat that has its `to` node
  abbrev pub mark_in : SeatView W → ℕ → Mark → SeatView W
  mark_in v e m = record v { ins = put v.ins e m }

  -- the ticket of a node, for the seat that has put its work back
  abbrev pub mark_ticket : SeatView W → ℕ → ℕ → SeatView W
  mark_ticket v n q = record v { tickets = put v.tickets n (Drawn q) }

  -- the seat is told the ticket of the node too, where the test is true
  abbrev pub tells : Bool → ℕ → ℕ → SeatView W → SeatView W
  tells true n q v = mark_ticket v n q
  tells false n q v = v

  -- the seat has the node too, with its work not taken, where the test is true
  abbrev pub gets : Bool → ℕ → SeatView W → SeatView W
  gets true n v = mark_node v n Untaken
  gets false n v = v

  -- each input edge of the node is delivered by the seat
  abbrev pub InputsDelivered : ClaimPlan W → SeatView W → ℕ → Type 0
  InputsDelivered k v n = (e : ℕ) (x : Edge) → get_elem? k.edges.items e ≡ some x → x.to ≡ n → at v.outs e ≡ Delivered

  -- the seat has taken no share of the node and delivered none of its output edges
  abbrev pub IsUntouched : ClaimPlan W → SeatView W → ℕ → Type 0
  IsUntouched k v n = (e : ℕ) (x : Edge) → get_elem? k.edges.items e ≡ some x → (x.from ≡ n → at v.outs e ≡ Unmarked) × (x.to ≡ n → at v.ins e ≡ Unmarked)

  -- the view of the first seat: all parts, and each node without input edges
  abbrev pub first_view : ClaimPlan W → SeatView W
  first_view k = record { plan = Some k; parts = 1024; nodes = starting k.nodes k.edges.items; outs = []; late = []; ins = []; tickets = [] }

  -- one part less
  abbrev pub less_one : SeatView W → SeatView W
  less_one v = record v { parts = v.parts - 1 }

  -- one part, and no node
  abbrev pub one_part : SeatView W → SeatView W
  one_part v = record { plan = v.plan; parts = 1; nodes = []; outs = []; late = []; ins = []; tickets = [] }

  -- all that either view has
  abbrev pub both_views : SeatView W → SeatView W → SeatView W
  both_views v w = record { plan = v.plan; parts = v.parts + w.parts; nodes = merge v.nodes w.nodes; outs = merge v.outs w.outs; late = merge v.late w.late; ins = merge v.ins w.ins; tickets = merge v.tickets w.tickets }

  -- the view of a seat that was joined to another: it has nothing
  abbrev pub spent_view : SeatView W
  spent_view = record { plan = None; parts = 0; nodes = []; outs = []; late = []; ins = []; tickets = [] }
