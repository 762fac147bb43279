-- How the view of a seat goes on while it works a node.
--     IsTaking edges old new node count      of the first so many edges those that go to the node have their shares taken
--     IsBegun plan old new node      the node's shares are taken, and its work
--     IsWorked plan old new node      and its work is put back
--     IsDelivered plan old new edge to found      an edge is handed on, and this made the node ready or none
--     IsHandedOver plan old new edge to xs ys      and it is added to the list
--     IsListing plan old new node count found      of the first so many edges those from the node are delivered, and this made these nodes ready
--     IsHanding plan old new node count xs ys      and they are added to the list
use Rattle.std.specs.Prelude.{◌≡◌, ◌≢◌, ◌⊎◌, ℕ, ◌<◌, ◌≤◌, List, ◌++◌, Option, Some, option_to_list}
use mathlib.Core.Option.{some}
use lib.ListN.{get_elem?}
use Rattle.graph_words.{specs.declared.graph.Edge.Edge, specs.declared.graph.ClaimPlan.ClaimPlan, specs.declared.table.Mark.TheVariants.{Unmarked, Untaken, Taken, PutBack, Delivered}, specs.declared.table.SeatView.SeatView, specs.Marks.{at, put}, specs.Seats.Has, specs.Views.IsUntouched}
use Rattle.steal_workers.{specs.Holdings.IsReady, specs.Lists.IsListed}
use Rattle.update_graph.specs.Tags.{Kept}

pub record IsTaking (edges : List Edge) (old new : SeatView Kept) (node count : ℕ) : Type 0 where
  pub nodes : new.nodes ≡ old.nodes
  pub outs : new.outs ≡ old.outs
  pub late : new.late ≡ old.late
  pub parts : new.parts ≡ old.parts
  pub later : (e : ℕ) → count ≤ e → at new.ins e ≡ at old.ins e
  pub others : (e : ℕ) (x : Edge) → get_elem? edges e ≡ some x → x.to ≢ node → at new.ins e ≡ at old.ins e

pub record IsBegun (plan : ClaimPlan Kept) (old new : SeatView Kept) (node : ℕ) : Type 0 where
  pub parts : new.parts ≡ old.parts
  pub nodes : new.nodes ≡ put old.nodes node Taken
  pub outs : new.outs ≡ old.outs
  pub late : new.late ≡ old.late
  pub ins : (e : ℕ) (x : Edge) → get_elem? plan.edges.items e ≡ some x → x.to ≢ node → at new.ins e ≡ at old.ins e

pub record IsWorked (plan : ClaimPlan Kept) (old new : SeatView Kept) (node : ℕ) : Type 0 where
  pub parts : new.parts ≡ old.parts
  pub back : at new.nodes node ≡ PutBack
  pub nodes : (m : ℕ) → m ≢ node → at new.nodes m ≡ at old.nodes m
  pub outs : new.outs ≡ old.outs
  pub late : new.late ≡ old.late
  pub ins : (e : ℕ) (x : Edge) → get_elem? plan.edges.items e ≡ some x → x.to ≢ node → at new.ins e ≡ at old.ins e

-- a node that the delivery made ready
pub record IsFound (plan : ClaimPlan Kept) (old new : SeatView Kept) (to node : ℕ) : Type 0 where
  pub same : node ≡ to
  pub fresh : at old.nodes node ≡ Unmarked
  pub untaken : at new.nodes node ≡ Untaken
  pub untouched : IsUntouched plan old node

pub record IsDelivered (plan : ClaimPlan Kept) (old new : SeatView Kept) (edge to : ℕ) (found : Option ℕ) : Type 0 where
  pub outs : new.outs ≡ put old.outs edge Delivered
  pub late : new.late ≡ put old.late edge Delivered
  pub ins : new.ins ≡ old.ins
  pub parts : new.parts ≡ old.parts
  pub stays : (m : ℕ) → Has old m → at new.nodes m ≡ at old.nodes m
  pub came : (m : ℕ) → found ≢ Some m → at new.nodes m ≡ at old.nodes m
  pub finds : (m : ℕ) → found ≡ Some m → IsFound plan old new to m

pub record IsHandedOver (plan : ClaimPlan Kept) (old new : SeatView Kept) (edge to : ℕ) (xs ys : List ℕ) : Type 0 where
  pub found : Option ℕ
  pub delivered : IsDelivered plan old new edge to found
  pub listed : ys ≡ xs ++ option_to_list found

pub record IsListing (plan : ClaimPlan Kept) (old new : SeatView Kept) (node count : ℕ) (found : List ℕ) : Type 0 where
  pub ins : new.ins ≡ old.ins
  pub parts : new.parts ≡ old.parts
  pub delivered : (e : ℕ) (x : Edge) → get_elem? plan.edges.items e ≡ some x → e < count → x.from ≡ node → at new.outs e ≡ Delivered
  pub late : (e : ℕ) (x : Edge) → get_elem? plan.edges.items e ≡ some x → e < count → x.from ≡ node → at new.late e ≡ Delivered
  pub later : (e : ℕ) → count ≤ e → at new.outs e ≡ at old.outs e
  pub others : (e : ℕ) (x : Edge) → get_elem? plan.edges.items e ≡ some x → x.from ≢ node → at new.outs e ≡ at old.outs e
  pub other_lates : (e : ℕ) (x : Edge) → get_elem? plan.edges.items e ≡ some x → x.from ≢ node → at new.late e ≡ at old.late e
  pub stays : (m : ℕ) → Has old m → at new.nodes m ≡ at old.nodes m
  pub came : (m : ℕ) → (at new.nodes m ≡ at old.nodes m) ⊎ IsListed found m
  pub above : (m : ℕ) → IsListed found m → node < m
  pub fresh : (m : ℕ) → IsListed found m → at old.nodes m ≡ Unmarked
  pub ready : (m : ℕ) → IsListed found m → IsReady plan new m

pub record IsHanding (plan : ClaimPlan Kept) (old new : SeatView Kept) (node count : ℕ) (xs ys : List ℕ) : Type 0 where
  pub found : List ℕ
  pub listing : IsListing plan old new node count found
  pub listed : ys ≡ xs ++ found
