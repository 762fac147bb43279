-- What the rule says of the words, the slots and the seats' views, sentence by sentence.
--     node_seen, out_seen, in_seen      the mark that a seat has of a node or of an edge
--     awaited key s n      how many input edges of the node are not delivered
--     IsWaiting, IsOnOffer, IsHadBySeat      the three ways in which a node can stand
use Rattle.std.specs.Prelude.{◌≡◌, ◌≢◌, ◌⊎◌, ℕ, suc, ◌+◌, ◌<◌, ◌==◌, List, [], ◌∷◌, slice_index, length, true, Some}
use mathlib.Core.Option.{some}
use lib.ListN.{get_elem?}
use Rattle.atomic_table.specs.Table.{State}
use Rattle.graph_words.{specs.declared.graph.Edge.Edge, specs.declared.graph.ClaimPlan.ClaimPlan, specs.declared.table.Mark.Mark, specs.declared.table.Slot.Slot, specs.declared.table.Slot.TheVariants.Done, specs.declared.table.SeatView.SeatView, specs.declared.table.Mark.TheVariants.{Unmarked, Drawn, Delivered}, specs.Marks.{at, either_mark, when, inputs, IsHadMark}, specs.Rule.{EdgeState, EdgeHome, Home, MarkHome, OFFERED, OldWork, Tags, in_mark, is_drawn, out_mark}, specs.Seats.{AtEdge, Has}}

-- 1 where the mark is not that of a delivered edge
abbrev pub owes : Mark → ℕ
owes Delivered = 0
owes m = 1

module _ {W : Type 0} where
  -- the mark that a seat has of the number, in one of its lists, and `Unmarked` where none has
  abbrev pub seen : (SeatView W → List Mark) → List (SeatView W) → ℕ → Mark
  seen list [] n = Unmarked
  seen list (v ∷ vs) n = either_mark (at (list v) n) (seen list vs n)

  abbrev pub node_seen : List (SeatView W) → ℕ → Mark
  node_seen views n = seen (λ v. v.nodes) views n

  abbrev pub out_seen : List (SeatView W) → ℕ → Mark
  out_seen views e = seen (λ v. v.outs) views e

  abbrev pub in_seen : List (SeatView W) → ℕ → Mark
  in_seen views e = seen (λ v. v.ins) views e

  -- how many of the edges, which are numbered from i on, go to the node and stand in no view as delivered
  abbrev pub awaited_from : List (SeatView W) → ℕ → ℕ → List Edge → ℕ
  awaited_from views n i [] = 0
  awaited_from views n i (x ∷ xs) = when (x.to == n) (owes (out_seen views i)) + awaited_from views n (suc i) xs

  -- what holds of the view of each seat
  abbrev pub OfEach : List (SeatView W) → (SeatView W → Type 0) → Type 0
  OfEach views P = (id : ℕ) (v : SeatView W) → get_elem? views id ≡ some v → P v

  -- some seat has delivered the edge
  abbrev pub IsDelivered : List (SeatView W) → ℕ → Type 0
  IsDelivered views e = (id : ℕ) × (v : SeatView W) × (get_elem? views id ≡ some v) × (at v.outs e ≡ Delivered)

  -- no node is had by two seats
  abbrev pub IsHadOnce : ClaimPlan W → List (SeatView W) → Type 0
  IsHadOnce key views = (n i j : ℕ) (v w : SeatView W) → n < key.nodes → get_elem? views i ≡ some v → get_elem? views j ≡ some w → Has v n → Has w n → i ≡ j

  -- each input edge of a node that a seat has is delivered
  abbrev pub IsHadAfterInputs : ClaimPlan W → List (SeatView W) → Type 0
  IsHadAfterInputs key views = (n i e : ℕ) (v : SeatView W) → n < key.nodes → get_elem? views i ≡ some v → Has v n → AtEdge key e (λ x. x.to ≡ n → IsDelivered views e)

  -- a delivered edge stands in one view
  abbrev pub IsDeliveredOnce : ClaimPlan W → List (SeatView W) → Type 0
  IsDeliveredOnce key views = (e i j : ℕ) (v w : SeatView W) → get_elem? views i ≡ some v → get_elem? views j ≡ some w → AtEdge key e (λ x. at v.outs e ≡ Delivered → at w.outs e ≡ Delivered → i ≡ j)

  -- that is the view of the seat that has its `from` node
  abbrev pub IsDeliveredByFrom : ClaimPlan W → List (SeatView W) → Type 0
  IsDeliveredByFrom key views = (e i : ℕ) (v : SeatView W) → get_elem? views i ≡ some v → AtEdge key e (λ x. at v.outs e ≡ Delivered → Has v x.from)

  -- a seat that has a node has a part, and it has the plan exactly where it has a part
  abbrev pub IsSharedInParts : ClaimPlan W → List (SeatView W) → Type 0
  IsSharedInParts key views = OfEach views (λ v. ((n : ℕ) → n < key.nodes → Has v n → 0 < v.parts) × (0 < v.parts → v.plan ≡ Some key) × ((k : ClaimPlan W) → v.plan ≡ Some k → 0 < v.parts))

  -- where a seat has all parts, no other seat has a node
  abbrev pub IsAloneWithAllParts : ClaimPlan W → List (SeatView W) → Type 0
  IsAloneWithAllParts key views = (n i j : ℕ) (v w : SeatView W) → n < key.nodes → i ≢ j → get_elem? views i ≡ some v → get_elem? views j ≡ some w → v.parts ≡ 1024 → at w.nodes n ≡ Unmarked

module _ {W H : Type 0} (key : ClaimPlan W) (s : State (Slot W H) (SeatView W)) where
  abbrev pub awaited : ℕ → ℕ
  awaited n = awaited_from s.views n 0 key.edges.items

  -- no seat has the node, and an input edge is not delivered
  pub record IsWaiting (n : ℕ) : Type 0 where
    pub word : slice_index s.words n ≡ awaited n
    pub input : 0 < awaited n
    pub free : node_seen s.views n ≡ Unmarked

  -- no seat has the node, which has input edges, and all of them are delivered
  pub record IsOnOffer (n : ℕ) : Type 0 where
    pub word : slice_index s.words n ≡ OFFERED
    pub input : 0 < inputs n key.edges.items
    pub none : awaited n ≡ 0
    pub free : node_seen s.views n ≡ Unmarked

  -- a seat has the node, and each input edge is delivered
  pub record IsHadBySeat (n : ℕ) : Type 0 where
    pub word : slice_index s.words n ≡ 0
    pub none : awaited n ≡ 0
    pub had : IsHadMark (node_seen s.views n)

  -- the slot of the node has a work that was put back, with this ticket
  abbrev pub IsDoneWith : ℕ → ℕ → Type 0
  IsDoneWith n q = (w : W) × (get_elem? s.homes n ≡ some (some (Done w q)))

  -- no two nodes have one ticket, and each ticket is below the tickets' word
  abbrev pub IsTicketedOnce : Type 0
  IsTicketedOnce = (n m q : ℕ) → n < key.nodes → m < key.nodes → IsDoneWith n q → (q < slice_index s.words (key.nodes + length key.edges.items)) × (IsDoneWith m q → n ≡ m)

  -- where a seat handed an edge on late, it has drawn a ticket for `from`, which is less than that of `to`
  abbrev pub IsTicketedInOrder : Type 0
  IsTicketedInOrder = (e : ℕ) → OfEach s.views (λ v. AtEdge key e (λ x. at v.late e ≡ Delivered → (is_drawn (at v.nodes x.from) ≡ true) × ((q t : ℕ) → IsDoneWith x.from q → IsDoneWith x.to t → q < t)))

  -- the ticket of a node that a seat was told is that of the node's slot
  abbrev pub IsToldTruly : Type 0
  IsToldTruly = (n q t : ℕ) → n < key.nodes → OfEach s.views (λ v. at v.tickets n ≡ Drawn q → IsDoneWith n t → t ≡ q)

  abbrev pub IsInOneState : Type 0
  IsInOneState = (n : ℕ) → n < key.nodes → IsWaiting n ⊎ (IsOnOffer n ⊎ IsHadBySeat n)

module _ {R W H : Type 0} (tw : Tags R W) (th : Tags R H) (key : ClaimPlan W) (s : State (Slot W H) (SeatView W)) where
  -- The slot of a node that no seat has is there, with the work that was given for the node. Else the mark that a seat has of the node tells what is in it.
  abbrev pub WorksLie : Type 0
  WorksLie = (n : ℕ) → n < key.nodes → (node_seen s.views n ≡ Unmarked → Home tw th key (OldWork tw th key n) (get_elem? s.homes n)) × (IsHadMark (node_seen s.views n) → (q : ℕ) × MarkHome tw th key n q (node_seen s.views n) (get_elem? s.homes n))

  -- the marks that seats have of an edge, as an output edge and as an input edge, and its slot are those of one state of the edge
  abbrev pub SharesLie : Type 0
  SharesLie = (e : ℕ) → AtEdge key e (λ x. (state : EdgeState) × (out_seen s.views e ≡ out_mark state) × (in_seen s.views e ≡ in_mark state) × EdgeHome tw th key x.from state (get_elem? s.homes (key.nodes + e)))
