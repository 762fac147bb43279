-- The view of a seat while it works a node, one edge at a time.
use Rattle.std.proofs.Common.{◌≡◌, ◌≢◌, ℕ, ◌+◌, ◌<◌, Bool, true, false, sym, refl, ap, ap₂, ◌∙◌, subst, arith, Option, Some, None, List, [], ◌∷◌, ◌++◌, length, map, take, get_or}
use Rattle.std.{proofs.lemmas.Bool.{eqb-false, eqb-true}, proofs.lemmas.List.map_push, proofs.lemmas.Option.{same_Some, none-some}}
use mathlib.Core.Option.{some, some-injective}
use lib.ListN.{get_elem?}
use Rattle.graph_words.{specs.declared.graph.Edge.Edge, specs.declared.graph.ClaimPlan.ClaimPlan, specs.declared.table.Mark.Mark, specs.declared.table.Mark.TheVariants.{Unmarked, Untaken, Taken, PutBack, Delivered}, specs.declared.table.SeatView.SeatView, specs.Marks.{IsHadMark, at, put}, specs.Views.{IsUntouched, gets, mark_in, mark_late, mark_node, mark_out}, proofs.Marks.{at_put, at_put_else}}
use Rattle.update_graph.{specs.Edges.{froms_to, goes_to}, specs.Steps.{IsBegun, IsDelivered, IsTaking, IsWorked}, specs.Tags.{Kept, Tag}, proofs.PlanEdges.{item_there, froms_more, froms_same}, proofs.Walking.no_edge}

-- shares are taken
module _ (edges : List Edge) (u : SeatView Kept) (node : ℕ) where
  pub taking_none : IsTaking edges u u node 0
  taking_none = record { nodes = refl; outs = refl; late = refl; parts = refl; later = λ e more. refl; others = λ e x there apart. refl }

  pub taking_more : (v w : SeatView Kept) (count : ℕ) (x : Edge) → IsTaking edges u v node count → get_elem? edges count ≡ some x → x.to ≡ node → w ≡ mark_in v count Taken → IsTaking edges u w node (count + 1)
  taking_more v w count x t there goes eq =
      subst (λ z. IsTaking edges u z node (count + 1)) (sym eq) record {
        nodes = t.nodes;
        outs = t.outs;
        late = t.late;
        parts = t.parts;
        later = λ e more. at_put_else v.ins count e Taken (λ c. omega arith) ∙ t.later e (omega arith);
        others = λ e y at_y apart.
            let other : e ≢ count = λ c. apart (ap (λ (z : Edge). z.to) (sym (some-injective x y (sym there ∙ ap (λ k. get_elem? edges k) (sym c) ∙ at_y))) ∙ goes) in
            at_put_else v.ins count e Taken other ∙ t.others e y at_y apart;
      }

  pub taking_skip : (v : SeatView Kept) (count : ℕ) → IsTaking edges u v node count → IsTaking edges u v node (count + 1)
  taking_skip v count t = record { nodes = t.nodes; outs = t.outs; late = t.late; parts = t.parts; later = λ e more. t.later e (omega arith); others = t.others }

  -- and these shares were taken
  module _ (named : ℕ → Tag) where
    abbrev pub HasTaken : SeatView Kept → List Tag → ℕ → Type 0
    HasTaken v shares place = IsTaking edges u v node place × (shares ≡ map named (froms_to node (take place edges)))

    pub taken_past : (v : SeatView Kept) (shares : List Tag) (e : ℕ) → e < length edges → goes_to node (get_or edges e no_edge) ≡ false → HasTaken v shares e → HasTaken v shares (e + 1)
    taken_past v shares e within other h = (taking_skip v e h.0, h.1 ∙ ap (map named) (sym (froms_same node e edges no_edge within (eqb-false (get_or edges e no_edge).to node other))))

    pub taken_more : (v w : SeatView Kept) (shares more : List Tag) (share : Tag) (e : ℕ) → e < length edges → goes_to node (get_or edges e no_edge) ≡ true → HasTaken v shares e
        → w ≡ mark_in v e Taken → share ≡ named (get_or edges e no_edge).from → more ≡ shares ++ share ∷ [] → HasTaken w more (e + 1)
    taken_more v w shares more share e within goes h marked share_is more_is =
        let to_is = eqb-true (get_or edges e no_edge).to node goes in (
          taking_more v w e (get_or edges e no_edge) h.0 (item_there edges e no_edge within) to_is marked,
          more_is ∙ ap₂ (λ these (t : Tag). these ++ t ∷ []) h.1 share_is ∙ sym (ap (map named) (froms_more node e edges no_edge within to_is) ∙ map_push named (froms_to node (take e edges)) (get_or edges e no_edge).from),
        )

-- a node whose shares are taken, and then its work
pub begun_is : (plan : ClaimPlan Kept) (edges : List Edge) (u a b : SeatView Kept) (node count : ℕ) → edges ≡ plan.edges.items → IsTaking edges u a node count → b ≡ mark_node a node Taken → IsBegun plan u b node
begun_is plan edges u a b node count same t taken = record {
  parts = ap (λ (z : SeatView Kept). z.parts) taken ∙ t.parts;
  nodes = ap (λ (z : SeatView Kept). z.nodes) taken ∙ ap (λ l. put l node Taken) t.nodes;
  outs = ap (λ (z : SeatView Kept). z.outs) taken ∙ t.outs;
  late = ap (λ (z : SeatView Kept). z.late) taken ∙ t.late;
  ins = λ e x there apart. ap (λ (z : SeatView Kept). at z.ins e) taken ∙ t.others e x (ap (λ l. get_elem? l e) same ∙ there) apart;
}

pub begun_taken : (plan : ClaimPlan Kept) (u b : SeatView Kept) (node : ℕ) → IsBegun plan u b node → at b.nodes node ≡ Taken
begun_taken plan u b node t = ap (λ l. at l node) t.nodes ∙ at_put u.nodes node Taken

-- and whose work is put back
pub worked_is : (plan : ClaimPlan Kept) (u b c : SeatView Kept) (node : ℕ) → IsBegun plan u b node → c ≡ mark_node b node PutBack → IsWorked plan u c node
worked_is plan u b c node t put_back = record {
  parts = ap (λ (z : SeatView Kept). z.parts) put_back ∙ t.parts;
  back = ap (λ (z : SeatView Kept). at z.nodes node) put_back ∙ at_put b.nodes node PutBack;
  nodes = λ m other. ap (λ (z : SeatView Kept). at z.nodes m) put_back ∙ at_put_else b.nodes node m PutBack other ∙ ap (λ l. at l m) t.nodes ∙ at_put_else u.nodes node m Taken other;
  outs = ap (λ (z : SeatView Kept). z.outs) put_back ∙ t.outs;
  late = ap (λ (z : SeatView Kept). z.late) put_back ∙ t.late;
  ins = λ e x there apart. ap (λ (z : SeatView Kept). at z.ins e) put_back ∙ t.ins e x there apart;
}

-- a mark that is had is none of the others
pub had_marked : (m : Mark) → IsHadMark m → m ≢ Unmarked
had_marked m h e = subst IsHadMark e h

-- an edge is handed on
module _ (plan : ClaimPlan Kept) (u v : SeatView Kept) (edge to : ℕ) (made : Bool) (eq : v ≡ gets made to (mark_out (mark_late u edge Delivered) edge Delivered)) where
  -- other edges to the node are not delivered
  pub delivered_only : made ≡ false → IsDelivered plan u v edge to None
  delivered_only no_more =
      let same : v ≡ mark_out (mark_late u edge Delivered) edge Delivered = eq ∙ ap (λ b. gets b to (mark_out (mark_late u edge Delivered) edge Delivered)) no_more in
      subst (λ z. IsDelivered plan u z edge to None) (sym same) record {
        outs = refl;
        late = refl;
        ins = refl;
        parts = refl;
        stays = λ m has. refl;
        came = λ m other. refl;
        finds = λ m is. absurd (none-some m is);
      }

  -- the node is ready
  pub delivered_last : made ≡ true → at u.nodes to ≡ Unmarked → IsUntouched plan u to → IsDelivered plan u v edge to (Some to)
  delivered_last last fresh clean =
      let got : v ≡ mark_node (mark_out (mark_late u edge Delivered) edge Delivered) to Untaken = eq ∙ ap (λ b. gets b to (mark_out (mark_late u edge Delivered) edge Delivered)) last in
      subst (λ z. IsDelivered plan u z edge to (Some to)) (sym got) record {
        outs = refl;
        late = refl;
        ins = refl;
        parts = refl;
        stays = λ m has. at_put_else u.nodes to m Untaken (λ e. had_marked (at u.nodes m) has (ap (λ k. at u.nodes k) e ∙ fresh));
        came = λ m other. at_put_else u.nodes to m Untaken (λ e. other (ap Some (sym e)));
        finds = λ m is.
            let same : m ≡ to = sym (same_Some to m is) in
            record {
              same = same;
              fresh = ap (λ k. at u.nodes k) same ∙ fresh;
              untaken = ap (λ k. at (put u.nodes to Untaken) k) same ∙ at_put u.nodes to Untaken;
              untouched = subst (IsUntouched plan u) (sym same) clean;
            };
      }

-- an edge of a node is delivered
module _ (plan : ClaimPlan Kept) (node : ℕ) (v w : SeatView Kept) (count to : ℕ) (x : Edge) (found : Option ℕ) (o : IsDelivered plan v w count to found)
    (there : get_elem? plan.edges.items count ≡ some x) (from_is : x.from ≡ node) where
  pub out_at : (e : ℕ) → at w.outs e ≡ at (put v.outs count Delivered) e
  out_at e = ap (λ l. at l e) o.outs

  same_edge : (e : ℕ) (y : Edge) → get_elem? plan.edges.items e ≡ some y → e ≡ count → x ≡ y
  same_edge e y at_y c = some-injective x y (sym there ∙ ap (λ k. get_elem? plan.edges.items k) (sym c) ∙ at_y)

  -- the output edges of another node
  elsewhere : (m : ℕ) → m ≢ node → (e : ℕ) (y : Edge) → get_elem? plan.edges.items e ≡ some y → y.from ≡ m → e ≢ count
  elsewhere m other e y at_y from c = other (sym from ∙ ap (λ (z : Edge). z.from) (sym (same_edge e y at_y c)) ∙ from_is)

  pub apart : (m : ℕ) → m ≢ node → (e : ℕ) (y : Edge) → get_elem? plan.edges.items e ≡ some y → y.from ≡ m → at w.outs e ≡ at v.outs e
  apart m other e y at_y from = out_at e ∙ at_put_else v.outs count e Delivered (elsewhere m other e y at_y from)

  pub late_apart : (m : ℕ) → m ≢ node → (e : ℕ) (y : Edge) → get_elem? plan.edges.items e ≡ some y → y.from ≡ m → at w.late e ≡ at v.late e
  late_apart m other e y at_y from = ap (λ l. at l e) o.late ∙ at_put_else v.late count e Delivered (elsewhere m other e y at_y from)

  pub untouched_still : (m : ℕ) → m ≢ node → IsUntouched plan v m → IsUntouched plan w m
  untouched_still m other clean e y at_y = (
    (λ from. apart m other e y at_y from ∙ (clean e y at_y).0 from),
    (λ goes. ap (λ l. at l e) o.ins ∙ (clean e y at_y).1 goes),
  )

  pub still_untaken : (m : ℕ) → at v.nodes m ≡ Untaken → at w.nodes m ≡ Untaken
  still_untaken m is = o.stays m (subst IsHadMark (sym is) tt) ∙ is
