-- What a seat has while a crew's hand works a node.
use Rattle.std.proofs.Common.{◌≡◌, ◌≢◌, ℕ, ◌+◌, ◌<◌, sym, refl, ap, ◌∙◌, subst, arith, inl, inr, Option, Some, None, List, [], ◌++◌, length, append-nil, append_assoc, eqb, false, get_or}
use Rattle.std.{specs.Prelude.{◌⊎◌, option_to_list}, specs.List.list_any, proofs.lemmas.Bool.{eqb-false, or_cases}, proofs.lemmas.List.Folds.list_any-append, proofs.lemmas.Option.{same_Some, none-some}}
use mathlib.Core.Logic.{dite}
use mathlib.Core.Option.{some, some-injective}
use native.Mathlib.Decide.{ℕ_discrete}
use lib.ListN.{get_elem?}
use Rattle.graph_words.{specs.declared.graph.Edge.Edge, specs.declared.graph.ClaimPlan.ClaimPlan, specs.declared.table.Mark.TheVariants.{Unmarked, Untaken, PutBack, Delivered}, specs.declared.table.SeatView.SeatView, specs.Marks.{IsHadMark, at, put}, specs.Seats.Has, proofs.Marks.{at_put, at_put_else, some_input, below_of}}
use Rattle.steal_workers.{specs.Holdings.{IsReady, IsSettled, KeepsOthers}, specs.Lists.IsListed, proofs.Listing.{listed_cases, listed_first, listed_last, true_false}, proofs.Holding.has_mark}
use Rattle.update_graph.{specs.Edges.comes_from, specs.Steps.{IsDelivered, IsHandedOver, IsHanding, IsListing, IsWorked}, specs.Tags.Kept, proofs.Handing.{apart, had_marked, late_apart, out_at, still_untaken, untouched_still}, proofs.PlanEdges.item_there, proofs.Walking.no_edge}

-- what is listed in either of two lists
pub listed_either : (xs ys : List ℕ) (m : ℕ) → IsListed (xs ++ ys) m → IsListed xs m ⊎ IsListed ys m
listed_either xs ys m is = or_cases (list_any (eqb m) xs) (list_any (eqb m) ys) (sym (list_any-append (eqb m) xs ys) ∙ is)

-- a list that may have grown by one
module _ (xs : List ℕ) where
  pub grown_cases : (found : Option ℕ) (m : ℕ) → IsListed (xs ++ option_to_list found) m → IsListed xs m ⊎ (found ≡ Some m)
  grown_cases None m is = inl (subst (λ l. IsListed l m) (append-nil xs) is)
  grown_cases (Some n) m is = go (listed_cases xs n m is)
    where
      go : IsListed xs m ⊎ (m ≡ n) → IsListed xs m ⊎ (Some n ≡ Some m)
      go (inl there) = inl there
      go (inr e) = inr (ap Some (sym e))

  pub grown_first : (found : Option ℕ) (m : ℕ) → IsListed xs m → IsListed (xs ++ option_to_list found) m
  grown_first found m is = listed_first xs (option_to_list found) m is

  pub grown_last : (found : Option ℕ) (m : ℕ) → found ≡ Some m → IsListed (xs ++ option_to_list found) m
  grown_last found m is = subst (λ o. IsListed (xs ++ option_to_list o) m) (sym is) (listed_last xs m)

-- the edges of a node are delivered
module _ (plan : ClaimPlan Kept) (u : SeatView Kept) (node : ℕ) where
  pub listing_none : IsListing plan u u node 0 []
  listing_none = record {
    ins = refl;
    parts = refl;
    delivered = λ e x there less from. absurd (omega arith);
    late = λ e x there less from. absurd (omega arith);
    later = λ e more. refl;
    others = λ e x there other. refl;
    other_lates = λ e x there other. refl;
    stays = λ m has. refl;
    came = λ m. inl refl;
    above = λ m is. absurd (true_false (sym is));
    fresh = λ m is. absurd (true_false (sym is));
    ready = λ m is. absurd (true_false (sym is));
  }

  pub listing_skip : (v : SeatView Kept) (count : ℕ) (x : Edge) (xs : List ℕ) → IsListing plan u v node count xs → get_elem? plan.edges.items count ≡ some x → x.from ≢ node → IsListing plan u v node (count + 1) xs
  listing_skip v count x xs h there other_from = record {
    ins = h.ins;
    parts = h.parts;
    delivered = λ e y at_y less from. let other = elsewhere e y at_y from in h.delivered e y at_y (omega arith) from;
    late = λ e y at_y less from. let other = elsewhere e y at_y from in h.late e y at_y (omega arith) from;
    later = λ e more. h.later e (omega arith);
    others = h.others;
    other_lates = h.other_lates;
    stays = h.stays;
    came = h.came;
    above = h.above;
    fresh = h.fresh;
    ready = h.ready;
  }
    where
      elsewhere : (e : ℕ) (y : Edge) → get_elem? plan.edges.items e ≡ some y → y.from ≡ node → e ≢ count
      elsewhere e y at_y from c = other_from (ap (λ (z : Edge). z.from) (some-injective x y (sym there ∙ ap (λ k. get_elem? plan.edges.items k) (sym c) ∙ at_y)) ∙ from)

  -- one more edge is delivered
  module _ (v w : SeatView Kept) (count to : ℕ) (x : Edge) (xs : List ℕ) (found : Option ℕ) (h : IsListing plan u v node count xs) (o : IsDelivered plan v w count to found)
      (there : get_elem? plan.edges.items count ≡ some x) (from_is : x.from ≡ node) (to_is : x.to ≡ to) (up : x.from < x.to) (below : x.to < plan.nodes) where
    abbrev ys : List ℕ
    ys = xs ++ option_to_list found

    outs_are : (e : ℕ) → at w.outs e ≡ at (put v.outs count Delivered) e
    outs_are = out_at plan node v w count to x found o there from_is

    other_outs : (m : ℕ) → m ≢ node → (e : ℕ) (y : Edge) → get_elem? plan.edges.items e ≡ some y → y.from ≡ m → at w.outs e ≡ at v.outs e
    other_outs = apart plan node v w count to x found o there from_is

    above_more : (m : ℕ) → IsListed xs m ⊎ (found ≡ Some m) → node < m
    above_more m (inl is) = h.above m is
    above_more m (inr is) = let same = (o.finds m is).same in omega (arith, same, from_is, to_is, up)

    fresh_more : (m : ℕ) → IsListed xs m ⊎ (found ≡ Some m) → at u.nodes m ≡ Unmarked
    fresh_more m (inl is) = h.fresh m is
    fresh_more m (inr is) = go (h.came m)
      where
        none : at v.nodes m ≡ Unmarked
        none = (o.finds m is).fresh

        go : (at v.nodes m ≡ at u.nodes m) ⊎ IsListed xs m → at u.nodes m ≡ Unmarked
        go (inl same) = sym same ∙ none
        go (inr there) = absurd (had_marked (at v.nodes m) (has_mark (at v.nodes m) Untaken (h.ready m there).new.untaken tt) none)

    ready_more : (m : ℕ) → IsListed xs m ⊎ (found ≡ Some m) → IsReady plan w m
    ready_more m (inl is) =
        let own = h.ready m is in
        let less = h.above m is in
        record {
          within = own.within;
          input = own.input;
          new = record {
            untaken = still_untaken plan node v w count to x found o there from_is m own.new.untaken;
            untouched = untouched_still plan node v w count to x found o there from_is m (λ c. omega (arith, c, less)) own.new.untouched;
          };
        }
    ready_more m (inr is) =
        let same = (o.finds m is).same in
        record {
          within = omega (arith, same, to_is, below);
          input = some_input m count plan.edges.items x there (to_is ∙ sym same);
          new = record {
            untaken = (o.finds m is).untaken;
            untouched = untouched_still plan node v w count to x found o there from_is m (λ c. omega (arith, c, same, from_is, to_is, up)) (o.finds m is).untouched;
          };
        }

    came_through : (m : ℕ) → at w.nodes m ≡ at v.nodes m → (at w.nodes m ≡ at u.nodes m) ⊎ IsListed ys m
    came_through m same = go (h.came m)
      where
        go : (at v.nodes m ≡ at u.nodes m) ⊎ IsListed xs m → (at w.nodes m ≡ at u.nodes m) ⊎ IsListed ys m
        go (inl e) = inl (same ∙ e)
        go (inr is) = inr (grown_first xs found m is)

    came_more : (m : ℕ) (b : Option ℕ) → found ≡ b → (at w.nodes m ≡ at u.nodes m) ⊎ IsListed ys m
    came_more m None none = came_through m (o.came m (λ is. none-some m (sym none ∙ is)))
    came_more m (Some n) some_is = dite (ℕ_discrete m n)
        (λ e. inr (grown_last xs found m (some_is ∙ ap Some (sym e))))
        (λ ne. came_through m (o.came m (λ is. ne (sym (same_Some n m (sym some_is ∙ is))))))

    pub listing_over : IsListing plan u w node (count + 1) ys
    listing_over = record {
      ins = o.ins ∙ h.ins;
      parts = o.parts ∙ h.parts;
      delivered = λ e y at_y less from. outs_are e ∙ dite (ℕ_discrete e count)
          (λ c. ap (λ k. at (put v.outs count Delivered) k) c ∙ at_put v.outs count Delivered)
          (λ ne. at_put_else v.outs count e Delivered ne ∙ h.delivered e y at_y (omega arith) from);
      late = λ e y at_y less from. ap (λ l. at l e) o.late ∙ dite (ℕ_discrete e count)
          (λ c. ap (λ k. at (put v.late count Delivered) k) c ∙ at_put v.late count Delivered)
          (λ ne. at_put_else v.late count e Delivered ne ∙ h.late e y at_y (omega arith) from);
      later = λ e more. outs_are e ∙ at_put_else v.outs count e Delivered (λ c. omega arith) ∙ h.later e (omega arith);
      others = λ e y at_y other. other_outs y.from other e y at_y refl ∙ h.others e y at_y other;
      other_lates = λ e y at_y other. late_apart plan node v w count to x found o there from_is y.from other e y at_y refl ∙ h.other_lates e y at_y other;
      stays = λ m has. o.stays m (subst IsHadMark (sym (h.stays m has)) has) ∙ h.stays m has;
      came = λ m. came_more m found refl;
      above = λ m is. above_more m (grown_cases xs found m is);
      fresh = λ m is. fresh_more m (grown_cases xs found m is);
      ready = λ m is. ready_more m (grown_cases xs found m is);
    }

  -- what is listed is had
  pub listing_had : (v : SeatView Kept) (count : ℕ) (xs : List ℕ) → IsListing plan u v node count xs → (m : ℕ) → IsListed xs m → Has v m
  listing_had v count xs h m is = has_mark (at v.nodes m) Untaken (h.ready m is).new.untaken tt

  -- and the nodes that this makes ready are added to a list
  module _ (xs : List ℕ) where
    pub handing_none : IsHanding plan u u node 0 xs xs
    handing_none = record { found = []; listing = listing_none; listed = sym (append-nil xs) }

    pub handing_past : (v : SeatView Kept) (zs : List ℕ) (e : ℕ) → e < length plan.edges.items → comes_from node (get_or plan.edges.items e no_edge) ≡ false → IsHanding plan u v node e xs zs → IsHanding plan u v node (e + 1) xs zs
    handing_past v zs e within other h =
        let edge = get_or plan.edges.items e no_edge in
        record { found = h.found; listing = listing_skip v e edge h.found h.listing (item_there plan.edges.items e no_edge within) (eqb-false edge.from node other); listed = h.listed }

    pub handing_more : (v w : SeatView Kept) (count to : ℕ) (x : Edge) (zs more : List ℕ) → IsHanding plan u v node count xs zs → IsHandedOver plan v w count to zs more
        → get_elem? plan.edges.items count ≡ some x → x.from ≡ node → x.to ≡ to → x.from < x.to → x.to < plan.nodes → IsHanding plan u w node (count + 1) xs more
    handing_more v w count to x zs more h over there from_is to_is up below = record {
      found = h.found ++ option_to_list over.found;
      listing = listing_over v w count to x h.found over.found h.listing over.delivered there from_is to_is up below;
      listed = over.listed ∙ ap (λ l. l ++ option_to_list over.found) h.listed ∙ append_assoc xs h.found (option_to_list over.found);
    }

    pub handing_had : (v : SeatView Kept) (count : ℕ) (zs : List ℕ) → IsHanding plan u v node count xs zs → ((m : ℕ) → IsListed xs m → Has u m) → (m : ℕ) → IsListed zs m → Has v m
    handing_had v count zs h had m is = go (listed_either xs h.found m (subst (λ l. IsListed l m) h.listed is))
      where
        go : IsListed xs m ⊎ IsListed h.found m → Has v m
        go (inl there) = has_mark (at v.nodes m) (at u.nodes m) (h.listing.stays m (had m there)) (had m there)
        go (inr own) = listing_had v count h.found h.listing m own

    -- from the empty list on
    pub handing_all : (v : SeatView Kept) (count : ℕ) (zs : List ℕ) → IsHanding plan u v node count xs zs → xs ≡ [] → IsListing plan u v node count zs
    handing_all v count zs h empty = subst (IsListing plan u v node count) (sym (h.listed ∙ ap (λ l. l ++ h.found) empty)) h.listing

-- a node whose work is put back and whose edges are delivered
module _ (plan : ClaimPlan Kept) (node : ℕ) (u c d : SeatView Kept) (found : List ℕ) (own : IsReady plan u node) (w : IsWorked plan u c node) (l : IsListing plan c d node (length plan.edges.items) found) where
  pub listed_settled : IsSettled plan d node
  listed_settled = record {
    back = l.stays node (has_mark (at c.nodes node) PutBack w.back tt) ∙ w.back;
    delivered = λ e x there from. l.delivered e x there (below_of plan.edges.items e x there) from;
    late = λ e x there from. l.late e x there (below_of plan.edges.items e x there) from;
  }

  pub listed_came : (m : ℕ) → IsListed found m → at u.nodes m ≡ Unmarked
  listed_came m is = let less = l.above m is in sym (w.nodes m (λ e. omega (arith, e, less))) ∙ l.fresh m is

  had_before : (m : ℕ) → Has c m → Has u m
  had_before m has = dite (ℕ_discrete m node)
      (λ e. has_mark (at u.nodes m) Untaken (ap (λ k. at u.nodes k) e ∙ own.new.untaken) tt)
      (λ ne. has_mark (at u.nodes m) (at c.nodes m) (sym (w.nodes m ne)) has)

  pub listed_others : KeepsOthers plan u d node found
  listed_others = record {
    nodes = λ m ne had. l.stays m (has_mark (at c.nodes m) (at u.nodes m) (w.nodes m ne) had) ∙ w.nodes m ne;
    outs = λ m e ne had x there from. l.others e x there (λ f. ne (sym from ∙ f)) ∙ ap (λ k. at k e) w.outs;
    lates = λ m e ne had x there from. l.other_lates e x there (λ f. ne (sym from ∙ f)) ∙ ap (λ k. at k e) w.late;
    ins = λ m e ne had x there goes. ap (λ k. at k e) l.ins ∙ w.ins e x there (λ g. ne (sym goes ∙ g));
    only = λ m has. known m has (l.came m);
  }
    where
      known : (m : ℕ) → Has d m → (at d.nodes m ≡ at c.nodes m) ⊎ IsListed found m → Has u m ⊎ IsListed found m
      known m has (inl same) = inl (had_before m (subst IsHadMark same has))
      known m has (inr is) = inr is
