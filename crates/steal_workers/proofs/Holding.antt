-- What a hand's seat has, from node to node.
use Rattle.std.proofs.Common.{◌≡◌, ◌≢◌, ℕ, zero, suc, ◌+◌, ◌-◌, ◌<◌, Bool, true, false, ◌==◌, ◌||◌, sym, refl, ap, ◌∙◌, subst, arith, inl, inr, Option, Some, None, List, [], ◌∷◌, ◌++◌}
use Rattle.std.{specs.Prelude.{◌⊎◌, IfOk, MatchOption, Result, Ok, Err}, specs.List.list_any}
use mathlib.Core.Logic.{dite}
use mathlib.Core.Option.{some}
use native.Mathlib.Decide.{ℕ_discrete}
use lib.ListN.{get_elem?}
use Rattle.graph_words.{specs.declared.graph.Edge.Edge, specs.declared.graph.ClaimPlan.ClaimPlan, specs.declared.table.Mark.Mark, specs.declared.table.Mark.TheVariants.{Unmarked, InHand, Drawn, Untaken, Taken, PutBack, Delivered}, specs.declared.table.SeatView.SeatView, specs.Marks.{IsHadMark, at, either_mark, inputs, put, when}, specs.Models.SeatModel, specs.Seats.{Has, IsLateByFrom, IsMarkedByFrom}, specs.Views.{InputsDelivered, IsUntouched, both_views, gets, mark_node}, proofs.Marks.{at_merge, at_put, at_put_else}}
use Rattle.steal_workers.{specs.Lists.IsListed, proofs.Listing.{listed_cases, listed_first, listed_last, listed_where, moved_in, moved_out, true_false}, specs.Holdings.{AllBack, AllLate, IsGoneOn, IsHeld, IsReady, IsSettled, KeepsOthers, IsJoined, NoNode, OnlyNode, SourcesBack, less_parts, some_parts}}

pub has_mark : (m n : Mark) → m ≡ n → IsHadMark n → IsHadMark m
has_mark m n e has = subst IsHadMark (sym e) has

pub untaken_unmarked : Untaken ≡ Unmarked → ⊥
untaken_unmarked e = cc

untaken_put_back : Untaken ≡ PutBack → ⊥
untaken_put_back e = cc

unmarked_put_back : Unmarked ≡ PutBack → ⊥
unmarked_put_back e = cc

-- some edge goes to a node exactly where the node has input edges
pub inputs_some : (n : ℕ) (xs : List Edge) → list_any (λ (x : Edge). x.to == n) xs ≡ true → 0 < inputs n xs
inputs_some n [] is = absurd (true_false (sym is))
inputs_some n (x ∷ xs) is = counted (x.to == n) (list_any (λ (y : Edge). y.to == n) xs) (inputs n xs) is (inputs_some n xs)
  where
    counted : (a b : Bool) (k : ℕ) → (a || b) ≡ true → (b ≡ true → 0 < k) → 0 < when a 1 + k
    counted true b k is rest = omega arith
    counted false b k is rest = let some_more = rest is in omega (arith, some_more)

pub inputs_none : (n : ℕ) (xs : List Edge) → list_any (λ (x : Edge). x.to == n) xs ≡ false → inputs n xs ≡ 0
inputs_none n [] is = refl
inputs_none n (x ∷ xs) is = counted (x.to == n) (list_any (λ (y : Edge). y.to == n) xs) (inputs n xs) is (inputs_none n xs)
  where
    counted : (a b : Bool) (k : ℕ) → (a || b) ≡ false → (b ≡ false → k ≡ 0) → when a 1 + k ≡ 0
    counted true b k is rest = absurd (true_false is)
    counted false b k is rest = let none_more = rest is in omega (arith, none_more)

module _ {W : Type 0} where
  pub gone_on : (u v w : SeatView W) → IsGoneOn u v → IsGoneOn v w → IsGoneOn u w
  gone_on u v w one two = record { parts = two.parts ∙ one.parts; back = λ m is. two.back m (one.back m is) }

  pub ok_gone_on : {E : Type 0} → (u v : SeatView W) (result : Result (SeatModel W) E) → IsGoneOn u v → IfOk result (λ (s : SeatModel W). IsGoneOn v s.view) → IfOk result (λ (s : SeatModel W). IsGoneOn u s.view)
  ok_gone_on u v (Ok s) first rest = gone_on u v s.view first rest
  ok_gone_on u v (Err e) first rest = tt

module _ {W : Type 0} (plan : ClaimPlan W) where
  -- the same nodes under another name
  pub held_as : (u : SeatView W) (P Q : ℕ → Type 0) → ((m : ℕ) → P m → Q m) → ((m : ℕ) → Q m → P m) → IsHeld plan u P → IsHeld plan u Q
  held_as u P Q there back held = record {
    settled = λ m below has. named m (held.settled m below has);
    ready = λ m is. held.ready m (back m is);
  }
    where
      named : (m : ℕ) → P m ⊎ IsSettled plan u m → Q m ⊎ IsSettled plan u m
      named m (inl is) = inl (there m is)
      named m (inr own) = inr own

  -- a node is kept: it stands at the end of the list
  pub kept_held : (u : SeatView W) (kept more : List ℕ) (n : ℕ) (F : ℕ → Type 0) → more ≡ kept ++ n ∷ [] → IsHeld plan u (λ m. (m ≡ n) ⊎ (IsListed kept m ⊎ F m)) → IsHeld plan u (λ m. IsListed more m ⊎ F m)
  kept_held u kept more n F eq held =
      subst (λ l. IsHeld plan u (λ m. IsListed l m ⊎ F m)) (sym eq) (held_as u (λ m. (m ≡ n) ⊎ (IsListed kept m ⊎ F m)) (λ m. IsListed (kept ++ n ∷ []) m ⊎ F m) (moved_in kept n F) (moved_out kept n F) held)

  -- a node is taken off the end of the list
  pub off_held : (u : SeatView W) (kept found rest : List ℕ) (n : ℕ) → found ≡ rest ++ n ∷ [] → IsHeld plan u (λ m. IsListed kept m ⊎ IsListed found m) → IsHeld plan u (λ m. (m ≡ n) ⊎ (IsListed kept m ⊎ IsListed rest m))
  off_held u kept found rest n eq held =
      held_as u (λ m. IsListed kept m ⊎ IsListed (rest ++ n ∷ []) m) (λ m. (m ≡ n) ⊎ (IsListed kept m ⊎ IsListed rest m)) out back (subst (λ l. IsHeld plan u (λ m. IsListed kept m ⊎ IsListed l m)) eq held)
    where
      out_found : (m : ℕ) → IsListed rest m ⊎ (m ≡ n) → (m ≡ n) ⊎ (IsListed kept m ⊎ IsListed rest m)
      out_found m (inl is) = inr (inr is)
      out_found m (inr e) = inl e

      out : (m : ℕ) → IsListed kept m ⊎ IsListed (rest ++ n ∷ []) m → (m ≡ n) ⊎ (IsListed kept m ⊎ IsListed rest m)
      out m (inl is) = inr (inl is)
      out m (inr is) = out_found m (listed_cases rest n m is)

      back : (m : ℕ) → (m ≡ n) ⊎ (IsListed kept m ⊎ IsListed rest m) → IsListed kept m ⊎ IsListed (rest ++ n ∷ []) m
      back m (inl e) = inr (subst (IsListed (rest ++ n ∷ [])) (sym e) (listed_last rest n))
      back m (inr (inl is)) = inl is
      back m (inr (inr is)) = inr (listed_first rest (n ∷ []) m is)

  -- the same where nothing else is kept
  pub popped_held : (u : SeatView W) (found rest : List ℕ) (n : ℕ) → found ≡ rest ++ n ∷ [] → IsHeld plan u (IsListed found) → IsHeld plan u (λ m. (m ≡ n) ⊎ IsListed rest m)
  popped_held u found rest n eq held =
      held_as u (IsListed (rest ++ n ∷ [])) (λ m. (m ≡ n) ⊎ IsListed rest m) (listed_where rest (rest ++ n ∷ []) n refl) back (subst (λ l. IsHeld plan u (IsListed l)) eq held)
    where
      back : (m : ℕ) → (m ≡ n) ⊎ IsListed rest m → IsListed (rest ++ n ∷ []) m
      back m (inl e) = subst (IsListed (rest ++ n ∷ [])) (sym e) (listed_last rest n)
      back m (inr is) = listed_first rest (n ∷ []) m is

  pub emptied_held : (u : SeatView W) (kept found : List ℕ) → found ≡ [] → IsHeld plan u (λ m. IsListed kept m ⊎ IsListed found m) → IsHeld plan u (IsListed kept)
  emptied_held u kept found eq held = held_as u (λ m. IsListed kept m ⊎ IsListed [] m) (IsListed kept) one (λ m is. inl is) (subst (λ l. IsHeld plan u (λ m. IsListed kept m ⊎ IsListed l m)) eq held)
    where
      one : (m : ℕ) → IsListed kept m ⊎ IsListed [] m → IsListed kept m
      one m (inl is) = is
      one m (inr is) = absurd (true_false (sym is))

  pub none_kept_held : (u : SeatView W) (kept found : List ℕ) → kept ≡ [] → IsHeld plan u (λ m. IsListed kept m ⊎ IsListed found m) → IsHeld plan u (IsListed found)
  none_kept_held u kept found eq held = held_as u (λ m. IsListed [] m ⊎ IsListed found m) (IsListed found) one (λ m is. inr is) (subst (λ l. IsHeld plan u (λ m. IsListed l m ⊎ IsListed found m)) eq held)
    where
      one : (m : ℕ) → IsListed [] m ⊎ IsListed found m → IsListed found m
      one m (inl is) = absurd (true_false (sym is))
      one m (inr is) = is

  -- a node that was found, beside an empty list
  pub found_held : (u : SeatView W) (n : ℕ) (kept : List ℕ) → kept ≡ [] → IsHeld plan u (OnlyNode n) → IsHeld plan u (λ m. (m ≡ n) ⊎ IsListed kept m)
  found_held u n kept eq held =
      subst (λ l. IsHeld plan u (λ m. (m ≡ n) ⊎ IsListed l m)) (sym eq) (held_as u (OnlyNode n) (λ m. (m ≡ n) ⊎ IsListed [] m) (λ m is. inl is) back held)
    where
      back : (m : ℕ) → (m ≡ n) ⊎ IsListed [] m → OnlyNode n m
      back m (inl e) = e
      back m (inr is) = absurd (true_false (sym is))

  -- what a round gave, beside an empty list
  pub found_cases : (u : SeatView W) (found : Option ℕ) (kept : List ℕ) → kept ≡ [] → MatchOption found (IsHeld plan u NoNode) (λ n. IsHeld plan u (OnlyNode n)) → MatchOption found (IsHeld plan u NoNode) (λ n. IsHeld plan u (λ m. (m ≡ n) ⊎ IsListed kept m))
  found_cases u None kept eq held = held
  found_cases u (Some n) kept eq held = found_held u n kept eq held

  -- other marks of nodes that are ready
  pub held_through : (u v : SeatView W) (P Q : ℕ → Type 0) → IsHeld plan u P → ((e : ℕ) → at v.outs e ≡ at u.outs e) → ((e : ℕ) → at v.late e ≡ at u.late e) → ((e : ℕ) → at v.ins e ≡ at u.ins e)
      → ((m : ℕ) → Q m → P m × (at v.nodes m ≡ Untaken))
      → ((m : ℕ) → Has v m → Q m ⊎ ((at v.nodes m ≡ at u.nodes m) × (P m → Q m)))
      → IsHeld plan v Q
  held_through u v P Q held outs lates ins stay others = record {
    settled = λ m below has. settle m below has (others m has);
    ready = λ m is. let own = held.ready m (stay m is).0 in record { within = own.within; input = own.input; new = record { untaken = (stay m is).1; untouched = λ e x there. let clean = own.new.untouched e x there in (λ from. outs e ∙ clean.0 from, λ to. ins e ∙ clean.1 to) } };
  }
    where
      settle_same : (m : ℕ) → at v.nodes m ≡ at u.nodes m → (P m → Q m) → P m ⊎ IsSettled plan u m → Q m ⊎ IsSettled plan v m
      settle_same m same named (inl is) = inl (named is)
      settle_same m same named (inr own) = inr (record { back = same ∙ own.back; delivered = λ e x there from. outs e ∙ own.delivered e x there from; late = λ e x there from. lates e ∙ own.late e x there from })

      settle : (m : ℕ) → m < plan.nodes → Has v m → Q m ⊎ ((at v.nodes m ≡ at u.nodes m) × (P m → Q m)) → Q m ⊎ IsSettled plan v m
      settle m below has (inl is) = inl is
      settle m below has (inr same) = settle_same m same.0 same.1 (held.settled m below (subst IsHadMark same.0 has))

  -- a node that was on offer
  pub accepted_held : (u v : SeatView W) (n : ℕ) → IsHeld plan u NoNode → v ≡ gets true n u → at u.nodes n ≡ Unmarked → IsUntouched plan u n → n < plan.nodes → 0 < inputs n plan.edges.items → IsHeld plan v (OnlyNode n)
  accepted_held u v n held eq fresh clean within input =
      subst (λ z. IsHeld plan z (OnlyNode n)) (sym eq) record {
        settled = λ m below has. dite (ℕ_discrete m n)
            (λ e. inl e)
            (λ ne. let same = at_put_else u.nodes n m Untaken ne in settle m same (held.settled m below (subst IsHadMark same has)));
        ready = λ m is. subst (IsReady plan (mark_node u n Untaken)) (sym is) (record { within = within; input = input; new = record { untaken = at_put u.nodes n Untaken; untouched = clean } });
      }
    where
      settle : (m : ℕ) → at (put u.nodes n Untaken) m ≡ at u.nodes m → NoNode m ⊎ IsSettled plan u m → OnlyNode n m ⊎ IsSettled plan (mark_node u n Untaken) m
      settle m same (inl none) = absurd none
      settle m same (inr own) = inr (record { back = same ∙ own.back; delivered = own.delivered; late = own.late })

  pub accepted_on : (u v : SeatView W) (n : ℕ) → v ≡ gets true n u → at u.nodes n ≡ Unmarked → IsGoneOn u v
  accepted_on u v n eq fresh =
      subst (IsGoneOn u) (sym eq) record {
        parts = refl;
        back = λ m is. at_put_else u.nodes n m Untaken (λ e. unmarked_put_back (sym fresh ∙ ap (λ k. at u.nodes k) (sym e) ∙ is)) ∙ is;
      }

  -- a node that is put on offer, and is taken back where the test is true
  module _ (u v : SeatView W) (n : ℕ) (P : ℕ → Type 0) (absent : P n → ⊥) (held : IsHeld plan u (λ m. (m ≡ n) ⊎ P m)) where
    own_ready : IsReady plan u n
    own_ready = held.ready n (inl refl)

    apart_from : (m : ℕ) → P m → m ≢ n
    apart_from m is e = absent (subst P e is)

    pub offered_held : v ≡ gets false n (mark_node u n Unmarked) → IsHeld plan v P
    offered_held eq =
        subst (λ z. IsHeld plan z P) (sym eq) (held_through u (mark_node u n Unmarked) (λ m. (m ≡ n) ⊎ P m) P held (λ e. refl) (λ e. refl) (λ e. refl)
        (λ m is. (inr is, at_put_else u.nodes n m Unmarked (apart_from m is) ∙ (held.ready m (inr is)).new.untaken))
        (λ m has. dite (ℕ_discrete m n)
        (λ e. absurd (subst IsHadMark (ap (λ k. at (put u.nodes n Unmarked) k) e ∙ at_put u.nodes n Unmarked) has))
        (λ ne. inr (at_put_else u.nodes n m Unmarked ne, other m ne))))
      where
        other : (m : ℕ) → m ≢ n → (m ≡ n) ⊎ P m → P m
        other m ne (inl e) = absurd (ne e)
        other m ne (inr is) = is

    same_marks : (m : ℕ) → at (put (put u.nodes n Unmarked) n Untaken) m ≡ at u.nodes m
    same_marks m = dite (ℕ_discrete m n)
        (λ e. ap (λ k. at (put (put u.nodes n Unmarked) n Untaken) k) e ∙ at_put (put u.nodes n Unmarked) n Untaken ∙ sym own_ready.new.untaken ∙ ap (λ k. at u.nodes k) (sym e))
        (λ ne. at_put_else (put u.nodes n Unmarked) n m Untaken ne ∙ at_put_else u.nodes n m Unmarked ne)

    pub taken_back_held : v ≡ gets true n (mark_node u n Unmarked) → IsHeld plan v (λ m. (m ≡ n) ⊎ P m)
    taken_back_held eq =
        subst (λ z. IsHeld plan z (λ m. (m ≡ n) ⊎ P m)) (sym eq) (held_through u (mark_node (mark_node u n Unmarked) n Untaken) (λ m. (m ≡ n) ⊎ P m) (λ m. (m ≡ n) ⊎ P m) held (λ e. refl) (λ e. refl) (λ e. refl)
        (λ m is. (is, same_marks m ∙ (held.ready m is).new.untaken))
        (λ m has. inr (same_marks m, λ is. is)))

    pub offered_on : v ≡ gets false n (mark_node u n Unmarked) → IsGoneOn u v
    offered_on eq =
        subst (IsGoneOn u) (sym eq) record {
          parts = refl;
          back = λ m is. at_put_else u.nodes n m Unmarked (λ e. untaken_put_back (sym own_ready.new.untaken ∙ ap (λ k. at u.nodes k) (sym e) ∙ is)) ∙ is;
        }

    pub taken_back_on : v ≡ gets true n (mark_node u n Unmarked) → IsGoneOn u v
    taken_back_on eq = subst (IsGoneOn u) (sym eq) record { parts = refl; back = λ m is. same_marks m ∙ is }

  -- seats are split and joined
  pub less_held : (n : ℕ) (u v : SeatView W) (P : ℕ → Type 0) → IsHeld plan u P → v ≡ less_parts n u → IsHeld plan v P
  less_held n u v P held eq =
      subst (λ z. IsHeld plan z P) (sym eq) (held_through u (less_parts n u) P P held (λ e. refl) (λ e. refl) (λ e. refl) (λ m is. (is, (held.ready m is).new.untaken)) (λ m has. inr (refl, λ is. is)))

  pub part_held : (n : ℕ) (u v : SeatView W) → v ≡ some_parts n u → IsHeld plan v NoNode
  part_held n u v eq =
      subst (λ z. IsHeld plan z NoNode) (sym eq) record {
        settled = λ m below has. absurd has;
        ready = λ m is. absurd is;
      }

  -- a mark of either of two seats
  either_cases : (P : Mark → Type 0) (a b : Mark) → (a ≡ Unmarked → P b) → (a ≢ Unmarked → P a) → P (either_mark a b)
  either_cases P Unmarked b none some_mark = none refl
  either_cases P InHand b none some_mark = some_mark (λ e. cc)
  either_cases P (Drawn t) b none some_mark = some_mark (λ e. cc)
  either_cases P Untaken b none some_mark = some_mark (λ e. cc)
  either_cases P Taken b none some_mark = some_mark (λ e. cc)
  either_cases P PutBack b none some_mark = some_mark (λ e. cc)
  either_cases P Delivered b none some_mark = some_mark (λ e. cc)

  module _ (u v : SeatView W) (one : IsHeld plan u NoNode) (two : IsHeld plan v NoNode) (marks : IsMarkedByFrom plan u) (lates : IsLateByFrom plan u) where
    -- an output edge of a node that the first does not have
    free_edge : (m : ℕ) → at u.nodes m ≡ Unmarked → (x : Edge) → x.from ≡ m → (mark : Mark) → Has u x.from ⊎ (mark ≡ Unmarked) → mark ≡ Unmarked
    free_edge m free x from mark (inl has) = absurd (subst IsHadMark (ap (λ k. at u.nodes k) from ∙ free) has)
    free_edge m free x from mark (inr none) = none

    settled_first : (m : ℕ) → NoNode m ⊎ IsSettled plan u m → NoNode m ⊎ IsSettled plan (both_views u v) m
    settled_first m (inl none) = absurd none
    settled_first m (inr own) = inr record {
      back = at_merge u.nodes v.nodes m ∙ ap (λ a. either_mark a (at v.nodes m)) own.back;
      delivered = λ e x there from. at_merge u.outs v.outs e ∙ ap (λ a. either_mark a (at v.outs e)) (own.delivered e x there from);
      late = λ e x there from. at_merge u.late v.late e ∙ ap (λ a. either_mark a (at v.late e)) (own.late e x there from);
    }

    settled_second : (m : ℕ) → at u.nodes m ≡ Unmarked → NoNode m ⊎ IsSettled plan v m → NoNode m ⊎ IsSettled plan (both_views u v) m
    settled_second m free (inl none) = absurd none
    settled_second m free (inr own) = inr record {
      back = at_merge u.nodes v.nodes m ∙ ap (λ a. either_mark a (at v.nodes m)) free ∙ own.back;
      delivered = λ e x there from. at_merge u.outs v.outs e ∙ ap (λ a. either_mark a (at v.outs e)) (free_edge m free x from (at u.outs e) (marks e x there)) ∙ own.delivered e x there from;
      late = λ e x there from. at_merge u.late v.late e ∙ ap (λ a. either_mark a (at v.late e)) (free_edge m free x from (at u.late e) (lates e x there)) ∙ own.late e x there from;
    }

    pub joined_held : (w : SeatView W) → w ≡ both_views u v → IsHeld plan w NoNode
    joined_held w eq =
        subst (λ z. IsHeld plan z NoNode) (sym eq) record {
          settled = λ m below has.
              (either_cases (λ mark. IsHadMark mark → NoNode m ⊎ IsSettled plan (both_views u v) m) (at u.nodes m) (at v.nodes m)
              (λ free had. settled_second m free (two.settled m below had))
              (λ marked had. settled_first m (one.settled m below had)))
              (subst IsHadMark (at_merge u.nodes v.nodes m) has);
          ready = λ m is. absurd is;
        }

  -- some parts of a seat go to another hand and come back
  pub gone_apart : (n : ℕ) (u v a one two w : SeatView W) → v ≡ less_parts n u → n < u.parts → one ≡ some_parts n u → IsGoneOn v a → IsGoneOn one two → w ≡ both_views a two → IsGoneOn u w
  gone_apart n u v a one two w cut enough part on other sum =
      let mine = on.parts in
      let theirs = other.parts in
      let less : v.parts ≡ u.parts - n = ap (λ (z : SeatView W). z.parts) cut in
      let given : one.parts ≡ n = ap (λ (z : SeatView W). z.parts) part in
      let all : w.parts ≡ a.parts + two.parts = ap (λ (z : SeatView W). z.parts) sum in
      record {
        parts = omega (arith, less, enough, given, mine, theirs, all);
        back = λ m is.
            let kept = on.back m (ap (λ (z : SeatView W). at z.nodes m) cut ∙ is) in
            ap (λ (z : SeatView W). at z.nodes m) sum ∙ at_merge a.nodes two.nodes m ∙ ap (λ k. either_mark k (at two.nodes m)) kept;
      }

  -- what two hands give
  pub joined_result_held : {E : Type 0} → (one other result : Result (SeatModel W) E) → IfOk one (λ (s : SeatModel W). IsHeld plan s.view NoNode) → IfOk other (λ (s : SeatModel W). IsHeld plan s.view NoNode)
      → IfOk result (IsJoined plan one other) → IfOk result (λ (s : SeatModel W). IsHeld plan s.view NoNode)
  joined_result_held one other (Ok s) mine theirs told =
      joined_held told.0.view told.1.view (subst (λ r. IfOk r (λ (t : SeatModel W). IsHeld plan t.view NoNode)) told.2 mine) (subst (λ r. IfOk r (λ (t : SeatModel W). IsHeld plan t.view NoNode)) told.3 theirs) told.4 told.5 s.view told.6
  joined_result_held one other (Err e) mine theirs told = tt

  pub joined_result_on : {E : Type 0} → (n : ℕ) (u v part : SeatView W) (one other result : Result (SeatModel W) E) → v ≡ less_parts n u → n < u.parts → part ≡ some_parts n u → IfOk one (λ (s : SeatModel W). IsGoneOn v s.view) → IfOk other (λ (s : SeatModel W). IsGoneOn part s.view)
      → IfOk result (IsJoined plan one other) → IfOk result (λ (s : SeatModel W). IsGoneOn u s.view)
  joined_result_on n u v part one other (Ok s) cut enough given mine theirs told =
      gone_apart n u v told.0.view part told.1.view s.view cut enough given (subst (λ r. IfOk r (λ (t : SeatModel W). IsGoneOn v t.view)) told.2 mine) (subst (λ r. IfOk r (λ (t : SeatModel W). IsGoneOn part t.view)) told.3 theirs) told.6
  joined_result_on n u v part one other (Err e) cut enough given mine theirs told = tt

  -- a node that was worked
  module _ (u v : SeatView W) (node : ℕ) (found : List ℕ) (P : ℕ → Type 0) (absent : P node → ⊥) (before : IsHeld plan u (λ m. (m ≡ node) ⊎ P m))
      (settled : IsSettled plan v node) (ready : (m : ℕ) → IsListed found m → IsReady plan v m) (came : (m : ℕ) → IsListed found m → at u.nodes m ≡ Unmarked)
      (others : KeepsOthers plan u v node found) where
    other_than : (m : ℕ) → P m → m ≢ node
    other_than m is e = absent (subst P e is)

    pub worked_apart : (m : ℕ) → P m → IsListed found m → ⊥
    worked_apart m is new = untaken_unmarked (sym (before.ready m (inr is)).new.untaken ∙ came m new)

    still_ready : (m : ℕ) → m ≢ node → IsReady plan u m → IsReady plan v m
    still_ready m ne own =
        let had : Has u m = has_mark (at u.nodes m) Untaken own.new.untaken tt in
        record {
          within = own.within;
          input = own.input;
          new = record {
            untaken = others.nodes m ne had ∙ own.new.untaken;
            untouched = λ e x there. let clean = own.new.untouched e x there in (λ from. others.outs m e ne had x there from ∙ clean.0 from, λ to. others.ins m e ne had x there to ∙ clean.1 to);
          };
        }

    still_settled : (m : ℕ) → m ≢ node → Has u m → IsSettled plan u m → IsSettled plan v m
    still_settled m ne had own = record { back = others.nodes m ne had ∙ own.back; delivered = λ e x there from. others.outs m e ne had x there from ∙ own.delivered e x there from; late = λ e x there from. others.lates m e ne had x there from ∙ own.late e x there from }

    pub worked_held : IsHeld plan v (λ m. P m ⊎ IsListed found m)
    worked_held = record {
      settled = λ m below has. dite (ℕ_discrete m node)
          (λ e. inr (subst (IsSettled plan v) (sym e) settled))
          (λ ne. known m below ne (others.only m has));
      ready = λ m is. named m is;
    }
      where
        named : (m : ℕ) → P m ⊎ IsListed found m → IsReady plan v m
        named m (inl is) = still_ready m (other_than m is) (before.ready m (inr is))
        named m (inr new) = ready m new

        old : (m : ℕ) → m ≢ node → Has u m → ((m ≡ node) ⊎ P m) ⊎ IsSettled plan u m → (P m ⊎ IsListed found m) ⊎ IsSettled plan v m
        old m ne had (inl (inl e)) = absurd (ne e)
        old m ne had (inl (inr is)) = inl (inl is)
        old m ne had (inr own) = inr (still_settled m ne had own)

        known : (m : ℕ) → m < plan.nodes → m ≢ node → Has u m ⊎ IsListed found m → (P m ⊎ IsListed found m) ⊎ IsSettled plan v m
        known m below ne (inl had) = old m ne had (before.settled m below had)
        known m below ne (inr new) = inl (inr new)

    pub worked_on : v.parts ≡ u.parts → IsGoneOn u v
    worked_on same = record {
      parts = same;
      back = λ m is.
          others.nodes m (λ e. untaken_put_back (sym (before.ready node (inl refl)).new.untaken ∙ ap (λ k. at u.nodes k) (sym e) ∙ is)) (has_mark (at u.nodes m) PutBack is tt) ∙ is;
    }

  -- with all parts: the nodes below one are put back, and then it is
  module _ (u v : SeatView W) (n : ℕ) (held : IsHeld plan u NoNode) (done : (m : ℕ) → m < n → at u.nodes m ≡ PutBack) (within : n < plan.nodes) where
    pub all_delivered : ((e : ℕ) (x : Edge) → get_elem? plan.edges.items e ≡ some x → (x.from < x.to) × (x.to < plan.nodes)) → InputsDelivered plan u n
    all_delivered ends e x there goes =
        let up = (ends e x there).0 in
        let back = done x.from (omega arith) in
        settle e x there (held.settled x.from (omega arith) (has_mark (at u.nodes x.from) PutBack back tt))
      where
        settle : (e : ℕ) (x : Edge) → get_elem? plan.edges.items e ≡ some x → NoNode x.from ⊎ IsSettled plan u x.from → at u.outs e ≡ Delivered
        settle e x there (inl none) = absurd none
        settle e x there (inr own) = own.delivered e x there refl

    pub back_where_had : IsHeld plan v NoNode → Has v n → at v.nodes n ≡ PutBack
    back_where_had after had = settle (after.settled n within had)
      where
        settle : NoNode n ⊎ IsSettled plan v n → at v.nodes n ≡ PutBack
        settle (inl none) = absurd none
        settle (inr own) = own.back

    pub rest_back : ((e : ℕ) (x : Edge) → get_elem? plan.edges.items e ≡ some x → (x.from < x.to) × (x.to < plan.nodes)) → IsGoneOn u v → IsHeld plan v NoNode → SourcesBack plan u → u.parts ≡ 1024
        → (0 < inputs n plan.edges.items → u.parts ≡ 1024 → InputsDelivered plan u n → Has v n) → at v.nodes n ≡ PutBack
    rest_back ends on after sources alone had = go (inputs n plan.edges.items) refl
      where
        go : (k : ℕ) → inputs n plan.edges.items ≡ k → at v.nodes n ≡ PutBack
        go zero is = on.back n (sources n within is)
        go (suc k) is = back_where_had after (had (omega (arith, is)) alone (all_delivered ends))

    pub more_done : IsGoneOn u v → at v.nodes n ≡ PutBack → (m : ℕ) → m < n + 1 → at v.nodes m ≡ PutBack
    more_done on here m less = dite (ℕ_discrete m n) (λ e. ap (λ k. at v.nodes k) e ∙ here) (λ ne. on.back m (done m (omega arith)))

  -- with each work put back, each edge was handed on late
  pub all_late : (u : SeatView W) → ((e : ℕ) (x : Edge) → get_elem? plan.edges.items e ≡ some x → (x.from < x.to) × (x.to < plan.nodes)) → IsHeld plan u NoNode → AllBack plan u → AllLate plan u
  all_late u ends held all e x there =
      let up = ends e x there in
      let below : x.from < plan.nodes = omega (arith, up) in
      settle (held.settled x.from below (has_mark (at u.nodes x.from) PutBack (all x.from below) tt))
    where
      settle : NoNode x.from ⊎ IsSettled plan u x.from → at u.late e ≡ Delivered
      settle (inl none) = absurd none
      settle (inr own) = own.late e x there refl

  pub sources_still : (u v : SeatView W) → IsGoneOn u v → SourcesBack plan u → SourcesBack plan v
  sources_still u v on sources m below is = on.back m (sources m below is)
