-- What the first seat has while the tables of the sources are handed on.
use Rattle.std.proofs.Common.{◌≡◌, ◌≢◌, ℕ, zero, suc, ◌+◌, ◌<◌, ◌≤◌, true, false, true≢false, sym, refl, ap, ◌∙◌, subst, arith, inl, inr, List, [], length}
use Rattle.std.specs.Prelude.{◌⊎◌}
use mathlib.Core.Logic.{dite}
use mathlib.Core.Option.{some}
use native.Mathlib.Decide.{ℕ_discrete}
use lib.ListN.{get_elem?}
use Rattle.graph_words.{specs.declared.graph.Edge.Edge, specs.declared.graph.ClaimPlan.ClaimPlan, specs.declared.table.Mark.TheVariants.{Untaken, Taken, PutBack}, specs.declared.table.SeatView.SeatView, specs.Marks.{IsHadMark, at, inputs, start_mark}, specs.Seats.Has, specs.Views.{first_view, mark_node}, proofs.Marks.{at_put, at_put_else, below_of}, proofs.Opens.at_starts}
use Rattle.steal_workers.{specs.Holdings.{IsHeld, IsNew, IsReady, IsSettled, SourcesBack}, specs.Lists.IsListed, proofs.Listing.{listed_first, listed_second, true_false}, proofs.Holding.has_mark}
use Rattle.tick_model.specs.declared.feed.Run.{Run}
use Rattle.update_graph.{specs.Edges.edges_of, specs.Holdings.{IsClaimed, IsOpened, IsUnopened}, specs.Steps.{IsHanding, IsListing}, specs.Tags.{Kept, is_operator}, proofs.Claimed.source_claimed, proofs.CrewNodes.listed_either, proofs.PlanEdges.{no_inputs, source_inputs}}

start_none : (n : ℕ) → IsHadMark (start_mark n) → n ≡ 0
start_none zero has = refl
start_none (suc n) has = absurd has

module _ (run : Run) (plan : ClaimPlan Kept) (claimed : IsClaimed run plan) where
  inputs_in : (n : ℕ) → inputs n plan.edges.items ≡ inputs n (edges_of run.plan)
  inputs_in n = ap (inputs n) claimed.edges

  mark_at : (n : ℕ) → n < plan.nodes → at (first_view plan).nodes n ≡ start_mark (inputs n plan.edges.items)
  mark_at n within = let same : 0 + n ≡ n = omega arith in at_starts plan.edges.items plan.nodes 0 n within ∙ ap (λ k. start_mark (inputs k plan.edges.items)) same

  within_run : (n : ℕ) → n < plan.nodes → n < length run.plan.nodes
  within_run n within = subst (λ k. n < k) claimed.nodes within

  first_source : (n : ℕ) → n < plan.nodes → Has (first_view plan) n → inputs n plan.edges.items ≡ 0
  first_source n within has = start_none (inputs n plan.edges.items) (subst IsHadMark (mark_at n within) has)

  untaken_at : (n : ℕ) → n < plan.nodes → inputs n plan.edges.items ≡ 0 → at (first_view plan).nodes n ≡ Untaken
  untaken_at n within none = mark_at n within ∙ ap start_mark none

  pub opened_first : IsOpened run plan (first_view plan) 0 []
  opened_first = record {
    parts = refl;
    settled = λ n less within has. absurd (omega arith);
    new = λ n more within has. inr (record {
      source = no_inputs run claimed.entered.lawful n (within_run n within) (sym (inputs_in n) ∙ first_source n within has);
      new = record { untaken = untaken_at n within (first_source n within has); untouched = λ e x there. ((λ from. refl), (λ goes. refl)) };
    });
    sources = λ n within is. has_mark (at (first_view plan).nodes n) Untaken (untaken_at n within (inputs_in n ∙ source_inputs run claimed.entered.lawful n (within_run n within) is)) tt;
    ready = λ n is. absurd (true_false (sym is));
  }

  -- a source is not ready as a node with input edges is
  module _ (v : SeatView Kept) (n : ℕ) (xs : List ℕ) (o : IsOpened run plan v n xs) where
    pub source_unlisted : (m : ℕ) → is_operator run m ≡ false → IsListed xs m → ⊥
    source_unlisted m is there =
        let own = o.ready m there in
        let none = inputs_in m ∙ source_inputs run claimed.entered.lawful m (within_run m own.within) is in
        let some_in = own.input in
        omega (arith, none, some_in)

    -- the next source
    pub next_unopened : n < plan.nodes → is_operator run n ≡ false → IsNew plan v n
    next_unopened within is = go (o.new n (omega arith) within (o.sources n within is))
      where
        go : IsListed xs n ⊎ IsUnopened run plan v n → IsNew plan v n
        go (inl there) = absurd (source_unlisted n is there)
        go (inr own) = own.new

    pub opened_skip : is_operator run n ≡ true → IsOpened run plan v (n + 1) xs
    opened_skip operator = record {
      parts = o.parts;
      settled = λ m less within has. dite (ℕ_discrete m n)
          (λ e. listed_here m e (o.new m (omega arith) within has))
          (λ ne. o.settled m (omega arith) within has);
      new = λ m more within has. o.new m (omega arith) within has;
      sources = o.sources;
      ready = o.ready;
    }
      where
        listed_here : (m : ℕ) → m ≡ n → IsListed xs m ⊎ IsUnopened run plan v m → IsListed xs m ⊎ IsSettled plan v m
        listed_here m e (inl there) = inl there
        listed_here m e (inr own) = absurd (true≢false (sym operator ∙ ap (is_operator run) (sym e) ∙ own.source))

    -- all sources are opened
    pub opened_held : plan.nodes ≤ n → IsHeld plan v (IsListed xs)
    opened_held all = record { settled = λ m within has. o.settled m (omega arith) within has; ready = o.ready }

    pub opened_back : plan.nodes ≤ n → SourcesBack plan v
    opened_back all m within none = go (o.settled m (omega arith) within (o.sources m within is))
      where
        is : is_operator run m ≡ false
        is = source_claimed run plan claimed m within none

        go : IsListed xs m ⊎ IsSettled plan v m → at v.nodes m ≡ PutBack
        go (inl there) = absurd (source_unlisted m is there)
        go (inr own) = own.back

    pub opened_had : (m : ℕ) → IsListed xs m → Has v m
    opened_had m there = has_mark (at v.nodes m) Untaken (o.ready m there).new.untaken tt

    -- what is listed is had while the next source is opened
    pub opened_kept : is_operator run n ≡ false → (a c : SeatView Kept) → a ≡ mark_node v n Taken → c ≡ mark_node a n PutBack → (m : ℕ) → IsListed xs m → Has c m
    opened_kept source_n a c taken put_back m there =
        let ne : m ≢ n = λ e. source_unlisted n source_n (subst (IsListed xs) e there) in
        let same =
        ap (λ (z : SeatView Kept). at z.nodes m) put_back ∙ at_put_else a.nodes n m PutBack ne
        ∙ ap (λ (z : SeatView Kept). at z.nodes m) taken ∙ at_put_else v.nodes n m Taken ne in
        has_mark (at c.nodes m) (at v.nodes m) same (opened_had m there)

  -- one more source is opened
  module _ (n : ℕ) (u a c d : SeatView Kept) (xs ys : List ℕ) (o : IsOpened run plan u n xs) (source_n : is_operator run n ≡ false) (taken : a ≡ mark_node u n Taken) (put_back : c ≡ mark_node a n PutBack) (h : IsHanding plan c d n (length plan.edges.items) xs ys) where
    l : IsListing plan c d n (length plan.edges.items) h.found
    l = h.listing

    late_same : (e : ℕ) → at c.late e ≡ at u.late e
    late_same e = ap (λ (z : SeatView Kept). at z.late e) put_back ∙ ap (λ (z : SeatView Kept). at z.late e) taken

    outs_same : (e : ℕ) → at c.outs e ≡ at u.outs e
    outs_same e = ap (λ (z : SeatView Kept). at z.outs e) put_back ∙ ap (λ (z : SeatView Kept). at z.outs e) taken

    ins_same : (e : ℕ) → at d.ins e ≡ at u.ins e
    ins_same e = ap (λ k. at k e) l.ins ∙ ap (λ (z : SeatView Kept). at z.ins e) put_back ∙ ap (λ (z : SeatView Kept). at z.ins e) taken

    nodes_same : (m : ℕ) → m ≢ n → at c.nodes m ≡ at u.nodes m
    nodes_same m other =
        ap (λ (z : SeatView Kept). at z.nodes m) put_back ∙ at_put_else a.nodes n m PutBack other
        ∙ ap (λ (z : SeatView Kept). at z.nodes m) taken ∙ at_put_else u.nodes n m Taken other

    back_here : at c.nodes n ≡ PutBack
    back_here = ap (λ (z : SeatView Kept). at z.nodes n) put_back ∙ at_put a.nodes n PutBack

    had_here : Has c n
    had_here = has_mark (at c.nodes n) PutBack back_here tt

    had_before : (m : ℕ) → Has u m → Has c m
    had_before m has = dite (ℕ_discrete m n)
        (λ e. has_mark (at c.nodes m) PutBack (ap (λ k. at c.nodes k) e ∙ back_here) tt)
        (λ ne. has_mark (at c.nodes m) (at u.nodes m) (nodes_same m ne) has)

    first_listed : (m : ℕ) → IsListed xs m → IsListed ys m
    first_listed m there = subst (λ k. IsListed k m) (sym h.listed) (listed_first xs h.found m there)

    second_listed : (m : ℕ) → IsListed h.found m → IsListed ys m
    second_listed m there = subst (λ k. IsListed k m) (sym h.listed) (listed_second xs h.found m there)

    -- a node that stays as it was
    still_at : (m : ℕ) → m ≢ n → Has u m → at d.nodes m ≡ at u.nodes m
    still_at m ne has = l.stays m (had_before m has) ∙ nodes_same m ne

    still_outs : (m : ℕ) → m ≢ n → (k : ℕ) (x : Edge) → get_elem? plan.edges.items k ≡ some x → x.from ≡ m → at d.outs k ≡ at u.outs k
    still_outs m ne k x there from = l.others k x there (λ e. ne (sym from ∙ e)) ∙ outs_same k

    new_still : (m : ℕ) → m ≢ n → Has u m → IsNew plan u m → IsNew plan d m
    new_still m ne has own = record {
      untaken = still_at m ne has ∙ own.untaken;
      untouched = λ k x there. ((λ from. still_outs m ne k x there from ∙ (own.untouched k x there).0 from), (λ goes. ins_same k ∙ (own.untouched k x there).1 goes));
    }

    ready_still : (m : ℕ) → IsListed xs m → IsReady plan d m
    ready_still m there =
        let own = o.ready m there in
        let ne : m ≢ n = λ e. source_unlisted u n xs o n source_n (subst (IsListed xs) e there) in
        record { within = own.within; input = own.input; new = new_still m ne (opened_had u n xs o m there) own.new }

    ready_now : (m : ℕ) → IsListed ys m → IsReady plan d m
    ready_now m there = go (listed_either xs h.found m (subst (λ k. IsListed k m) h.listed there))
      where
        go : IsListed xs m ⊎ IsListed h.found m → IsReady plan d m
        go (inl before) = ready_still m before
        go (inr own) = l.ready m own

    settled_other : (m : ℕ) → m ≢ n → Has u m → IsListed xs m ⊎ IsSettled plan u m → IsListed ys m ⊎ IsSettled plan d m
    settled_other m ne has (inl there) = inl (first_listed m there)
    settled_other m ne has (inr own) = inr (record { back = still_at m ne has ∙ own.back; delivered = λ k x there from. still_outs m ne k x there from ∙ own.delivered k x there from; late = λ k x there from. l.other_lates k x there (λ e. ne (sym from ∙ e)) ∙ late_same k ∙ own.late k x there from })

    new_other : (m : ℕ) → m ≢ n → Has u m → IsListed xs m ⊎ IsUnopened run plan u m → IsListed ys m ⊎ IsUnopened run plan d m
    new_other m ne has (inl there) = inl (first_listed m there)
    new_other m ne has (inr own) = inr (record { source = own.source; new = new_still m ne has own.new })

    settled_here : IsSettled plan d n
    settled_here = record { back = l.stays n had_here ∙ back_here; delivered = λ k x there from. l.delivered k x there (below_of plan.edges.items k x there) from; late = λ k x there from. l.late k x there (below_of plan.edges.items k x there) from }

    pub opened_more : IsOpened run plan d (n + 1) ys
    opened_more = record {
      parts = l.parts ∙ ap (λ (z : SeatView Kept). z.parts) put_back ∙ ap (λ (z : SeatView Kept). z.parts) taken ∙ o.parts;
      settled = λ m less within has. dite (ℕ_discrete m n)
          (λ e. inr (subst (IsSettled plan d) (sym e) settled_here))
          (λ ne. settled_came m less within ne has (l.came m));
      new = λ m more within has. new_came m more within (λ e. omega arith) has (l.came m);
      sources = λ m within is. has_mark (at d.nodes m) (at c.nodes m) (l.stays m (had_before m (o.sources m within is))) (had_before m (o.sources m within is));
      ready = ready_now;
    }
      where
        had_in : (m : ℕ) → m ≢ n → Has d m → at d.nodes m ≡ at c.nodes m → Has u m
        had_in m ne has same = has_mark (at u.nodes m) (at d.nodes m) (sym (same ∙ nodes_same m ne)) has

        settled_came : (m : ℕ) → m < n + 1 → m < plan.nodes → m ≢ n → Has d m → (at d.nodes m ≡ at c.nodes m) ⊎ IsListed h.found m → IsListed ys m ⊎ IsSettled plan d m
        settled_came m less within ne has (inl same) = settled_other m ne (had_in m ne has same) (o.settled m (omega arith) within (had_in m ne has same))
        settled_came m less within ne has (inr there) = inl (second_listed m there)

        new_came : (m : ℕ) → n + 1 ≤ m → m < plan.nodes → m ≢ n → Has d m → (at d.nodes m ≡ at c.nodes m) ⊎ IsListed h.found m → IsListed ys m ⊎ IsUnopened run plan d m
        new_came m more within ne has (inl same) = new_other m ne (had_in m ne has same) (o.new m (omega arith) within (had_in m ne has same))
        new_came m more within ne has (inr there) = inl (second_listed m there)
