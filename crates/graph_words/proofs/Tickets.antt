-- Tickets are drawn, and edges are handed on late.
use Rattle.std.proofs.Common.{◌≡◌, ◌≢◌, ℕ, zero, suc, ◌+◌, ◌<◌, ◌≤◌, Bool, true, false, List, sym, refl, ap, ◌∙◌, subst, arith}
use mathlib.Core.Logic.{dite}
use mathlib.Core.Option.{some, some-injective}
use native.Mathlib.Decide.{ℕ_discrete}
use lib.ListN.{get_elem?}
use Rattle.graph_words.{specs.declared.graph.Edge.Edge, specs.declared.graph.ClaimPlan.ClaimPlan, specs.declared.table.Mark.TheVariants.Unmarked, specs.Marks.when, specs.Rule.{Tickets, TicketsOk, late_mark, ticket_mark, tickets_below}, proofs.Marks.{upd, upd_at, upd_else, upd_cases}}

pub not_both : {A : Type 0} (b : Bool) → b ≡ false → b ≡ true → A
not_both b e f = absurd cc

-- how many have a ticket
tickets_same : (f g : ℕ → Bool) (n : ℕ) → ((m : ℕ) → m < n → g m ≡ f m) → tickets_below g n ≡ tickets_below f n
tickets_same f g zero same = refl
tickets_same f g (suc n) same =
    let here : when (g n) 1 ≡ when (f n) 1 = ap (λ b. when b 1) (same n (omega arith)) in
    let rest = tickets_same f g n (λ m lt. same m (omega arith)) in
    omega arith

tickets_more : (f g : ℕ → Bool) (k n : ℕ) → f k ≡ false → g k ≡ true → ((m : ℕ) → m ≢ k → g m ≡ f m) → k < n → tickets_below g n ≡ tickets_below f n + 1
tickets_more f g k zero off on same lt = absurd (omega arith)
tickets_more f g k (suc n) off on same lt = dite (ℕ_discrete n k)
    (λ e.
    let was : when (f n) 1 ≡ 0 = ap (λ j. when (f j) 1) e ∙ ap (λ b. when b 1) off in
    let is : when (g n) 1 ≡ 1 = ap (λ j. when (g j) 1) e ∙ ap (λ b. when b 1) on in
    let rest = tickets_same f g n (λ m less. same m (λ t. omega arith)) in
    omega arith)
    (λ ne.
    let here : when (g n) 1 ≡ when (f n) 1 = ap (λ b. when b 1) (same n ne) in
    let rest = tickets_more f g k n off on same (omega arith) in
    omega arith)

when_most : (b : Bool) → when b 1 ≤ 1
when_most true = omega arith
when_most false = omega arith

tickets_most : (f : ℕ → Bool) (n : ℕ) → tickets_below f n ≤ n
tickets_most f zero = omega arith
tickets_most f (suc n) =
    let here = when_most (f n) in
    let rest = tickets_most f n in
    omega arith

pub tickets_fewer : (f : ℕ → Bool) (k n : ℕ) → f k ≡ false → k < n → tickets_below f n < n
tickets_fewer f k zero off lt = absurd (omega arith)
tickets_fewer f k (suc n) off lt = dite (ℕ_discrete n k)
    (λ e.
    let was : when (f n) 1 ≡ 0 = ap (λ j. when (f j) 1) e ∙ ap (λ b. when b 1) off in
    let rest = tickets_most f n in
    omega arith)
    (λ ne.
    let here = when_most (f n) in
    let rest = tickets_fewer f k n off (omega arith) in
    omega arith)

pub tickets_none : (f : ℕ → Bool) (n : ℕ) → ((m : ℕ) → f m ≡ false) → tickets_below f n ≡ 0
tickets_none f zero off = refl
tickets_none f (suc n) off =
    let here : when (f n) 1 ≡ 0 = ap (λ b. when b 1) (off n) in
    let rest = tickets_none f n off in
    omega arith

pub tickets_all : (f : ℕ → Bool) (n : ℕ) → ((m : ℕ) → m < n → f m ≡ true) → tickets_below f n ≡ n
tickets_all f zero on = refl
tickets_all f (suc n) on =
    let here : when (f n) 1 ≡ 1 = ap (λ b. when b 1) (on n (omega arith)) in
    let rest = tickets_all f n (λ m lt. on m (omega arith)) in
    omega arith

-- the node k draws the ticket q, which is told where the test is true
abbrev pub drawn_for : Tickets → ℕ → ℕ → Bool → Tickets
drawn_for t q k b = record { ticket = upd t.ticket k q; told = upd t.told k b; holder = upd t.holder q k; late = t.late }

module _ {W : Type 0} (key : ClaimPlan W) where
  abbrev E : List Edge
  E = key.edges.items

  -- an edge whose `from` node has no ticket was not handed on late
  pub not_late : (t : Tickets) (f : ℕ → Bool) (count e : ℕ) (x : Edge) → TicketsOk key t f count → get_elem? E e ≡ some x → f x.from ≡ false → late_mark (t.late e) ≡ Unmarked
  not_late t f count e x o g off = cases (t.late e) refl
    where
      cases : (b : Bool) → t.late e ≡ b → late_mark (t.late e) ≡ Unmarked
      cases true is = not_both (f x.from) off (o.in_order e x g is).0
      cases false is = ap late_mark is

  -- a ticket that was not drawn was not told
  pub not_told : (t : Tickets) (f : ℕ → Bool) (count n : ℕ) → TicketsOk key t f count → f n ≡ false → ticket_mark (t.told n) (t.ticket n) ≡ Unmarked
  not_told t f count n o off = cases (t.told n) refl
    where
      cases : (b : Bool) → t.told n ≡ b → ticket_mark (t.told n) (t.ticket n) ≡ Unmarked
      cases true is = not_both (f n) off (o.told n is)
      cases false is = ap (λ b. ticket_mark b (t.ticket n)) is

  pub draws_one : (t : Tickets) (f g : ℕ → Bool) (q k : ℕ) (b : Bool) → ((e : ℕ) (x : Edge) → get_elem? E e ≡ some x → (x.from < x.to) × (x.to < key.nodes)) → TicketsOk key t f q → k < key.nodes
      → f k ≡ false → g k ≡ true → ((m : ℕ) → m ≢ k → g m ≡ f m) → TicketsOk key (drawn_for t q k b) g (q + 1)
  draws_one t f g q k b ends o kn off on same =
      let more = tickets_more f g k key.nodes off on same kn in
      let all = o.counted in
      let drawn_before : (n : ℕ) → f n ≡ true → n ≢ k = λ n is e. not_both (f n) (ap f e ∙ off) is in
      let own : upd t.ticket k q k ≡ q = upd_at t.ticket k q k refl in
      record {
        counted = omega arith;
        of_node = λ n nn is. dite (ℕ_discrete n k)
            (λ e.
            let mine : upd t.ticket k q n ≡ q = upd_at t.ticket k q n e in
            (omega arith, upd_at t.holder q k (upd t.ticket k q n) mine ∙ sym e))
            (λ ne.
            let was = o.of_node n nn (sym (same n ne) ∙ is) in
            let lt = was.0 in
            let kept : upd t.ticket k q n ≡ t.ticket n = upd_else t.ticket k q n ne in
            (omega arith, upd_else t.holder q k (upd t.ticket k q n) (λ e. omega arith) ∙ ap t.holder kept ∙ was.1));
        of_ticket = λ p lt. dite (ℕ_discrete p q)
            (λ e.
            let mine : upd t.holder q k p ≡ k = upd_at t.holder q k p e in
            (subst (λ n. n < key.nodes) (sym mine) kn, ap g mine ∙ on, ap (upd t.ticket k q) mine ∙ own ∙ sym e))
            (λ ne.
            let was = o.of_ticket p (omega arith) in
            let kept : upd t.holder q k p ≡ t.holder p = upd_else t.holder q k p ne in
            let other = drawn_before (t.holder p) was.1 in
            (subst (λ n. n < key.nodes) (sym kept) was.0, ap g kept ∙ same (t.holder p) other ∙ was.1, ap (upd t.ticket k q) kept ∙ upd_else t.ticket k q (t.holder p) other ∙ was.2));
        told = λ n is. dite (ℕ_discrete n k)
            (λ e. ap g e ∙ on)
            (λ ne. same n ne ∙ o.told n (sym (upd_else t.told k b n ne) ∙ is));
        in_order = λ e x at_e is.
            let was = o.in_order e x at_e is in
            let end = ends e x at_e in
            let other = drawn_before x.from was.0 in
            let first : upd t.ticket k q x.from ≡ t.ticket x.from = upd_else t.ticket k q x.from other in
            let low = (o.of_node x.from (omega arith) was.0).0 in
            (same x.from other ∙ was.0, λ to_has. upd_cases t.ticket k q x.to (λ p. upd t.ticket k q x.from < p) (λ _. omega arith) (λ ne. let less = was.1 (sym (same x.to ne) ∙ to_has) in omega arith));
      }

  pub hands_late : (t : Tickets) (f : ℕ → Bool) (count e : ℕ) (x : Edge) → TicketsOk key t f count → get_elem? E e ≡ some x → f x.from ≡ true → f x.to ≡ false
      → TicketsOk key (record t { late = upd t.late e true }) f count
  hands_late t f count e x o at_e on off = record {
    counted = o.counted;
    of_node = o.of_node;
    of_ticket = o.of_ticket;
    told = o.told;
    in_order = λ d y at_d is. dite (ℕ_discrete d e)
        (λ same.
        let yx : x ≡ y = some-injective x y (sym at_e ∙ (ap (λ k. get_elem? E k) (sym same) ∙ at_d)) in
        (ap (λ (z : Edge). f z.from) (sym yx) ∙ on, λ has. not_both (f y.to) (ap (λ (z : Edge). f z.to) (sym yx) ∙ off) has))
        (λ ne. o.in_order d y at_d (sym (upd_else t.late e true d ne) ∙ is));
  }
