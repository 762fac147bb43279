-- The key bounds of a plan's nodes, one node after the other.
use Rattle.std.proofs.Common.{◌≡◌, refl, ap, sym, ◌∙◌, Bool, true, false, ◌&&◌, ℕ, zero, suc, ◌+◌, ◌<◌, ◌≤◌, arith, List, [], ◌∷◌, ◌++◌, length, take, get_or, append_assoc, length-append, length-take}
use Rattle.std.{specs.Prelude.{fold, nat_lt}, specs.List.{All, AllByRecursion, list_all}, proofs.lemmas.Bool.le-ltb, proofs.lemmas.Bool.Decides.{Decides-by_and, Decides-ltb}, proofs.lemmas.List.{append-nil, get_or_append_left}, proofs.Math.Seq.get_or-append_seam, proofs.lemmas.List.Folds.list_all-append, proofs.lemmas.List.Sums.fold_more}
use Rattle.key_lists.{proofs.Every.every_weaker, proofs.Booleans.and_false}
use Rattle.tick_model.{specs.declared.plan.Node.Node, specs.Operators.{inputs_of, bound_of}, specs.Plans.{with_bound, key_bounds}, proofs.Results.bound_same}

-- later nodes put their bounds behind
pub bounds_go_on : (nodes : List Node) (bounds : List ℕ) → (others : List ℕ) × (fold with_bound bounds nodes ≡ bounds ++ others)
bounds_go_on [] bounds = ([], sym (append-nil bounds))
bounds_go_on (node ∷ nodes) bounds =
    let bound = bound_of node.op (λ input. get_or bounds input 0) in
    let more = bounds_go_on nodes (with_bound bounds node) in
    (bound ∷ more.0, more.1 ∙ append_assoc bounds (bound ∷ []) more.0)

-- the bounds of the first nodes stand first
pub first_bounds : (nodes : List Node) (n : ℕ) → (others : List ℕ) × (key_bounds nodes ≡ key_bounds (take n nodes) ++ others)
first_bounds nodes n = from nodes n []
  where
    from : (nodes : List Node) (n : ℕ) (bounds : List ℕ) → (others : List ℕ) × (fold with_bound bounds nodes ≡ fold with_bound bounds (take n nodes) ++ others)
    from nodes zero bounds = bounds_go_on nodes bounds
    from [] (suc n) bounds = ([], sym (append-nil bounds))
    from (node ∷ nodes) (suc n) bounds = from nodes n (with_bound bounds node)

-- one bound more
pub bounds_more : (nodes : List Node) (n : ℕ) (node : Node) → n < length nodes → node ≡ get_or nodes n node → key_bounds (take (n + 1) nodes) ≡ with_bound (key_bounds (take n nodes)) node
bounds_more nodes n node within here = fold_more with_bound [] nodes n node within ∙ ap (with_bound (key_bounds (take n nodes))) (sym here)

-- one bound that fails settles the answer
pub bound_fails : (limit : ℕ) (nodes : List Node) (n : ℕ) (node : Node) (bounds : List ℕ) (bound : ℕ) → n < length nodes → node ≡ get_or nodes n node → bounds ≡ key_bounds (take n nodes)
    → bound ≡ bound_of node.op (λ input. get_or bounds input 0) → limit ≤ bound → list_all (λ bound. nat_lt bound limit) (key_bounds nodes) ≡ false
bound_fails limit nodes n node bounds bound within here known own past =
    let more = first_bounds nodes (n + 1) in
    let test : List ℕ → Bool = list_all (λ bound. nat_lt bound limit) in
    ap test (more.1 ∙ ap (λ first. first ++ more.0) (bounds_more nodes n node within here ∙ ap (λ bounds. with_bound bounds node) (sym known) ∙ ap (λ bound. bounds ++ bound ∷ []) (sym own)))
    ∙ list_all-append (λ bound. nat_lt bound limit) (bounds ++ bound ∷ []) more.0
    ∙ ap (λ b. b && test more.0) (list_all-append (λ bound. nat_lt bound limit) bounds (bound ∷ []) ∙ ap (λ b. test bounds && (b && true)) (le-ltb bound limit past) ∙ and_false (test bounds))

pub bounds_pass : (limit : ℕ) (bounds : List ℕ) → All (λ bound. bound < limit) bounds → list_all (λ bound. nat_lt bound limit) bounds ≡ true
bounds_pass limit bounds h = (Decides-by_and (λ bound. nat_lt bound limit) (λ bound. bound < limit) (list_all (λ bound. nat_lt bound limit)) (λ bound. Decides-ltb bound limit) refl (λ _ _. refl) bounds).1 h

-- the bound of a node
abbrev pub key_bound : List Node → ℕ → ℕ
key_bound nodes node = get_or (key_bounds nodes) node 0

pub length-key_bounds : (nodes : List Node) → length (key_bounds nodes) ≡ length nodes
length-key_bounds nodes = let none : 0 + length nodes ≡ length nodes = omega arith in from nodes [] ∙ none
  where
    from : (nodes : List Node) (bounds : List ℕ) → length (fold with_bound bounds nodes) ≡ length bounds + length nodes
    from [] bounds = omega arith
    from (node ∷ nodes) bounds =
        let bound = bound_of node.op (λ input. get_or bounds input 0) in
        from nodes (with_bound bounds node) ∙ ap (λ n. n + length nodes) (length-append bounds (bound ∷ [])) ∙ omega arith

-- a node's bound is that of its operator over its inputs' bounds
pub bound_here : (nodes : List Node) (n : ℕ) (node : Node) → n < length nodes → node ≡ get_or nodes n node → AllByRecursion (λ input. input < n) (inputs_of node.op) → key_bound nodes n ≡ bound_of node.op (key_bound nodes)
bound_here nodes n node within here lesser =
    let known = key_bounds (take n nodes) in
    let own = bound_of node.op (λ input. get_or known input 0) in
    let more = first_bounds nodes (n + 1) in
    let count : length known ≡ n = length-key_bounds (take n nodes) ∙ length-take n nodes ∙ omega arith in
    let all : key_bounds nodes ≡ (known ++ own ∷ []) ++ more.0 = more.1 ∙ ap (λ first. first ++ more.0) (bounds_more nodes n node within here) in
    let places : length (known ++ own ∷ []) ≡ length known + 1 = length-append known (own ∷ []) in
    ap (λ bounds. get_or bounds n 0) all
    ∙ get_or_append_left (known ++ own ∷ []) more.0 0 n (omega (arith, places, count))
    ∙ ap (λ k. get_or (known ++ own ∷ []) k 0) (sym count)
    ∙ get_or-append_seam known own [] 0
    ∙ bound_same node.op (λ input. get_or known input 0) (key_bound nodes)
    (every_weaker (λ input. input < n) (λ input. get_or known input 0 ≡ key_bound nodes input) (inputs_of node.op)
    (λ input before.
    let low : input < length known = omega (arith, before, count) in
    sym (get_or_append_left known (own ∷ []) 0 input low) ∙ sym (get_or_append_left (known ++ own ∷ []) more.0 0 input (omega (arith, low, places))) ∙ ap (λ bounds. get_or bounds input 0) (sym all))
    lesser)

pub bound_below : (limit : ℕ) (nodes : List Node) (n : ℕ) → list_all (λ bound. nat_lt bound limit) (key_bounds nodes) ≡ true → n < length nodes → key_bound nodes n < limit
bound_below limit nodes n h within =
    (Decides-by_and (λ bound. nat_lt bound limit) (λ bound. bound < limit) (list_all (λ bound. nat_lt bound limit)) (λ bound. Decides-ltb bound limit) refl (λ _ _. refl) (key_bounds nodes)).0 h n 0 (omega (arith, length-key_bounds nodes))
