-- What is made of each of a list, a member at a time.
use Rattle.std.proofs.Common.{◌≡◌, refl, ap, sym, ◌∙◌, subst, ℕ, ◌+◌, ◌<◌, ◌≤◌, List, [], ◌∷◌, ◌++◌, length, take, drop, get_or, Result, Ok, Err}
use Rattle.std.proofs.lemmas.List.{take_more, take_all, take-append-drop, drop_more}
use Rattle.tick_model.{specs.declared.plan.ColumnSpec.ColumnSpec, specs.declared.plan.Expr.Expr}
use Rattle.script_lines.{specs.declared.fault.LineFault.LineFault, specs.declared.fault.ScriptKind.ScriptKind, specs.declared.line.Computed.Computed, specs.Answers.{◌>>=◌, Fails}}
use Rattle.script_lines.specs.declared.fault.LineFault.TheVariants as faults
use Rattle.script_reader.specs.Checks.{each, exprs_of, expr_of}

-- a refusal stays a refusal
pub fails_on : {X Y : Type 0} (fault : LineFault) (r : Result X ScriptKind) (f : X → Result Y ScriptKind) → Fails fault r → Fails fault (r >>= f)
fails_on faults.Memory r f h = tt
fails_on (faults.Refused kind) r f h = ap (λ x. x >>= f) h

ok_again : {X : Type 0} (r : Result X ScriptKind) → r ≡ r >>= (λ x. Ok x)
ok_again (Ok x) = refl
ok_again (Err kind) = refl

module _ {X Y : Type 0} (f : X → Result Y ScriptKind) where
  put_first : (y : Y) (a b : Result (List Y) ScriptKind)
      → (a >>= (λ ys. b >>= (λ zs. Ok (ys ++ zs)))) >>= (λ vs. Ok (y ∷ vs)) ≡ (a >>= (λ ys. Ok (y ∷ ys))) >>= (λ ys. b >>= (λ zs. Ok (ys ++ zs)))
  put_first y (Ok ys) (Ok zs) = refl
  put_first y (Ok ys) (Err kind) = refl
  put_first y (Err kind) b = refl

  one_first : (r : Result Y ScriptKind) (a b : Result (List Y) ScriptKind)
      → r >>= (λ y. (a >>= (λ ys. b >>= (λ zs. Ok (ys ++ zs)))) >>= (λ vs. Ok (y ∷ vs))) ≡ (r >>= (λ y. a >>= (λ ys. Ok (y ∷ ys)))) >>= (λ ys. b >>= (λ zs. Ok (ys ++ zs)))
  one_first (Ok y) a b = put_first y a b
  one_first (Err kind) a b = refl

  pub each-append : (xs zs : List X) → each f (xs ++ zs) ≡ each f xs >>= (λ ys. each f zs >>= (λ vs. Ok (ys ++ vs)))
  unfolding each
  each-append [] zs = ok_again (each f zs)
  each-append (x ∷ xs) zs =
      ap (λ r. f x >>= (λ y. r >>= (λ ys. Ok (y ∷ ys)))) (each-append xs zs) ∙ one_first (f x) (each f xs) (each f zs)

  -- one more member
  pub each_more : (xs : List X) (i : ℕ) (x : X) (done : List Y) (y : Y) → i < length xs → x ≡ get_or xs i x → each f (take i xs) ≡ Ok done → f x ≡ Ok y → each f (take (i + 1) xs) ≡ Ok (done ++ y ∷ [])
  unfolding each
  each_more xs i x done y within here so_far next =
      ap (each f) (take_more xs i x within ∙ ap (λ last. take i xs ++ last ∷ []) (sym here)) ∙ each-append (take i xs) (x ∷ [])
      ∙ ap (λ r. r >>= (λ ys. each f (x ∷ []) >>= (λ vs. Ok (ys ++ vs)))) so_far
      ∙ ap (λ r. (r >>= (λ y. Ok (y ∷ []))) >>= (λ vs. Ok (done ++ vs))) next

  -- a member that is refused
  pub each_fails : (fault : LineFault) (xs : List X) (i : ℕ) (x : X) (done : List Y) → i < length xs → x ≡ get_or xs i x → each f (take i xs) ≡ Ok done → Fails fault (f x) → Fails fault (each f xs)
  unfolding each
  each_fails fault xs i x done within here so_far fails =
      let cut : xs ≡ take i xs ++ (x ∷ drop (i + 1) xs) = sym (take-append-drop i xs) ∙ ap (λ rest. take i xs ++ rest) (drop_more xs i x within ∙ ap (λ first. first ∷ drop (i + 1) xs) (sym here)) in
      let all : each f xs ≡ each f (x ∷ drop (i + 1) xs) >>= (λ vs. Ok (done ++ vs)) =
      ap (each f) cut ∙ each-append (take i xs) (x ∷ drop (i + 1) xs) ∙ ap (λ r. r >>= (λ ys. each f (x ∷ drop (i + 1) xs) >>= (λ vs. Ok (ys ++ vs)))) so_far in
      subst (Fails fault) (sym all) (fails_on fault (each f (x ∷ drop (i + 1) xs)) (λ vs. Ok (done ++ vs)) (fails_on fault (f x) (λ y. each f (drop (i + 1) xs) >>= (λ ys. Ok (y ∷ ys))) fails))

  -- the last one
  pub each_all : (xs : List X) (i : ℕ) (done : List Y) → length xs ≤ i → each f (take i xs) ≡ Ok done → each f xs ≡ Ok done
  each_all xs i done past so_far = ap (each f) (sym (take_all i xs past)) ∙ so_far

  pub each_none : each f [] ≡ Ok []
  unfolding each
  each_none = refl

-- the same of formulas, whose texts are numbered in turn
abbrev Found : Type 0
Found = List Expr × List (List ℕ)

abbrev behind : List Expr → Found → Result Found ScriptKind
behind xs found = Ok (xs ++ found.0, found.1)

abbrev then_more : (List (List ℕ) → Result Found ScriptKind) → Found → Result Found ScriptKind
then_more more found = more found.1 >>= behind found.0

abbrev with_first : Expr → Found → Result Found ScriptKind
with_first x found = Ok (x ∷ found.0, found.1)

abbrev then_all : (List (List ℕ) → Result Found ScriptKind) → Expr × List (List ℕ) → Result Found ScriptKind
then_all more x = more x.1 >>= with_first x.0

-- a formula, the later ones and yet others
behind_first : (x : Expr) (u : Found) (r : Result Found ScriptKind) → (r >>= behind u.0) >>= with_first x ≡ r >>= behind (x ∷ u.0)
behind_first x u (Ok v) = refl
behind_first x u (Err kind) = refl

put_expr : (x : Expr) (a : Result Found ScriptKind) (b : List (List ℕ) → Result Found ScriptKind) → (a >>= then_more b) >>= with_first x ≡ (a >>= with_first x) >>= then_more b
put_expr x (Ok u) b = behind_first x u (b u.1)
put_expr x (Err kind) b = refl

one_expr : (r : Result (Expr × List (List ℕ)) ScriptKind) (a all b : List (List ℕ) → Result Found ScriptKind) → ((l : List (List ℕ)) → all l ≡ a l >>= then_more b) → r >>= then_all all ≡ (r >>= then_all a) >>= then_more b
one_expr (Ok x) a all b h = ap (λ r. r >>= with_first x.0) (h x.1) ∙ put_expr x.0 (a x.1) b
one_expr (Err kind) a all b h = refl

module _ (columns : List ColumnSpec) where
  pub exprs-append : (literals : List (List ℕ)) (xs zs : List Computed) → exprs_of columns literals (xs ++ zs) ≡ exprs_of columns literals xs >>= then_more (λ l. exprs_of columns l zs)
  unfolding exprs_of
  exprs-append literals [] zs = ok_again (exprs_of columns literals zs)
  exprs-append literals (x ∷ xs) zs =
      one_expr (expr_of columns literals x.formula) (λ l. exprs_of columns l xs) (λ l. exprs_of columns l (xs ++ zs)) (λ l. exprs_of columns l zs) (λ l. exprs-append l xs zs)

  pub exprs_more : (start : List (List ℕ)) (xs : List Computed) (i : ℕ) (x : Computed) (done : List Expr) (literals after : List (List ℕ)) (y : Expr) → i < length xs → x ≡ get_or xs i x → exprs_of columns start (take i xs) ≡ Ok (done, literals)
      → expr_of columns literals x.formula ≡ Ok (y, after) → exprs_of columns start (take (i + 1) xs) ≡ Ok (done ++ y ∷ [], after)
  unfolding exprs_of
  exprs_more start xs i x done literals after y within here so_far next =
      ap (exprs_of columns start) (take_more xs i x within ∙ ap (λ last. take i xs ++ last ∷ []) (sym here)) ∙ exprs-append start (take i xs) (x ∷ [])
      ∙ ap (λ r. r >>= then_more (λ l. exprs_of columns l (x ∷ []))) so_far
      ∙ ap (λ r. (r >>= then_all (λ l. Ok ([], l))) >>= behind done) next

  pub exprs_fail : (fault : LineFault) (start : List (List ℕ)) (xs : List Computed) (i : ℕ) (x : Computed) (done : List Expr) (literals : List (List ℕ)) → i < length xs → x ≡ get_or xs i x → exprs_of columns start (take i xs) ≡ Ok (done, literals)
      → Fails fault (expr_of columns literals x.formula) → Fails fault (exprs_of columns start xs)
  unfolding exprs_of
  exprs_fail fault start xs i x done literals within here so_far fails =
      let cut : xs ≡ take i xs ++ (x ∷ drop (i + 1) xs) = sym (take-append-drop i xs) ∙ ap (λ rest. take i xs ++ rest) (drop_more xs i x within ∙ ap (λ first. first ∷ drop (i + 1) xs) (sym here)) in
      let all : exprs_of columns start xs ≡ exprs_of columns literals (x ∷ drop (i + 1) xs) >>= behind done =
      ap (exprs_of columns start) cut ∙ exprs-append start (take i xs) (x ∷ drop (i + 1) xs) ∙ ap (λ r. r >>= then_more (λ l. exprs_of columns l (x ∷ drop (i + 1) xs))) so_far in
      subst (Fails fault) (sym all)
      (fails_on fault (exprs_of columns literals (x ∷ drop (i + 1) xs)) (behind done)
      (fails_on fault (expr_of columns literals x.formula) (then_all (λ l. exprs_of columns l (drop (i + 1) xs))) fails))

  pub exprs_all : (start : List (List ℕ)) (xs : List Computed) (i : ℕ) (done : List Expr) (literals : List (List ℕ)) → length xs ≤ i → exprs_of columns start (take i xs) ≡ Ok (done, literals) → exprs_of columns start xs ≡ Ok (done, literals)
  exprs_all start xs i done literals past so_far = ap (exprs_of columns start) (sym (take_all i xs past)) ∙ so_far

  pub exprs_none : (start : List (List ℕ)) → exprs_of columns start [] ≡ Ok ([], start)
  unfolding exprs_of
  exprs_none start = refl
