-- The last of several matches, and the latest, with one row more.
use Rattle.std.proofs.Common.{◌≡◌, refl, ap, sym, ◌∙◌, ℕ, ◌+◌, ◌<◌, true, false, cond, List, [], ◌∷◌, ◌++◌, take, length, get_or, Option, Some, None}
use Rattle.std.{proofs.lemmas.List.append-nil, proofs.lemmas.List.Elements.filter_more, specs.List.last_or}
use Rattle.tick_model.{specs.declared.table.PlainRow.PlainRow, specs.declared.plan.OnPair.OnPair, specs.Join.{agree, matches}}

pub last_or_push : {X : Type 0} (o : Option X) (xs : List X) (x : X) → last_or o (xs ++ x ∷ []) ≡ Some x
last_or_push o [] x = refl
last_or_push o (y ∷ ys) x = last_or_push (Some y) ys x

-- one right row more, which matches or does not
pub matched_more : (on : List OnPair) (rows : List PlainRow) (left : PlainRow) (i : ℕ) (row : PlainRow) → i < length rows → row ≡ get_or rows i row → agree on left row ≡ true
    → Some row ≡ last_or None (matches on (take (i + 1) rows) left)
matched_more on rows left i row within here found =
    sym (ap (last_or None) (filter_more (agree on left) rows i row within ∙ ap (λ next. matches on (take i rows) left ++ cond (agree on left next) (next ∷ []) []) (sym here)
    ∙ ap (λ b. matches on (take i rows) left ++ cond b (row ∷ []) []) found)
    ∙ last_or_push None (matches on (take i rows) left) row)

pub unmatched_more : (on : List OnPair) (rows : List PlainRow) (left : PlainRow) (i : ℕ) (row : PlainRow) → i < length rows → row ≡ get_or rows i row → agree on left row ≡ false
    → matches on (take i rows) left ≡ matches on (take (i + 1) rows) left
unmatched_more on rows left i row within here off =
    sym (filter_more (agree on left) rows i row within ∙ ap (λ next. matches on (take i rows) left ++ cond (agree on left next) (next ∷ []) []) (sym here)
    ∙ ap (λ b. matches on (take i rows) left ++ cond b (row ∷ []) []) off ∙ append-nil (matches on (take i rows) left))
