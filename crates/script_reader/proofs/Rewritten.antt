-- A list that is rewritten in place, a member at a time.
use Rattle.std.proofs.Common.{◌≡◌, ap, sym, ◌∙◌, ℕ, ◌+◌, ◌<◌, ◌≤◌, arith, List, [], ◌∷◌, ◌++◌, length, map, take, drop, get_or, set}
use Rattle.std.proofs.lemmas.List.{map_more, map_push, take_more_set, take_all, drop_more, drop-drop, drop-set-lt, length-set, drop_all, append-nil}

-- the first members of the new list are seen by f as the old ones by g, and the others are the old ones
pub record IsRewritten {X Y : Type 0} (f g : X → Y) (i : ℕ) (old new : List X) : Type 0 where
  pub done : map f (take i new) ≡ map g (take i old)
  pub rest : drop i new ≡ drop i old
  pub long : length new ≡ length old

module _ {X Y : Type 0} (f g : X → Y) where
  same_here : (i : ℕ) (old new : List X) (d : X) → IsRewritten f g i old new → i < length new → get_or new i d ≡ get_or old i d
  same_here i old new d h within =
      let in_old : i < length old = omega (arith, h.long) in
      let cut : (get_or new i d ∷ drop (i + 1) new) ≡ (get_or old i d ∷ drop (i + 1) old) = sym (drop_more new i d within) ∙ h.rest ∙ drop_more old i d in_old in
      cc

  pub one_rewritten : (i : ℕ) (old new : List X) (x y : X) → IsRewritten f g i old new → i < length new → x ≡ get_or new i x → f y ≡ g x → IsRewritten f g (i + 1) old (set new i y)
  one_rewritten i old new x y h within here same =
      let in_old : i < length old = omega (arith, h.long) in
      let was : x ≡ get_or old i x = here ∙ same_here i old new x h within in
      record {
        done =
            ap (map f) (take_more_set new i y within) ∙ map_push f (take i new) y ∙ ap (λ ys. ys ++ f y ∷ []) h.done ∙ ap (λ z. map g (take i old) ++ z ∷ []) (same ∙ ap g was)
            ∙ sym (map_more g old i x in_old);
        rest = drop-set-lt (i + 1) new i y (omega arith) ∙ sym (drop-drop 1 i new) ∙ ap (drop 1) h.rest ∙ drop-drop 1 i old;
        long = length-set new i y ∙ h.long;
      }

  pub all_rewritten : (i : ℕ) (old new : List X) → IsRewritten f g i old new → length new ≤ i → map f new ≡ map g old
  all_rewritten i old new h past =
      ap (map f) (sym (take_all i new past)) ∙ h.done ∙ ap (map g) (take_all i old (omega (arith, h.long)))

-- all of a list is put back in its place
pub written_back : {X : Type 0} (xs old : List X) (n : ℕ) → length xs ≡ length old → n ≡ length old → take n (xs ++ drop (length xs) old) ≡ xs
written_back xs old n long count =
    ap (λ rest. take n (xs ++ rest)) (drop_all (length xs) old (omega (arith, long))) ∙ ap (take n) (append-nil xs) ∙ take_all n xs (omega (arith, long, count))
