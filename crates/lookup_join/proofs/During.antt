-- Those members of a group whose times are from one moment on, until another.
use Rattle.std.proofs.Common.{◌≡◌, refl, ap, ap₂, sym, ◌∙◌, subst, Bool, true, false, cond, ◌&&◌, ℕ, zero, suc, ◌+◌, ◌<◌, ◌≤◌, ◌⊎◌, inl, inr, arith, List, [], ◌∷◌, ◌++◌, filter, length, take, drop, Option, Some, None, ℤ, pos, append_assoc, true≢false}
use Rattle.std.{specs.Prelude.{int_le, int_lt, option_map, slice_get, slice_index_or}, specs.Option.option_map_or, specs.List.{AllByRecursion, count_by}, proofs.lemmas.Int.ints, proofs.lemmas.List.map-append, proofs.lemmas.List.Sums.length-filter, proofs.lemmas.Option.{none-some, slice_get-map, same_Some}}
use Rattle.key_lists.proofs.Every.{every, every_weaker, filter_none, filter_same}
use Rattle.lookup_join.{specs.Latest.{count_before, during}, proofs.Latests.Timed, proofs.Walks.get_index}
use Rattle.row_groups.{proofs.Order.later_too, specs.Members.{Member, keys_of, member_of}}
use Rattle.shown_rows.proofs.Walks.{chosen_more, take_next}
use Rattle.tick_laws.proofs.ResultCells.{length-filter_most}

module _ {X : Type 0} (P : X → Type 0) where
  drop_place : (k n : ℕ) (xs : List X) (x : X) → AllByRecursion P (drop k xs) → k ≤ n → slice_get xs n ≡ Some x → P x
  drop_place k n [] x h least e = absurd (none-some x e)
  drop_place zero zero (y ∷ xs) x h least e = subst P (same_Some _ _ e) h.0
  drop_place zero (suc n) (y ∷ xs) x h least e = drop_place zero n xs x h.1 (omega arith) e
  drop_place (suc k) zero (y ∷ xs) x h least e = absurd (omega arith)
  drop_place (suc k) (suc n) (y ∷ xs) x h least e = drop_place k n xs x h (omega arith) e

  drop_more : (k n : ℕ) (xs : List X) → AllByRecursion P (drop k xs) → k ≤ n → AllByRecursion P (drop n xs)
  drop_more zero zero xs h least = h
  drop_more (suc k) zero xs h least = absurd (omega arith)
  drop_more zero (suc n) [] h least = tt
  drop_more (suc k) (suc n) [] h least = tt
  drop_more zero (suc n) (x ∷ xs) h least = drop_more zero n xs h.1 (omega arith)
  drop_more (suc k) (suc n) (x ∷ xs) h least = drop_more k n xs h (omega arith)

drop_all : {X : Type 0} (P : X → Type 0) (xs : List X) → AllByRecursion P (drop (length xs) xs)
drop_all P [] = tt
drop_all P (x ∷ xs) = drop_all P xs

filter_front : {X : Type 0} (p : X → Bool) (n : ℕ) (xs : List X) → AllByRecursion (λ x. p x ≡ false) (drop n xs) → filter p (take n xs) ≡ filter p xs
filter_front p zero [] h = refl
filter_front p zero (x ∷ xs) h = sym (filter_none p (x ∷ xs) h)
filter_front p (suc n) [] h = refl
filter_front p (suc n) (x ∷ xs) h = ap (λ rest. cond (p x) (x ∷ rest) rest) (filter_front p n xs h)

-- the members before a time are the first ones
module _ (bound : ℤ) where
  abbrev below : Member → Bool
  below member = int_lt member.at bound

  abbrev count : List Member → ℕ
  count members = length (filter below members)

  others_above : (member : Member) (members : List Member) → AllByRecursion (λ (other : Member). int_lt other.at member.at ≡ false) members → below member ≡ false → AllByRecursion (λ other. below other ≡ false) members
  others_above member members h e = every_weaker (λ (other : Member). int_lt other.at member.at ≡ false) (λ other. below other ≡ false) members (λ other later. later_too bound member.at other.at e later) h

  first_below : (members : List Member) → Timed members → AllByRecursion (λ member. below member ≡ true) (take (count members) members)
  first_below [] h = tt
  first_below (member ∷ members) h = by (below member) refl (first_below members h.1)
    where
      by : (b : Bool) → below member ≡ b → AllByRecursion (λ member. below member ≡ true) (take (count members) members) → AllByRecursion (λ member. below member ≡ true) (take (length (cond b (member ∷ filter below members) (filter below members))) (member ∷ members))
      by true e rest = (e, rest)
      by false e rest = subst (λ (xs : List Member). AllByRecursion (λ member. below member ≡ true) (take (length xs) (member ∷ members))) (sym (filter_none below members (others_above member members h.0 e))) tt

  rest_above : (members : List Member) → Timed members → AllByRecursion (λ member. below member ≡ false) (drop (count members) members)
  rest_above [] h = tt
  rest_above (member ∷ members) h = by (below member) refl (rest_above members h.1)
    where
      by : (b : Bool) → below member ≡ b → AllByRecursion (λ member. below member ≡ false) (drop (count members) members) → AllByRecursion (λ member. below member ≡ false) (drop (length (cond b (member ∷ filter below members) (filter below members))) (member ∷ members))
      by true e rest = rest
      by false e rest = subst (λ (xs : List Member). AllByRecursion (λ member. below member ≡ false) (drop (length xs) (member ∷ members))) (sym (filter_none below members (others_above member members h.0 e))) (e, others_above member members h.0 e)

  pub before_count : (members : List Member) → Timed members → AllByRecursion (λ member. below member ≡ true) (take (count_by below members) members)
  before_count members h = subst (λ n. AllByRecursion (λ member. below member ≡ true) (take n members)) (length-filter below members) (first_below members h)

  pub after_count : (members : List Member) → Timed members → AllByRecursion (λ member. below member ≡ false) (drop (count_by below members) members)
  after_count members h = subst (λ n. AllByRecursion (λ member. below member ≡ false) (drop n members)) (length-filter below members) (rest_above members h)

pub count_within : (until : Option ℤ) (members : List Member) → count_before until members ≤ length members
count_within None members = omega arith
count_within (Some last) members = subst (λ n. n ≤ length members) (length-filter (λ (member : Member). int_lt member.at last) members) (length-filter_most (λ (member : Member). int_lt member.at last) members)

too_early : (a from : ℤ) → int_lt a from ≡ true → int_le from a ≡ false
too_early a from e = grind (arith, ints)

in_time : (a from : ℤ) → int_lt a from ≡ false → int_le from a ≡ true
in_time a from e = grind (arith, ints)

module _ (from : ℤ) (until : Option ℤ) (members : List Member) (timed : Timed members) where
  abbrev after : Member → Bool
  after member = int_le from member.at

  -- none of those before the first moment
  none_after : (start : ℕ) → start ≡ count_by (λ (member : Member). int_lt member.at from) members → AllByRecursion (λ member. after member ≡ false) (take start members)
  none_after start is =
      every_weaker (λ (member : Member). int_lt member.at from ≡ true) (λ member. after member ≡ false) (take start members) (λ member e. too_early member.at from e)
      (subst (λ n. AllByRecursion (λ (member : Member). int_lt member.at from ≡ true) (take n members)) (sym is) (before_count from members timed))

  pub none_first : (start : ℕ) → start ≡ count_by (λ (member : Member). int_lt member.at from) members → filter after (take start members) ≡ []
  none_first start is = filter_none after (take start members) (none_after start is)

  -- all of those from it on
  each_after : (start n : ℕ) (member : Member) → start ≡ count_by (λ (member : Member). int_lt member.at from) members → start ≤ n → slice_get members n ≡ Some member → after member ≡ true
  each_after start n member s least here =
      in_time member.at from (drop_place (λ (member : Member). int_lt member.at from ≡ false) start n members member (subst (λ n. AllByRecursion (λ (member : Member). int_lt member.at from ≡ false) (drop n members)) (sym s) (after_count from members timed)) least here)

  -- one key more
  pub one_after : (start n key : ℕ) (first so_far : List ℕ) → start ≡ count_by (λ (member : Member). int_lt member.at from) members → start ≤ n → n < length members → slice_get (keys_of members) n ≡ Some key
      → so_far ≡ first ++ keys_of (filter after (take n members)) → so_far ++ key ∷ [] ≡ first ++ keys_of (filter after (take (n + 1) members))
  one_after start n key first so_far s least within here is =
      ap₂ (λ xs key. xs ++ key ∷ []) is key_is
      ∙ append_assoc first (keys_of (filter after (take n members))) (member.key ∷ [])
      ∙ ap (λ ks. first ++ ks)
      (sym (map-append (λ (member : Member). member.key) (filter after (take n members)) (member ∷ []))
      ∙ ap keys_of (chosen_more after (take n members) member (filter after (take n members)) (filter after (take n members) ++ member ∷ []) true refl (sym (each_after start n member s least at_place)) refl ∙ ap (filter after) (sym (take_next members n member at_place))))
    where
      member : Member
      member = slice_index_or members n (member_of 0 [] (pos 0))

      at_place : slice_get members n ≡ Some member
      at_place = get_index members n (member_of 0 [] (pos 0)) within

      key_is : key ≡ member.key
      key_is = same_Some _ _ (sym here ∙ slice_get-map (λ (member : Member). member.key) members n ∙ ap (option_map (λ (member : Member). member.key)) at_place)

  -- none of those from the other moment on
  all_first : (end n : ℕ) → end ≡ count_before until members → end ≤ n → filter (during from until) (take n members) ≡ filter (during from until) members
  all_first end n e least = filter_front (during from until) n members (by until e)
    where
      second : (a b : Bool) → b ≡ false → (a && b) ≡ false
      second true b e = e
      second false b e = refl

      by : (o : Option ℤ) → end ≡ count_before o members → AllByRecursion (λ member. during from o member ≡ false) (drop n members)
      by None e = drop_more (λ member. during from None member ≡ false) end n members (subst (λ k. AllByRecursion (λ member. during from None member ≡ false) (drop k members)) (sym e) (drop_all (λ member. during from None member ≡ false) members)) least
      by (Some last) e =
          drop_more (λ member. during from (Some last) member ≡ false) end n members
          (every_weaker (λ (member : Member). int_lt member.at last ≡ false) (λ member. during from (Some last) member ≡ false) (drop end members) (λ member. second (int_le from member.at) (int_lt member.at last))
          (subst (λ k. AllByRecursion (λ (member : Member). int_lt member.at last ≡ false) (drop k members)) (sym e) (after_count last members timed))) least

  -- those that come before it are told by the first moment alone
  same_until : (end : ℕ) → end ≡ count_before until members → filter after (take end members) ≡ filter (during from until) (take end members)
  same_until end e = filter_same after (during from until) (take end members) (by until e)
    where
      with_true : (a b : Bool) → b ≡ true → a ≡ (a && b)
      with_true true b e = sym e
      with_true false b e = refl

      by : (o : Option ℤ) → end ≡ count_before o members → AllByRecursion (λ member. after member ≡ during from o member) (take end members)
      by None e = every (λ member. after member ≡ during from None member) (take end members) (λ member. with_true (after member) true refl)
      by (Some last) e =
          every_weaker (λ (member : Member). int_lt member.at last ≡ true) (λ member. after member ≡ during from (Some last) member) (take end members) (λ member. with_true (after member) (int_lt member.at last))
          (subst (λ n. AllByRecursion (λ (member : Member). int_lt member.at last ≡ true) (take n members)) (sym e) (before_count last members timed))

  -- a walk that begins at the first moment's place, and ends at that of the other one, or where it began
  pub all_done : (start end n : ℕ) → start ≡ count_by (λ (member : Member). int_lt member.at from) members → end ≡ count_before until members → start ≤ n → end ≤ n → (n ≤ start) ⊎ (n ≤ end) → filter after (take n members) ≡ filter (during from until) members
  all_done start end n s e least past most =
      elim most [
        | inl begun ↦
            ap (λ k. filter after (take k members)) (same start n begun least)
            ∙ none_first start s
            ∙ sym (ap (λ k. filter (during from until) (take k members)) (same start n begun least) ∙ none_during)
            ∙ all_first end n e past
        | inr ended ↦ ap (λ k. filter after (take k members)) (same end n ended past) ∙ same_until end e ∙ all_first end end e (omega arith)
      ]
    where
      same : (k n : ℕ) → n ≤ k → k ≤ n → n ≡ k
      same k n h i = omega (arith, h, i)

      first_false : (a b : Bool) → a ≡ false → (a && b) ≡ false
      first_false true b e = absurd (true≢false e)
      first_false false b e = refl

      none_during : filter (during from until) (take start members) ≡ []
      none_during = filter_none (during from until) (take start members) (every_weaker (λ member. after member ≡ false) (λ member. during from until member ≡ false) (take start members) (λ member. first_false (after member) (option_map_or (λ last. int_lt member.at last) until true)) (none_after start s))
