-- A chunk of which two are made, and what an edit replaces.
use Rattle.std.proofs.Common.{◌≡◌, refl, ap, ap₂, sym, ◌∙◌, subst, ℕ, zero, suc, ◌+◌, ◌-◌, ◌^◌, ◌<◌, ◌≤◌, arith, List, [], ◌∷◌, ◌++◌, length, map, take, drop, get_or, set, append_assoc, length-append, take-append-drop}
use Rattle.std.{specs.Prelude.{insert, remove}, specs.Global.Vec, proofs.lemmas.List.{length-set, set-get_or}, proofs.lemmas.List.Edits.length-insert}
use Rattle.key_lists.proofs.Parts.{set_around, every_set, every_insert, map_set}
use Rattle.chunk_list.{specs.Chunked.{AreChunks, IsChunk, IsReplaced, IsSplit, contents, joined, list_at}, proofs.Edits.{inserted_last, length_instead, lists_set, map_insert}, proofs.Joined.{count_at, length-counts}}

-- a list in two
pub joined_halves : {X : Type 0} (ls : List (List X)) (i : ℕ) (lower upper l : List X) → i < length ls → lower ++ upper ≡ l → joined (insert (set ls i lower) (suc i) upper) ≡ joined (set ls i l)
joined_halves [] i lower upper l lt e = absurd (omega arith)
joined_halves (k ∷ ls) zero lower upper l lt e = sym (append_assoc lower upper (joined ls)) ∙ ap (λ xs. xs ++ joined ls) e
joined_halves (k ∷ ls) (suc i) lower upper l lt e = ap (λ xs. k ++ xs) (joined_halves ls i lower upper l (omega arith) e)

-- the counts of both
counts_halved : (ns : List ℕ) (i a b z : ℕ) → i < length ns → set (set (insert ns (suc i) z) (suc i) b) i a ≡ insert (set ns i a) (suc i) b
counts_halved [] i a b z lt = absurd (omega arith)
counts_halved (n ∷ ns) zero a b z lt = refl
counts_halved (n ∷ ns) (suc i) a b z lt = ap (λ ms. n ∷ ms) (counts_halved ns i a b z (omega arith))

pub halves_kept : {X : Type 0} (ls : List (List X)) (counts : List ℕ) (i low up : ℕ) (lower upper l : List X) → AreChunks ls counts → i < length ls → length (joined ls) < 2 ^ 62 → lower ++ upper ≡ l → length l ≡ length (list_at i ls) + 1
    → IsChunk lower → IsChunk upper → length lower ≡ low → length upper ≡ up → AreChunks (insert (set ls i lower) (suc i) upper) (set (set (insert counts (suc i) 0) (suc i) up) i low)
halves_kept ls counts i low up lower upper l are lt room both one small large lows ups = record {
  sizes = every_insert IsChunk (set ls i lower) (suc i) upper large (every_set IsChunk ls i lower small are.sizes);
  counted =
      ap (λ ns. set (set (insert ns (suc i) 0) (suc i) up) i low) are.counted
      ∙ counts_halved (map length ls) i low up 0 (omega (arith, lt, length-counts ls))
      ∙ ap (λ n. insert (set (map length ls) i n) (suc i) up) (sym lows)
      ∙ ap (λ ns. insert ns (suc i) up) (sym (map_set length ls i lower))
      ∙ ap (insert (map length (set ls i lower)) (suc i)) (sym ups)
      ∙ sym (map_insert length (set ls i lower) (suc i) upper);
  few = omega (arith, ap length (joined_halves ls i lower upper l lt both), length_instead ls i l lt);
}

-- chunks of which one becomes two
pub lists_halved : {X : Type 0} (chunks after : List (Vec X)) (ls : List (List X)) (i : ℕ) (lower upper : Vec X) → contents chunks ≡ ls → after ≡ insert (set chunks i lower) (i + 1) upper → contents after ≡ insert (set ls i lower.items) (suc i) upper.items
lists_halved {X = X} chunks after ls i lower upper e put =
    let next : i + 1 ≡ suc i = omega arith in
    ap contents (put ∙ ap (λ n. insert (set chunks i lower) n upper) next)
    ∙ map_insert (λ (c : Vec X). c.items) (set chunks i lower) (suc i) upper
    ∙ ap (λ ks. insert ks (suc i) upper.items) (lists_set chunks ls i lower lower.items e refl)

-- one chunk becomes another, or two, or goes
pub set_replaced : {X : Type 0} (few most : ℕ) (ls : List (List X)) (i : ℕ) (l : List X) → few ≤ 1 → 1 ≤ most → i < length ls → IsReplaced few most ls (set ls i l)
set_replaced few most ls i l some no_more lt = record {
  at = i;
  parts = l ∷ [];
  within = omega arith;
  some = some;
  no_more = no_more;
  list = set_around ls i l lt;
}

pub gone_replaced : {X : Type 0} (ls : List (List X)) (i : ℕ) → i < length ls → IsReplaced 0 1 ls (remove ls i)
gone_replaced ls i lt = record { at = i; parts = []; within = omega arith; some = omega arith; no_more = omega arith; list = refl }

halves_around : {X : Type 0} (xs : List X) (i : ℕ) (x y : X) → i < length xs → insert (set xs i x) (suc i) y ≡ take i xs ++ x ∷ y ∷ drop (suc i) xs
halves_around [] i x y lt = absurd (omega arith)
halves_around (z ∷ xs) zero x y lt = refl
halves_around (z ∷ xs) (suc i) x y lt = ap (λ zs. z ∷ zs) (halves_around xs i x y (omega arith))

pub halves_replaced : {X : Type 0} (ls : List (List X)) (i : ℕ) (lower upper : List X) → i < length ls → IsReplaced 1 2 ls (insert (set ls i lower) (suc i) upper)
halves_replaced ls i lower upper lt = record {
  at = i;
  parts = lower ∷ upper ∷ [];
  within = omega arith;
  some = omega arith;
  no_more = omega arith;
  list = halves_around ls i lower upper lt;
}

-- the first chunk
pub begun_replaced : {X : Type 0} (ls : List (List X)) (l : List X) → length ls ≡ 0 → IsReplaced 1 2 ls (ls ++ l ∷ [])
begun_replaced [] l e = record { at = 0; parts = l ∷ []; within = omega arith; some = omega arith; no_more = omega arith; list = refl }
begun_replaced (k ∷ ls) l e = absurd (omega arith)

-- an item behind the end of a chunk begins one
pub begun_split : {X : Type 0} (ls : List (List X)) (i n : ℕ) (x : X) → 0 < length (list_at i ls) → n ≡ length (list_at i ls) → IsSplit i (insert (list_at i ls) n x) ls (insert ls (suc i) (x ∷ []))
begun_split ls i n x some end = record {
  lower = list_at i ls;
  upper = x ∷ [];
  some_below = some;
  some_above = omega arith;
  both = sym (inserted_last (list_at i ls) n x end);
  lists = ap (λ ks. insert ks (suc i) (x ∷ [])) (sym (set-get_or ls i []));
}

-- an item put into the second of two lists
pub insert_behind : {X : Type 0} (xs ys : List X) (n m : ℕ) (x : X) → length xs + m ≡ n → xs ++ insert ys m x ≡ insert (xs ++ ys) n x
insert_behind [] ys n m x e = ap (λ k. insert ys k x) (let same : m ≡ n = omega (arith, e) in same)
insert_behind (y ∷ xs) ys zero m x e = absurd (omega (arith, e))
insert_behind (y ∷ xs) ys (suc n) m x e = ap (λ zs. y ∷ zs) (insert_behind xs ys n m x (omega (arith, e)))

remove_insert : {X : Type 0} (xs : List X) (i : ℕ) (x : X) → i ≤ length xs → remove (insert xs i x) i ≡ xs
remove_insert xs zero x le = refl
remove_insert [] (suc i) x le = absurd (omega arith)
remove_insert (y ∷ xs) (suc i) x le = ap (λ ys. y ∷ ys) (remove_insert xs i x (omega arith))

-- counts with one more, which goes again
pub counts_back : (counts more back : List ℕ) (n x : ℕ) → n ≤ length counts → more ≡ insert counts n x → back ≡ remove more n → back ≡ counts
counts_back counts more back n x le p q = q ∙ ap (λ ns. remove ns n) p ∙ remove_insert counts n x le

number_put : (ns : List ℕ) (i x : ℕ) → i ≤ length ns → get_or (insert ns i x) i 0 ≡ x
number_put ns zero x le = refl
number_put [] (suc i) x le = absurd (omega arith)
number_put (n ∷ ns) (suc i) x le = number_put ns i x (omega arith)

number_below : (ns : List ℕ) (i z b : ℕ) → i < length ns → get_or (set (insert ns (suc i) z) (suc i) b) i 0 ≡ get_or ns i 0
number_below [] i z b lt = absurd (omega arith)
number_below (n ∷ ns) zero z b lt = refl
number_below (n ∷ ns) (suc i) z b lt = number_below ns i z b (omega arith)

module _ (counts more added : List ℕ) (i n up : ℕ) (lt : i < length counts) (next : n ≡ suc i) (p : more ≡ insert counts n 0) (q : added ≡ set more n (get_or more n 0 + up)) where
  begun : added ≡ set (insert counts (suc i) 0) (suc i) up
  begun =
      q
      ∙ ap (λ ns. set ns n (get_or ns n 0 + up)) (p ∙ ap (λ m. insert counts m 0) next)
      ∙ ap (λ m. set (insert counts (suc i) 0) m (get_or (insert counts (suc i) 0) m 0 + up)) next
      ∙ ap (λ z. set (insert counts (suc i) 0) (suc i) (z + up)) (number_put counts (suc i) 0 (omega arith))
      ∙ ap (set (insert counts (suc i) 0) (suc i)) (let e : 0 + up ≡ up = omega arith in e)

  pub still_there : get_or added i 0 ≡ get_or counts i 0
  still_there = ap (λ ns. get_or ns i 0) begun ∙ number_below counts i 0 up lt

  -- the counts after an edit of both
  pub counts_edited : (after : List ℕ) (low gone : ℕ) → get_or counts i 0 ≡ low + gone → after ≡ set added i (get_or added i 0 - gone) → after ≡ set (set (insert counts (suc i) 0) (suc i) up) i low
  counts_edited after low gone full r =
      r
      ∙ ap (set added i) (let e : get_or added i 0 - gone ≡ low = omega (arith, still_there, full) in e)
      ∙ ap (λ ns. set ns i low) begun

-- the chunk that is cut, and its halves
pub both_halves : {X : Type 0} (items lower upper low up own : List X) (n offset : ℕ) (x : X) → own ≡ items → lower ≡ take n items → upper ≡ drop n items → low ++ up ≡ insert (lower ++ upper) offset x → low ++ up ≡ insert own offset x
both_halves {X} items lower upper low up own n offset x e l u put = put ∙ ap (λ xs. insert xs offset x) (ap₂ (λ (xs ys : List X). xs ++ ys) l u ∙ take-append-drop n items ∙ sym e)

-- the counts of chunks of which one became two
lower_at : {X : Type 0} (ls : List (List X)) (i : ℕ) (lower upper : List X) → i < length ls → list_at i (insert (set ls i lower) (suc i) upper) ≡ lower
lower_at [] i lower upper lt = absurd (omega arith)
lower_at (l ∷ ls) zero lower upper lt = refl
lower_at (l ∷ ls) (suc i) lower upper lt = lower_at ls i lower upper (omega arith)

module _ {X : Type 0} (ls now : List (List X)) (i offset : ℕ) (x : X) (lt : i < length ls) (le : offset ≤ length (list_at i ls)) (full : length (list_at i ls) ≡ 512) (s : IsSplit i (insert (list_at i ls) offset x) ls now) where
  long : length (insert (list_at i ls) offset x) ≡ 513
  long = omega (arith, length-insert (list_at i ls) offset x le, full)

  low : length (list_at i now) ≡ length s.lower
  low = ap (λ ks. length (list_at i ks)) s.lists ∙ ap length (lower_at ls i s.lower s.upper lt)

  parts : length s.lower + length s.upper ≡ 513
  parts = sym (length-append s.lower s.upper) ∙ ap length s.both ∙ long

  pub low_few : length (list_at i now) ≤ 512
  low_few = omega (arith, low, parts, s.some_above)

  pub longer : length now ≡ length ls + 1
  longer =
      let within : suc i ≤ length (set ls i s.lower) = omega (arith, length-set ls i s.lower) in
      omega (arith, ap length s.lists, length-insert (set ls i s.lower) (suc i) s.upper within, length-set ls i s.lower)

  pub split_kept : (counts more added after : List ℕ) (n gone : ℕ) → AreChunks ls counts → length (joined ls) < 2 ^ 62 → n ≡ suc i → length (list_at i now) + gone ≡ 512 → more ≡ insert counts n 0
      → added ≡ set more n (get_or more n 0 + (gone + 1)) → after ≡ set added i (get_or added i 0 - gone) → AreChunks now after
  split_kept counts more added after n gone are room next is p q r =
      let within : i < length counts = omega (arith, lt, ap length are.counted, length-counts ls) in
      let counted : get_or counts i 0 ≡ length s.lower + gone = omega (arith, ap (λ ns. get_or ns i 0) are.counted, count_at ls i, full, low, is) in
      let small : IsChunk s.lower = record { some = omega (arith, s.some_below); few = omega (arith, parts, s.some_above) } in
      let large : IsChunk s.upper = record { some = omega (arith, s.some_above); few = omega (arith, parts, s.some_below) } in
      subst (λ ks. AreChunks ks after) (sym s.lists)
      (subst (AreChunks (insert (set ls i s.lower) (suc i) s.upper)) (sym (counts_edited counts more added i n (gone + 1) within next p q after (length s.lower) gone counted r))
      (halves_kept ls counts i (length s.lower) (gone + 1) s.lower s.upper (insert (list_at i ls) offset x) are lt room s.both (omega (arith, long, full)) small large refl (omega (arith, low, is, parts))))
