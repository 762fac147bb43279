-- The texts of a run stand each once, in byte order, and none is missing.
use Rattle.std.proofs.Common.{◌≡◌, ℕ, List, [], ◌∷◌, Bool, true, false, refl, sym, ap, ap₂, ◌∙◌, subst, cond, ⊎_elim}
use Rattle.std.{specs.Prelude.◌||◌, specs.List.{AllByRecursion, list_any}, specs.Str.bytes_eq, specs.Ordering.{nat_cmp, is_lt, is_eq, match_ordering, ordering_reverse}, specs.declared.cmp.Ordering.Ordering, specs.declared.cmp.Ordering.TheVariants.{Less, Equal, Greater}, specs.Cmp.Lexicographic.{slice_cmp, texts_ties}, specs.BTreeSet.insert_key, proofs.lemmas.Cmp.{nat_list_cmp_total, nat_list_eq_equiv}, proofs.lemmas.Slice.Eq.bytes_eq-Decides, proofs.lemmas.Bool.{cond_both, or_cases, or_right, or_left}}
use Rattle.key_lists.proofs.Every.{every_weaker, every_both}
use Rattle.tick_model.{specs.Changes.is_none, specs.LawfulRuns.{AreTexts, is_before}}
use Rattle.feed_reader.{specs.declared.raw.RawFeed.RawFeed, specs.declared.raw.RawTable.RawTable, specs.Coding.{with_text, with_texts, all_texts, texts_of}, specs.Raw.AreTold, specs.Runs.IsAmong}

abbrev pub order : List ℕ → List ℕ → Ordering
order = slice_cmp nat_cmp

-- what comes before another
less_of : (o : Ordering) → is_lt o ≡ true → o ≡ Less
less_of Less e = refl
less_of Equal e = cc e
less_of Greater e = cc e

flip : (a b : List ℕ) → order a b ≡ Greater → order b a ≡ Less
flip a b e = nat_list_cmp_total.antisymm b a ∙ ap ordering_reverse e

before_all : (text x : List ℕ) (texts : List (List ℕ)) → order text x ≡ Less → AllByRecursion (λ later. is_before x later ≡ true) texts → AllByRecursion (λ later. is_before text later ≡ true) texts
before_all text x texts less all =
    every_weaker (λ later. is_before x later ≡ true) (λ later. is_before text later ≡ true) texts
    (λ later e. ap is_lt (nat_list_cmp_total.trans text x later less (less_of (order x later) e))) all

every_match : (P : List ℕ → Type 0) (o : Ordering) (a b c : List (List ℕ)) → AllByRecursion P a → AllByRecursion P b → AllByRecursion P c → AllByRecursion P (match_ordering o a b c)
every_match P Less a b c pa pb pc = pa
every_match P Equal a b c pa pb pc = pb
every_match P Greater a b c pa pb pc = pc

every_inserted : (P : List ℕ → Type 0) (texts : List (List ℕ)) (text : List ℕ) → AllByRecursion P texts → P text → AllByRecursion P (insert_key order texts text)
every_inserted P [] text all here = (here, tt)
every_inserted P (x ∷ xs) text all here =
    every_match P (order text x) (text ∷ x ∷ xs) (x ∷ xs) (x ∷ insert_key order xs text) (here, all) all (all.0, every_inserted P xs text all.1 here)

-- texts in order stay so with one more: where the text comes after the first, all that follow do
follows : (o : Ordering) (text x : List ℕ) (xs : List (List ℕ)) → order text x ≡ o → AllByRecursion (λ later. is_before x later ≡ true) xs → (o ≡ Greater) → AllByRecursion (λ later. is_before x later ≡ true) (insert_key order xs text)
follows o text x xs e all is = every_inserted (λ later. is_before x later ≡ true) xs text all (ap is_lt (flip text x (e ∙ is)))

inserted_at : (o : Ordering) (text x : List ℕ) (xs : List (List ℕ)) → order text x ≡ o → is_none text ≡ false → AreTexts (x ∷ xs) → AreTexts (insert_key order xs text) → AreTexts (match_ordering o (text ∷ x ∷ xs) (x ∷ xs) (x ∷ insert_key order xs text))
inserted_at Less text x xs e some are more = (some, (ap is_lt e, before_all text x xs e are.1), are)
inserted_at Equal text x xs e some are more = are
inserted_at Greater text x xs e some are more = (are.0, follows Greater text x xs e are.1 refl, more)

pub are_inserted : (texts : List (List ℕ)) (text : List ℕ) → is_none text ≡ false → AreTexts texts → AreTexts (insert_key order texts text)
are_inserted [] text some are = (some, tt, tt)
are_inserted (x ∷ xs) text some are = inserted_at (order text x) text x xs refl some are (are_inserted xs text some are.2)

with_text-kept : (b : Bool) (texts : List (List ℕ)) (text : List ℕ) → is_none text ≡ b → AreTexts texts → AreTexts (cond b texts (insert_key order texts text))
with_text-kept true texts text e are = are
with_text-kept false texts text e are = are_inserted texts text e are

pub all_kept : (old more : List (List ℕ)) → AreTexts old → AreTexts (with_texts old more)
all_kept old [] are = are
all_kept old (text ∷ more) are = all_kept (with_text old text) more (with_text-kept (is_none text) old text refl are)

pub texts_in_order : (texts literals : List (List ℕ)) (tables : List RawTable) (feed : RawFeed) → texts ≡ texts_of literals tables feed → AreTexts texts
texts_in_order texts literals tables feed is = subst AreTexts (sym is) (all_kept [] (all_texts literals tables feed) tt)

-- a text is among the texts once it is noted
has : List ℕ → List (List ℕ) → Bool
has text texts = list_any (bytes_eq text) texts

or_more : (a b c : Bool) → (b ≡ true → c ≡ true) → (a || b) ≡ true → (a || c) ≡ true
or_more true b c f e = refl
or_more false b c f e = f e

has_match : (q : List ℕ) (o : Ordering) (a b c : List (List ℕ)) → has q a ≡ true → has q b ≡ true → has q c ≡ true → has q (match_ordering o a b c) ≡ true
has_match q Less a b c pa pb pc = pa
has_match q Equal a b c pa pb pc = pb
has_match q Greater a b c pa pb pc = pc

keeps : (q : List ℕ) (texts : List (List ℕ)) (text : List ℕ) → has q texts ≡ true → has q (insert_key order texts text) ≡ true
unfolding has
keeps q [] text e = cc e
keeps q (x ∷ xs) text e =
    has_match q (order text x) (text ∷ x ∷ xs) (x ∷ xs) (x ∷ insert_key order xs text)
    (or_right (bytes_eq q text) (has q (x ∷ xs)) e) e (or_more (bytes_eq q x) (has q xs) (has q (insert_key order xs text)) (λ h. keeps q xs text h) e)

comes_at : (o : Ordering) (text x : List ℕ) (xs : List (List ℕ)) → order text x ≡ o → has text (insert_key order xs text) ≡ true → has text (match_ordering o (text ∷ x ∷ xs) (x ∷ xs) (x ∷ insert_key order xs text)) ≡ true
unfolding has
comes_at Less text x xs e more = or_left (bytes_eq text text) (has text (x ∷ xs)) (nat_list_eq_equiv.refl text)
comes_at Equal text x xs e more = or_left (bytes_eq text x) (has text xs) (texts_ties text x ∙ ap is_eq e)
comes_at Greater text x xs e more = or_right (bytes_eq text x) (has text (insert_key order xs text)) more

comes : (texts : List (List ℕ)) (text : List ℕ) → has text (insert_key order texts text) ≡ true
unfolding has
comes [] text = or_left (bytes_eq text text) false (nat_list_eq_equiv.refl text)
comes (x ∷ xs) text = comes_at (order text x) text x xs refl (comes xs text)

keeps_noted : (q : List ℕ) (b : Bool) (texts : List (List ℕ)) (text : List ℕ) → has q texts ≡ true → has q (cond b texts (insert_key order texts text)) ≡ true
keeps_noted q true texts text e = e
keeps_noted q false texts text e = keeps q texts text e

keeps_all : (q : List ℕ) (old more : List (List ℕ)) → has q old ≡ true → has q (with_texts old more) ≡ true
keeps_all q old [] e = e
keeps_all q old (text ∷ more) e = keeps_all q (with_text old text) more (keeps_noted q (is_none text) old text e)

is_noted : (b : Bool) (texts : List (List ℕ)) (text : List ℕ) → b ≡ false → has text (cond b texts (insert_key order texts text)) ≡ true
is_noted true texts text e = cc e
is_noted false texts text e = comes texts text

noted_all : (old more : List (List ℕ)) → AllByRecursion (IsAmong (with_texts old more)) more
unfolding has
noted_all old [] = tt
noted_all old (text ∷ more) =
    (λ some. keeps_all text (with_text old text) more (is_noted (is_none text) old text some), noted_all (with_text old text) more)

-- the same texts, noted in any order
at_text : (P : List ℕ → Type 0) (text : List ℕ) (texts : List (List ℕ)) → AllByRecursion P texts → has text texts ≡ true → P text
unfolding has
at_text P text [] all there = cc there
at_text P text (x ∷ xs) all there =
    ⊎_elim (λ same. subst P (sym ((bytes_eq-Decides text x).0 same)) all.0) (λ later. at_text P text xs all.1 later) (or_cases (bytes_eq text x) (has text xs) there)

not_both : (a b : List ℕ) → is_before a b ≡ true → is_before b a ≡ true → ⊥
not_both a b first second =
    let less = less_of (order a b) first in
    let more = less_of (order b a) second in
    let flipped = nat_list_cmp_total.antisymm b a in
    cc (less, more, flipped)

same_first : (x y : List ℕ) (xs ys : List (List ℕ)) → AreTexts (x ∷ xs) → AreTexts (y ∷ ys) → has x (y ∷ ys) ≡ true → has y (x ∷ xs) ≡ true → x ≡ y
unfolding has
same_first x y xs ys are_x are_y in_y in_x =
    ⊎_elim (λ same. (bytes_eq-Decides x y).0 same)
    (λ later.
    ⊎_elim (λ same. sym ((bytes_eq-Decides y x).0 same))
    (λ later2. absurd (not_both x y (at_text (λ t. is_before x t ≡ true) y xs are_x.1 later2) (at_text (λ t. is_before y t ≡ true) x ys are_y.1 later)))
    (or_cases (bytes_eq y x) (has y xs) in_x))
    (or_cases (bytes_eq x y) (has x ys) in_y)

behind_first : (x : List ℕ) (xs ys : List (List ℕ)) → AllByRecursion (λ t. is_before x t ≡ true) xs → AllByRecursion (λ t. has t (x ∷ ys) ≡ true) xs → AllByRecursion (λ t. has t ys ≡ true) xs
unfolding has
behind_first x xs ys before there =
    every_both (λ t. is_before x t ≡ true) (λ t. has t (x ∷ ys) ≡ true) (λ t. has t ys ≡ true) xs
    (λ t less is.
    ⊎_elim (λ same. let here = subst (λ (other : List ℕ). is_before x other ≡ true) ((bytes_eq-Decides t x).0 same) less in absurd (not_both x x here here)) (λ later. later)
    (or_cases (bytes_eq t x) (has t ys) is)) before there

same_texts : (xs ys : List (List ℕ)) → AreTexts xs → AreTexts ys → AllByRecursion (λ t. has t ys ≡ true) xs → AllByRecursion (λ t. has t xs ≡ true) ys → xs ≡ ys
unfolding has
same_texts [] [] are_x are_y in_y in_x = refl
same_texts [] (y ∷ ys) are_x are_y in_y in_x = cc (in_x.0)
same_texts (x ∷ xs) [] are_x are_y in_y in_x = cc (in_y.0)
same_texts (x ∷ xs) (y ∷ ys) are_x are_y in_y in_x =
    let same = same_first x y xs ys are_x are_y in_y.0 in_x.0 in
    let others = same_texts xs ys are_x.2 are_y.2
    (behind_first x xs ys are_x.1 (subst (λ (first : List ℕ). AllByRecursion (λ t. has t (first ∷ ys) ≡ true) xs) (sym same) in_y.1))
    (behind_first x ys xs (subst (λ (first : List ℕ). AllByRecursion (λ t. is_before first t ≡ true) ys) (sym same) are_y.1) in_x.1) in
    ap₂ (λ (first : List ℕ) (rest : List (List ℕ)). first ∷ rest) same others

each_there : (texts : List (List ℕ)) → AllByRecursion (λ t. has t texts ≡ true) texts
unfolding has
each_there [] = tt
each_there (x ∷ xs) = (
  or_left (bytes_eq x x) (has x xs) (nat_list_eq_equiv.refl x),
  every_weaker (λ t. has t xs ≡ true) (λ t. has t (x ∷ xs) ≡ true) xs (λ t there. or_right (bytes_eq t x) (has t xs) there) (each_there xs),
)

noted_from : (P : List ℕ → Type 0) (old more : List (List ℕ)) → AllByRecursion P old → AllByRecursion (λ t. is_none t ≡ false → P t) more → AllByRecursion P (with_texts old more)
noted_from P old [] before new = before
noted_from P old (text ∷ more) before new =
    noted_from P (with_text old text) more
    (cond_both (is_none text) old (insert_key order old text) (AllByRecursion P) (λ _. before) (λ some. every_inserted P old text before (new.0 some))) new.1

noted_in : (old more others : List (List ℕ)) → AreTold more others → AllByRecursion (λ t. has t (with_texts old others) ≡ true) (with_texts old more)
unfolding has
noted_in old more others told =
    noted_from (λ t. has t (with_texts old others) ≡ true) old more
    (every_weaker (λ t. has t old ≡ true) (λ t. has t (with_texts old others) ≡ true) old (λ t there. keeps_all t old others there) (each_there old))
    (every_weaker (λ t. has t others ≡ true) (IsAmong (with_texts old others)) more (λ t there. at_text (IsAmong (with_texts old others)) t others (noted_all old others) there) told)

pub with_same : (old more others : List (List ℕ)) → AreTexts old → AreTold more others → AreTold others more → with_texts old more ≡ with_texts old others
with_same old more others are told back =
    same_texts (with_texts old more) (with_texts old others) (all_kept old more are) (all_kept old others are) (noted_in old more others told) (noted_in old others more back)

pub texts_noted : (texts literals literals2 : List (List ℕ)) (tables tables2 : List RawTable) (feed : RawFeed) → literals ≡ literals2 → tables ≡ tables2 → texts ≡ texts_of literals tables feed → AllByRecursion (IsAmong texts) (all_texts literals2 tables2 feed)
texts_noted texts literals literals2 tables tables2 feed same_literals same_tables is =
    let noted = noted_all [] (all_texts literals tables feed) in
    let P : List (List ℕ) → Type 0 = λ all. AllByRecursion (IsAmong all) (all_texts literals tables feed) in
    let Q : List (List ℕ) → Type 0 = λ l. AllByRecursion (IsAmong texts) (all_texts l tables feed) in
    let R : List RawTable → Type 0 = λ t. AllByRecursion (IsAmong texts) (all_texts literals2 t feed) in
    subst R same_tables (subst Q same_literals (subst P (sym is) noted))
