-- The loops over texts, and their ranks.
use Rattle.std.proofs.Common.{◌≡◌, ℕ, suc, ◌+◌, ◌<◌, ◌≤◌, List, [], ◌∷◌, ◌++◌, map, drop, get_or, Bool, true, false, Option, Some, None, refl, sym, ap, ◌∙◌, subst, length, cond, eqb, arith}
use Rattle.std.{specs.Prelude.{flat_map, unwrap_or, not}, specs.List.{prefix_len, position_from}, specs.Str.bytes_eq, specs.Ordering.{nat_cmp, match_ordering}, specs.declared.cmp.Ordering.Ordering, specs.declared.cmp.Ordering.TheVariants.{Less, Equal, Greater}, specs.Cmp.Lexicographic.slice_cmp, specs.BTreeSet.insert_key, specs.Borrow.Bor, proofs.lemmas.List.at_drop_more, proofs.lemmas.List.Sums.{fold-append, prefix_len-le-length}}
use Rattle.tick_model.{specs.Changes.is_none, specs.LawfulRuns.AreTexts}
use Rattle.feed_reader.{specs.declared.raw.RawFeed.RawFeed, specs.declared.raw.RawTable.RawTable, specs.Coding.{with_text, with_texts, table_texts, batch_texts, texts_of, rank_of}, specs.Raw.AreTold, proofs.OrderLemmas.{all_kept, with_same}}

-- a text comes to its place
abbrev now : List (Bor (List ℕ)) → List (List ℕ)
now = map (λ (text : Bor (List ℕ)). text.now)

abbrev behind : Bor (List ℕ) → Bor (List ℕ) → Ordering
behind x y = slice_cmp nat_cmp x.now y.now

matched : (o : Ordering) (a b c : List (Bor (List ℕ))) → now (match_ordering o a b c) ≡ match_ordering o (now a) (now b) (now c)
matched Less a b c = refl
matched Equal a b c = refl
matched Greater a b c = refl

pub inserted_same : (text : Bor (List ℕ)) (keys : List (Bor (List ℕ))) → now (insert_key behind keys text) ≡ insert_key (slice_cmp nat_cmp) (now keys) text.now
inserted_same text [] = refl
inserted_same text (first ∷ keys) =
    matched (behind text first) (text ∷ first ∷ keys) (first ∷ keys) (first ∷ insert_key behind keys text)
    ∙ ap (λ rest. match_ordering (behind text first) (text.now ∷ first.now ∷ now keys) (first.now ∷ now keys) (first.now ∷ rest)) (inserted_same text keys)

-- the first place, or the number of texts
place_at : (b : Bool) (i n m : ℕ) (o : Option ℕ) → unwrap_or o (i + 1 + n) ≡ i + 1 + m → unwrap_or (cond b (Some i) o) (i + suc n) ≡ i + cond (not b) (1 + m) 0
place_at true i n m o e = omega arith
place_at false i n m o e = let a : i + suc n ≡ i + 1 + n = omega arith in rw a (e ∙ omega arith)

place : (p : List ℕ → Bool) (i : ℕ) (texts : List (List ℕ)) → unwrap_or (position_from p i texts) (i + length texts) ≡ i + prefix_len (λ text. not (p text)) texts
place p i [] = refl
place p i (text ∷ texts) = place_at (p text) i (length texts) (prefix_len (λ t. not (p t)) texts) (position_from p (i + 1) texts) (place p (i + 1) texts)

at_place : (o : Option ℕ) (n r rank : ℕ) → unwrap_or o (0 + n) ≡ 0 + r → Some rank ≡ o → rank ≡ r
at_place None n r rank e found = cc found
at_place (Some i) n r rank e found = let is : rank ≡ i = cc in omega arith

no_place : (o : Option ℕ) (n r : ℕ) → unwrap_or o (0 + n) ≡ 0 + r → None ≡ o → n ≡ r
no_place None n r e found = omega arith
no_place (Some i) n r e found = cc found

pub rank_there : (text : List ℕ) (texts : List (List ℕ)) (rank : ℕ) → Some rank ≡ position_from (bytes_eq text) 0 texts → rank ≡ rank_of texts text
rank_there text texts rank found = at_place (position_from (bytes_eq text) 0 texts) (length texts) (rank_of texts text) rank (place (bytes_eq text) 0 texts) found

pub rank_absent : (text : List ℕ) (texts : List (List ℕ)) → None ≡ position_from (bytes_eq text) 0 texts → length texts ≡ rank_of texts text
rank_absent text texts found = no_place (position_from (bytes_eq text) 0 texts) (length texts) (rank_of texts text) (place (bytes_eq text) 0 texts) found

pub rank_within : (text : List ℕ) (texts : List (List ℕ)) → rank_of texts text ≤ length texts
rank_within text texts = prefix_len-le-length (λ other. not (bytes_eq text other)) texts

-- one more text before those that are ranked
pub ranked_more : (text : List ℕ) (texts : List (List ℕ)) (i rank : ℕ) (x : List ℕ) (found : Option ℕ) → i + 1 ≡ rank → i < length texts → x ≡ get_or texts i x → found ≡ position_from (bytes_eq text) rank (drop rank texts) → cond (bytes_eq text x) (Some i) found ≡ position_from (bytes_eq text) i (drop i texts)
ranked_more text texts i rank x found next within is ranked =
    sym (at_drop_more (position_from (bytes_eq text) i) texts i x within
    ∙ ap (λ y. position_from (bytes_eq text) i (y ∷ drop (i + 1) texts)) (sym is)
    ∙ ap (λ n. cond (bytes_eq text x) (Some i) (position_from (bytes_eq text) n (drop n texts))) next
    ∙ ap (cond (bytes_eq text x) (Some i)) (sym ranked))

pub not_none : (text : List ℕ) → eqb (length text) 0 ≡ false → is_none text ≡ false
not_none [] e = cc e
not_none (x ∷ xs) e = refl

-- the texts of a table and of a feed, each once
pub table_noted : (old mid : List (List ℕ)) (tables : List RawTable) (i : ℕ) (table : RawTable) → i < length tables → table ≡ get_or tables i table → mid ≡ with_texts old (table_texts table) → with_texts old (flat_map table_texts (drop i tables)) ≡ with_texts mid (flat_map table_texts (drop (i + 1) tables))
table_noted old mid tables i table within is noted =
    let later = flat_map table_texts (drop (i + 1) tables) in
    at_drop_more (λ (left : List RawTable). with_texts old (flat_map table_texts left)) tables i table within
    ∙ ap (λ (next : RawTable). with_texts old (table_texts next ++ later)) (sym is)
    ∙ fold-append with_text old (table_texts table) later
    ∙ ap (λ (texts : List (List ℕ)). with_texts texts later) (sym noted)

pub all_noted : (literals : List (List ℕ)) (tables : List RawTable) (feed : RawFeed) (first mid last names : List (List ℕ)) → first ≡ with_texts [] literals → mid ≡ with_texts first (flat_map table_texts tables) → last ≡ with_texts mid names → AreTold names (flat_map batch_texts feed.batches) → AreTold (flat_map batch_texts feed.batches) names → last ≡ texts_of literals tables feed
all_noted literals tables feed first mid last names of_literals of_tables of_names told all =
    let texts = flat_map table_texts tables in
    let of_both : mid ≡ with_texts [] (literals ++ texts) = of_tables ∙ ap (λ (old : List (List ℕ)). with_texts old texts) of_literals ∙ sym (fold-append with_text [] literals texts) in
    of_names
    ∙ with_same mid names (flat_map batch_texts feed.batches) (subst AreTexts (sym of_both) (all_kept [] (literals ++ texts) tt)) told all
    ∙ ap (λ (old : List (List ℕ)). with_texts old (flat_map batch_texts feed.batches)) of_both
    ∙ sym (fold-append with_text [] (literals ++ texts) (flat_map batch_texts feed.batches))
