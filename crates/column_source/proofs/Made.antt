-- What each edit makes of the keys and the cells that are kept.
use Rattle.std.proofs.Common.{◌≡◌, refl, ap, ap₂, sym, ◌∙◌, subst, true, false, cond, ℕ, zero, suc, ◌+◌, ◌<◌, ◌≤◌, arith, List, [], ◌∷◌, ◌++◌, length, ℤ, ltb, add-one}
use Rattle.std.{specs.Prelude.{◌^◌, filter, slice_get, None, Result, Ok, Err}, specs.List.{AllByRecursion, insert, remove}, proofs.lemmas.Option.slice_get_within}
use Rattle.key_lists.{specs.Keys.{is_among, IsRising, without}, proofs.Among.each_among, proofs.Every.{every, every-filter, every_unmapped}, proofs.Parts.every_back, proofs.Rising.rising_count}
use Rattle.row_set.{specs.Ranges.keys_from, specs.Sets.{IsKeySet, common, count_below, found, united}, proofs.Lookups.count_at, proofs.United.one_key, proofs.Windows.{rising_back, rising_before}}
use Rattle.tick_model.{specs.declared.update.ShiftRange.ShiftRange, specs.Rules.landed}
use Rattle.column_source.{specs.Entries.{Entry, IsEntryList, cell_under, keys_of, left_entries, moved_entries, put}, proofs.Paired.{AreOf, cell_at, cells-moved, cells-next, cells-put, cells-replaced, cells_of, counted, key_held, keys-left, keys-moved, keys-put, left_common, no_cell}}

-- what a search for a key says
held : (key : ℕ) (keys : List ℕ) (n : ℕ) → found key keys ≡ Ok n → (is_among key keys ≡ true) × (n ≡ count_below key keys)
held key keys n =
    elim (is_among key keys) as (λ b. ◌≡◌ {A = Result ℕ ℕ} (cond b (Ok (count_below key keys)) (Err (count_below key keys))) (Ok n) → (b ≡ true) × (n ≡ count_below key keys)) [
      | true ↦ λ e. (refl, cc)
      | false ↦ λ e. absurd (cc)
    ]

absent : (key : ℕ) (keys : List ℕ) (n : ℕ) → found key keys ≡ Err n → (is_among key keys ≡ false) × (n ≡ count_below key keys)
absent key keys n =
    elim (is_among key keys) as (λ b. ◌≡◌ {A = Result ℕ ℕ} (cond b (Ok (count_below key keys)) (Err (count_below key keys))) (Err n) → (b ≡ false) × (n ≡ count_below key keys)) [
      | true ↦ λ e. absurd (cc)
      | false ↦ λ e. (refl, cc)
    ]

count_most : (key : ℕ) (keys : List ℕ) → count_below key keys ≤ length keys
count_most key [] = omega arith
count_most key (x ∷ xs) =
    elim (ltb x key) as (λ b. length (cond b (x ∷ filter (λ other. ltb other key) xs) (filter (λ other. ltb other key) xs)) ≤ suc (length xs)) [
      | true ↦ omega (arith, count_most key xs)
      | false ↦ omega (arith, count_most key xs)
    ]

taken_back : (cells : List ℤ) (n : ℕ) (cell : ℤ) → n ≤ length cells → remove (insert cells n cell) n ≡ cells
taken_back [] zero cell h = refl
taken_back [] (suc n) cell h = absurd (omega (arith, h))
taken_back (x ∷ cells) zero cell h = refl
taken_back (x ∷ cells) (suc n) cell h = ap (λ rest. x ∷ rest) (taken_back cells n cell (omega (arith, h)))

pub entry_list : (keys : List ℕ) (entries : List Entry) → keys ≡ keys_of entries → IsKeySet keys → IsEntryList entries
entry_list keys entries are set = record {
  rises = subst IsRising are set.rising;
  small = every_unmapped (λ key. key < 2 ^ 62) (λ x. x.key) entries (subst (AllByRecursion (λ key. key < 2 ^ 62)) are set.small);
}

module _ {keys : List ℕ} {cells : List ℤ} {entries : List Entry} (set : IsKeySet keys) (own : AreOf keys cells entries) where
  rises : IsRising (keys_of entries)
  rises = subst IsRising own.keys_are set.rising

  few : length keys ≤ 2 ^ 62
  few = let most = rising_count 0 (2 ^ 62) keys (omega arith) (every (λ key. 0 ≤ key) keys (λ key. omega arith)) set.small set.rising in omega (arith, most)

  module _ (key : ℕ) (n : ℕ) where
    pub within : found key keys ≡ Ok n → n < length cells
    within e =
        let h = held key keys n e in
        let less : n < length keys = slice_get_within keys n key (ap (slice_get keys) h.1 ∙ count_at key keys set.rising h.0) in
        omega (arith, less, counted own)

    pub small : found key keys ≡ Ok n → n < 2 ^ 62
    small e = omega (arith, within e, counted own, few)

    pub within_or_last : found key keys ≡ Err n → n ≤ length cells
    within_or_last e = let h = (absent key keys n e).1 in omega (arith, h, count_most key keys, counted own)

    pub got : found key keys ≡ Ok n → slice_get cells n ≡ cell_under key entries
    got e =
        let h = held key keys n e in
        ap₂ slice_get own.cells_are (h.1 ∙ ap (count_below key) own.keys_are) ∙ cell_at key entries rises (ap (is_among key) (sym own.keys_are) ∙ h.0)

    pub none_got : found key keys ≡ Err n → cell_under key entries ≡ None
    none_got e = no_cell key entries (ap (is_among key) (sym own.keys_are) ∙ (absent key keys n e).0)

    pub replaced : (cell : ℤ) (new : List ℤ) → found key keys ≡ Ok n → new ≡ remove (insert cells n cell) (n + 1) → AreOf keys new (put key cell entries)
    replaced cell new e is =
        let h = held key keys n e in
        let here : is_among key (keys_of entries) ≡ true = ap (is_among key) (sym own.keys_are) ∙ h.0 in
        let at : n ≡ count_below key (keys_of entries) = h.1 ∙ ap (count_below key) own.keys_are in
        record {
          keys_are = own.keys_are ∙ sym (key_held key (keys_of entries) rises here) ∙ sym (keys-put key cell entries);
          cells_are =
              is
              ∙ ap (remove (insert cells n cell)) (add-one n)
              ∙ ap₂ (λ (list : List ℤ) (place : ℕ). remove (insert list place cell) (suc place)) own.cells_are at
              ∙ cells-replaced key cell entries rises here;
        }

    pub put_in : (cell : ℤ) (more : List ℕ) (new : List ℤ) → found key keys ≡ Err n → new ≡ insert cells n cell → more ≡ united (keys_from key key) keys → AreOf more new (put key cell entries)
    put_in cell more new e is more_is =
        let h = absent key keys n e in
        record {
          keys_are = more_is ∙ ap₂ united (one_key key) own.keys_are ∙ sym (keys-put key cell entries);
          cells_are =
              is
              ∙ ap₂ (λ (list : List ℤ) (place : ℕ). insert list place cell) own.cells_are (h.1 ∙ ap (count_below key) own.keys_are)
              ∙ cells-put key cell entries rises (ap (is_among key) (sym own.keys_are) ∙ h.0);
        }

    pub refused : (cell : ℤ) (same : List ℕ) (new : List ℤ) → found key keys ≡ Err n → new ≡ remove (insert cells n cell) n → same ≡ keys → AreOf same new entries
    refused cell same new e is same_is = record {
      keys_are = same_is ∙ own.keys_are;
      cells_are = is ∙ taken_back cells n cell (within_or_last e) ∙ own.cells_are;
    }

  -- the next of the keys that go
  pub next : (dropped gone left : List ℕ) → IsKeySet gone → gone ≡ common keys dropped → left ≡ without gone keys → (behind : List ℕ) (key : ℕ) (others : List ℕ) → gone ≡ behind ++ key ∷ others
      → (now : List ℤ) (n : ℕ) → now ≡ cells_of (left_entries behind entries) → n ≡ count_below key left → (n < length now) × (remove now n ≡ cells_of (left_entries (behind ++ key ∷ []) entries))
  next dropped gone left gone_set gone_is left_is behind key others parts now n now_is n_is =
      let rising : IsRising (behind ++ key ∷ others) = subst IsRising parts gone_set.rising in
      let there : AllByRecursion (λ k. is_among k keys ≡ true) (behind ++ key ∷ others) =
      subst (AllByRecursion (λ k. is_among k keys ≡ true)) (sym gone_is ∙ parts) (every-filter (λ k. is_among k keys ≡ true) (λ k. is_among k dropped) keys (each_among keys)) in
      let here : is_among key (keys_of entries) ≡ true = ap (is_among key) (sym own.keys_are) ∙ (every_back (λ k. is_among k keys ≡ true) behind (key ∷ others) there).0 in
      let at : n ≡ count_below key (without (behind ++ key ∷ others) (keys_of entries)) = n_is ∙ ap (count_below key) (left_is ∙ ap₂ without parts own.keys_are) in
      let taken = cells-next key behind others (rising_before behind key others rising) (rising_back behind (key ∷ others) rising).0 entries rises here in
      rw (now_is, at) taken

pub left : {keys : List ℕ} {cells : List ℤ} {entries : List Entry} → AreOf keys cells entries
    → (dropped gone less : List ℕ) (new : List ℤ) → gone ≡ common keys dropped → less ≡ without gone keys → new ≡ cells_of (left_entries gone entries) → AreOf less new (left_entries dropped entries)
left {entries = entries} own dropped gone less new gone_is less_is new_is =
    let same : left_entries gone entries ≡ left_entries dropped entries = ap (λ ks. left_entries ks entries) (gone_is ∙ ap (λ ks. common ks dropped) own.keys_are) ∙ left_common dropped entries in
    record {
      keys_are = less_is ∙ ap (without gone) own.keys_are ∙ sym (keys-left gone entries) ∙ ap keys_of same;
      cells_are = new_is ∙ ap cells_of same;
    }

pub moved_on : {keys : List ℕ} {cells : List ℤ} {entries : List Entry} → AreOf keys cells entries → (shifts : List ShiftRange) (places : List ℕ) → places ≡ landed shifts keys → AreOf places cells (moved_entries shifts entries)
moved_on {entries = entries} own shifts places is = record {
  keys_are = is ∙ ap (landed shifts) own.keys_are ∙ keys-moved shifts entries;
  cells_are = own.cells_are ∙ cells-moved shifts entries;
}
