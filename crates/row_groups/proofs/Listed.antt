-- The lists of rows by their cells, where one of them becomes another.
use Rattle.std.proofs.Common.{◌≡◌, ◌≢◌, refl, ap, sym, ◌∙◌, subst, Bool, true, false, List, [], ◌∷◌, ◌++◌, ℕ, zero, suc, ◌-◌, ◌≤◌, ◌<◌, length, take, drop, arith, ℤ, Option, Some, None, option_map, IsSome, inl, inr, if◌then◌else◌}
use Rattle.std.{specs.Option.option_map_or, specs.Prelude.slice_get, specs.List.AllByRecursion, proofs.lemmas.List.drop_all, specs.Cmp.Rules.signed_items, proofs.lemmas.Bool.cases_eq, proofs.lemmas.Option.{none-some, same_Some}}
use Rattle.slab.{specs.Slab.{get, with_value}, proofs.SlabLemmas.Updates-with_value}
use Rattle.tick_model.specs.Tables.{same_cells}
use Rattle.row_handles.specs.Entries.{Entry}
use Rattle.row_groups.{specs.declared.lists.KeyedRows.KeyedRows, specs.declared.lists.Lists.Lists, specs.declared.place.GroupRow.GroupRow, specs.declared.table.Table.Table, specs.Slots.{handle_from, is_before, IsParted, slots_with, slots_without}, proofs.Ends.{passed_all, put_last}, specs.Rows.{AreNumbered, Becomes, ByNumber, Leads, cells_with, number_under, slots_numbered, slots_under}, proofs.Leading.{numbered_as, renumbered}, proofs.Parts.unlike}

-- the group with a number changes, which has these cells or is new
pub record IsChange (cells : List ℤ) (number : ℕ) (old new : Lists) : Type 0 where
  pub sound : AreNumbered old
  pub mine : (other : List ℤ) → cells_with number old.groups ≡ Some other → other ≡ cells
  pub before : (other : ℕ) → number_under cells old.numbers ≡ Some other → other ≡ number
  pub numbers : (other : List ℤ) → same_cells cells other ≡ false → number_under other new.numbers ≡ number_under other old.numbers
  pub groups : (other : ℕ) → other ≢ number → get new.groups other ≡ get old.groups other

apart : (cells : List ℤ) (number : ℕ) (old new : Lists) → IsChange cells number old new → (other : List ℤ) (n : ℕ) → same_cells cells other ≡ false → number_under other old.numbers ≡ Some n → n ≢ number
apart cells number old new change other n differ under same =
    unlike (same_cells cells other) ((signed_items cells other).1 (sym (change.mine other (ap (λ m. cells_with m old.groups) (sym same) ∙ change.sound.numbers other n under)))) differ

pub becomes : (cells : List ℤ) (number : ℕ) (slots : List GroupRow) (old new : Lists) → IsChange cells number old new → slots_under cells new ≡ slots → Becomes cells slots old new
becomes cells number slots old new change own other = by_test (same_cells cells other) refl
  where
    by_number : (found : Option ℕ) → number_under other old.numbers ≡ found → same_cells cells other ≡ false → option_map_or (λ n. slots_numbered n new.groups) found [] ≡ option_map_or (λ n. slots_numbered n old.groups) found []
    by_number None e differ = refl
    by_number (Some n) e differ = ap (λ (group : Option KeyedRows). option_map_or (λ g. g.rows) group []) (change.groups n (apart cells number old new change other n differ e))

    by_test : (b : Bool) → same_cells cells other ≡ b → slots_under other new ≡ (if b then slots else slots_under other old)
    by_test true e = ap (λ cs. slots_under cs new) (sym ((signed_items cells other).0 e)) ∙ own
    by_test false e =
        ap (λ n. option_map_or (λ m. slots_numbered m new.groups) n []) (change.numbers other e) ∙ by_number (number_under other old.numbers) refl e

-- before a row comes to a group that was there, no list has two rows
abbrev IsShort : Lists → Type 0
IsShort lists = lists.crowded ≡ false → (cells : List ℤ) → length (slots_under cells lists) ≤ 1

-- where a list becomes another
stays_short : (cells : List ℤ) (slots : List GroupRow) (old new : Lists) → AreNumbered old → Becomes cells slots old new → (new.crowded ≡ false → (old.crowded ≡ false) × (length slots ≤ 1)) → IsShort new
stays_short cells slots old new sound becomes keeps calm other =
    subst (λ (rows : List GroupRow). length rows ≤ 1) (sym (becomes other))
    (elim (same_cells cells other) as (λ b. length (if b then slots else slots_under other old) ≤ 1) [ true ↦ (keeps calm).1 | false ↦ sound.alone (keeps calm).0 other ])

pub numbered : (cells : List ℤ) (number : ℕ) (old new : Lists) → IsChange cells number old new → ((other : ℕ) → number_under cells new.numbers ≡ Some other → (other ≡ number) × (cells_with number new.groups ≡ Some cells)) → ((other : List ℤ) → cells_with number new.groups ≡ Some other → (other ≡ cells) × (number_under cells new.numbers ≡ Some number)) → IsShort new → AreNumbered new
numbered cells number old new change under with short = record { numbers = λ other n e. by_cells other n e (same_cells cells other) refl; cells = by_number; alone = short }
  where
    stays : (n : ℕ) → n ≢ number → cells_with n new.groups ≡ cells_with n old.groups
    stays n ne = ap (λ (group : Option KeyedRows). option_map (λ g. g.cells.items) group) (change.groups n ne)

    by_cells : (other : List ℤ) (n : ℕ) → number_under other new.numbers ≡ Some n → (b : Bool) → same_cells cells other ≡ b → cells_with n new.groups ≡ Some other
    by_cells other n e true same =
        let own = (signed_items cells other).0 same in
        let is = under n (ap (λ cs. number_under cs new.numbers) own ∙ e) in
        ap (λ m. cells_with m new.groups) is.0 ∙ is.1 ∙ ap Some own
    by_cells other n e false differ =
        let was = sym (change.numbers other differ) ∙ e in
        stays n (apart cells number old new change other n differ was) ∙ change.sound.numbers other n was

    by_test : (other : List ℤ) (n : ℕ) → n ≢ number → number_under other old.numbers ≡ Some n → (b : Bool) → same_cells cells other ≡ b → number_under other new.numbers ≡ Some n
    by_test other n ne was true same = absurd (ne (change.before n (ap (λ cs. number_under cs old.numbers) ((signed_items cells other).0 same) ∙ was)))
    by_test other n ne was false differ = change.numbers other differ ∙ was

    by_number : (other : List ℤ) (n : ℕ) → cells_with n new.groups ≡ Some other → number_under other new.numbers ≡ Some n
    by_number other n e =
        elim (cases_eq n number) [
          | inl same ↦
              let is = with other (ap (λ m. cells_with m new.groups) (sym same) ∙ e) in
              ap (λ cs. number_under cs new.numbers) is.0 ∙ is.1 ∙ ap Some (sym same)
          | inr ne ↦ by_test other n ne (change.sound.cells other n (sym (stays n ne) ∙ e)) (same_cells cells other) refl
        ]

-- the group with a number, and what it has
pub with_group : (number : ℕ) (groups : ByNumber) (group : KeyedRows) → get groups number ≡ Some group → cells_with number groups ≡ Some group.cells.items
with_group number groups group e = ap (λ (g : Option KeyedRows). option_map (λ k. k.cells.items) g) e

pub with_rows : (number : ℕ) (groups : ByNumber) (group : KeyedRows) → get groups number ≡ Some group → slots_numbered number groups ≡ group.rows
with_rows number groups group e = ap (λ (g : Option KeyedRows). option_map_or (λ k. k.rows) g []) e

pub under_number : (cells : List ℤ) (number : ℕ) (lists : Lists) → number_under cells lists.numbers ≡ Some number → slots_under cells lists ≡ slots_numbered number lists.groups
under_number cells number lists e = ap (λ n. option_map_or (λ m. slots_numbered m lists.groups) n []) e

pub numbered_under : (cells : List ℤ) (number : ℕ) (lists : Lists) → AreNumbered lists → cells_with number lists.groups ≡ Some cells → slots_numbered number lists.groups ≡ slots_under cells lists
numbered_under cells number lists numbered with = sym (under_number cells number lists (numbered.cells cells number with))

pub under_none : (cells : List ℤ) (lists : Lists) → number_under cells lists.numbers ≡ None → slots_under cells lists ≡ []
under_none cells lists e = ap (λ n. option_map_or (λ m. slots_numbered m lists.groups) n []) e

pub there_is_group : (cells : List ℤ) (number : ℕ) (lists : Lists) → AreNumbered lists → number_under cells lists.numbers ≡ Some number → IsSome (get lists.groups number)
there_is_group cells number lists numbered under = has (get lists.groups number) (numbered.numbers cells number under)
  where
    has : (group : Option KeyedRows) → option_map (λ g. g.cells.items) group ≡ Some cells → IsSome group
    has None e = absurd (cc)
    has (Some group) e = refl

-- a group that begins
pub record Begins (cells : List ℤ) (number : ℕ) (group : KeyedRows) (old new : Lists) : Type 0 where
  pub sound : AreNumbered old
  pub absent : number_under cells old.numbers ≡ None
  pub leads : Leads cells (Some number) old.numbers new.numbers
  pub vacant : get old.groups number ≡ None
  pub put : get new.groups number ≡ Some group
  pub others : (n : ℕ) → n ≢ number → get new.groups n ≡ get old.groups n
  pub same : group.cells.items ≡ cells
  pub crowded : new.crowded ≡ old.crowded
  pub only : length group.rows ≤ 1

module _ (cells : List ℤ) (number : ℕ) (group : KeyedRows) (old new : Lists) (begins : Begins cells number group old new) where
  begins_change : IsChange cells number old new
  begins_change = record {
    sound = begins.sound;
    mine = λ other e. absurd (none-some other (sym (ap (λ (g : Option KeyedRows). option_map (λ k. k.cells.items) g) begins.vacant) ∙ e));
    before = λ other e. absurd (none-some other (sym begins.absent ∙ e));
    numbers = λ other differ. renumbered cells other old.numbers new.numbers (Some number) begins.leads differ;
    groups = begins.others;
  }

  pub begins_cells : cells_with number new.groups ≡ Some cells
  begins_cells = with_group number new.groups group begins.put ∙ ap Some begins.same

  pub begins_rows : Becomes cells group.rows old new
  begins_rows =
      becomes cells number group.rows old new begins_change
      (under_number cells number new (numbered_as cells old.numbers new.numbers (Some number) begins.leads) ∙ with_rows number new.groups group begins.put)

  pub begins_numbered : AreNumbered new
  begins_numbered =
      let under = numbered_as cells old.numbers new.numbers (Some number) begins.leads in
      numbered cells number old new begins_change
      (λ other e. (sym (same_Some number other (sym under ∙ e)), begins_cells))
      (λ other e. (sym (same_Some cells other (sym begins_cells ∙ e)), under))
      (stays_short cells group.rows old new begins.sound begins_rows (λ calm. (sym begins.crowded ∙ calm, begins.only)))

-- a group whose rows become others
pub record Changes (number : ℕ) (group : KeyedRows) (rows : List GroupRow) (old new : Lists) : Type 0 where
  pub sound : AreNumbered old
  pub was : get old.groups number ≡ Some group
  pub numbers : new.numbers ≡ old.numbers
  pub put : get new.groups number ≡ Some (record group { rows = rows })
  pub others : (n : ℕ) → n ≢ number → get new.groups n ≡ get old.groups n

module _ (number : ℕ) (group : KeyedRows) (rows : List GroupRow) (old new : Lists) (changes : Changes number group rows old new) where
  changes_own : cells_with number old.groups ≡ Some group.cells.items
  changes_own = with_group number old.groups group changes.was

  pub changes_under : number_under group.cells.items old.numbers ≡ Some number
  changes_under = changes.sound.cells group.cells.items number changes_own

  changes_change : IsChange group.cells.items number old new
  changes_change = record {
    sound = changes.sound;
    mine = λ other e. sym (same_Some group.cells.items other (sym changes_own ∙ e));
    before = λ other e. sym (same_Some number other (sym changes_under ∙ e));
    numbers = λ other differ. ap (number_under other) changes.numbers;
    groups = changes.others;
  }

  pub changes_rows : Becomes group.cells.items rows old new
  changes_rows =
      becomes group.cells.items number rows old new changes_change
      (under_number group.cells.items number new (ap (number_under group.cells.items) changes.numbers ∙ changes_under) ∙ with_rows number new.groups (record group { rows = rows }) changes.put)

  pub changes_cells : (other : ℕ) → cells_with other new.groups ≡ cells_with other old.groups
  changes_cells other =
      elim (cases_eq other number) [
        | inl same ↦ ap (λ n. cells_with n new.groups) same ∙ with_group number new.groups (record group { rows = rows }) changes.put ∙ sym changes_own ∙ ap (λ n. cells_with n old.groups) (sym same)
        | inr differ ↦ ap (λ (g : Option KeyedRows). option_map (λ k. k.cells.items) g) (changes.others other differ)
      ]

  pub changes_numbered : (new.crowded ≡ false → (old.crowded ≡ false) × (length rows ≤ 1)) → AreNumbered new
  changes_numbered keeps = record {
    alone = stays_short group.cells.items rows old new changes.sound changes_rows keeps;
    numbers = λ cells n e. changes_cells n ∙ changes.sound.numbers cells n (sym (ap (number_under cells) changes.numbers) ∙ e);
    cells = λ cells n e. ap (number_under cells) changes.numbers ∙ changes.sound.cells cells n (sym (changes_cells n) ∙ e);
  }

pub changed : (number : ℕ) (group : KeyedRows) (rows : List GroupRow) (old new : Lists) → AreNumbered old → get old.groups number ≡ Some group → new.numbers ≡ old.numbers → new.groups ≡ with_value old.groups number (record group { rows = rows }) → Changes number group rows old new
changed number group rows old new sound was numbers groups =
    let updates = Updates-with_value old.groups number (record group { rows = rows }) (subst (λ (g : Option KeyedRows). IsSome g) (sym was) refl) in
    record {
      sound = sound;
      was = was;
      numbers = numbers;
      put = ap (λ (g : ByNumber). get g number) groups ∙ updates.changed;
      others = λ n ne. ap (λ (g : ByNumber). get g n) groups ∙ updates.others n ne;
    }

-- a group that is given up
pub record GivesUp (number : ℕ) (group : KeyedRows) (old new : Lists) : Type 0 where
  pub sound : AreNumbered old
  pub was : get old.groups number ≡ Some group
  pub leads : Leads group.cells.items None old.numbers new.numbers
  pub gone : get new.groups number ≡ None
  pub others : (n : ℕ) → n ≢ number → get new.groups n ≡ get old.groups n
  pub crowded : new.crowded ≡ old.crowded

module _ (number : ℕ) (group : KeyedRows) (old new : Lists) (gives : GivesUp number group old new) where
  gives_own : cells_with number old.groups ≡ Some group.cells.items
  gives_own = with_group number old.groups group gives.was

  gives_change : IsChange group.cells.items number old new
  gives_change = record {
    sound = gives.sound;
    mine = λ other e. sym (same_Some group.cells.items other (sym gives_own ∙ e));
    before = λ other e. sym (same_Some number other (sym (gives.sound.cells group.cells.items number gives_own) ∙ e));
    numbers = λ other differ. renumbered group.cells.items other old.numbers new.numbers None gives.leads differ;
    groups = gives.others;
  }

  gives_none : number_under group.cells.items new.numbers ≡ None
  gives_none = numbered_as group.cells.items old.numbers new.numbers None gives.leads

  pub gives_rows : (cells : List ℤ) → cells_with number old.groups ≡ Some cells → Becomes cells [] old new
  gives_rows cells e =
      subst (λ cs. Becomes cs [] old new) (same_Some group.cells.items cells (sym gives_own ∙ e))
      (becomes group.cells.items number [] old new gives_change (under_none group.cells.items new gives_none))

  pub gives_numbered : AreNumbered new
  gives_numbered =
      numbered group.cells.items number old new gives_change
      (λ other e. absurd (none-some other (sym gives_none ∙ e)))
      (λ other e. absurd (none-some other (sym (ap (λ (g : Option KeyedRows). option_map (λ k. k.cells.items) g) gives.gone) ∙ e)))
      (stays_short group.cells.items [] old new gives.sound (gives_rows group.cells.items gives_own) (λ calm. (sym gives.crowded ∙ calm, omega arith)))

pub with_same_cells : (cells : List ℤ) (number : ℕ) (group : KeyedRows) (lists : Lists) → AreNumbered lists → number_under cells lists.numbers ≡ Some number → get lists.groups number ≡ Some group → group.cells.items ≡ cells
with_same_cells cells number group lists numbered under is = same_Some group.cells.items cells (sym (with_group number lists.groups group is) ∙ numbered.numbers cells number under)

-- the list of a group before a row came to one that was there, also without a row
pub own_short : (number : ℕ) (group : KeyedRows) (lists : Lists) → AreNumbered lists → get lists.groups number ≡ Some group → lists.crowded ≡ false → length group.rows ≤ 1
own_short number group lists sound was calm =
    subst (λ (rows : List GroupRow). length rows ≤ 1) (under_number group.cells.items number lists (sound.cells group.cells.items number (with_group number lists.groups group was)) ∙ with_rows number lists.groups group was)
    (sound.alone calm group.cells.items)

pub shorter : (entries : List Entry) (table : Table) (at : ℤ) (key : ℕ) (slots : List GroupRow) → length (slots_without entries table at key slots) ≤ length slots
shorter entries table at key [] = omega arith
shorter entries table at key (slot ∷ slots) = by_test (is_before entries table at key slot) (shorter entries table at key slots)
  where
    by_test : (b : Bool) → length (slots_without entries table at key slots) ≤ length slots → length (if b then slot ∷ slots_without entries table at key slots else slots) ≤ suc (length slots)
    by_test true less = omega (arith, less)
    by_test false less = omega arith

-- a group that does not begin
pub unbegun : (cells : List ℤ) (old new : Lists) → number_under cells old.numbers ≡ None → ((other : List ℤ) → slots_under other new ≡ slots_under other old) → Becomes cells [] old new
unbegun cells old new absent same other = by_test (same_cells cells other) refl
  where
    by_test : (b : Bool) → same_cells cells other ≡ b → slots_under other new ≡ (if b then [] else slots_under other old)
    by_test true e = same other ∙ ap (λ cs. slots_under cs old) (sym ((signed_items cells other).0 e)) ∙ under_none cells old absent
    by_test false e = same other

pub becomes_after : (cells : List ℤ) (slots others : List GroupRow) (old mid new : Lists) → Becomes cells others old mid → Becomes cells slots mid new → Becomes cells slots old new
becomes_after cells slots others old mid new first second other = by_test (same_cells cells other) (first other) (second other)
  where
    by_test : (b : Bool) → slots_under other mid ≡ (if b then others else slots_under other old) → slots_under other new ≡ (if b then slots else slots_under other mid) → slots_under other new ≡ (if b then slots else slots_under other old)
    by_test true e f = f
    by_test false e f = f ∙ e

pub same_items : (cells : List ℤ) (number : ℕ) (group : KeyedRows) (groups : ByNumber) → get groups number ≡ Some group → cells_with number groups ≡ Some cells → group.cells.items ≡ cells
same_items cells number group groups was own = same_Some group.cells.items cells (sym (with_group number groups group was) ∙ own)

-- a place in a list
pub placed_with : (entries : List Entry) (table : Table) (at : ℤ) (key : ℕ) (slot : GroupRow) (slots : List GroupRow) (n : ℕ) → n ≤ length slots → AllByRecursion (λ s. is_before entries table at key s ≡ true) (take n slots) → AllByRecursion (λ s. is_before entries table at key s ≡ false) (drop n slots) → take n slots ++ slot ∷ drop n slots ≡ slots_with entries table at key slot slots
placed_with entries table at key slot [] zero le h k = refl
placed_with entries table at key slot [] (suc n) le h k = absurd (omega arith)
placed_with entries table at key slot (s ∷ slots) zero le h k = sym (ap (λ b. if b then s ∷ slots_with entries table at key slot slots else slot ∷ s ∷ slots) k.0)
placed_with entries table at key slot (s ∷ slots) (suc n) le h k =
    ap (λ ss. s ∷ ss) (placed_with entries table at key slot slots n (omega arith) h.1 k)
    ∙ sym (ap (λ b. if b then s ∷ slots_with entries table at key slot slots else slot ∷ s ∷ slots) h.0)

pub placed_without : (entries : List Entry) (table : Table) (at : ℤ) (key : ℕ) (slots : List GroupRow) (n : ℕ) → n < length slots → AllByRecursion (λ s. is_before entries table at key s ≡ true) (take n slots) → AllByRecursion (λ s. is_before entries table at key s ≡ false) (drop n slots) → take n slots ++ drop (suc n) slots ≡ slots_without entries table at key slots
placed_without entries table at key [] n lt h k = absurd (omega arith)
placed_without entries table at key (s ∷ slots) zero lt h k = sym (ap (λ b. if b then s ∷ slots_without entries table at key slots else slots) k.0)
placed_without entries table at key (s ∷ slots) (suc n) lt h k =
    ap (λ ss. s ∷ ss) (placed_without entries table at key slots n (omega arith) h.1 k)
    ∙ sym (ap (λ b. if b then s ∷ slots_without entries table at key slots else slots) h.0)

-- a row behind all others
pub placed_alone : (entries : List Entry) (table : Table) (at : ℤ) (key : ℕ) (slot : GroupRow) (slots : List GroupRow) → length slots ≡ 0 → slots ++ slot ∷ [] ≡ slots_with entries table at key slot slots
placed_alone entries table at key slot [] none = refl
placed_alone entries table at key slot (s ∷ slots) none = absurd (omega arith)

pub placed_last : (entries : List Entry) (table : Table) (at : ℤ) (key : ℕ) (slot last : GroupRow) (slots : List GroupRow) → slice_get slots (length slots - 1) ≡ Some last → IsParted (is_before entries table at key) slots → is_before entries table at key last ≡ true → slots ++ slot ∷ [] ≡ slots_with entries table at key slot slots
placed_last entries table at key slot last slots is parted own =
    put_last slots (length slots) slot refl
    ∙ placed_with entries table at key slot slots (length slots) (omega arith) (passed_all (is_before entries table at key) slots (length slots) last refl is parted own)
    (subst (AllByRecursion (λ s. is_before entries table at key s ≡ false)) (sym (drop_all (length slots) slots (omega arith))) tt)

pub placed_from : (entries : List Entry) (table : Table) (at : ℤ) (key : ℕ) (slots : List GroupRow) (n : ℕ) (slot : GroupRow) → slice_get slots n ≡ Some slot → AllByRecursion (λ s. is_before entries table at key s ≡ true) (take n slots) → AllByRecursion (λ s. is_before entries table at key s ≡ false) (drop n slots) → Some slot.handle ≡ handle_from entries table at key slots
placed_from entries table at key [] n slot e h k = absurd (none-some slot e)
placed_from entries table at key (s ∷ slots) zero slot e h k =
    ap (λ (row : GroupRow). Some row.handle) (sym (same_Some s slot e)) ∙ sym (ap (λ b. if b then handle_from entries table at key slots else Some s.handle) k.0)
placed_from entries table at key (s ∷ slots) (suc n) slot e h k =
    placed_from entries table at key slots n slot e h.1 k ∙ sym (ap (λ b. if b then handle_from entries table at key slots else Some s.handle) h.0)

-- where all rows stand before the place, none is there
pub none_from : (entries : List Entry) (table : Table) (at : ℤ) (key : ℕ) (slots : List GroupRow) (n : ℕ) → length slots ≤ n → AllByRecursion (λ s. is_before entries table at key s ≡ true) (take n slots) → None ≡ handle_from entries table at key slots
none_from entries table at key [] n le h = refl
none_from entries table at key (s ∷ slots) zero le h = absurd (omega arith)
none_from entries table at key (s ∷ slots) (suc n) le h =
    none_from entries table at key slots n (omega arith) h.1 ∙ sym (ap (λ b. if b then handle_from entries table at key slots else Some s.handle) h.0)

pub none_there : (entries : List Entry) (table : Table) (at : ℤ) (key : ℕ) (slots : List GroupRow) (n : ℕ) → length slots ≤ n → AllByRecursion (λ s. is_before entries table at key s ≡ true) (take n slots) → slots ≡ slots_without entries table at key slots
none_there entries table at key [] n le h = refl
none_there entries table at key (s ∷ slots) zero le h = absurd (omega arith)
none_there entries table at key (s ∷ slots) (suc n) le h =
    ap (λ ss. s ∷ ss) (none_there entries table at key slots n (omega arith) h.1)
    ∙ sym (ap (λ b. if b then s ∷ slots_without entries table at key slots else slots) h.0)
