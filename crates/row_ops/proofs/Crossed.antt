-- The rows that cross a test in a step of an exact input are those that the filter removes and adds.
use Rattle.std.proofs.Common.{◌≡◌, refl, ap, ap₂, sym, ◌∙◌, subst, Bool, true, false, not, ◌&&◌, ◌||◌, ℕ, List, [], filter, Option, Some, true≢false, ℤ}
use Rattle.std.{specs.Prelude.{option_map, unwrap_or}, specs.List.AllByRecursion, specs.Cmp.Rules.signed_items, proofs.lemmas.Bool.not-false}
use Rattle.key_lists.{specs.Keys.{is_among, without}, proofs.Among.{among-filter, of_among, absent-filter}, proofs.Every.{every_both, every_weaker, every_unmapped, filter_filter, filter_same, filter-map}, proofs.Rising.{rising-filter, rising_same, rising_some}}
use Rattle.row_set.{specs.Sets.{common, united}, proofs.United.{among-united, united_rises}}
use Rattle.tick_model.{specs.declared.table.PlainRow.PlainRow, specs.declared.table.PlainTable.PlainTable, specs.declared.update.KeyPair.KeyPair, specs.Tables.{cells_at, keys, row_at, IsTable}, specs.Updates.{Tick, Update, between, differs, kept_pair, new_keys, old_keys}, proofs.Among.each_found}
use Rattle.tick_table.{specs.Exact.{IsExact, tick_of}, specs.Ticking.Ticking}
use Rattle.shown_rows.{specs.Shown.{IsPart, through}, proofs.Named.{named_by, of_named}, proofs.Parts.{keys_there, passing_part}, proofs.Restricted.{is_modified, kept, modified_by, old_some}}

-- the rows whose cells pass a test
abbrev pub passing : (List ℤ → Bool) → PlainTable → PlainTable
passing test table = record table { rows = filter (λ row. test row.cells) table.rows }

-- whether the row under a key passes
abbrev pub passes_at : (List ℤ → Bool) → PlainTable → ℕ → Bool
passes_at test table key = test (cells_at key table.rows)

passing_keys : (test : List ℤ → Bool) (table : PlainTable) → IsTable table → keys (passing test table).rows ≡ filter (passes_at test table) (keys table.rows)
passing_keys test table t =
    ap keys (filter_same (λ row. test row.cells) (λ row. passes_at test table row.key) table.rows
    (every_weaker (λ row. row_at row.key table.rows ≡ Some row) (λ row. test row.cells ≡ passes_at test table row.key) table.rows
    (λ row found. ap (λ (o : Option PlainRow). test (unwrap_or (option_map (λ (row : PlainRow). row.cells) o) [])) (sym found))
    (each_found table.rows t.rising)))
    ∙ sym (filter-map (passes_at test table) (λ (row : PlainRow). row.key) table.rows)

-- a key is that of a row that passes where it is that of a row, and this one passes
pub passing_at : (test : List ℤ → Bool) (table : PlainTable) (key : ℕ) → IsTable table → is_among key (keys (passing test table).rows) ≡ (passes_at test table key && is_among key (keys table.rows))
passing_at test table key t = ap (is_among key) (passing_keys test table t) ∙ among-filter (passes_at test table) key (keys table.rows)

-- a row is shown no more where it was removed or passes no more; b: it was shown, r: it is removed, o: it was there, m: it is modified, p: it passes now, n: it is shown now
leaves : (b r o m p n : Bool) → (b ≡ true → o ≡ true) → ((not r && o) ≡ true → n ≡ p) → (b ≡ true → (not r && o) ≡ true → m ≡ false → p ≡ true)
    → ((b && r) || ((m && (b && not p)) && (not r && o))) ≡ (not ((b && n) && (not r && o)) && b)
leaves false r o true p n f g h = refl
leaves false r o false p n f g h = refl
leaves true true o m p true f g h = refl
leaves true true o m p false f g h = refl
leaves true false false m p n f g h = absurd (true≢false (sym (f refl)))
leaves true false true m true false f g h = absurd (true≢false (sym (g refl)))
leaves true false true m false true f g h = absurd (true≢false (g refl))
leaves true false true true true true f g h = refl
leaves true false true false true true f g h = refl
leaves true false true true false false f g h = refl
leaves true false true false false false f g h = absurd (true≢false (sym (h refl refl refl)))

-- a row that stays begins to be shown where it is modified, was not shown and passes; b: it was shown, m: it is modified, p: it passes
comes : (b m p : Bool) → (m ≡ false → b ≡ p) → (m && (not b && p)) ≡ (not (b && p) && p)
comes true true p f = not_both p
  where
    not_both : (p : Bool) → false ≡ (not p && p)
    not_both true = refl
    not_both false = refl
comes true false p f = not_both p
  where
    not_both : (p : Bool) → false ≡ (not p && p)
    not_both true = refl
    not_both false = refl
comes false true p f = refl
comes false false p f = f refl

and_true : (p t : Bool) → t ≡ true → (p && t) ≡ p
and_true true t e = e
and_true false t e = refl

module _ (test : List ℤ → Bool) (t : Ticking) (e : IsExact t) where
  abbrev shown : Tick
  shown = through (passing test) (tick_of t)

  abbrev before : List ℕ
  before = keys (passing test t.old).rows

  abbrev now : List ℕ
  now = keys (passing test t.new).rows

  abbrev both : KeyPair → Bool
  both pair = is_among pair.old before && is_among pair.new now

  abbrev fails_now : KeyPair → Bool
  fails_now pair = is_among pair.old before && not (passes_at test t.new pair.new)

  abbrev passes_first : KeyPair → Bool
  passes_first pair = not (is_among pair.old before) && passes_at test t.new pair.new

  abbrev staying : List ℕ
  staying = without t.update.removed (keys t.old.rows)

  pub old_part : IsPart (passing test t.old) t.old
  old_part = passing_part (λ row. test row.cells) t.old e.tick.old_table

  pub new_part : IsPart (passing test t.new) t.new
  new_part = passing_part (λ row. test row.cells) t.new e.tick.new_table

  old_there : (key : ℕ) → is_among key before ≡ true → is_among key (keys t.old.rows) ≡ true
  old_there key own = of_among (λ key. is_among key (keys t.old.rows) ≡ true) key before (keys_there (passing test t.old) t.old old_part) own

  new_there : AllByRecursion (λ (pair : KeyPair). is_among pair.new (keys t.new.rows) ≡ true) (kept t e)
  new_there = every_unmapped (λ key. is_among key (keys t.new.rows) ≡ true) (λ (pair : KeyPair). pair.new) (kept t e) e.tick.of_new

  -- a row that is not modified passes now where it did before
  unchanged : (pair : KeyPair) → is_modified t e pair ≡ differs t.old t.new pair → is_modified t e pair ≡ false → passes_at test t.old pair.old ≡ passes_at test t.new pair.new
  unchanged pair by not_modified = ap test ((signed_items (cells_at pair.old t.old.rows) (cells_at pair.new t.new.rows)).0 (not-false _ (sym by ∙ not_modified)))

  shown_now : (pair : KeyPair) → is_among pair.new (keys t.new.rows) ≡ true → is_among pair.new now ≡ passes_at test t.new pair.new
  shown_now pair there = passing_at test t.new pair.new e.tick.new_table ∙ and_true (passes_at test t.new pair.new) (is_among pair.new (keys t.new.rows)) there

  -- what holds of all pairs holds of the pair of a key that stays
  of_staying : (P : KeyPair → Type 0) (key : ℕ) → AllByRecursion P (kept t e) → is_among key staying ≡ true → P (kept_pair t.update key)
  of_staying P key h own = of_among (λ key. P (kept_pair t.update key)) key staying (every_unmapped P (kept_pair t.update) staying h) own

  old_at : (g : KeyPair → Bool) (key : ℕ) → is_among key (old_keys (filter g (kept t e))) ≡ (g (kept_pair t.update key) && (not (is_among key t.update.removed) && is_among key (keys t.old.rows)))
  old_at g key =
      ap (is_among key) (old_some t e g) ∙ among-filter (λ key. g (kept_pair t.update key)) key staying
      ∙ ap (λ b. g (kept_pair t.update key) && b) (among-filter (λ key. not (is_among key t.update.removed)) key (keys t.old.rows))

  leaving_at : (key : ℕ) → is_among key (united (common t.update.removed before) (old_keys (filter fails_now (filter (is_modified t e) (kept t e))))) ≡ is_among key (between shown).removed
  leaving_at key =
      among-united key (common t.update.removed before) (old_keys (filter fails_now (filter (is_modified t e) (kept t e))))
      ∙ ap₂ (λ a b. a || b) (among-filter (λ key. is_among key before) key t.update.removed)
      (ap (λ ps. is_among key (old_keys ps)) (filter_filter fails_now (is_modified t e) (kept t e)) ∙ old_at (λ pair. is_modified t e pair && fails_now pair) key)
      ∙ leaves (is_among key before) (is_among key t.update.removed) (is_among key (keys t.old.rows)) (is_modified t e (kept_pair t.update key)) (passes_at test t.new (kept_pair t.update key).new) (is_among (kept_pair t.update key).new now)
      (old_there key)
      (λ stays. shown_now (kept_pair t.update key) (of_staying (λ pair. is_among pair.new (keys t.new.rows) ≡ true) key new_there (staying_at stays)))
      (λ own stays not_modified. sym (unchanged (kept_pair t.update key) (of_staying (λ pair. is_modified t e pair ≡ differs t.old t.new pair) key (modified_by t e) (staying_at stays)) not_modified) ∙ passed own)
      ∙ ap (λ b. not b && is_among key before) (sym (old_at both key))
      ∙ sym (among-filter (λ key. not (is_among key (old_keys (filter both (kept t e))))) key before)
    where
      staying_at : (not (is_among key t.update.removed) && is_among key (keys t.old.rows)) ≡ true → is_among key staying ≡ true
      staying_at stays = among-filter (λ key. not (is_among key t.update.removed)) key (keys t.old.rows) ∙ stays

      passed : is_among key before ≡ true → passes_at test t.old key ≡ true
      passed own = sym (and_true (passes_at test t.old key) (is_among key (keys t.old.rows)) (old_there key own)) ∙ sym (passing_at test t.old key e.tick.old_table) ∙ own

  pub leaving_is : united (common t.update.removed before) (old_keys (filter fails_now (filter (is_modified t e) (kept t e)))) ≡ (between shown).removed
  leaving_is =
      rising_same (united (common t.update.removed before) (old_keys (filter fails_now (filter (is_modified t e) (kept t e))))) (between shown).removed
      (united_rises (common t.update.removed before) (old_keys (filter fails_now (filter (is_modified t e) (kept t e))))
      (rising-filter (λ (pair : KeyPair). pair.old) fails_now (filter (is_modified t e) (kept t e)) (rising-filter (λ (pair : KeyPair). pair.old) (is_modified t e) (kept t e) e.tick.rising_old)))
      (rising_some (λ key. not (is_among key (old_keys (filter both (kept t e))))) before (rising-filter (λ (row : PlainRow). row.key) (λ row. test row.cells) t.old.rows e.tick.old_table.rising))
      leaving_at

  abbrev coming : List ℕ
  coming = united (filter (passes_at test t.new) t.update.added) (new_keys (filter passes_first (filter (is_modified t e) (kept t e))))

  added_at : (key : ℕ) → is_among key t.update.added ≡ (not (is_among key (new_keys (kept t e))) && is_among key (keys t.new.rows))
  added_at key = ap (λ (update : Update). is_among key update.added) e.update ∙ among-filter (λ key. not (is_among key (new_keys (kept t e)))) key (keys t.new.rows)

  coming_parts : (key : ℕ) → is_among key coming ≡ ((passes_at test t.new key && (not (is_among key (new_keys (kept t e))) && is_among key (keys t.new.rows))) || is_among key (new_keys (filter (λ pair. is_modified t e pair && passes_first pair) (kept t e))))
  coming_parts key =
      among-united key (filter (passes_at test t.new) t.update.added) (new_keys (filter passes_first (filter (is_modified t e) (kept t e))))
      ∙ ap₂ (λ a b. a || b) (among-filter (passes_at test t.new) key t.update.added ∙ ap (λ b. passes_at test t.new key && b) (added_at key))
      (ap (λ ps. is_among key (new_keys ps)) (filter_filter passes_first (is_modified t e) (kept t e)))

  added_parts : (key : ℕ) → is_among key (between shown).added ≡ (not (is_among key (new_keys (filter both (kept t e)))) && (passes_at test t.new key && is_among key (keys t.new.rows)))
  added_parts key = among-filter (λ key. not (is_among key (new_keys (filter both (kept t e))))) key now ∙ ap (λ b. not (is_among key (new_keys (filter both (kept t e)))) && b) (passing_at test t.new key e.tick.new_table)

  -- of a pair: what names it among those that come and among those that stay, and what is known of it
  pub record Knows (pair : KeyPair) : Type 0 where
    pub comes_by : is_among pair.new (new_keys (filter (λ pair. is_modified t e pair && passes_first pair) (kept t e))) ≡ (is_modified t e pair && passes_first pair)
    pub stays_by : is_among pair.new (new_keys (filter both (kept t e))) ≡ both pair
    pub modified : is_modified t e pair ≡ differs t.old t.new pair
    pub old : is_among pair.old (keys t.old.rows) ≡ true
    pub new : is_among pair.new (keys t.new.rows) ≡ true

  all_known : AllByRecursion Knows (kept t e)
  all_known =
      every_both (λ pair. (is_among pair.new (new_keys (filter (λ pair. is_modified t e pair && passes_first pair) (kept t e))) ≡ (is_modified t e pair && passes_first pair)) × (is_among pair.new (new_keys (filter both (kept t e))) ≡ both pair))
      (λ pair. (is_modified t e pair ≡ differs t.old t.new pair) × ((is_among pair.old (keys t.old.rows) ≡ true) × (is_among pair.new (keys t.new.rows) ≡ true))) Knows (kept t e)
      (λ pair by are. record { comes_by = by.0; stays_by = by.1; modified = are.0; old = are.1.0; new = are.1.1 })
      (every_both _ _ _ (kept t e) (λ pair a b. (a, b))
      (named_by (λ (pair : KeyPair). pair.new) (λ pair. is_modified t e pair && passes_first pair) (kept t e) e.tick.rising_new)
      (named_by (λ (pair : KeyPair). pair.new) both (kept t e) e.tick.rising_new))
      (every_both _ _ _ (kept t e) (λ pair a b. (a, b)) (modified_by t e)
      (every_both _ _ _ (kept t e) (λ pair a b. (a, b)) (every_unmapped (λ key. is_among key (keys t.old.rows) ≡ true) (λ (pair : KeyPair). pair.old) (kept t e) e.tick.of_old) new_there))

  coming_of : (pair : KeyPair) → Knows pair → ((passes_at test t.new pair.new && (false && is_among pair.new (keys t.new.rows))) || is_among pair.new (new_keys (filter (λ pair. is_modified t e pair && passes_first pair) (kept t e)))) ≡ (not (is_among pair.new (new_keys (filter both (kept t e)))) && (passes_at test t.new pair.new && is_among pair.new (keys t.new.rows)))
  coming_of pair h =
      none_first (passes_at test t.new pair.new) (is_among pair.new (new_keys (filter (λ pair. is_modified t e pair && passes_first pair) (kept t e))))
      ∙ h.comes_by
      ∙ comes (is_among pair.old before) (is_modified t e pair) (passes_at test t.new pair.new)
      (λ not_modified. passing_at test t.old pair.old e.tick.old_table ∙ and_true (passes_at test t.old pair.old) (is_among pair.old (keys t.old.rows)) h.old ∙ unchanged pair h.modified not_modified)
      ∙ ap₂ (λ a b. not a && b) (sym (h.stays_by ∙ ap (λ b. is_among pair.old before && b) (shown_now pair h.new))) (sym (and_true (passes_at test t.new pair.new) (is_among pair.new (keys t.new.rows)) h.new))
    where
      none_first : (p b : Bool) → ((p && false) || b) ≡ b
      none_first true b = refl
      none_first false b = refl

  coming_at : (key : ℕ) → is_among key coming ≡ is_among key (between shown).added
  coming_at key =
      coming_parts key
      ∙ (elim (is_among key (new_keys (kept t e))) as (λ b. is_among key (new_keys (kept t e)) ≡ b → ((passes_at test t.new key && (not b && is_among key (keys t.new.rows))) || is_among key (new_keys (filter (λ pair. is_modified t e pair && passes_first pair) (kept t e)))) ≡ (not (is_among key (new_keys (filter both (kept t e)))) && (passes_at test t.new key && is_among key (keys t.new.rows)))) [
        | true ↦ λ own.
            let found = of_named (λ (pair : KeyPair). pair.new) Knows key (kept t e) all_known own in
            subst (λ k. ((passes_at test t.new k && (false && is_among k (keys t.new.rows))) || is_among k (new_keys (filter (λ pair. is_modified t e pair && passes_first pair) (kept t e)))) ≡ (not (is_among k (new_keys (filter both (kept t e)))) && (passes_at test t.new k && is_among k (keys t.new.rows)))) found.1.1 (coming_of found.0 found.1.0)
        | false ↦ λ other.
            ap (λ b. (passes_at test t.new key && is_among key (keys t.new.rows)) || b) (absent-filter (λ (pair : KeyPair). pair.new) (λ pair. is_modified t e pair && passes_first pair) key (kept t e) other)
            ∙ or_none (passes_at test t.new key && is_among key (keys t.new.rows))
            ∙ ap (λ b. not b && (passes_at test t.new key && is_among key (keys t.new.rows))) (sym (absent-filter (λ (pair : KeyPair). pair.new) both key (kept t e) other))
      ]) refl
      ∙ sym (added_parts key)
    where
      or_none : (b : Bool) → (b || false) ≡ b
      or_none true = refl
      or_none false = refl

  pub coming_is : coming ≡ (between shown).added
  coming_is =
      rising_same coming (between shown).added
      (united_rises (filter (passes_at test t.new) t.update.added) (new_keys (filter passes_first (filter (is_modified t e) (kept t e))))
      (rising-filter (λ (pair : KeyPair). pair.new) passes_first (filter (is_modified t e) (kept t e)) (rising-filter (λ (pair : KeyPair). pair.new) (is_modified t e) (kept t e) e.tick.rising_new)))
      (rising_some (λ key. not (is_among key (new_keys (filter both (kept t e))))) now (rising-filter (λ (row : PlainRow). row.key) (λ row. test row.cells) t.new.rows e.tick.new_table.rising))
      coming_at
