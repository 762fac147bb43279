-- The change of a tick makes an exact table.
use Rattle.std.proofs.Common.{◌≡◌, ap, ap₂, sym, ◌∙◌, subst, true, ℕ, ◌+◌, ◌*◌, ◌^◌, suc, arith, List, [], ◌∷◌, None, length, length-append}
use Rattle.std.{proofs.Math.Nat.suc-mul, specs.Prelude.flat_map, specs.List.AllByRecursion}
use Rattle.key_lists.specs.Keys.{is_among}
use Rattle.tick_model.{specs.declared.table.PlainTable.PlainTable, specs.declared.update.KeyPair.KeyPair, specs.Changes.{change_of, changed, told_keys}, specs.Rules.update_fault, specs.Tables.{cells_at, keys}, specs.Updates.{Tick, IsTick, Update, between}}
use Rattle.tick_laws.{proofs.Carried.pairs-between, proofs.ToldRows.{change-carries, told_there}}
use Rattle.tick_table.{specs.Ticking.Ticking, specs.Exact.{IsExact, tick_of, ticking}, proofs.Between.between_lawful, proofs.WholeRows.row_whole}

pub tick_again : (tick : Tick) → IsTick tick → tick_of (ticking tick) ≡ tick
tick_again tick h = ap (λ (kept : List KeyPair). let again : Tick = record { old = tick.old; new = tick.new; kept = kept } in again) (pairs-between tick h)

pub exact_again : (tick : Tick) → IsTick tick → IsExact (ticking tick)
exact_again tick h = record { tick = subst IsTick (sym (tick_again tick h)) h; update = ap between (sym (tick_again tick h)) }

-- a table that the change of a tick makes of the tick's old table is the one that the tick leaves
pub applied_is : (tick : Tick) (table : Ticking) → IsTick tick → table.old ≡ tick.old → table.new ≡ changed tick.old (change_of tick) → table.update ≡ between tick → table ≡ ticking tick
applied_is tick table h o n u =
    ap₂ (λ (old : PlainTable) (new : PlainTable). let made : Ticking = record { old = old; new = new; update = table.update } in made) o (n ∙ change-carries tick h)
    ∙ ap (λ (update : Update). let made : Ticking = record { old = tick.old; new = tick.new; update = update } in made) u

-- the update of an exact table breaks no rule on the keys before it
pub exact_lawful : (table : Ticking) → IsExact table → update_fault (2 ^ 62) (keys table.old.rows) table.update ≡ None
exact_lawful table e = ap (update_fault (2 ^ 62) (keys table.old.rows)) e.update ∙ between_lawful (tick_of table) e.tick

-- the change of a tick has whole rows
pub change_whole : (tick : Tick) → IsTick tick → length (change_of tick).cells ≡ length (told_keys (between tick)) * tick.old.width
change_whole tick h = cells_whole (told_keys (between tick)) (told_there tick h)
  where
    one_row : (n : ℕ) → tick.old.width + n * tick.old.width ≡ suc n * tick.old.width
    one_row n = omega (arith, suc-mul n tick.old.width)

    cells_whole : (ks : List ℕ) → AllByRecursion (λ key. is_among key (keys tick.new.rows) ≡ true) ks → length (flat_map (λ key. cells_at key tick.new.rows) ks) ≡ length ks * tick.old.width
    cells_whole [] there = omega arith
    cells_whole (key ∷ ks) there =
        length-append (cells_at key tick.new.rows) (flat_map (λ key. cells_at key tick.new.rows) ks)
        ∙ ap₂ (λ m n. m + n) (row_whole key tick.new h.new_table there.0 ∙ h.one_width) (cells_whole ks there.1)
        ∙ one_row (length ks)
