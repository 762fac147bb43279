-- A tick in which a row leaves, one comes, one is modified and two move.
use Rattle.std.proofs.Common.{◌≡◌, refl, ℕ, List, [], ◌∷◌, pos, lit<, lit≤}
use Rattle.tick_model.{specs.declared.plan.Op.TheVariants.Merge, specs.declared.table.PlainRow.PlainRow, specs.declared.table.PlainTable.PlainTable, specs.declared.update.KeyPair.KeyPair, specs.Tables.{IsTable, keys}, specs.Shifts.composed, specs.Updates.{Tick, IsTick, Update, between, pairs}, specs.Changes.{change_of, changed}, specs.Operators.result}
use Rattle.tick_laws.{specs.Room.HasRoom, proofs.ComposedThrice.composed-associative, proofs.ResultTables.result_table, proofs.ToldRows.change-carries}

abbrev row : ℕ → ℕ → PlainRow
row key value = record { key = key; cells = pos value ∷ [] }

abbrev pair : ℕ → ℕ → KeyPair
pair old new = record { old = old; new = new }

abbrev old : PlainTable
old = record { width = 1; rows = row 1 10 ∷ row 2 20 ∷ row 5 50 ∷ row 9 90 ∷ [] }

abbrev new : PlainTable
new = record { width = 1; rows = row 1 10 ∷ row 7 51 ∷ row 8 80 ∷ row 11 90 ∷ [] }

abbrev tick : Tick
tick = record { old = old; new = new; kept = pair 1 1 ∷ pair 5 7 ∷ pair 9 11 ∷ [] }

is_tick : IsTick tick
is_tick = record {
  old_table = record {
    rows = (record { key = lit< tt; whole = refl }, (record { key = lit< tt; whole = refl }, (record { key = lit< tt; whole = refl }, (record { key = lit< tt; whole = refl }, tt))));
    rising = ((lit< tt, (lit< tt, (lit< tt, tt))), ((lit< tt, (lit< tt, tt)), ((lit< tt, tt), (tt, tt))));
  };
  new_table = record {
    rows = (record { key = lit< tt; whole = refl }, (record { key = lit< tt; whole = refl }, (record { key = lit< tt; whole = refl }, (record { key = lit< tt; whole = refl }, tt))));
    rising = ((lit< tt, (lit< tt, (lit< tt, tt))), ((lit< tt, (lit< tt, tt)), ((lit< tt, tt), (tt, tt))));
  };
  one_width = refl;
  of_old = (refl, (refl, (refl, tt)));
  of_new = (refl, (refl, (refl, tt)));
  rising_old = ((lit< tt, (lit< tt, tt)), ((lit< tt, tt), (tt, tt)));
  rising_new = ((lit< tt, (lit< tt, tt)), ((lit< tt, tt), (tt, tt)));
}

abbrev update : Update
update = record { removed = 2 ∷ []; added = 8 ∷ []; modified = 7 ∷ []; shifted = (record { begin = 5; end = 9; delta = pos 2 }) ∷ []; columns = 0 ∷ [] }

told : change_of tick ≡ record { update = update; cells = pos 80 ∷ pos 51 ∷ [] }
told = refl

carried : changed old (change_of tick) ≡ new
carried = refl

carried_by_law : changed old (change_of tick) ≡ new
carried_by_law = change-carries tick is_tick

kept : pairs old (between tick) ≡ pair 1 1 ∷ pair 5 7 ∷ pair 9 11 ∷ []
kept = refl

-- pairs of three changes
abbrev second : List KeyPair
second = pair 1 2 ∷ pair 11 12 ∷ []

abbrev third : List KeyPair
third = pair 2 3 ∷ pair 9 9 ∷ pair 12 15 ∷ []

composed_left : composed (composed tick.kept second) third ≡ pair 1 3 ∷ pair 9 15 ∷ []
composed_left = refl

composed_right : composed (composed tick.kept second) third ≡ composed tick.kept (composed second third)
composed_right = composed-associative tick.kept second third ((lit< tt, tt), (tt, tt))

-- the tables of the tick, merged with themselves
room : HasRoom (Merge (0 ∷ 1 ∷ [])) (λ _. old)
room = record { one_width = (refl, (refl, tt)); regions = lit≤ tt }

merged : keys (result (Merge (0 ∷ 1 ∷ [])) (λ _. old)).rows ≡ 1 ∷ 2 ∷ 5 ∷ 9 ∷ 65537 ∷ 65538 ∷ 65541 ∷ 65545 ∷ []
merged = refl

merged_is_table : IsTable (result (Merge (0 ∷ 1 ∷ [])) (λ _. old))
merged_is_table = result_table (Merge (0 ∷ 1 ∷ [])) (λ _. old) (is_tick.old_table, (is_tick.old_table, tt)) room
