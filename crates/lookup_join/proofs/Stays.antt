-- What is taken of right rows, where a step touches none between two times.
use Rattle.std.proofs.Common.{◌≡◌, refl, ap, sym, ◌∙◌, Bool, true, false, List, map, filter, Option, Some, None, ℤ, ℕ}
use Rattle.std.{specs.Prelude.{int_le, option_map}, specs.List.AllByRecursion}
use Rattle.key_lists.proofs.Every.{filter-map}
use Rattle.lookup_join.{specs.declared.keyed.Side.TheVariants.Right, specs.declared.pick.Pick.Pick, specs.Keyed.{key_cells, time_of}, specs.Latest.latest_by, specs.Taken.{gathered, taken_cells}, proofs.Quiet.{FailsBoth, cells_stay}, proofs.Spans.{between, latest-map, latest_split, or_else, reach}}
use Rattle.shown_rows.proofs.Restricted.{is_modified, kept}
use Rattle.tick_model.{specs.declared.plan.OnPair.OnPair, specs.declared.table.PlainRow.PlainRow, specs.Join.taken, specs.Tables.{cell, cells_at, null, same_cells}}
use Rattle.tick_table.{specs.Exact.IsExact, specs.Ticking.Ticking}

abbrev taken_of : List ℕ → Option (List ℤ) → List ℤ
taken_of take None = map (λ _. null) take
taken_of take (Some cells) = map (cell cells) take

taken_is : (take : List ℕ) (o : Option PlainRow) → taken take o ≡ taken_of take (option_map (λ (row : PlainRow). row.cells) o)
taken_is take None = refl
taken_is take (Some row) = refl

module _ (on : List OnPair) (pick : Pick) (take : List ℕ) (cells : List ℤ) where
  abbrev pub time : List ℤ → ℤ
  time = time_of Right pick

  abbrev pub own : List ℤ → Bool
  own row = same_cells cells (key_cells Right on row)

  abbrev all_cells : List PlainRow → List (List ℤ)
  all_cells = map (λ (row : PlainRow). row.cells)

  -- what is taken is told by the cells of the rows alone
  taken_by_cells : (rows : List PlainRow) (until : ℤ) → taken_cells on pick take rows cells until ≡ taken_of take (latest_by pick time (filter (reach time own until) (all_cells rows)))
  taken_by_cells rows until =
      taken_is take (latest_by pick (λ (row : PlainRow). time row.cells) (gathered on pick rows cells until))
      ∙ ap (taken_of take)
      (sym (latest-map pick time (λ (row : PlainRow). row.cells) (gathered on pick rows cells until))
      ∙ ap (latest_by pick time) (sym (filter-map (reach time own until) (λ (row : PlainRow). row.cells) rows)))

  -- what is picked of the rows that come after a time, where there is one
  abbrev pub late : ℤ → ℤ → List PlainRow → Option (List ℤ)
  late from until rows = latest_by pick time (filter (between time own from until) (all_cells rows))

  -- where none comes after a time, what is taken is what was taken then
  pub taken_then : (from until : ℤ) (rows : List PlainRow) → int_le from until ≡ true → late from until rows ≡ None → taken_cells on pick take rows cells until ≡ taken_cells on pick take rows cells from
  taken_then from until rows ordered none =
      taken_by_cells rows until
      ∙ ap (taken_of take) (latest_split pick time own from until ordered (all_cells rows) ∙ ap (λ o. or_else o (latest_by pick time (filter (reach time own from) (all_cells rows)))) none)
      ∙ sym (taken_by_cells rows from)

  -- where one does, it is taken
  taken_late : (from until : ℤ) (rows : List PlainRow) (row : List ℤ) → int_le from until ≡ true → late from until rows ≡ Some row → taken_cells on pick take rows cells until ≡ map (cell row) take
  taken_late from until rows row ordered some =
      taken_by_cells rows until
      ∙ ap (taken_of take) (latest_split pick time own from until ordered (all_cells rows) ∙ ap (λ o. or_else o (latest_by pick time (filter (reach time own from) (all_cells rows)))) some)

  module _ (t : Ticking) (e : IsExact t) where
    -- no row that passes the test is touched
    pub record IsQuiet (test : List ℤ → Bool) : Type 0 where
      pub gone : AllByRecursion (λ key. test (cells_at key t.old.rows) ≡ false) t.update.removed
      pub came : AllByRecursion (λ key. test (cells_at key t.new.rows) ≡ false) t.update.added
      pub changed : AllByRecursion (FailsBoth t e test) (filter (is_modified t e) (kept t e))

    -- where no row is touched that is not later, what is taken stays
    pub stays_whole : (until : ℤ) → IsQuiet (reach time own until) → taken_cells on pick take t.old.rows cells until ≡ taken_cells on pick take t.new.rows cells until
    stays_whole until quiet =
        taken_by_cells t.old.rows until
        ∙ ap (λ rows. taken_of take (latest_by pick time rows)) (cells_stay t e (reach time own until) quiet.gone quiet.came quiet.changed)
        ∙ sym (taken_by_cells t.new.rows until)

    -- where no row is touched after a time, what is picked after it is what it was
    pub late_stays : (from until : ℤ) → IsQuiet (between time own from until) → late from until t.old.rows ≡ late from until t.new.rows
    late_stays from until quiet = ap (latest_by pick time) (cells_stay t e (between time own from until) quiet.gone quiet.came quiet.changed)

    -- so what is taken stays where there is one now
    pub stays_late : (from until : ℤ) (row : List ℤ) → int_le from until ≡ true → IsQuiet (between time own from until) → late from until t.new.rows ≡ Some row → taken_cells on pick take t.old.rows cells until ≡ taken_cells on pick take t.new.rows cells until
    stays_late from until row ordered quiet some =
        taken_late from until t.old.rows row ordered (late_stays from until quiet ∙ some) ∙ sym (taken_late from until t.new.rows row ordered some)

    -- and where there is none, it is what was taken at that time
    pub before_then : (from until : ℤ) → int_le from until ≡ true → IsQuiet (between time own from until) → late from until t.new.rows ≡ None → taken_cells on pick take t.old.rows cells until ≡ taken_cells on pick take t.old.rows cells from
    before_then from until ordered quiet none = taken_then from until t.old.rows ordered (late_stays from until quiet ∙ none)
