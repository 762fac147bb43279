-- Rows of a join that are put behind others.
use Rattle.std.proofs.Common.{◌≡◌, ap₂, ◌∙◌, ℕ, List, ◌++◌, take, drop, length, append_assoc, ℤ}
use Rattle.std.proofs.Math.Seq.{drop-append_seam}
use Rattle.key_lists.proofs.Parts.{take_front}
use Rattle.lookup_join.{specs.declared.keyed.Side.TheVariants.Left, specs.declared.pick.Pick.Pick, specs.Keyed.{key_cells, time_of}, specs.Taken.taken_cells, proofs.Gathered.matched_cells}
use Rattle.tick_model.{specs.declared.plan.OnPair.OnPair, specs.declared.table.PlainRow.PlainRow}

module _ (on : List OnPair) (pick : Pick) (take_columns : List ℕ) (rows : List PlainRow) where
  -- the cells that a left row takes
  abbrev pub taken_by : List ℤ → List ℤ
  taken_by row = taken_cells on pick take_columns rows (key_cells Left on row) (time_of Left pick row)

  -- its key cells were put behind it, and what is found by them is put in their place
  pub taken_behind : (read keyed back taken cells : List ℤ) (time : ℤ) (start end : ℕ) → end ≡ length read → keyed ≡ read ++ key_cells Left on (drop start read)
      → back ≡ take end keyed → cells ≡ drop end keyed → time ≡ time_of Left pick (drop start read) → taken ≡ taken_cells on pick take_columns rows cells time → back ++ taken ≡ read ++ taken_by (drop start read)
  taken_behind read keyed back taken cells time start end e k b c t f =
      ap₂ (λ xs ys. xs ++ ys) (b ∙ ap₂ take e k ∙ take_front read (key_cells Left on (drop start read)))
      (f ∙ ap₂ (taken_cells on pick take_columns rows) (c ∙ ap₂ drop e k ∙ drop-append_seam read (key_cells Left on (drop start read))) t)

  -- the row itself was put behind others
  pub row_behind : (others row read : List ℤ) (start : ℕ) → start ≡ length others → read ≡ others ++ row → read ++ taken_by (drop start read) ≡ others ++ matched_cells on pick take_columns rows row
  row_behind others row read start s r = ap₂ (λ all row. all ++ taken_by row) r (ap₂ drop s r ∙ drop-append_seam others row) ∙ append_assoc others row (taken_by row)
