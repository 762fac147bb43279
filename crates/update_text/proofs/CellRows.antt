-- The cells of a row from a place on.
use Rattle.std.proofs.Common.{◌≡◌, refl, ap, sym, ◌∙◌, ℕ, ◌+◌, ◌<◌, List, [], ◌∷◌, length, drop, map, get_or, arith, inl, inr}
use Rattle.std.{specs.Int.{w64, cast_signed}, specs.Prelude.{ℤ, min}, proofs.lemmas.Bool.cases_lt, proofs.lemmas.List.{drop_more, drop_all, get_or-map, length-map}}
use Rattle.tick_model.{specs.declared.plan.ColumnSpec.ColumnSpec, specs.Texts.{cell_text, cell_texts}}

-- without cells
none_there : (texts : List (List ℕ)) (columns : List ColumnSpec) → cell_texts texts columns [] ≡ []
none_there texts [] = refl
none_there texts (column ∷ columns) = refl

-- one cell on
pub cell_texts-more : (texts : List (List ℕ)) (columns : List ColumnSpec) (cells : List ℤ) (k : ℕ) (column : ColumnSpec) (cell : ℤ) →
    (k < length columns) × (k < length cells) × ((d : ColumnSpec) → column ≡ get_or columns k d) × ((d : ℤ) → cell ≡ get_or cells k d) →
    cell_texts texts (drop k columns) (drop k cells) ≡ cell_text texts column.kind cell ∷ cell_texts texts (drop (k + 1) columns) (drop (k + 1) cells)
cell_texts-more texts columns cells k column cell (in_columns, in_cells, same_column, same_cell) =
    ap (λ some. cell_texts texts some (drop k cells)) (drop_more columns k column in_columns ∙ ap (λ first. first ∷ drop (k + 1) columns) (sym (same_column column)))
    ∙ ap (cell_texts texts (column ∷ drop (k + 1) columns)) (drop_more cells k cell in_cells ∙ ap (λ first. first ∷ drop (k + 1) cells) (sym (same_cell cell)))

-- at the end of the columns or of the cells
pub cell_texts-end : (texts : List (List ℕ)) (columns : List ColumnSpec) (cells : List ℤ) (k : ℕ) → k ≡ min (length columns) (length cells) →
    cell_texts texts (drop k columns) (drop k cells) ≡ []
cell_texts-end texts columns cells k e =
    elim (cases_lt k (length columns)) [
      | inl within ↦ ap (cell_texts texts (drop k columns)) (drop_all k cells (omega arith)) ∙ none_there texts (drop k columns)
      | inr past ↦ ap (λ some. cell_texts texts some (drop k cells)) (drop_all k columns past)
    ]

-- one cell on, where the cells are made of words
pub cell_texts-more_words : (texts : List (List ℕ)) (columns : List ColumnSpec) (words : List ℕ) (k : ℕ) (column : ColumnSpec) (word : ℕ) →
    (k < length columns) × (k < length words) × ((d : ColumnSpec) → column ≡ get_or columns k d) × ((d : ℕ) → word ≡ get_or words k d) →
    cell_texts texts (drop k columns) (drop k (map (cast_signed w64) words))
    ≡ cell_text texts column.kind (cast_signed w64 word) ∷ cell_texts texts (drop (k + 1) columns) (drop (k + 1) (map (cast_signed w64) words))
cell_texts-more_words texts columns words k column word (in_columns, in_words, same_column, same_word) =
    cell_texts-more texts columns (map (cast_signed w64) words) k column (cast_signed w64 word) (
      in_columns,
      omega (arith, length-map words (cast_signed w64)),
      same_column,
      λ d. ap (cast_signed w64) (same_word 0) ∙ sym (get_or-map (cast_signed w64) words k 0 d in_words),
    )
