-- A row's record is of one row.
use Rattle.std.proofs.Common.{◌≡◌, refl, ap, sym, ◌∙◌, true, false, true≢false, cond, ◌||◌, ℕ, zero, suc, ◌^◌, ◌<◌, arith, List, [], ◌∷◌, length, get_or}
use Rattle.std.{specs.Prelude.{ℤ, pos, negsuc, FitsSigned}, specs.Int.w64, specs.List.AllByRecursion, specs.Fmt.{decimal, signed_decimal}, proofs.lemmas.Bool.{and_parts, ltb-true}, proofs.lemmas.Bool.Decides.Decides-int_eq, proofs.lemmas.Fmt.{decimal_nonempty, decimal_injective, signed_decimal_injective}}
use Rattle.tick_model.{specs.declared.plan.ColumnSpec.ColumnSpec, specs.declared.plan.Kind.Kind, specs.declared.plan.Kind.TheVariants.{Long, Text}, specs.declared.table.PlainRow.PlainRow, specs.Changes.is_none, specs.LawfulRuns.AreTexts, specs.Printable.{fits_kind, fit_columns, names_text}, specs.Shifts.as_key, specs.Tables.{is_null, null}, specs.Texts.{cell_text, cell_texts, known_cell_text, row_record}}
use Rattle.update_text.{specs.Reading.IsToldRow, proofs.Apart.texts_apart, proofs.Backwards.{AreApart, first_same, rest_same, cons_same, some_is_none, place_same}}

-- a rank's text is not empty
text_is_some : (texts : List (List ℕ)) (k : ℕ) → AreTexts texts → k < length texts → get_or texts k [] ≡ [] → ⊥
text_is_some [] k h less e = absurd (omega arith)
text_is_some (text ∷ texts) zero h less e = true≢false (sym (ap is_none e) ∙ h.0)
text_is_some (text ∷ texts) (suc k) h less e = text_is_some texts k h.2 (omega arith) e

-- nor is a number's
decimal_is_some : (n : ℕ) → n < 2 ^ 64 → decimal n ≡ [] → ⊥
decimal_is_some n h e = let some : 0 < length (decimal n) = decimal_nonempty n h in let none : length (decimal n) ≡ 0 = ap length e in absurd (omega arith)

signed_is_some : (z : ℤ) → FitsSigned w64 z → signed_decimal z ≡ [] → ⊥
signed_is_some (pos n) h e = decimal_is_some n (omega (arith, h.sfits)) e
signed_is_some (negsuc n) h e = some_is_none 45 (decimal (suc n)) e

-- ranks have one text each
rank_same : (texts : List (List ℕ)) (x y : ℤ) → AreApart texts → names_text (length texts) x ≡ true → names_text (length texts) y ≡ true →
    get_or texts (as_key x) [] ≡ get_or texts (as_key y) [] → x ≡ y
rank_same texts (pos m) (pos n) h p q e = ap pos (place_same texts m n [] h (ltb-true m (length texts) p) (ltb-true n (length texts) q) e)
rank_same texts (pos m) (negsuc n) h p q e = absurd (true≢false (sym q))
rank_same texts (negsuc m) y h p q e = absurd (true≢false (sym p))

rank_is_some : (texts : List (List ℕ)) (x : ℤ) → AreTexts texts → names_text (length texts) x ≡ true → get_or texts (as_key x) [] ≡ [] → ⊥
rank_is_some texts (pos n) h p e = text_is_some texts n h (ltb-true n (length texts) p) e
rank_is_some texts (negsuc n) h p e = true≢false (sym p)

-- a rank that is not null
pub known_rank : (texts : ℕ) (x : ℤ) → is_null x ≡ false → fits_kind texts Text x ≡ true → names_text texts x ≡ true
known_rank texts x known fit = sym (ap (λ b. b || names_text texts x) known) ∙ fit

-- a cell that is not null is told by some bytes
pub known_is_some : (texts : List (List ℕ)) (kind : Kind) (x : ℤ) → AreTexts texts → FitsSigned w64 x → fits_kind (length texts) kind x ≡ true → is_null x ≡ false → known_cell_text texts kind x ≡ [] → ⊥
known_is_some texts Long x h fits kind known e = signed_is_some x fits e
known_is_some texts Text x h fits kind known e = rank_is_some texts x h (known_rank (length texts) x known kind) e

known_same : (texts : List (List ℕ)) (kind : Kind) (x y : ℤ) → AreTexts texts → FitsSigned w64 x → FitsSigned w64 y →
    fits_kind (length texts) kind x ≡ true → fits_kind (length texts) kind y ≡ true → is_null x ≡ false → is_null y ≡ false →
    known_cell_text texts kind x ≡ known_cell_text texts kind y → x ≡ y
known_same texts Long x y h fx fy kx ky nx ny e = signed_decimal_injective x y fx.sfits fy.sfits e
known_same texts Text x y h fx fy kx ky nx ny e = rank_same texts x y (texts_apart texts h) (known_rank (length texts) x nx kx) (known_rank (length texts) y ny ky) e

cell_same : (texts : List (List ℕ)) (kind : Kind) (x y : ℤ) → AreTexts texts → FitsSigned w64 x → FitsSigned w64 y →
    fits_kind (length texts) kind x ≡ true → fits_kind (length texts) kind y ≡ true → cell_text texts kind x ≡ cell_text texts kind y → x ≡ y
cell_same texts kind x y h fx fy kx ky =
    (elim (is_null x) as (λ b. is_null x ≡ b → cond b [] (known_cell_text texts kind x) ≡ cell_text texts kind y → x ≡ y) [
      | true ↦ λ nx.
          (elim (is_null y) as (λ b. is_null y ≡ b → [] ≡ cond b [] (known_cell_text texts kind y) → x ≡ y) [
            | true ↦ λ ny e. (Decides-int_eq x null).0 nx ∙ sym ((Decides-int_eq y null).0 ny)
            | false ↦ λ ny e. absurd (known_is_some texts kind y h fy ky ny (sym e))
          ]) refl
      | false ↦ λ nx.
          (elim (is_null y) as (λ b. is_null y ≡ b → known_cell_text texts kind x ≡ cond b [] (known_cell_text texts kind y) → x ≡ y) [
            | true ↦ λ ny e. absurd (known_is_some texts kind x h fx kx nx e)
            | false ↦ λ ny e. known_same texts kind x y h fx fy kx ky nx ny e
          ]) refl
    ]) refl

cells_same : (texts : List (List ℕ)) (columns : List ColumnSpec) (xs ys : List ℤ) → AreTexts texts → AllByRecursion (FitsSigned w64) xs → AllByRecursion (FitsSigned w64) ys →
    fit_columns (length texts) columns xs ≡ true → fit_columns (length texts) columns ys ≡ true → cell_texts texts columns xs ≡ cell_texts texts columns ys → xs ≡ ys
cells_same texts [] [] [] h fx fy kx ky e = refl
cells_same texts [] [] (y ∷ ys) h fx fy kx ky e = absurd (true≢false (sym ky))
cells_same texts [] (x ∷ xs) ys h fx fy kx ky e = absurd (true≢false (sym kx))
cells_same texts (column ∷ columns) [] ys h fx fy kx ky e = absurd (true≢false (sym kx))
cells_same texts (column ∷ columns) (x ∷ xs) [] h fx fy kx ky e = absurd (true≢false (sym ky))
cells_same texts (column ∷ columns) (x ∷ xs) (y ∷ ys) h fx fy kx ky e =
    let px = and_parts (fits_kind (length texts) column.kind x) (fit_columns (length texts) columns xs) kx in
    let py = and_parts (fits_kind (length texts) column.kind y) (fit_columns (length texts) columns ys) ky in
    cons_same x y xs ys
    (cell_same texts column.kind x y h fx.0 fy.0 px.0 py.0 (first_same (cell_text texts column.kind x) (cell_text texts column.kind y) (cell_texts texts columns xs) (cell_texts texts columns ys) e))
    (cells_same texts columns xs ys h fx.1 fy.1 px.1 py.1 (rest_same (cell_text texts column.kind x) (cell_text texts column.kind y) (cell_texts texts columns xs) (cell_texts texts columns ys) e))

-- a row's record is of no other row
pub row_same : (tag : List ℕ) (texts : List (List ℕ)) (columns : List ColumnSpec) → AreTexts texts → (r s : PlainRow) → IsToldRow columns texts r → IsToldRow columns texts s →
    row_record tag texts columns r ≡ row_record tag texts columns s → r ≡ s
row_same tag texts columns h r s p q e =
    let rest = rest_same tag tag (decimal r.key ∷ cell_texts texts columns r.cells) (decimal s.key ∷ cell_texts texts columns s.cells) e in
    let key = decimal_injective r.key s.key (omega (arith, p.key)) (omega (arith, q.key)) (first_same (decimal r.key) (decimal s.key) (cell_texts texts columns r.cells) (cell_texts texts columns s.cells) rest) in
    let cells = cells_same texts columns r.cells s.cells h p.numbers q.numbers p.fit q.fit (rest_same (decimal r.key) (decimal s.key) (cell_texts texts columns r.cells) (cell_texts texts columns s.cells) rest) in
    ap (λ k. let row : PlainRow = record { key = k; cells = r.cells } in row) key ∙ ap (λ cs. let row : PlainRow = record { key = s.key; cells = cs } in row) cells
