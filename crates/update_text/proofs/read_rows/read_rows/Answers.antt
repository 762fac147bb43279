use Rattle.std.proofs.Common.{◌≡◌, ap, sym, ◌∙◌, subst, ◌∷◌, ◌++◌, [], List, ℤ, ℕ, false, append_assoc, arith, map, rules, ◌^◌, ◌<◌}
use Rattle.std.{specs.Prelude.flat_map, specs.Fmt.decimal, specs.List.AllByRecursion, proofs.lemmas.Grind.flat_map-append, proofs.lemmas.List.{append-nil, map-append}}
use Rattle.key_lists.{specs.Keys.IsRising, proofs.Every.every-append}
use Rattle.row_set.{proofs.Windows.rising_before, proofs.United.one_key}
use Rattle.tick_model.{specs.declared.table.PlainRow.PlainRow, specs.Tables.keys, specs.Texts.{cell_texts, records_text, row_record}}
use Rattle.update_text.{specs.declared.printed.PrintedFault.TheVariants.Memory, specs.Reading.{IsToldRow, has_tag, next_fields}, proofs.Backwards.rest_same, proofs.ReadRows.{first_ahead, gives_memory, none_ahead, tagged_here, tagged_text}}
use Rattle.update_text.proofs.read_rows.read_rows.Goals as goal

abbrev cells_of : List PlainRow → List ℤ
cells_of = flat_map (λ (row : PlainRow). row.cells)

pub returns-in_err-key-clause-told : goal.returns-in_err-key-clause-told
returns-in_err-key-clause-told c rows rest texts rising ahead =
    let names = c.args.texts.now in
    let columns = c.args.columns.now in
    let tag = c.args.tag in
    let told = row_record (tag ∷ []) names columns in
    let left = c.loop-fields.invariant.told rows rest texts rising ahead in
    let first = first_ahead told (IsToldRow columns names) tag left.0 rest c.loop-fields.rest.now left.1 c.in-Some.ensures.0 in
    let behind = records_text (map told first.1) ++ rest in
    let fields = cell_texts names columns first.0.cells in
    let same = rest_same tag tag c.in-Some.fields.now (next_fields (decimal first.0.key ∷ fields) behind) (sym c.in-Some.ensures.1 ∙ first.4 ∙ tagged_text tag (decimal first.0.key) fields behind c.requires.plain) in
    let memory : c.in_err-key.field-0.0 ≡ Memory = c.in_err-key.ensures.told first.0 behind texts first.3 same in
    gives_memory c.from_residual.result _ c.in_err-key.field-0.0 c.from_residual.ensures.1 memory

pub returns-in_err-put_last-clause-told : goal.returns-in_err-put_last-clause-told
returns-in_err-put_last-clause-told c rows rest texts rising ahead =
    let names = c.args.texts.now in
    let columns = c.args.columns.now in
    let tag = c.args.tag in
    let told = row_record (tag ∷ []) names columns in
    let left = c.loop-fields.invariant.told rows rest texts rising ahead in
    let first = first_ahead told (IsToldRow columns names) tag left.0 rest c.loop-fields.rest.now left.1 c.in-Some.ensures.0 in
    let behind = records_text (map told first.1) ++ rest in
    let fields = cell_texts names columns first.0.cells in
    let same = rest_same tag tag c.in-Some.fields.now (next_fields (decimal first.0.key ∷ fields) behind) (sym c.in-Some.ensures.1 ∙ first.4 ∙ tagged_text tag (decimal first.0.key) fields behind c.requires.plain) in
    let read = c.in_ok-key.ensures.told first.0 behind texts first.3 same in
    let rising_keys : IsRising (c.loop-fields.keys ++ first.0.key ∷ keys first.1) =
    subst IsRising (sym left.2 ∙ ap (λ (some : List PlainRow). c.loop-fields.keys ++ keys some) first.2) rising in
    let below = rising_before c.loop-fields.keys first.0.key (keys first.1) rising_keys in
    let memory : c.in_err-put_last.field-0.0 ≡ Memory =
    c.in_err-put_last.ensures.told (omega arith) (subst (λ (k : ℕ). k < 2 ^ 62) (sym read.0) first.3.key)
    (subst (λ (k : ℕ). AllByRecursion (λ key. key < k) c.loop-fields.keys) (sym read.0) below) in
    gives_memory c.from_residual-in_err-put_last.result _ c.in_err-put_last.field-0.0 c.from_residual-in_err-put_last.ensures.1 memory

pub loop-fields-preserved : goal.loop-fields-preserved
loop-fields-preserved c =
    let names = c.args.texts.now in
    let columns = c.args.columns.now in
    let tag = c.args.tag in
    let told = row_record (tag ∷ []) names columns in
    let key = c.in_ok-key.key in
    let put : c.put_last.new.keys ≡ c.loop-fields.keys ++ key ∷ [] = c.in_ok-put_last.ensures.put ∙ ap (λ (ks : List ℕ). c.loop-fields.keys ++ ks) (one_key key) in
    let so_far = c.loop-fields.invariant.rows in
    let cells = c.in_ok-key.ensures.row in
    let row : PlainRow = record { key = key; cells = cells.0 } in record {
      rows = (
        so_far.0 ++ row ∷ [],
        put ∙ ap (λ (ks : List ℕ). ks ++ key ∷ []) so_far.1 ∙ sym (map-append (λ (row : PlainRow). row.key) so_far.0 (row ∷ [])),
        cells.1
            ∙ ap (λ (items : List ℤ). items ++ cells.0) so_far.2
            ∙ append_assoc c.args.cells.now.items (cells_of so_far.0) cells.0
            ∙ ap (λ (items : List ℤ). c.args.cells.now.items ++ (cells_of so_far.0 ++ items)) (sym (append-nil cells.0))
            ∙ ap (λ (items : List ℤ). c.args.cells.now.items ++ items) (sym (flat_map-append (λ (row : PlainRow). row.cells) so_far.0 (row ∷ []))),
        every-append (IsToldRow columns names) so_far.0 (row ∷ []) so_far.3 (record { key = c.in_ok-put_last.ensures.small; numbers = cells.3; fit = cells.2 }, tt),
      );
      told = λ rows rest texts rising ahead.
          let left = c.loop-fields.invariant.told rows rest texts rising ahead in
          let first = first_ahead told (IsToldRow columns names) tag left.0 rest c.loop-fields.rest.now left.1 c.in-Some.ensures.0 in
          let behind = records_text (map told first.1) ++ rest in
          let fields = cell_texts names columns first.0.cells in
          let same = rest_same tag tag c.in-Some.fields.now (next_fields (decimal first.0.key ∷ fields) behind) (sym c.in-Some.ensures.1 ∙ first.4 ∙ tagged_text tag (decimal first.0.key) fields behind c.requires.plain) in
          let read = c.in_ok-key.ensures.told first.0 behind texts first.3 same in (
            first.1,
            record { fit = first.5; told = read.1; ends = first.6 },
            ap (λ (ks : List ℕ). ks ++ keys first.1) put
                ∙ append_assoc c.loop-fields.keys (key ∷ []) (keys first.1)
                ∙ ap (λ (k : ℕ). c.loop-fields.keys ++ (k ∷ keys first.1)) read.0
                ∙ ap (λ (some : List PlainRow). c.loop-fields.keys ++ keys some) (sym first.2)
                ∙ left.2,
            ap (λ (items : List ℤ). items ++ cells_of first.1) read.2
                ∙ append_assoc c.loop-fields.cells.items first.0.cells (cells_of first.1)
                ∙ ap (λ (some : List PlainRow). c.loop-fields.cells.items ++ cells_of some) (sym first.2)
                ∙ left.3,
          );
    }

pub returns-clause-told : goal.returns-clause-told
returns-clause-told c rows rest texts rising ahead =
    let names = c.args.texts.now in
    let columns = c.args.columns.now in
    let tag = c.args.tag in
    let told = row_record (tag ∷ []) names columns in
    let left = c.loop-fields.invariant.told rows rest texts rising ahead in
    let absent : has_tag tag c.loop-fields.rest.now ≡ false = search rules in
    let none = none_ahead told (IsToldRow columns names) tag left.0 rest c.loop-fields.rest.now (λ row u. tagged_here tag (decimal row.key) (cell_texts names columns row.cells) u c.requires.plain) left.1 absent in (
      none.1,
      sym (append-nil c.loop-fields.keys) ∙ ap (λ (some : List PlainRow). c.loop-fields.keys ++ keys some) (sym none.0) ∙ left.2,
      sym (append-nil c.loop-fields.cells.items) ∙ ap (λ (some : List PlainRow). c.loop-fields.cells.items ++ cells_of some) (sym none.0) ∙ left.3,
    )
