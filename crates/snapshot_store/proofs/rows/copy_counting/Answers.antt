use Rattle.std.proofs.Common.{◌≡◌, ◌∷◌, ◌++◌, ◌+◌, ◌*◌, ◌≤◌, ◌∙◌, [], ap, ap₂, sym, subst, arith, append-nil, length, suc, true, ℕ, ℤ, List, vec_len, vec_capacity}
use Rattle.std.{specs.Int.{w64, cast_unsigned}, specs.Prelude.{flat_map, map}, specs.List.AllByRecursion, proofs.Math.Nat.suc-mul, proofs.lemmas.Grind.flat_map-append}
use Rattle.key_lists.{specs.Keys.is_among, proofs.Among.each_among}
use Rattle.row_set.proofs.Yielded.{next_has, yielded_all}
use Rattle.tick_model.{specs.declared.table.PlainTable.PlainTable, specs.Tables.{cells_at, keys}}
use Rattle.snapshot_store.proofs.RowWords.{keys_long, table_words, words_at}
use Rattle.snapshot_store.proofs.rows.copy_counting.Goals as goal

pub loop-key-init : goal.loop-key-init
loop-key-init g c =
    let rows = c.args.table.now.new.rows in
    let wide = 1 + c.args.table.now.new.width in
    let count : length c.rows-keys.result.now ≡ length rows = ap length c.rows-keys.ensures.keys ∙ keys_long rows in
    let left : length c.into_iter-key-iterator.result * wide ≡ length rows * wide = ap (λ (ks : List ℕ). length ks * wide) c.into_iter-key-iterator.ensures.into_iter_gives.0 ∙ ap (λ (n : ℕ). n * wide) count in
    record {
      rows = c.of-rows.ensures;
      words = c.push_reserved.ensures.items ∙ ap₂ (λ (words : List ℕ) (n : ℕ). words ++ n ∷ []) c.clear.ensures.items (c.len.ensures.count ∙ count);
      fits = omega arith;
      room = omega arith;
    }

pub row-requires : goal.row-requires
row-requires g c =
    let all = keys c.args.table.now.new.rows in
    let IsHere = λ (key : ℕ). is_among key all ≡ true in record {
      here =
          subst (λ (table : PlainTable). is_among c.in-Some.key (keys table.rows) ≡ true) (sym c.loop-key.invariant.rows)
          (next_has c.loop-key.yielded c.into_iter-key-iterator.ensures.into_iter_gives c.loop-key.yielded_by c.in-Some.ensures.steps IsHere (subst (AllByRecursion IsHere) (sym c.rows-keys.ensures.keys) (each_among all)));
    }

pub copy_row-requires : goal.copy_row-requires
copy_row-requires g c =
    let wide = 1 + c.args.table.now.new.width in
    let words = c.loop-key.words in
    let fits : vec_len words + suc (length c.next.new.self) * wide ≤ vec_capacity words = subst (λ (ks : List ℕ). vec_len words + length ks * wide ≤ vec_capacity words) c.in-Some.ensures.steps c.loop-key.invariant.fits in
    let whole : length c.row.result.now ≡ c.args.table.now.new.width = c.row.ensures.whole ∙ ap (λ (table : PlainTable). table.width) c.loop-key.invariant.rows in record {
      room = omega (arith, suc-mul (length c.next.new.self) wide);
    }

pub loop-key-preserved : goal.loop-key-preserved
loop-key-preserved g c =
    let rows = c.args.table.now.new.rows in
    let wide = 1 + c.args.table.now.new.width in
    let key = c.in-Some.key in
    let yielded = c.loop-key.yielded in
    let words = c.loop-key.words in
    let fits : vec_len words + suc (length c.next.new.self) * wide ≤ vec_capacity words = subst (λ (ks : List ℕ). vec_len words + length ks * wide ≤ vec_capacity words) c.in-Some.ensures.steps c.loop-key.invariant.fits in
    let whole : length c.row.result.now ≡ c.args.table.now.new.width = c.row.ensures.whole ∙ ap (λ (table : PlainTable). table.width) c.loop-key.invariant.rows in
    let row : c.row.result.now ≡ cells_at key rows = c.row.ensures.cells ∙ ap (λ (table : PlainTable). cells_at key table.rows) c.loop-key.invariant.rows in
    let long = c.copy_row.ensures.long in
    let same = c.copy_row.ensures.room in
    record {
      rows = c.row.ensures.same ∙ c.loop-key.invariant.rows;
      words =
          c.copy_row.ensures.words ∙ ap (λ (cells : List ℤ). words.items ++ key ∷ map (cast_unsigned w64) cells) row ∙ ap (λ (z : List ℕ). z ++ words_at rows key) c.loop-key.invariant.words
          ∙ ap (λ (z : List ℕ). length rows ∷ z) (sym (flat_map-append (words_at rows) yielded (key ∷ []) ∙ ap (λ (z : List ℕ). flat_map (words_at rows) yielded ++ z) (append-nil (words_at rows key))));
      fits = omega (arith, suc-mul (length c.next.new.self) wide);
      room = same ∙ c.loop-key.invariant.room;
    }

pub returns-clause-words : goal.returns-clause-words
returns-clause-words g c =
    let rows = c.args.table.now.new.rows in
    let all = yielded_all c.loop-key.yielded c.into_iter-key-iterator.ensures.into_iter_gives c.loop-key.yielded_by c.in-None.ensures.steps.0 ∙ c.rows-keys.ensures.keys in
    c.loop-key.invariant.words ∙ ap (λ (z : List ℕ). length rows ∷ z) (ap (flat_map (words_at rows)) all ∙ table_words c.args.table.now.new c.rows-keys.ensures.table)
