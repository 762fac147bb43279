-- What a lawful run says of its published tables: how many words they have, and that their lines are whole rows.
use Rattle.std.proofs.Common.{◌≡◌, refl, ap, sym, ◌∙◌, subst, ℕ, zero, suc, ◌+◌, ◌*◌, ◌<◌, ◌≤◌, ◌^◌, arith, true, List, [], ◌∷◌, ◌++◌, take, length, get_or, None, mul-le-mul_right, length-append}
use Rattle.std.{proofs.lemmas.List.length-map, specs.Prelude.{sum_by, flat_map, nat_le, nat_lt, ◌==◌}, specs.List.{list_all, AllByRecursion}, specs.Int.{w64, cast_unsigned}, proofs.Math.Nat.suc-mul, proofs.lemmas.Bool.{and_parts, ltb-true, leb-true, eqb-true}, proofs.lemmas.List.Sums.sum_by_more}
use Rattle.tick_model.{specs.declared.feed.Run.Run, specs.declared.plan.Node.Node, specs.declared.plan.Plan.Plan, specs.declared.plan.Published.Published, specs.declared.table.PlainRow.PlainRow, specs.declared.table.PlainTable.PlainTable, specs.Evaluation.{Outcome, Table, Fault, NoInput, has_table, table_of, outcome_at}, specs.LawfulRuns.IsLawfulRun, specs.Plans.{is_lawful, publication_lawful, published_words, table_words, columns_at}, specs.Sources.batch_fault, specs.States.state, specs.Tables.IsRow, specs.Words.{row_words, words}}
use Rattle.tick_laws.{specs.Reached.KeepsRules, proofs.ReachedTables.bounded_at}
use Rattle.key_lists.proofs.Every.{every_weaker}
use Rattle.snapshot_store.{proofs.Places.below_less, specs.Lines.{node_in, limit_in, width_in, size_in, start_in, total_in, count, limit, width, size, total, published_table, line_of, IsWhole}}

-- the words of a bank
pub size_at : (tables : List Published) (p : ℕ) (d : Published) → p < length tables → size_in tables p ≡ table_words (get_or tables p d)
size_at [] p d h = absurd (omega arith)
size_at (t ∷ ts) zero d h = refl
size_at (t ∷ ts) (suc p) d h = size_at ts p d (omega arith)

start_is : (tables : List Published) (d : Published) (n : ℕ) → n ≤ length tables → start_in tables n ≡ sum_by table_words (take n tables)
start_is tables d zero h = refl
start_is tables d (suc n) h =
    let before = start_is tables d n (omega arith) in
    let here = size_at tables n d (omega arith) in
    let more : sum_by table_words (take (suc n) tables) ≡ sum_by table_words (take n tables) + table_words (get_or tables n d) =
    ap (λ k. sum_by table_words (take k tables)) (let e : suc n ≡ n + 1 = omega arith in e) ∙ sum_by_more table_words tables n d (omega arith) in
    omega arith

take_all : {X : Type 0} (xs : List X) → take (length xs) xs ≡ xs
take_all [] = refl
take_all (x ∷ xs) = ap (λ z. x ∷ z) (take_all xs)

nothing : Published
nothing = record { node = 0; width = 0; limit = 0 }

pub total_is : (tables : List Published) → total_in tables ≡ sum_by table_words tables
total_is tables = start_is tables nothing (length tables) (omega arith) ∙ ap (sum_by table_words) (take_all tables)

pub start_more : (tables : List Published) (n : ℕ) → start_in tables (n + 1) ≡ start_in tables n + size_in tables n
start_more tables n = ap (start_in tables) (let e : n + 1 ≡ suc n = omega arith in e)

pub take_more : (tables : List Published) (n : ℕ) (d : Published) → n < length tables → take n tables ++ get_or tables n d ∷ [] ≡ take (n + 1) tables
take_more tables n d h = more tables n h ∙ ap (λ (k : ℕ). take k tables) (let e : suc n ≡ n + 1 = omega arith in e)
  where
    more : (tables : List Published) (n : ℕ) → n < length tables → take n tables ++ get_or tables n d ∷ [] ≡ take (suc n) tables
    more [] n h = absurd (omega arith)
    more (t ∷ ts) zero h = refl
    more (t ∷ ts) (suc n) h = ap (λ (z : List Published). t ∷ z) (more ts n (omega arith))

pub taken : (tables : List Published) (n : ℕ) → n ≡ length tables → take n tables ≡ tables
taken tables n e = ap (λ (k : ℕ). take k tables) e ∙ take_all tables

-- a table has a word at least
pub many_words : (tables : List Published) (n : ℕ) → n ≤ start_in tables n
many_words tables zero = omega arith
many_words tables (suc n) = omega (arith, many_words tables n)

-- each table ends within the words of a bank, which are few
pub ends_within : (tables : List Published) (p : ℕ) (d : Published) → published_words tables ≤ 1048576 → p < length tables → start_in tables p + table_words (get_or tables p d) ≤ 524287
ends_within tables p d few h =
    let last = below_less (size_in tables) (length tables) p (limit_in tables p * (1 + width_in tables p)) h (omega arith) in
    let size = size_at tables p d h in
    let all = total_is tables in
    omega arith

pub line_named : (run : Run) (step p : ℕ) → line_of run step p ≡ words (published_table run step p)
unfolding line_of
line_named run step p = refl

-- what the test of a plan says of the published tables
module _ (plan : Plan) (h : is_lawful plan ≡ true) where
  last_tests : (list_all (publication_lawful plan.nodes) plan.published ≡ true) × (nat_le (published_words plan.published) 1048576 ≡ true)
  last_tests =
      let last = and_parts _ (nat_le (published_words plan.published) 1048576) h in
      ((and_parts _ (list_all (publication_lawful plan.nodes) plan.published) last.0).1, last.1)

  publications : list_all (publication_lawful plan.nodes) plan.published ≡ true
  publications = last_tests.0

  few_words : published_words plan.published ≤ 1048576
  few_words = leb-true (published_words plan.published) 1048576 last_tests.1

pub few_tables : (run : Run) → IsLawfulRun run → count run < 2 ^ 20
few_tables run lawful = let few = few_words run.plan lawful.plan in let e = total_is run.plan.published in let m = many_words run.plan.published (count run) in omega arith

pub total_small : (run : Run) → IsLawfulRun run → total run < 2 ^ 20
total_small run lawful = let few = few_words run.plan lawful.plan in let e = total_is run.plan.published in omega arith

at : (nodes : List Node) (tables : List Published) → list_all (publication_lawful nodes) tables ≡ true → (p : ℕ) → p < length tables
    → (node_in tables p < length nodes) × (width_in tables p ≡ length (columns_at nodes (node_in tables p)))
at nodes [] h p less = absurd (omega arith)
at nodes (t ∷ ts) h zero less =
    let own = (and_parts (publication_lawful nodes t) (list_all (publication_lawful nodes) ts) h).0 in
    let three = (and_parts _ (nat_le t.limit 4194304) own).0 in
    let two = (and_parts _ (nat_le 1 t.limit) three).0 in
    let one = and_parts (nat_lt t.node (length nodes)) (t.width == length (columns_at nodes t.node)) two in
    (ltb-true t.node (length nodes) one.0, eqb-true t.width (length (columns_at nodes t.node)) one.1)
at nodes (t ∷ ts) h (suc p) less = at nodes ts (and_parts (publication_lawful nodes t) (list_all (publication_lawful nodes) ts) h).1 p (omega arith)

-- the words of whole rows
rows_length : (w : ℕ) (rows : List PlainRow) → AllByRecursion (λ row. length row.cells ≡ w) rows → length (flat_map row_words rows) ≡ length rows * (1 + w)
rows_length w [] h = omega arith
rows_length w (row ∷ rows) h =
    let rest = rows_length w rows h.1 in
    omega (arith, h.0, rest, length-append (row_words row) (flat_map row_words rows), length-map row.cells (cast_unsigned w64), suc-mul (length rows) (1 + w))

module _ (run : Run) (step p : ℕ) (lawful : IsLawfulRun run) (rules : KeepsRules run step) (inside : p < count run) where
  abbrev node : ℕ
  node = node_in run.plan.published p

  -- whole rows, of the width that is published
  abbrev IsSound : PlainTable → Type 0
  IsSound table = AllByRecursion (λ row. length row.cells ≡ width run p) table.rows × (length table.rows * (1 + table.width) ≡ length table.rows * (1 + width run p))

  sound_of : (outcome : Outcome) → (has_table outcome ≡ true → IsSound (table_of outcome)) → IsSound (table_of outcome)
  sound_of (Table table) h = h refl
  sound_of (Fault fault) h = (tt, (omega arith))
  sound_of NoInput h = (tt, (omega arith))

  sound : IsSound (published_table run step p)
  sound =
      let published = at run.plan.nodes run.plan.published (publications run.plan lawful.plan) p inside in
      sound_of (outcome_at (state run step) node) (λ has.
      let bounded = bounded_at run lawful step rules node published.0 has in
      let same : (published_table run step p).width ≡ width run p = bounded.width_is ∙ sym published.1 in
      (every_weaker (IsRow (published_table run step p).width) (λ row. length row.cells ≡ width run p) (published_table run step p).rows (λ row is. is.whole ∙ same) bounded.is_table.rows, ap (λ w. length (published_table run step p).rows * (1 + w)) same))

  pub line_whole : IsWhole run step p
  unfolding line_of
  line_whole = let e = rows_length (width run p) (published_table run step p).rows sound.0 in omega arith

  -- the words of a table within its limit have room
  pub table_fits : length (published_table run step p).rows ≤ limit run p → 1 + length (published_table run step p).rows * (1 + (published_table run step p).width) ≤ size run p
  table_fits few = let a : length (published_table run step p).rows * (1 + width run p) ≤ limit run p * (1 + width run p) = mul-le-mul_right (1 + width run p) few in let e = sound.1 in omega arith

  pub line_rows : get_or (line_of run step p) 0 0 ≡ length (published_table run step p).rows
  unfolding line_of
  line_rows = refl

-- no batch spoils step 0
pub opening_keeps : (run : Run) → KeepsRules run 0
opening_keeps run s h = let e : s ≡ 0 = omega arith in subst (λ n. batch_fault run n ≡ None) (sym e) refl
