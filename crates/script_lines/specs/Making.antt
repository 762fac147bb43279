-- How nodes are made, over the tokens of a line: the form of each operator, and what it keeps.
--     making_at tokens      a word, and the parts that go with it
--     MakingKeeps making      what it says keeps the rules that need no other line
use Rattle.std.{specs.Prelude.{◌≡◌, ℕ, ◌≤◌, ◌&&◌, true, ℤ, List, length, Ok, Err, codes, nat_le, if◌then◌else◌}, specs.List.AllByRecursion}
use Rattle.tick_model.{specs.declared.plan.Choice.Choice, specs.Columns.some_of}
use Rattle.tick_model.specs.declared.plan.Choice.TheVariants as choices
use Rattle.script_lines.{specs.declared.fault.ScriptKind.TheVariants.BadLine, specs.declared.line.Pair.Pair, specs.declared.lists.Separator.TheVariants.{Comma, Nothing}, specs.declared.making.Making.Making, specs.declared.making.Making.TheVariants.{Keep, View, Join, AsOf, Agg, Merge, Sort, Head, Tail}, specs.declared.token.Token.Token, specs.Answers.{◌>>=◌, when_some}, specs.Formulas.{Reading, after_word, word_expected, name_at, test_at}, specs.Kept.{IsNamed, TestKeeps, ComputedKeeps, PairKeeps, GatheredKeeps, MembersKeep}, specs.Members.{list_at, option_at, computed_at, pair_at, gathered_at, sorted_at, digits_at}}

-- the parts after the word that says how a node is made
unfoldable pub keep_at : List Token → Reading Making
keep_at ts = do
  input ← name_at ts
  test ← test_at input.1
  Ok (Keep input.0 test.0, test.1)

unfoldable pub view_at : List Token → Reading Making
view_at ts = do
  input ← name_at ts
  columns ← list_at computed_at Comma input.1
  Ok (View input.0 columns.0, columns.1)

-- [first or last]
unfoldable pub choice_at : List Token → Reading Choice
choice_at ts =
    when_some (after_word (codes "first") ts) (λ rest. Ok (choices.First, rest))
    (when_some (after_word (codes "last") ts) (λ rest. Ok (choices.Last, rest))
    (Ok (choices.Error, ts)))

unfoldable pub pairs_after : List ℕ → List Token → Reading (List Pair)
pairs_after word ts = do
  rest ← word_expected word ts
  list_at pair_at Comma rest

unfoldable pub join_at : List Token → Reading Making
join_at ts = do
  left ← name_at ts
  right ← name_at left.1
  on ← pairs_after (codes "on") right.1
  taken ← pairs_after (codes "take") on.1
  choice ← choice_at taken.1
  Ok (Join left.0 right.0 on.0 taken.0 choice.0, choice.1)

unfoldable pub as_of_at : List Token → Reading Making
as_of_at ts = do
  left ← name_at ts
  right ← name_at left.1
  on ← option_at pair_at (codes "on") right.1
  rest ← word_expected (codes "at") on.1
  at ← pair_at rest
  taken ← pairs_after (codes "take") at.1
  Ok (AsOf left.0 right.0 on.0 at.0 taken.0, taken.1)

unfoldable pub agg_at : List Token → Reading Making
agg_at ts = do
  input ← name_at ts
  by ← option_at name_at (codes "by") input.1
  rest ← word_expected (codes "do") by.1
  columns ← list_at gathered_at Comma rest
  Ok (Agg input.0 by.0 columns.0, columns.1)

-- two to sixteen inputs
unfoldable pub merge_at : List Token → Reading Making
merge_at ts = do
  inputs ← list_at name_at Nothing ts
  if nat_le 2 (length inputs.0) && nat_le (length inputs.0) 16 then Ok (Merge inputs.0, inputs.1) else Err BadLine

unfoldable pub sort_at : List Token → Reading Making
sort_at ts = do
  input ← name_at ts
  by ← list_at sorted_at Comma input.1
  Ok (Sort input.0 by.0, by.1)

-- NUMBER INPUT
unfoldable pub cut_at : (ℤ → List ℕ → Making) → List Token → Reading Making
cut_at cut ts = do
  rows ← digits_at ts
  input ← name_at rows.1
  Ok (cut rows.0 input.0, input.1)

unfoldable pub other_making_at : List Token → Reading Making
other_making_at ts =
    when_some (after_word (codes "agg") ts) agg_at
    (when_some (after_word (codes "merge") ts) merge_at
    (when_some (after_word (codes "sort") ts) sort_at
    (when_some (after_word (codes "head") ts) (cut_at Head)
    (when_some (after_word (codes "tail") ts) (cut_at Tail)
    (Err BadLine)))))

-- `asof` and `at` are words by their place alone, and may be names
unfoldable pub making_at : List Token → Reading Making
making_at ts =
    when_some (after_word (codes "where") ts) keep_at
    (when_some (after_word (codes "view") ts) view_at
    (when_some (after_word (codes "join") ts) join_at
    (when_some (after_word (codes "asof") ts) as_of_at
    (other_making_at ts))))

abbrev pub MakingKeeps : Making → Type 0
MakingKeeps (Keep input test) = TestKeeps test
MakingKeeps (View input columns) = MembersKeep ComputedKeeps columns
MakingKeeps (Join left right on take choice) = MembersKeep PairKeeps on × MembersKeep PairKeeps take
MakingKeeps (AsOf left right on at take) = AllByRecursion PairKeeps on × PairKeeps at × MembersKeep PairKeeps take
MakingKeeps (Agg input by columns) = AllByRecursion IsNamed by × MembersKeep GatheredKeeps columns
MakingKeeps (Merge inputs) = (2 ≤ length inputs) × (length inputs ≤ 16)
MakingKeeps (Sort input by) = some_of by ≡ true
MakingKeeps (Head rows input) = Unit {0}
MakingKeeps (Tail rows input) = Unit {0}
