-- What an as-of join keeps.
--     Matcher      what it was made of, and the rows of both inputs by their key cells and times
--     Stands matcher left right      it stands for these rows
--     matched_ticks on at take left right      the tick of an as-of join, from those of its inputs
--     IsMatcher take left_width right_width      the result has few columns, and the taken ones are the right input's
--     matcher_of on at take left_width right_width      the as-of join that has seen no rows
use Rattle.std.{specs.Prelude.{◌≡◌, ℕ, ◌+◌, ◌<◌, ◌≤◌, ◌==◌, List, [], length, if◌then◌else◌}, specs.List.AllByRecursion}
use Rattle.lookup_join.{specs.declared.keyed.Side.TheVariants.{Left, Right}, specs.declared.pick.Pick.TheVariants.Latest, specs.Keyed.indexed}
use Rattle.row_groups.specs.Members.{Grouped}
use Rattle.tick_model.{specs.declared.plan.OnPair.OnPair, specs.declared.plan.Op.TheVariants.AsOf, specs.declared.table.PlainTable.PlainTable, specs.Updates.Tick}
use Rattle.tick_laws.specs.Operated.{operated}

pub record Matcher : Type 0 where
  pub on : List OnPair
  pub at : OnPair
  pub take : List ℕ
  pub left_width : ℕ
  pub right_width : ℕ
  pub left : Grouped
  pub right : Grouped

pub record IsMatcher (columns : List ℕ) (left_columns right_columns : ℕ) : Type 0 where
  pub few : left_columns + length columns ≤ 32
  pub taken : AllByRecursion (λ column. column < right_columns) columns

abbrev pub matcher_of : List OnPair → OnPair → List ℕ → ℕ → ℕ → Matcher
matcher_of on at take left_width right_width = record { on = on; at = at; take = take; left_width = left_width; right_width = right_width; left = indexed Left on (Latest at) []; right = indexed Right on (Latest at) [] }

-- the matcher that stands for these rows
abbrev pub standing : Matcher → PlainTable → PlainTable → Matcher
standing matcher left right = record matcher { left = indexed Left matcher.on (Latest matcher.at) left.rows; right = indexed Right matcher.on (Latest matcher.at) right.rows }

pub record Stands (matcher : Matcher) (left right : PlainTable) : Type 0 where
  pub left_rows : matcher.left ≡ indexed Left matcher.on (Latest matcher.at) left.rows
  pub right_rows : matcher.right ≡ indexed Right matcher.on (Latest matcher.at) right.rows

abbrev pub matched_ticks : List OnPair → OnPair → List ℕ → Tick → Tick → Tick
matched_ticks on at take left right = operated (AsOf 0 1 on at take) (λ input. if input == 0 then left else right)
