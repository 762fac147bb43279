-- The text of runs: updates, quoted fields, snapshots and the summary.
use Rattle.std.proofs.Common.{◌≡◌, refl, ℕ, List, [], ◌∷◌, ◌++◌, pos}
use Rattle.std.{specs.Prelude.{codes, length}, specs.Fmt.digits}
use Rattle.tick_model.{specs.declared.feed.Run.Run, specs.declared.plan.ColumnSpec.ColumnSpec, specs.declared.plan.Comparison.TheVariants.Gt, specs.declared.plan.Expr.{Cell, Number}, specs.declared.plan.Kind.TheVariants.{Long, Text}, specs.declared.plan.Node.Node, specs.declared.plan.Op.Op, specs.declared.plan.Op.TheVariants.{Source, Keep}, specs.declared.plan.Plan.Plan, specs.declared.plan.Pred.Compare, specs.Texts.{updates_text, updates_records, snapshots_text, summary_text}, proofs.Examples.Rows.{a, r, s, t, step_of, empty}}

-- a line of text: the codes and a line feed
abbrev line : List ℕ → List ℕ
line text = text ++ 10 ∷ []

abbrev big_columns : List ColumnSpec
big_columns = (record { name = codes "sym"; kind = Text }) ∷ (record { name = codes "qty"; kind = Long }) ∷ []

abbrev named : List ℕ → Op → Node
named name op = record { name = name; columns = big_columns; op = op }

-- a table and the rows of it with a quantity over 10, printed and published
abbrev plan : Plan
plan = record {
  nodes = named (codes "t") Source ∷ named (codes "big") (Keep 0 (Compare Gt (Cell 1) (Number (pos 10)))) ∷ [];
  printed = 1 ∷ [];
  published = (record { node = 1; width = 2; limit = 10 }) ∷ [];
}

abbrev big : Run
big = record {
  plan = plan;
  opening = empty 2 ∷ [];
  batches =
      step_of (t 0 [] [] (a 0 (pos 1 ∷ pos 5 ∷ []) ∷ a 1 (pos 0 ∷ pos 20 ∷ []) ∷ []) [] ∷ [])
      ∷ step_of (t 0 (r 0 0 ∷ []) (s 1 1 (pos 5) ∷ []) (a 2 (pos 2 ∷ pos 30 ∷ []) ∷ []) [] ∷ []) ∷ [];
  texts = codes "AAPL" ∷ codes "IBM" ∷ codes "X, \"Y\"" ∷ [];
}

moved_and_added : updates_text big 2 ≡
    line (codes "step,1,big") ++ line (codes "a,1,AAPL,20")
    ++ line (codes "step,2,big") ++ line (codes "s,1,1,5") ++ line (codes "a,2,\"X, \"\"Y\"\"\",30")
unfolding digits
moved_and_added = refl

five_records : length (updates_records big 2) ≡ 5
unfolding digits
five_records = refl

two_snapshots : snapshots_text big ((1 ∷ 2 ∷ []) ∷ []) ≡
    line (codes "snap,0,0,1,big") ++ line (codes "w,1,AAPL,20")
    ++ line (codes "snap,0,1,2,big") ++ line (codes "w,2,\"X, \"\"Y\"\"\",30") ++ line (codes "w,6,AAPL,20")
unfolding digits
two_snapshots = refl

sizes : summary_text big 2 ≡ line (codes "demo,2,5") ++ line (codes "size,t,2") ++ line (codes "size,big,2") ++ line (codes "done,2")
unfolding digits
sizes = refl
