-- A lawful run of one step, and what the laws say of it.
use Rattle.std.proofs.Common.{◌≡◌, refl, ℕ, true, List, [], ◌∷◌, ℤ, pos, Some, arith, lit<, lit≤}
use Rattle.std.{specs.Prelude.codes, proofs.lemmas.Int.ints}
use Rattle.tick_model.{specs.declared.feed.Block.Block, specs.declared.feed.Run.Run, specs.declared.plan.ColumnSpec.ColumnSpec, specs.declared.plan.Expr.Rank, specs.declared.plan.Kind.Kind, specs.declared.plan.Kind.TheVariants.{Long, Text}, specs.declared.plan.Node.Node, specs.declared.plan.Op.Op, specs.declared.plan.Op.TheVariants.{Source, View, Merge, Sort}, specs.declared.plan.Plan.Plan, specs.declared.table.PlainRow.PlainRow, specs.declared.table.PlainTable.PlainTable, specs.Tables.null, specs.Changes.{change_of, changed}, specs.LawfulRuns.IsLawfulRun, specs.Printable.IsPrintable, specs.Slices.{slice, slice_tick}, specs.Spoiled.good, specs.States.{state, tick}, specs.Evaluation.table_at}
use Rattle.tick_laws.{specs.Reached.IsReached, proofs.FittingNodes.node_printable, proofs.GoodSteps.good_reached, proofs.SliceTicks.slice_carries}

abbrev column : List ℕ → Kind → ColumnSpec
column name kind = record { name = name; kind = kind }

abbrev node : List ℕ → List ColumnSpec → Op → Node
node name columns op = record { name = name; columns = columns; op = op }

abbrev row : ℕ → ℤ → ℤ → PlainRow
row key size name = record { key = key; cells = size ∷ name ∷ [] }

abbrev columns : List ColumnSpec
columns = column (codes "size") Long ∷ column (codes "name") Text ∷ []

abbrev wider : List ColumnSpec
wider = column (codes "size") Long ∷ column (codes "name") Text ∷ column (codes "other") Text ∷ []

-- a source, its rows twice, these in order of their size, and the source with a text that the plan names
abbrev plan : Plan
plan = record {
  nodes = node (codes "things") columns Source ∷ node (codes "twice") columns (Merge (0 ∷ 0 ∷ [])) ∷ node (codes "by_size") columns (Sort 1 ((record { column = 0; descending = true }) ∷ []))
      ∷ node (codes "more") wider (View 0 (Rank (pos 0) ∷ [])) ∷ [];
  printed = 2 ∷ [];
  published = [];
}

abbrev block : Block
block = record {
  table = 0;
  number = 1;
  removed = (record { first = 0; last = 0 }) ∷ [];
  shifts = (record { begin = 1; end = 1; delta = pos 3 }) ∷ [];
  added = row 2 (pos 9) null ∷ [];
  modified = [];
}

abbrev run : Run
run = record {
  plan = plan;
  opening = (record { width = 2; rows = row 0 (pos 5) (pos 0) ∷ row 1 (pos 7) (pos 1) ∷ [] }) ∷ [];
  batches = (record { blocks = block ∷ [] }) ∷ [];
  texts = codes "x" ∷ codes "y" ∷ [];
}

is_lawful_run : IsLawfulRun run
is_lawful_run = record {
  plan = refl;
  numbers = (tt, (tt, (tt, ((record { sfits = lit< tt }, tt), tt))));
  ranks = (refl, (refl, (refl, (refl, tt))));
  opening = (
    record {
      width = refl;
      count = lit≤ tt;
      keys_are = refl;
      rows = (
        record { key = lit< tt; cells = refl; numbers = (record { sfits = lit< tt }, (record { sfits = lit< tt }, tt)) },
        (record { key = lit< tt; cells = refl; numbers = (record { sfits = lit< tt }, (record { sfits = lit< tt }, tt)) }, tt),
      );
    },
    tt,
  );
  steps = lit≤ tt;
  batches = (
    (
      record {
        source = refl;
        removed = (lit≤ tt, lit< tt, tt, tt);
        shifts = (lit≤ tt, refl, tt, tt);
        ranges = (record { begin = lit< tt; end = lit< tt; up = omega (arith, ints); down = omega (arith, ints) }, tt);
        added = (record { key = lit< tt; cells = refl; numbers = (record { sfits = lit< tt }, (record { sfits = lit< tt }, tt)) }, tt);
        modified = tt;
        added_rise = (tt, tt);
        modified_rise = tt;
        records = lit< tt;
      },
      tt,
    ),
    tt,
  );
  texts = (refl, (refl, tt), (refl, tt, tt));
}

-- both of its steps are good
is_good : good run ≡ Some 1
is_good = refl

is_reached : IsReached run 1
is_reached = good_reached run 1 is_good

-- the sorted rows: those of the first source row leave, those of the added one come first, the others stay in place
by_size : change_of (tick run 1 2) ≡ record { update = record { removed = 2 ∷ 3 ∷ []; added = 0 ∷ 1 ∷ []; modified = []; shifted = (record { begin = 0; end = 1; delta = pos 2 }) ∷ []; columns = [] }; cells = pos 9 ∷ null ∷ pos 9 ∷ null ∷ [] }
by_size = refl

by_size_printable : IsPrintable columns run.texts (change_of (tick run 1 2))
by_size_printable = node_printable run is_lawful_run 1 is_reached 2 (lit< tt)

-- the sizes of the two largest rows, from the opening to the step
abbrev largest : PlainTable → PlainTable
largest = slice 0 2 (0 ∷ [])

largest_now : largest (table_at (state run 1) 2) ≡ record { width = 1; rows = (record { key = 0; cells = pos 9 ∷ [] }) ∷ (record { key = 1; cells = pos 9 ∷ [] }) ∷ [] }
largest_now = refl

largest_carried : changed (largest (table_at (state run 0) 2)) (change_of (slice_tick run 2 largest 0 1)) ≡ largest (table_at (state run 1) 2)
largest_carried = slice_carries run is_lawful_run 2 (lit< tt) 0 2 (0 ∷ []) 0 1 is_reached
