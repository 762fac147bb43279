-- The runs of the examples are lawful.
use Rattle.std.proofs.Common.{refl, lit<, lit≤}
use Rattle.tick_model.specs.LawfulRuns.{IsLawfulRun}
use Rattle.update_graph.specs.Examples.{beside, filters, joins}

pub is_lawful_filters : IsLawfulRun filters
is_lawful_filters = record {
  plan = refl;
  numbers = (tt, (tt, (tt, (tt, tt))));
  ranks = (refl, (refl, (refl, (refl, tt))));
  opening = (record { width = refl; count = lit≤ tt; keys_are = refl; rows = tt }, tt);
  steps = lit≤ tt;
  batches = (
    (
      record {
        source = refl;
        removed = tt;
        shifts = tt;
        ranges = tt;
        added = (record { key = lit< tt; cells = refl; numbers = (record { sfits = lit< tt }, tt) }, tt);
        modified = tt;
        added_rise = (tt, tt);
        modified_rise = tt;
        records = lit< tt;
      },
      tt,
    ),
    tt,
  );
  texts = tt;
}

pub is_lawful_beside : IsLawfulRun beside
is_lawful_beside = record {
  plan = refl;
  numbers = (tt, (tt, (tt, (tt, tt))));
  ranks = (refl, (refl, (refl, (refl, tt))));
  opening = (record { width = refl; count = lit≤ tt; keys_are = refl; rows = tt }, tt);
  steps = lit≤ tt;
  batches = (
    (
      record {
        source = refl;
        removed = tt;
        shifts = tt;
        ranges = tt;
        added = (record { key = lit< tt; cells = refl; numbers = (record { sfits = lit< tt }, tt) }, tt);
        modified = tt;
        added_rise = (tt, tt);
        modified_rise = tt;
        records = lit< tt;
      },
      tt,
    ),
    tt,
  );
  texts = tt;
}

pub is_lawful_joins : IsLawfulRun joins
is_lawful_joins = record {
  plan = refl;
  numbers = (tt, (tt, (tt, (tt, tt))));
  ranks = (refl, (refl, (refl, (refl, tt))));
  opening = (record { width = refl; count = lit≤ tt; keys_are = refl; rows = tt }, (record { width = refl; count = lit≤ tt; keys_are = refl; rows = tt }, tt));
  steps = lit≤ tt;
  batches = (
    (
      record {
        source = refl;
        removed = tt;
        shifts = tt;
        ranges = tt;
        added = (record { key = lit< tt; cells = refl; numbers = (record { sfits = lit< tt }, tt) }, tt);
        modified = tt;
        added_rise = (tt, tt);
        modified_rise = tt;
        records = lit< tt;
      },
      (
        record {
          source = refl;
          removed = tt;
          shifts = tt;
          ranges = tt;
          added = (record { key = lit< tt; cells = refl; numbers = (record { sfits = lit< tt }, tt) }, (record { key = lit< tt; cells = refl; numbers = (record { sfits = lit< tt }, tt) }, tt));
          modified = tt;
          added_rise = ((lit< tt, tt), (tt, tt));
          modified_rise = tt;
          records = lit< tt;
        },
        tt,
      ),
    ),
    tt,
  );
  texts = tt;
}
