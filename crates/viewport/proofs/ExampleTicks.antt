-- The steps of the examples are ticks.
use Rattle.std.proofs.Common.{◌≡◌, refl, lit<, lit≤, []}
use Rattle.tick_model.{specs.Changes.change_of, specs.Updates.IsTick}
use Rattle.tick_table.{specs.Exact.{IsExact, ticking}, proofs.ExactAgain.{exact_again, tick_again}}
use Rattle.viewport.{specs.Examples.{arrival, first_two, insertion}, specs.Slices.IsSlice}

pub is_arrival : IsTick arrival
is_arrival = record {
  old_table = record { rows = tt; rising = tt };
  new_table = record {
    rows = (record { key = lit< tt; whole = refl }, (record { key = lit< tt; whole = refl }, tt));
    rising = ((lit< tt, tt), (tt, tt));
  };
  one_width = refl;
  of_old = tt;
  of_new = tt;
  rising_old = tt;
  rising_new = tt;
}

pub is_insertion : IsTick insertion
is_insertion = record {
  old_table = record {
    rows = (record { key = lit< tt; whole = refl }, (record { key = lit< tt; whole = refl }, tt));
    rising = ((lit< tt, tt), (tt, tt));
  };
  new_table = record {
    rows = (record { key = lit< tt; whole = refl }, (record { key = lit< tt; whole = refl }, (record { key = lit< tt; whole = refl }, tt)));
    rising = ((lit< tt, (lit< tt, tt)), ((lit< tt, tt), (tt, tt)));
  };
  one_width = refl;
  of_old = (refl, (refl, tt));
  of_new = (refl, (refl, tt));
  rising_old = ((lit< tt, tt), (tt, tt));
  rising_new = ((lit< tt, tt), (tt, tt));
}

pub is_slice : IsSlice 1 first_two
is_slice = record { first = lit< tt; some_rows = lit≤ tt; few_rows = lit≤ tt; some_columns = lit≤ tt; rising = (tt, tt); columns = (lit< tt, tt) }

pub arrival_exact : IsExact (ticking arrival)
arrival_exact = exact_again arrival is_arrival

pub insertion_exact : IsExact (ticking insertion)
insertion_exact = exact_again insertion is_insertion
