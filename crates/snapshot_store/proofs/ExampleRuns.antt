-- The small run of the examples is lawful, and what it publishes.
use Rattle.std.proofs.Common.{◌≡◌, refl, zero, suc, arith, lit<, lit≤}
use Rattle.tick_model.specs.LawfulRuns.{IsLawfulRun}
use Rattle.tick_laws.specs.Reached.{KeepsRules}
use Rattle.snapshot_store.{specs.Lines.published_table, specs.Example.{example, example_table, first_rows, second_rows, third_rows}}

pub is_lawful_example : IsLawfulRun example
is_lawful_example = record {
  plan = refl;
  numbers = (tt, (tt, tt));
  ranks = (refl, (refl, tt));
  opening = (
    record {
      width = refl;
      count = lit≤ tt;
      keys_are = refl;
      rows = (
        record { key = lit< tt; cells = refl; numbers = (record { sfits = lit< tt }, tt) },
        (
          record { key = lit< tt; cells = refl; numbers = (record { sfits = lit< tt }, tt) },
          (
            record { key = lit< tt; cells = refl; numbers = (record { sfits = lit< tt }, tt) },
            (record { key = lit< tt; cells = refl; numbers = (record { sfits = lit< tt }, tt) }, tt),
          ),
        ),
      );
    },
    tt,
  );
  steps = lit≤ tt;
  batches = (
    (
      record {
        source = refl;
        removed = tt;
        shifts = tt;
        ranges = tt;
        added = (record { key = lit< tt; cells = refl; numbers = (record { sfits = lit< tt }, tt) }, tt);
        modified = tt;
        added_rise = (tt, tt);
        modified_rise = tt;
        records = lit< tt;
      },
      tt,
    ),
    (
      (
        record {
          source = refl;
          removed = tt;
          shifts = tt;
          ranges = tt;
          added = (record { key = lit< tt; cells = refl; numbers = (record { sfits = lit< tt }, tt) }, tt);
          modified = tt;
          added_rise = (tt, tt);
          modified_rise = tt;
          records = lit< tt;
        },
        tt,
      ),
      tt,
    ),
  );
  texts = tt;
}

pub first_table : published_table example 0 0 ≡ example_table first_rows
first_table = refl

pub second_table : published_table example 1 0 ≡ example_table second_rows
second_table = refl

pub third_table : published_table example 2 0 ≡ example_table third_rows
third_table = refl

pub keeps_both : KeepsRules example 2
keeps_both zero h = refl
keeps_both (suc zero) h = refl
keeps_both (suc (suc zero)) h = refl
keeps_both (suc (suc (suc n))) h = absurd (omega arith)

pub keeps_one : KeepsRules example 1
keeps_one step h = keeps_both step (omega arith)
