-- A group that is not noted has the row that it has now, under the key to which its first row moved.
use Rattle.std.proofs.Common.{◌≡◌, sym, ◌∙◌, true, false, ℕ, List}
use Rattle.key_lists.specs.Keys.{is_among}
use Rattle.tick_model.{specs.Agg.agg_table, specs.declared.plan.Agg.Agg, specs.Shifts.{as_key, moved}, specs.Tables.cells_at, specs.Updates.kept_pair}
use Rattle.tick_table.{specs.Exact.IsExact, specs.Ticking.Ticking}
use Rattle.agg_by.{specs.Steps.{first_keys, is_touched, key_at, touched_firsts}, proofs.GroupParts.{IsCalm, Knows, all_known, calm_before, calm_rows, not_gone, of_survivor, survivor, survivors, touched_at}, proofs.StayingRows.first_there, proofs.Unmoved.and_with}

module _ (by : List ℕ) (aggs : List Agg) (t : Ticking) (e : IsExact t) (key : ℕ) (own : is_among key (first_keys by t.old.rows) ≡ true) (absent : is_among key (touched_firsts by t t.old.rows) ≡ false) where
  untouched : is_touched by t (key_at by t.old.rows key) ≡ false
  untouched = sym (touched_at by aggs t e t.old.rows key ∙ and_with (is_touched by t (key_at by t.old.rows key)) (is_among key (first_keys by t.old.rows)) own) ∙ absent

  pub still_there : is_among key (survivors by aggs t e) ≡ true
  still_there = survivor by aggs t e key (first_there by t e key own) (not_gone by aggs t e key untouched)

  calm : IsCalm by aggs t e (kept_pair t.update key)
  calm = calm_before by aggs t e (kept_pair t.update key) (of_survivor by aggs t e (Knows by aggs t e) key (all_known by aggs t e) still_there) untouched

  pub first_now : is_among (as_key (moved t.update.shifted key)) (first_keys by t.new.rows) ≡ true
  first_now = sym calm.firsts ∙ own

  pub same_row : cells_at (as_key (moved t.update.shifted key)) (agg_table by aggs t.new).rows ≡ cells_at key (agg_table by aggs t.old).rows
  same_row = sym (calm_rows by aggs t e (kept_pair t.update key) calm own)
