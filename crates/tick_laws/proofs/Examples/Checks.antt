-- An update that is checked against the keys of a table.
use Rattle.std.proofs.Common.{◌≡◌, refl, ℕ, List, [], ◌∷◌, negsuc, Some}
use Rattle.key_lists.specs.Keys.{IsRising}
use Rattle.tick_model.{specs.declared.update.UpdateFault.TheVariants.AddedTaken, specs.Rules.update_fault, specs.Updates.Update}
use Rattle.tick_laws.{specs.Checked.{IsChecked, keys_after}, proofs.CheckedUpdates.keys_after-rise}

abbrev old : List ℕ
old = 1 ∷ 2 ∷ 5 ∷ []

abbrev update : ℕ → Update
update key = record { removed = 2 ∷ []; added = key ∷ []; modified = 3 ∷ []; shifted = (record { begin = 5; end = 5; delta = negsuc 1 }) ∷ []; columns = [] }

is_checked : IsChecked 100 old (update 2)
is_checked = record { breaks_none = refl; added_rise = (tt, tt) }

left : keys_after old (update 2) ≡ 1 ∷ 2 ∷ 3 ∷ []
left = refl

left_rise : IsRising (keys_after old (update 2))
left_rise = keys_after-rise 100 old (update 2) is_checked

-- where the added key is that of a row that stays
taken : update_fault 100 old (update 3) ≡ Some (AddedTaken 3)
taken = refl
