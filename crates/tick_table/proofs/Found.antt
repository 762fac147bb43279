-- What the position says that a search for a key gives.
use Rattle.std.proofs.Common.{◌≡◌, refl, ap, ap₂, sym, ◌∙◌, Bool, true, false, cond, ℕ, ◌<◌, arith, List, length, get_or, true≢false}
use Rattle.std.{specs.Prelude.{Result, Ok, Err}, specs.Result.is_ok}
use Rattle.key_lists.specs.Keys.{is_among, IsRising}
use Rattle.row_set.specs.Sets.{count_below, found}
use Rattle.tick_table.proofs.Paired.{place_below, place_key}

abbrev position_or : Result ℕ ℕ → ℕ
position_or (Ok n) = n
position_or (Err n) = n

pub found_ok : (key : ℕ) (ks : List ℕ) (n : ℕ) → found key ks ≡ Ok n → (is_among key ks ≡ true) × (n ≡ count_below key ks)
found_ok key ks n e = go (is_among key ks) refl e
  where
    go : (b : Bool) → is_among key ks ≡ b → cond b (Ok (count_below key ks)) (Err (count_below key ks)) ≡ Ok n → (is_among key ks ≡ true) × (n ≡ count_below key ks)
    go true here e = (here, sym (ap position_or e))
    go false here e = absurd (true≢false (sym (ap is_ok e)))

pub found_err : (key : ℕ) (ks : List ℕ) (n : ℕ) → found key ks ≡ Err n → is_among key ks ≡ false
found_err key ks n e = go (is_among key ks) refl e
  where
    go : (b : Bool) → is_among key ks ≡ b → cond b (Ok (count_below key ks)) (Err (count_below key ks)) ≡ Err n → is_among key ks ≡ false
    go true here e = absurd (true≢false (ap is_ok e))
    go false here e = here

-- the key stands at the place that is found
pub found_place : (key n : ℕ) (set ks : List ℕ) → set ≡ ks → IsRising set → found key set ≡ Ok n → (n < length ks) × (get_or ks n 0 ≡ key)
found_place key n set ks same rises e =
    let there = found_ok key set n e in
    let below = place_below key set rises there.0 in
    (omega (arith, below, there.1, ap length same), ap₂ (λ (ks : List ℕ) n. get_or ks n 0) (sym same) there.1 ∙ place_key key set rises there.0)
