-- Which of two rows is picked, by their times.
use Rattle.std.proofs.Common.{◌≡◌, true, false, arith, ℤ}
use Rattle.std.{specs.Prelude.{int_le, int_lt}, proofs.lemmas.Int.ints}
use Rattle.lookup_join.{specs.declared.pick.Pick.Pick, specs.declared.pick.Pick.TheVariants.{First, Last, Latest}, specs.Latest.beats}

pub one_way : (a b : ℤ) → int_lt a b ≡ true → int_lt b a ≡ false
one_way a b e = grind (arith, ints)

sooner : (a b : ℤ) → int_lt a b ≡ true → int_le a b ≡ true
sooner a b e = grind (arith, ints)

no_sooner : (a b : ℤ) → int_lt b a ≡ true → int_le a b ≡ false
no_sooner a b e = grind (arith, ints)

no_later : (a b : ℤ) → int_le a b ≡ true → int_lt b a ≡ false
no_later a b e = grind (arith, ints)

past : (a b : ℤ) → int_le a b ≡ false → int_lt a b ≡ false
past a b e = grind (arith, ints)

sooner_through : (a b d : ℤ) → int_le a b ≡ true → int_lt b d ≡ true → int_le a d ≡ true
sooner_through a b d e f = grind (arith, ints)

through : (a b d : ℤ) → int_lt a b ≡ true → int_lt b d ≡ true → int_lt a d ≡ true
through a b d e f = grind (arith, ints)

-- a later one is picked
pub beats_later : (pick : Pick) (behind own : ℤ) → int_lt behind own ≡ true → beats pick behind own ≡ true
beats_later First behind own e = sooner behind own e
beats_later Last behind own e = e
beats_later (Latest at) behind own e = e

-- an earlier one is not
pub beats_no_earlier : (pick : Pick) (behind own : ℤ) → int_lt own behind ≡ true → beats pick behind own ≡ false
beats_no_earlier First behind own e = no_sooner behind own e
beats_no_earlier Last behind own e = one_way own behind e
beats_no_earlier (Latest at) behind own e = one_way own behind e

-- the one that is picked is no earlier than the other
pub picked_no_earlier : (pick : Pick) (behind own : ℤ) → beats pick behind own ≡ true → int_lt own behind ≡ false
picked_no_earlier First behind own e = no_later behind own e
picked_no_earlier Last behind own e = one_way behind own e
picked_no_earlier (Latest at) behind own e = one_way behind own e

pub left_no_later : (pick : Pick) (behind own : ℤ) → beats pick behind own ≡ false → int_lt behind own ≡ false
left_no_later First behind own e = past behind own e
left_no_later Last behind own e = e
left_no_later (Latest at) behind own e = e

-- where one is picked, so is a later one
pub beats_through : (pick : Pick) (behind own later : ℤ) → beats pick behind own ≡ true → int_lt own later ≡ true → beats pick behind later ≡ true
beats_through First behind own later e f = sooner_through behind own later e f
beats_through Last behind own later e f = through behind own later e f
beats_through (Latest at) behind own later e f = through behind own later e f
