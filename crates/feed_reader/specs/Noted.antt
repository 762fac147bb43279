-- Sets of texts.
--     noted texts      an ordered set as the list of its texts
use Rattle.std.{specs.Prelude.{ℕ, List, map}, specs.Borrow.Bor, specs.BTreeSet.BTreeSet}

abbrev pub noted : BTreeSet (Bor (List ℕ)) → List (List ℕ)
noted texts = map (λ text. text.now) texts.keys
