-- Opening tables where no table is left.
use Rattle.std.proofs.Common.{◌≡◌, ◌<◌, List, [], ◌∷◌, refl, ap, ◌∙◌, sym, length, map, arith, ℕ}
use Rattle.std.specs.List.{zip}
use Rattle.tick_model.specs.declared.plan.Node.{Node}
use Rattle.feed_reader.{specs.declared.raw.RawTable.RawTable, specs.Runs.{opened, opening_of}}

zip-none : (sources : List Node) (tables : List RawTable) → length tables < 1 → zip sources tables ≡ []
zip-none [] tables none = refl
zip-none (source ∷ sources) [] none = refl
zip-none (source ∷ sources) (table ∷ tables) none = absurd (omega arith)

pub none_left : (texts : List (List ℕ)) (sources others : List Node) (tables : List RawTable) → length tables < 1 → opening_of texts sources tables ≡ opening_of texts others tables
none_left texts sources others tables none = ap (map (opened texts)) (zip-none sources tables none ∙ sym (zip-none others tables none))
