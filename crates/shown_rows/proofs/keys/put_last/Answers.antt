use Rattle.std.proofs.Common.{◌≡◌, subst, ◌++◌, ◌∷◌, []}
use Rattle.std.specs.Prelude.{OnOk}
use Rattle.row_set.{specs.Ranges.keys_from, specs.Sets.united}
use Rattle.row_changes.proofs.Comparing.{key_last}
use Rattle.shown_rows.proofs.keys.put_last.Goals as goal

pub returns-clause-keys : goal.returns-clause-keys
returns-clause-keys c =
    let last : united (keys_from c.args.key c.args.key) c.args.keys.now ≡ c.args.keys.now ++ c.args.key ∷ []
    = key_last c.args.key c.args.keys.now c.requires.last in
    subst (λ keys. OnOk c.insert_range.result (c.insert_range.new.self ≡ keys)) last c.insert_range.ensures.ok
