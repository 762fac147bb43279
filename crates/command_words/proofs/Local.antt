-- Arguments of a subcommand are its own.
use Rattle.std.proofs.Common.{◌≡◌, ◌∙◌, ◌||◌, Bool, false}
use Rattle.std.proofs.lemmas.Bool.{or_from}

pub still_local : (new old own : Bool) → new ≡ (old || own) → own ≡ false → old ≡ false → new ≡ false
still_local new old own is own_local old_local = is ∙ or_from old own old_local own_local
