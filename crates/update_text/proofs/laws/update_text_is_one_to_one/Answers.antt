use Rattle.update_text.proofs.ChangesBack.{text_same}
use Rattle.update_text.proofs.laws.update_text_is_one_to_one.Goals as goal

pub returns : goal.returns
returns c = text_same
