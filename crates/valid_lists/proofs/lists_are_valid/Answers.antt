use Rattle.valid_lists.proofs.Valid.{whole_valid}
use Rattle.valid_lists.proofs.lists_are_valid.Goals as goal

pub returns : goal.returns
returns c = whole_valid
