use Rattle.std.proofs.Common.{refl}
use Rattle.placement.proofs.Looking.{left_first}
use Rattle.placement.proofs.Fronts.{choices_from}
use Rattle.placement.proofs.cursor.first.Goals as goal

pub returns : goal.returns
returns c = let s = c.args.state.now in left_first s.problem s.placed.items (record { jobs = s.first; job = 0; row = c.new.result; told = 0 }) (choices_from s.problem s.placed.items s.ranks.items s.first c.requires.front) refl c.new.ensures
