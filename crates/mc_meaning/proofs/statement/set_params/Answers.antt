use Rattle.std.proofs.Common.{arith}
use Rattle.mc_tree.specs.Plain.{place_in}
use Rattle.mc_meaning.proofs.Params.{none_set}
use Rattle.mc_meaning.proofs.statement.set_params.Goals as goal

pub loop-left-init : goal.loop-left-init
loop-left-init c =
    (omega (arith, c.min-left.ensures), omega (arith, c.min-left.ensures), none_set (place_in c.args.cells.now) c.args.params.now c.args.args.now c.args.words.now c.min-left.result (omega (arith, c.min-left.ensures)))
