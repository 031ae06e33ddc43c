use Rattle.mc_compile.proofs.Costs.{ex_costs}
use Rattle.mc_compile.proofs.Instances.{translation_right, keeps_words}
use Rattle.mc_compile.proofs.Lengths.{code_length}
use Rattle.mc_compile.proofs.Placed.{placed_task}
use Rattle.mc_compile.proofs.Tasks.{has_widths}
use Rattle.mc_compile.proofs.TypedTask.{typed_task}
use Rattle.mc_compile.proofs.translation.Goals as goal

pub returns : goal.returns
returns c = record {
  stands = placed_task;
  size = code_length;
  right = translation_right;
  words = keeps_words;
  widths = has_widths;
  verified = typed_task;
  costs = ex_costs;
}
