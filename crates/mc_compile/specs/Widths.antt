-- How many words code takes and gives beside its task. This project's own.
use Rattle.std.specs.Prelude.{◌≡◌, ◌+◌, ◌≤◌}
use Rattle.mc_tree.specs.Instance.{is_in, is_out, is_state, width_of}
use Rattle.mc_tree.specs.Tree.{Tree}
use Rattle.word_code.specs.Cells as machine
use Rattle.word_code.specs.declared.code.Code.{Code}

-- the code takes and gives as many words as the task's cells have: at most 256 in and out words together, and at
-- most 4,096 words of state
pub record HasWidths (t : Tree) (code : Code) : Type 0 where
  pub ins : machine.width_of machine.is_in code.cells ≡ width_of is_in t.cells
  pub outs : machine.width_of machine.is_out code.cells ≡ width_of is_out t.cells
  pub states : machine.width_of machine.is_state code.cells ≡ width_of is_state t.cells
  pub few : width_of is_in t.cells + width_of is_out t.cells ≤ 256
  pub most : width_of is_state t.cells ≤ 4096
