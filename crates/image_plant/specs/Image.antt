-- Which plants are images.
use Rattle.std.specs.Prelude.{◌≡◌, ℕ, List, map, All}
use Rattle.graph.specs.declared.net.NetTask.{NetTask}
use Rattle.graph.specs.JobGraph.{IsJobGraph}
use Rattle.word_code.specs.Cells.{is_in, is_out}
use Rattle.word_code.specs.Typing.{IsVerified}
use Rattle.word_code.specs.declared.code.Code.{Code}
use Rattle.plant.specs.declared.system.Plant.{Plant}
use Rattle.plant.specs.InOrder.{IsInOrder}
use Rattle.image_fields.specs.Image.{image}
use Rattle.image_sides.specs.Sides.{widths_of, state_words}
use Rattle.image_plant.specs.Fields.{parts_of}

abbrev pub task_ins : NetTask → List ℕ
task_ins t = t.ins

abbrev pub task_outs : NetTask → List ℕ
task_outs t = t.outs

abbrev pub in_cells : Code → List ℕ
in_cells code = widths_of is_in code.cells

abbrev pub out_cells : Code → List ℕ
out_cells code = widths_of is_out code.cells

-- for each task the in cells and the out cells of its code have the widths of its ports, in order, and its state
-- cells have together its number of state words
pub record HasPorts (plant : Plant Code) : Type 0 where
  pub ins : map task_ins plant.net.tasks ≡ map in_cells plant.programs
  pub outs : map task_outs plant.net.tasks ≡ map out_cells plant.programs
  pub states : plant.states ≡ map state_words plant.programs

-- the plant is in order, its codes are verified and have its ports, its graph has all its tables, and each number and
-- each name fits its field
pub record IsImage (plant : Plant Code) : Type 0 where
  pub in_order : IsInOrder plant
  pub codes : All IsVerified plant.programs
  pub ports : HasPorts plant
  pub graph : IsJobGraph plant.graph
  pub fits : image.fits (parts_of plant)
