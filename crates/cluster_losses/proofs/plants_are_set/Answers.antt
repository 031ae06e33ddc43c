use Rattle.cluster_losses.proofs.Fits.{plant_set, plant_agrees}
use Rattle.cluster_losses.proofs.plants_are_set.Goals as goal

pub returns : goal.returns
returns g c = record {
  set = plant_set g.C.Cpu.ins_of g.C.Cpu.outs_of g.C.Cpu.states_of g.C.Cpu.execution g.C.Cpu.has_words g.met.C.Cpu.sized g.met.C.Cpu.words;
  agree = plant_agrees g.C.Cpu.ins_of g.C.Cpu.outs_of g.C.Cpu.states_of g.C.Cpu.execution g.C.Cpu.has_words g.met.C.Cpu.sized g.met.C.Cpu.words;
}
