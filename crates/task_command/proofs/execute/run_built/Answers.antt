use Rattle.std.proofs.Common.{sym, subst, refl, Err, arith}
use Rattle.mc_tree.specs.Plain.{plain_task}
use Rattle.refusals.specs.declared.refusal.Refusal.{Refusal}
use Rattle.stages.specs.Stage.{Does}
use Rattle.refusals.specs.Causes.{Counts, Later}
use Rattle.stages.specs.World.{Held}
use Rattle.task_source.specs.Bound.{code_of}
use Rattle.task_command.specs.Running.{running}
use Rattle.task_command.proofs.Ran.{ran}
use Rattle.task_command.proofs.execute.run_built.Goals as goal

pub returns : goal.returns
returns g c = record {
  answer = λ files reads writes.
      let t = plain_task c.args.built.now.task in
      let own = code_of c.args.built.now.task in
      let maxt = c.args.built.now.maxt in
      let b : Held = record { files = files; left = g.I.Source.left c.args.input.now; out = g.O.Sink.holds c.args.out.now } in
      let n : Held = record { files = files; left = g.I.Source.left c.run_lines.new.input; out = g.O.Sink.holds c.run_lines.new.out } in
      let before : Counts = record { reads = reads; writes = writes; input = g.I.Source.faults c.args.input.now; output = g.O.Sink.faults c.args.out.now } in
      let now : Counts = record { reads = reads; writes = writes; input = g.I.Source.faults c.run_lines.new.input; output = g.O.Sink.faults c.run_lines.new.out } in
      let e = c.in-Err.ensures {u = tt} in
      let later : Later before now = record { in_reads = omega arith; in_writes = omega arith; in_input = e.later_in; in_output = e.later_out } in
      subst (λ (r : Refusal). Does (running t own maxt) b n before now (Err r)) (sym c.refused_run.ensures)
      (ran t c.args.built.now.code own maxt b n before now (Err c.in-Err.fault) c.requires.is_code e.answer refl e.at_end e.answered e.read e.write later);
}
