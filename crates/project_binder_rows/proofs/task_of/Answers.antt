use Rattle.std.proofs.Common.{arith}
use Rattle.mars_base.specs.declared.shape.Port.{Port}
use Rattle.project_binder_rows.proofs.Single.{single_differs}
use Rattle.project_binder_rows.proofs.task_of.Goals as goal

pub returns : goal.returns
returns c = record {
  few = omega (arith, c.in_ok-one_port.ensures.one, c.in_ok-one_port-2.ensures.one);
  in_widths = c.in_ok-one_port.ensures.width;
  out_widths = c.in_ok-one_port-2.ensures.width;
  ins_differ = single_differs (λ (p : Port). p.name) c.in_ok-one_port.field-0 c.in_ok-one_port.ensures.one;
  outs_differ = single_differs (λ (p : Port). p.name) c.in_ok-one_port-2.field-0 c.in_ok-one_port-2.ensures.one;
}
