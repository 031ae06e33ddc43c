use Rattle.std.proofs.Common.{sym}
use Rattle.std.specs.Prelude.{bytes_eq}
use Rattle.mars_base.specs.declared.shape.Port.{Port}
use Rattle.project_sheet.proofs.Firsts.{position_none}
use Rattle.project_binder.proofs.net.port_number.Goals as goal

pub returns-in-None : goal.returns-in-None
returns-in-None c = position_none (λ (p : Port). bytes_eq p.name c.args.name.now) c.args.ports.now (sym c.in-None.ensures)
