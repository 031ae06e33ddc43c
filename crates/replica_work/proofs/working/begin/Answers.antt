use Rattle.std.proofs.Common.{◌≡◌, sym, ◌∙◌, ap, subst}
use Rattle.tables.specs.Named.{entry_at}
use Rattle.tables.specs.declared.table.JobEntry.{JobEntry}
use Rattle.replica_work.specs.Works.{state_for}
use Rattle.replica_work.proofs.Later.{no_ticks}
use Rattle.replica_work.proofs.working.begin.Goals as goal

pub returns-then-entry_at-desk : goal.returns-then-entry_at-desk
returns-then-entry_at-desk g c =
    let plant = c.args.plant.now in let d = c.args.desk.now in let job = c.args.job in
    let start : (entry_at plant.tables job).start ≡ d.clock =
    ap (λ k. (entry_at plant.tables k).start) (sym c.from.ensures) ∙ ap (λ (e : JobEntry). e.start) (sym c.entry_at.ensures) ∙ c.if-entry_at-desk.true in
    λ program is. subst (λ m. g.C.Cpu.runs c.load.new.cpu program (state_for plant d job) d.ins m) (sym (no_ticks plant job d.clock start)) (c.load.ensures program is)
