use Rattle.std.proofs.Common.{inl, refl, Ok}
use Rattle.stages.specs.Stage.{judging, printing}
use Rattle.stages.proofs.Turns.{went, judged}
use Rattle.tables_print.specs.Showing.{IsDone}
use Rattle.tables_text.specs.Text.{tables_text}
use Rattle.tables_print.proofs.print.print_tables.Goals as goal

pub returns : goal.returns
returns g c = record {
  answer = λ files left reads writes input.
      went (judging IsDone) (λ u. printing (tables_text c.args.net.now c.args.graph.now c.args.tables.now c.args.maxts.now)) (judged IsDone _ _ (Ok tt) (inl refl)) (c.write_text.ensures.answer files left reads writes input);
}
