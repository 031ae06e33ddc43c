use Rattle.show_command.proofs.ShowFacts.{same_text, shows_same}
use Rattle.show_command.specs.Show.{text_of}
use Rattle.tables_text.specs.Text.{tables_text}
use Rattle.show_command.proofs.command.put_image.Goals as goal

pub returns : goal.returns
returns g c = record {
  answer = λ files left reads writes input.
      let p = c.plant-plant.result.now in
      shows_same (tables_text p.net p.graph p.tables c.as_slice.result.now) (text_of c.args.image.now)
      (same_text c.args.image.now p c.as_slice.result.now c.plant-plant.ensures.value c.as_slice.ensures) (c.print_tables.ensures.answer files left reads writes input);
}
