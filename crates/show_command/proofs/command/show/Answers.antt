use Rattle.show_command.proofs.ShowFacts.{same_text, writes_same}
use Rattle.show_command.specs.Show.{text_of}
use Rattle.tables_text.specs.Text.{tables_text}
use Rattle.show_command.proofs.command.show.Goals as goal

pub returns-clause-bytes : goal.returns-clause-bytes
returns-clause-bytes g c =
    let p = c.plant-plant.result.now in
    writes_same (tables_text p.net p.graph p.tables c.as_slice.result.now) (text_of c.args.image.now) _ _ _ _ _
    (same_text c.args.image.now p c.as_slice.result.now c.plant-plant.ensures.value c.as_slice.ensures) c.write_tables.ensures.bytes
