use Rattle.std.proofs.Common.{drop, ap, ◌∙◌, sym}
use Rattle.mc_reader.specs.Readers.{right}
use Rattle.mc_reader.specs.Plain.{as_value, plain_right}
use Rattle.mc_reader.proofs.DeclarationLoop.{same_answer}
use Rattle.mc_reader.proofs.RightSide.{right_value_only}
use Rattle.mc_reader.proofs.statement.right_side.Goals as goal

pub returns-in-None : goal.returns-in-None
returns-in-None c =
    let w = c.in-None.ensures.reads c.args.bytes.now in
    same_answer (as_value c.args.bytes.now) (right c.args.bytes.now) plain_right c.args.tokens.now c.takes_name.new.self.at c.args.cursor.now.at c.value_side.new.cursor.at c.value_side.result
    (right_value_only c.args.bytes.now (drop c.args.cursor.now.at c.args.tokens.now) w.0 ∙ ap (λ n. as_value c.args.bytes.now (drop n c.args.tokens.now)) (sym w.1)) c.value_side.ensures
