use Rattle.planned_valid.proofs.FoundTables.{answer_valid, found_valid}
use Rattle.planned_valid.proofs.tables_are_valid.Goals as goal

pub returns-clause-answers : goal.returns-clause-answers
returns-clause-answers c = answer_valid

pub returns-clause-found : goal.returns-clause-found
returns-clause-found c = found_valid
