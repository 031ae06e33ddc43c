use Rattle.std.proofs.Common.{Err, subst}
use Rattle.decisions.specs.ProblemOf.{problem_of}
use Rattle.net_tables.proofs.Answered.{give_found, give_spent, give_none}
use Rattle.passes.specs.declared.SearchFault.{SearchFault}
use Rattle.search.specs.Search.{IsAnswer}
use Rattle.net_tables.proofs.found.find_tables.Goals as goal

pub returns-in-Ok : goal.returns-in-Ok
returns-in-Ok c = record { answer = give_found c.args.net.now c.args.graph.now c.args.budget _ _ c.in-Ok.tables (c.in-Ok.ensures {u = tt}).answer }

pub returns-in-Err-Spent : goal.returns-in-Err-Spent
returns-in-Err-Spent c = record {
  answer = give_spent c.args.net.now c.args.graph.now c.args.budget c.new-steps.result c.search.new.steps
      (subst (λ (f : SearchFault). IsAnswer (problem_of c.args.net.now c.args.graph.now) c.args.budget c.new-steps.result c.search.new.steps (Err f)) c.in-Err-Spent.field-0-is (c.in-Err-Spent.ensures {u = tt}).answer);
}

pub returns-in-Err-NoTable : goal.returns-in-Err-NoTable
returns-in-Err-NoTable c = record {
  answer = give_none c.args.net.now c.args.graph.now c.args.budget c.new-steps.result c.search.new.steps
      (subst (λ (f : SearchFault). IsAnswer (problem_of c.args.net.now c.args.graph.now) c.args.budget c.new-steps.result c.search.new.steps (Err f)) c.in-Err-NoTable.field-0-is (c.in-Err-NoTable.ensures {u = tt}).answer);
}
