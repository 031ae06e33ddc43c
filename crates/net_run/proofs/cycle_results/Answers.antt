use Rattle.net_run.proofs.Equation.{cycle_results_hold}
use Rattle.net_run.proofs.Listed.{results_by_number, states_by_task}
use Rattle.net_run.proofs.cycle_results.Goals as goal

pub returns-clause-equation : goal.returns-clause-equation
returns-clause-equation c = cycle_results_hold

pub returns-clause-results : goal.returns-clause-results
returns-clause-results c = results_by_number

pub returns-clause-states : goal.returns-clause-states
returns-clause-states c = states_by_task
