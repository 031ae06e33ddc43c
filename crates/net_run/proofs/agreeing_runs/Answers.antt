use Rattle.net_run.proofs.Agreeing.{agreeing_runs_hold, states_fit_hold, outs_fit_hold, first_states_fit_hold}
use Rattle.net_run.proofs.agreeing_runs.Goals as goal

pub returns-clause-runs : goal.returns-clause-runs
returns-clause-runs c = agreeing_runs_hold

pub returns-clause-fit : goal.returns-clause-fit
returns-clause-fit c = states_fit_hold

pub returns-clause-outs : goal.returns-clause-outs
returns-clause-outs c = outs_fit_hold

pub returns-clause-first : goal.returns-clause-first
returns-clause-first c = first_states_fit_hold
