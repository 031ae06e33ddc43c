use Rattle.cluster_clocks.proofs.Members.{acts_are_enabled, overs_are_over}
use Rattle.cluster_clocks.proofs.clocks_are_members.Goals as goal

pub returns-clause-acts : goal.returns-clause-acts
returns-clause-acts c = acts_are_enabled

pub returns-clause-overs : goal.returns-clause-overs
returns-clause-overs c = overs_are_over
