use Rattle.cluster_losses.proofs.Silences.{falls_where, lost_where}
use Rattle.cluster_losses.proofs.silences_are_the_script.Goals as goal

pub returns : goal.returns
returns c = record { falls = falls_where; lost = lost_where }
