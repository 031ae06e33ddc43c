use Rattle.cluster_slots.proofs.All.{own_words_hold}
use Rattle.cluster_slots.proofs.own_words.Goals as goal

pub returns : goal.returns
returns c = own_words_hold
